-- No byte of a copy that a part's selector chooses is put to.
use Rattle.std.proofs.Common.{◌≡◌, ℕ, ◌+◌, ◌^◌, ◌<◌, ◌≤◌, true, false, IsTrue, List, length, Option, Some, None, IfSome}
use Rattle.std.proofs.Common.{refl, sym, ◌∙◌, ap, inl, inr, arith, add-zero, ⊎_elim}
use Rattle.std.proofs.lemmas.Bool.{cases_lt, lt-ltb, le-ltb}
use Rattle.save_bytes.specs.Cells.{Cell, Byte}
use Rattle.save_bytes.specs.Extents.{AreApart}
use Rattle.save_bytes.specs.State.{State}
use Rattle.save_bytes.specs.Spots.{Place}
use Rattle.save_disk.specs.State as disks
use Rattle.difi.specs.declared.descriptor.Difi.{Difi}
use Rattle.difi.specs.Contents.{view_size}
use Rattle.dpfs_tree.specs.Picks.{bytes_of, pick3, chosen}
use Rattle.dpfs_tree.specs.Marks.{place_by}
use Rattle.dpfs_tree.specs.Spares.{IsChosenPlace}
use Rattle.dpfs_tree.specs.View.{HasContents}
use Rattle.dpfs_tree.specs.Held.{IsBeside, ContentsLand}
use Rattle.dpfs_tree.specs.SameLaws.{SameUpper, place_by-upper}
use Rattle.dpfs_tree.proofs.BlockLemmas.{place_in_block}
use Rattle.dpfs_tree.proofs.SpareLemmas.{put_spares}
use Rattle.ivfc_tree.specs.Levels.{IsLevel, level_of}
use Rattle.ivfc_tree.specs.Held.{HashLands, IsOnPath}
use Rattle.page_image.specs.Images.{image_state}
use Rattle.page_image.specs.Laws.{image_size_fits}
use Rattle.page_image.specs.Spots.{Leaves, ImageLands}
use Rattle.part_store.specs.declared.part.Part.{Part}
use Rattle.part_store.specs.Parts.{CanViewPart}
use Rattle.part_store.specs.PartLaws.{contents_there}
use Rattle.part_store.specs.Spots.{SamePart}
use Rattle.container.specs.declared.open.Container.{Container}
use Rattle.container.specs.Parts.{SameSecond}
use Rattle.container.specs.Stores.{state_of, taken_of, PartsLand}
use Rattle.container.specs.StoreHeld.{SameContainer, store_of}
use Rattle.container.specs.StoreLaws.{first_view, second_view}
use Rattle.container.specs.Origins.{IsPartSpared, AreSpared}
use Rattle.container.proofs.FirstLemmas.{two_there}
use Rattle.container.proofs.StandsLemmas.{taken_from_two, apart_from_first}
use Rattle.container.proofs.TakenLemmas.{taken_fits, chosen_within, lands_within}

chosen_at : (bytes : ℕ → ℕ) (part_at : ℕ) (difi : Difi) (selector x : ℕ) → x < difi.dpfs3.size
    → chosen bytes part_at difi selector x ≡ bytes (place_by bytes part_at difi selector (λ block. false) x)
unfolding chosen pick3 place_by
chosen_at bytes part_at difi selector x below = rw (lt-ltb x difi.dpfs3.size below) refl

-- the chosen places of a part
abbrev pub IsChosen : (ℕ → ℕ) → Part → ℕ → Type 0
IsChosen bytes part = IsChosenPlace bytes part.at part.difi part.dpfs.selector

module _ (base : State) (small : base.shape.size < 2 ^ 64) (table : List ℕ) where
  abbrev bytes : ℕ → ℕ
  bytes = bytes_of base.cells

  abbrev CanView : Part → Type 0
  CanView part = CanViewPart base.shape part (length table)

  tree_of : (part : Part) → CanView part → HasContents base.shape part.at part.difi part.dpfs.selector
  tree_of part view = contents_there base part (length table) small view

  -- where bytes at chosen places are as before, the same ones are chosen
  pub chosen_spared : (part : Part) → CanView part → (new : ℕ → ℕ)
      → ((place : ℕ) → IsChosen bytes part place → new place ≡ bytes place) → (x : ℕ) → x < part.difi.dpfs3.size
      → chosen new part.at part.difi part.dpfs.selector x ≡ chosen bytes part.at part.difi part.dpfs.selector x
  chosen_spared part view new same x below =
      let selector = part.dpfs.selector in
      let tree = tree_of part view in
      let upper : SameUpper part.at part.difi selector bytes new =
      record { level1 = λ y h. same _ (inl (y, h, refl)); level2 = λ y h. same _ (inr (inl (y, h, refl))) } in
      let is = place_in_block base.shape part.at part.difi selector tree bytes (λ block. false) x _ below refl in
      rw (
        chosen_at new part.at part.difi selector x below,
        chosen_at bytes part.at part.difi selector x below,
        place_by-upper base.shape part.at part.difi selector tree bytes new upper (λ block. false) x,
      )
      (same _ (inr (inr (x, below, is))))

  module _ (grain : ℕ) where
    abbrev Lands : Part → ℕ → ℕ → Type 0
    Lands part x place =
        HashLands (ContentsLand bytes part.at part.difi part.dpfs.selector (ImageLands grain)) part.difi x (Place place)

    -- a put into the part lands at none of them
    own_spared : (part : Part) → CanView part → (x place : ℕ) → IsChosen bytes part place → ¬ Lands part x place
    own_spared part view x place chosen =
        ⊎_elim
        (λ (path : (level z : ℕ) × IsLevel level × IsOnPath part.difi x level z
        × ContentsLand bytes part.at part.difi part.dpfs.selector (ImageLands grain) ((level_of part.difi level).at + z)
        (Place place)).
        ⊎_elim
        (λ (found : (w : ℕ) × (w < view_size part.difi) × IsBeside part.difi ((level_of part.difi path.0).at + path.1) w
        × (place_by bytes part.at part.difi part.dpfs.selector (λ block. true) w ≡ place)).
        let at = (level_of part.difi path.0).at + path.1 in
        let beside : IsBeside part.difi (at + 0) found.0 = rw (add-zero) found.2 in
        put_spares base.shape part.at part.difi part.dpfs.selector (tree_of part view) bytes at 1 place chosen
        (0, found.0, omega arith, found.1, beside, sym found.3))
        (λ (none : ⊥). absurd none)
        path.4)
        (λ (none : ⊥). absurd none)

    -- nor does one into a part that lies apart
    other_spared : (part other : Part) → CanView part → CanView other → AreApart (taken_of other) (taken_of part)
        → (x place : ℕ) → IsChosen bytes part place → ¬ Lands other x place
    other_spared part other view there apart x place chosen lands =
        let here = chosen_within base.shape part part.dpfs.selector (tree_of part view) bytes place chosen in
        let out = lands_within base.shape other other.dpfs.selector (tree_of other there) bytes grain x place lands in
        apart place out.0 out.1 here.0 here.1

    misses_first : (first : Part) (second : Option Part) → IsTrue (state_of base first second table).shape.sound
        → (x place : ℕ) → IsChosen bytes first place → ¬ PartsLand bytes (ImageLands grain) first second x (Place place)
    misses_first first None sound x place chosen lands =
        ⊎_elim
        (λ (below : x < first.difi.ivfc4.size).
        own_spared first (first_view base first table None sound) x place chosen
        (rw (lt-ltb x first.difi.ivfc4.size below) at lands))
        (λ (behind : first.difi.ivfc4.size ≤ x).
        let none : ⊥ = rw (le-ltb x first.difi.ivfc4.size behind) at lands in none)
        (cases_lt x first.difi.ivfc4.size)
    misses_first first (Some part) sound x place chosen lands =
        let view = first_view base first table (Some part) sound in
        ⊎_elim
        (λ (below : x < first.difi.ivfc4.size).
        own_spared first view x place chosen (rw (lt-ltb x first.difi.ivfc4.size below) at lands))
        (λ (behind : first.difi.ivfc4.size ≤ x).
        other_spared first part view (second_view base first table (Some part) part refl sound)
        (apart_from_first first part (two_there base first (Some part) table part refl sound)) _ place chosen
        (rw (le-ltb x first.difi.ivfc4.size behind) at lands))
        (cases_lt x first.difi.ivfc4.size)

    misses_second : (first part : Part) → IsTrue (state_of base first (Some part) table).shape.sound
        → (x place : ℕ) → IsChosen bytes part place
        → ¬ PartsLand bytes (ImageLands grain) first (Some part) x (Place place)
    misses_second first part sound x place chosen lands =
        let view = second_view base first table (Some part) part refl sound in
        ⊎_elim
        (λ (below : x < first.difi.ivfc4.size).
        other_spared part first view (first_view base first table (Some part) sound)
        (taken_from_two first part (two_there base first (Some part) table part refl sound)) x place chosen
        (rw (lt-ltb x first.difi.ivfc4.size below) at lands))
        (λ (behind : first.difi.ivfc4.size ≤ x).
        own_spared part view _ place chosen (rw (le-ltb x first.difi.ivfc4.size behind) at lands))
        (cases_lt x first.difi.ivfc4.size)

-- a call that leaves each place at which no put into a range lands
module _ (disk disk_new : disks.State) (c d : Container) (same : SameContainer c d) (at n : ℕ)
    (sound : IsTrue (store_of disk c).shape.sound) where
  abbrev base : State
  base = image_state disk c.image

  abbrev later : State
  later = image_state disk_new d.image

  abbrev lands : ℕ → ℕ → Type 0
  lands x place =
      PartsLand (bytes_of base.cells) (ImageLands c.image.grain) c.parts.first c.parts.second x (Place place)

  abbrev AllLeft : Type 0
  AllLeft = (place : ℕ) → ((k : ℕ) → k < n → ¬ lands (at + k) place)
      → Leaves (Place place) disk c.image disk_new d.image

  small : base.shape.size < 2 ^ 64
  small = image_size_fits disk c.image

  part_spared : AllLeft → (was : ℕ → Cell) (part next : Part) → SamePart part next
      → CanViewPart base.shape part (length c.table.items)
      → ((x place : ℕ) → IsChosen (bytes_of base.cells) part place → ¬ lands x place)
      → IsPartSpared was disk c part → IsPartSpared was disk_new d next
  part_spared leaves was part next kept view misses h x below =
      let selector = part.dpfs.selector in
      let tree = contents_there base part (length c.table.items) small view in
      let inside : x < part.difi.dpfs3.size = rw kept.descriptor at below in
      let left : (place : ℕ) → IsChosen (bytes_of base.cells) part place
      → bytes_of later.cells place ≡ bytes_of base.cells place =
      λ place chosen.
      (let there = chosen_within base.shape part selector tree (bytes_of base.cells) place chosen in
      let fits = taken_fits base.shape part selector tree in
      ((leaves place (λ k less. misses (at + k) place chosen)).1 (omega (arith, there.1, fits))).0) in
      rw (kept.place, kept.descriptor, kept.selector)
      (ap Byte (chosen_spared base small c.table.items part view (bytes_of later.cells) left x inside) ∙ h x inside)

  second_spared : AllLeft → (was : ℕ → Cell) (second after : Option Part) → c.parts.second ≡ second
      → SameSecond SamePart second after → IfSome second (IsPartSpared was disk c)
      → IfSome after (IsPartSpared was disk_new d)
  second_spared leaves was None None is kept h = tt
  second_spared leaves was (Some part) (Some next) is kept h =
      part_spared leaves was part next kept
      (second_view base c.parts.first c.table.items c.parts.second part is sound)
      (λ x place.
      rw is (misses_second base small c.table.items c.image.grain c.parts.first part (rw is at sound) x place))
      h
  second_spared leaves was None (Some next) is kept h = absurd kept
  second_spared leaves was (Some part) None is kept h = absurd kept

  pub all_spared : AllLeft → (was : ℕ → ℕ → Cell) → AreSpared was disk c → AreSpared was disk_new d
  all_spared leaves was h = record {
    first = part_spared leaves (was 0) c.parts.first d.parts.first same.first
        (first_view base c.parts.first c.table.items c.parts.second sound)
        (misses_first base small c.table.items c.image.grain c.parts.first c.parts.second sound) h.first;
    second = second_spared leaves (was 1) c.parts.second d.parts.second refl same.second h.second;
  }
