-- Calls on a part over a view of the image, as calls on the container over its disk.
use Rattle.std.proofs.Common.{Vec, ◌≡◌, ℕ, ◌+◌, ◌-◌, ◌*◌, ◌/◌, min, replicate, div-mul-le_self, None, Result, Ok, Err}
use Rattle.std.proofs.Common.{◌<◌, ◌≤◌, IsTrue, List, length, Option, Some, refl, sym, ◌∙◌, ap, subst, arith, ⊎_elim}
use Rattle.std.specs.Vec.{with_items}
use Rattle.std.proofs.lemmas.List.{with_items_is, length-replicate}
use Rattle.std.proofs.lemmas.Bool.{cases_lt, lt-ltb, le-ltb}
use Rattle.save_bytes.specs.declared.space.Bad.{Bad}
use Rattle.save_bytes.specs.declared.space.Bad.TheVariants.{Disk, Damaged}
use Rattle.save_bytes.specs.Answers.{IsReady, IsClearReady}
use Rattle.save_bytes.specs.Puts.{Puts}
use Rattle.save_bytes.specs.Reads.{Reads}
use Rattle.save_bytes.specs.Spots.{Frame, Hold, MovesOnly}
use Rattle.save_disk.specs.State as disks
use Rattle.difi.specs.declared.descriptor.Difi.{Difi}
use Rattle.page_image.specs.declared.image.Image.{Image}
use Rattle.page_image.specs.declared.state.ImageState.{ImageState}
use Rattle.page_image.specs.Images.{image_state}
use Rattle.part_store.specs.declared.part.Part.{Part}
use Rattle.part_store.specs.Parts.{CanViewPart, part_state, IsFound}
use Rattle.part_store.specs.Ends.{KeepsPartOrigins}
use Rattle.container.specs.declared.open.Container.{Container}
use Rattle.save_bytes.specs.State.{State, CanPut}
use Rattle.save_bytes.specs.Stays.{Stays}
use Rattle.save_bytes.proofs.JoinLemmas.{IsReady-before, IsReady-append, IsReady-refused}
use Rattle.difi.specs.Places.{block_size}
use Rattle.container.specs.Stores.{state_of}
use Rattle.container.specs.StoreHeld.{store_of}
use Rattle.container.specs.Origins.{KeepsStoreOrigins}
use Rattle.container.specs.Overs.{Over, Opened, opened_state, OpenedKeeps, opened_lands}
use Rattle.container.proofs.EmbedLemmas.{can_in_part, ready_whole, clear_ready_whole}
use Rattle.container.proofs.StandsLemmas.{first_stands, second_stands}
use Rattle.container.proofs.LiftLemmas.{ImageOverKeeps, image_over_lands, image_over, image_of}
use Rattle.container.proofs.FirstLemmas.{first_told, second_told, first_reads, first_puts, first_moves, first_came}
use Rattle.container.proofs.SecondLemmas.{second_reads, second_puts, second_moves, second_came}

-- the block of a place of each part
first_block : (base : State) (first : Part) (second : Option Part) (table : List ℕ) (at : ℕ) → at < first.difi.ivfc4.size
    → ((state_of base first second table).shape.block_start at ≡ (part_state base first table).shape.block_start at)
    × ((state_of base first second table).shape.block_len at ≡ (part_state base first table).shape.block_len at)
first_block base first None table at below = (refl, refl)
first_block base first (Some second) table at below =
    (rw (lt-ltb at first.difi.ivfc4.size below) refl, rw (lt-ltb at first.difi.ivfc4.size below) refl)

second_block : (base : State) (first second : Part) (o : Option Part) (table : List ℕ) (at x : ℕ) → o ≡ Some second
    → first.difi.ivfc4.size + x ≡ at
    → ((state_of base first o table).shape.block_start at ≡ first.difi.ivfc4.size + (part_state base second table).shape.block_start x)
    × ((state_of base first o table).shape.block_len at ≡ (part_state base second table).shape.block_len x)
second_block base first second o table at x is there =
    let behind : at - first.difi.ivfc4.size ≡ x = omega (arith, there) in (
      rw (is, le-ltb at first.difi.ivfc4.size (omega (arith, there)), behind) refl,
      rw (is, le-ltb at first.difi.ivfc4.size (omega (arith, there)), behind) refl,
    )

-- what is told by a call is told of the container, where the view was made of it
module _ {D : Type 0} (states : D → disks.State) (c d : Container) (view next : Image D) (s e : D) (table later : List ℕ)
    (image : view.image.now ≡ c.image) (disk : view.disk.now ≡ s) (table_is : table ≡ c.table.items)
    (later_is : later ≡ d.table.items) (image_new : next.image.now ≡ d.image) (disk_new : next.disk.now ≡ e) (header : d.header ≡ c.header)
    (refusal : Option Bad) (sound : IsTrue (store_of (states s) c).shape.sound) where
  abbrev OverReads : Over (Image D) → Over (Image D) → Type 0
  OverReads v w = Reads (image_over states) (ImageOverKeeps states) (image_over_lands states) v w refusal

  abbrev OverMoves : ℕ → ℕ → Over (Image D) → Over (Image D) → Type 0
  OverMoves at n v w =
      MovesOnly (ImageOverKeeps states) (image_over_lands states) (image_over states v) v at n w refusal

  abbrev before : Part → List ℕ → Over (Image D)
  before part table = record { base = view; part = part; table = table }

  abbrev behind : Part → List ℕ → Over (Image D)
  behind part table = record { base = next; part = part; table = table }

  abbrev OpenedReads : Opened D → Opened D → Type 0
  OpenedReads a b = Reads (opened_state states) (OpenedKeeps states) (opened_lands states) a b refusal

  abbrev OpenedMoves : ℕ → ℕ → Opened D → Opened D → Type 0
  OpenedMoves at n a b = MovesOnly (OpenedKeeps states) (opened_lands states) (opened_state states a) a at n b refusal

  abbrev OpenedPuts : ℕ → List ℕ → Opened D → Opened D → Type 0
  OpenedPuts at bytes a b = Puts (opened_state states a) at bytes (opened_state states b) refusal

  abbrev OverCame : Part → Part → List ℕ → List ℕ → Type 0
  OverCame part after t u = KeepsPartOrigins (image_of states view) part t (image_of states next) after u refusal

  abbrev OpenedCame : Opened D → Opened D → Type 0
  OpenedCame a b = KeepsStoreOrigins (states a.disk) a.container (states b.disk) b.container refusal

  held : (P : Opened D → Opened D → Type 0)
      → P (record { container = record c { image = view.image.now }; disk = view.disk.now })
      (record { container = record d { image = next.image.now }; disk = next.disk.now })
      → P (record { container = c; disk = s }) (record { container = d; disk = e })
  held P h =
      subst (λ (i : ImageState). P (record { container = record c { image = i }; disk = s }) (record { container = d; disk = e })) image
      (subst (λ (a : D). P (record { container = record c { image = view.image.now }; disk = a }) (record { container = d; disk = e })) disk
      (subst (λ (i : ImageState). P (record { container = record c { image = view.image.now }; disk = view.disk.now })
      (record { container = record d { image = i }; disk = e })) image_new
      (subst (λ (a : D). P (record { container = record c { image = view.image.now }; disk = view.disk.now })
      (record { container = record d { image = next.image.now }; disk = a })) disk_new h)))

  sound_there : IsTrue (store_of (states view.disk.now) (record c { image = view.image.now })).shape.sound
  sound_there = rw (image, disk) sound

  hold_of : (v w : Over (Image D)) → ImageOverKeeps states Frame v w → ImageOverKeeps states Hold v w
  hold_of v w frame = (frame.0, frame.1, tt, (frame.3.0, (frame.3.1.0, tt)))

  in_table : (P : List ℕ → List ℕ → Type 0) → P table later → P c.table.items d.table.items
  in_table P h = subst (λ (t : List ℕ). P t d.table.items) table_is (subst (λ (t : List ℕ). P table t) later_is h)

  in_base : (part : Part) (P : disks.State → ImageState → List ℕ → Type 0)
      → P (states view.disk.now) view.image.now table → P (states s) c.image c.table.items
  in_base part P h =
      subst (λ (a : D). P (states a) c.image c.table.items) disk
      (subst (λ (i : ImageState). P (states view.disk.now) i c.table.items) image
      (subst (λ (t : List ℕ). P (states view.disk.now) view.image.now t) table_is h))

  -- on part 0
  module _ (second : d.parts.second ≡ c.parts.second) where
    pub reads_in_first : OverReads (before c.parts.first table) (behind d.parts.first later)
        → OpenedReads (record { container = c; disk = s }) (record { container = d; disk = e })
    reads_in_first reads =
        let there = in_table (λ t u. OverReads (before c.parts.first t) (behind d.parts.first u)) reads in
        held OpenedReads
        (first_reads states c d view next header second refusal sound_there (hold_of _ _ there.frame) there)

    pub moves_in_first : (at n : ℕ) → at + n ≤ c.parts.first.difi.ivfc4.size
        → OverMoves at n (before c.parts.first table) (behind d.parts.first later)
        → OpenedMoves at n (record { container = c; disk = s }) (record { container = d; disk = e })
    moves_in_first at n fits moves =
        let there = in_table (λ t u. OverMoves at n (before c.parts.first t) (behind d.parts.first u)) moves in
        held (OpenedMoves at n)
        (first_moves states c d view next header second refusal sound_there there.hold at n fits there)

    pub came_in_first : (at n : ℕ) → at + n ≤ c.parts.first.difi.ivfc4.size
        → OverMoves at n (before c.parts.first table) (behind d.parts.first later)
        → OverCame c.parts.first d.parts.first table later
        → OpenedCame (record { container = c; disk = s }) (record { container = d; disk = e })
    came_in_first at n fits moves came =
        let there = in_table (λ t u. OverMoves at n (before c.parts.first t) (behind d.parts.first u)) moves in
        held OpenedCame
        (first_came states c d view next header second refusal sound_there there.hold at n fits there
        (in_table (OverCame c.parts.first d.parts.first) came))

    pub puts_in_first : (at : ℕ) (bytes : List ℕ) → at + length bytes ≤ c.parts.first.difi.ivfc4.size
        → OverMoves at (length bytes) (before c.parts.first table) (behind d.parts.first later)
        → Puts (image_over states (before c.parts.first table)) at bytes (image_over states (behind d.parts.first later)) refusal
        → OpenedPuts at bytes (record { container = c; disk = s }) (record { container = d; disk = e })
    puts_in_first at bytes fits moves puts =
        let there = in_table (λ t u. OverMoves at (length bytes) (before c.parts.first t) (behind d.parts.first u)) moves in
        held (OpenedPuts at bytes)
        (first_puts states c d view next header second refusal sound_there there.hold at bytes fits there
        (in_table (λ t u. Puts (image_over states (before c.parts.first t)) at bytes (image_over states (behind d.parts.first u)) refusal)
        puts))

  -- on part 1
  module _ (part after : Part) (first : d.parts.first ≡ c.parts.first) (is : c.parts.second ≡ Some part)
      (still : d.parts.second ≡ Some after) (place x : ℕ) (there_is : c.parts.first.difi.ivfc4.size + x ≡ place) where
    pub reads_in_second : OverReads (before part table) (behind after later)
        → OpenedReads (record { container = c; disk = s }) (record { container = d; disk = e })
    reads_in_second reads =
        let there = in_table (λ t u. OverReads (before part t) (behind after u)) reads in
        held OpenedReads
        (second_reads states c d view next part after header first is still refusal sound_there
        (hold_of _ _ there.frame) there)

    pub moves_in_second : (n : ℕ) → x + n ≤ part.difi.ivfc4.size
        → OverMoves x n (before part table) (behind after later)
        → OpenedMoves place n (record { container = c; disk = s }) (record { container = d; disk = e })
    moves_in_second n fits moves =
        let there = in_table (λ t u. OverMoves x n (before part t) (behind after u)) moves in
        held (OpenedMoves place n)
        (subst (λ (at : ℕ). OpenedMoves at n (record { container = record c { image = view.image.now }; disk = view.disk.now })
        (record { container = record d { image = next.image.now }; disk = next.disk.now })) there_is
        (second_moves states c d view next part after header first is still refusal sound_there there.hold x n fits there))

    pub came_in_second : (n : ℕ) → x + n ≤ part.difi.ivfc4.size
        → OverMoves x n (before part table) (behind after later) → OverCame part after table later
        → OpenedCame (record { container = c; disk = s }) (record { container = d; disk = e })
    came_in_second n fits moves came =
        let there = in_table (λ t u. OverMoves x n (before part t) (behind after u)) moves in
        held OpenedCame
        (second_came states c d view next part after header first is still refusal sound_there there.hold x n fits there
        (in_table (OverCame part after) came))

    pub puts_in_second : (bytes : List ℕ) → x + length bytes ≤ part.difi.ivfc4.size
        → OverMoves x (length bytes) (before part table) (behind after later)
        → Puts (image_over states (before part table)) x bytes (image_over states (behind after later)) refusal
        → OpenedPuts place bytes (record { container = c; disk = s }) (record { container = d; disk = e })
    puts_in_second bytes fits moves puts =
        let there = in_table (λ t u. OverMoves x (length bytes) (before part t) (behind after u)) moves in
        held (OpenedPuts place bytes)
        (subst (λ (at : ℕ). OpenedPuts at bytes (record { container = record c { image = view.image.now }; disk = view.disk.now })
        (record { container = record d { image = next.image.now }; disk = next.disk.now })) there_is
        (second_puts states c d view next part after header first is still refusal sound_there there.hold x bytes fits there
        (in_table (λ t u. Puts (image_over states (before part t)) x bytes (image_over states (behind after u)) refusal) puts)))

  -- clears of a block
  abbrev start : Part → ℕ → ℕ
  start part at = at / block_size part.difi.ivfc4 * block_size part.difi.ivfc4

  abbrev len : Part → ℕ → ℕ
  len part at = min (block_size part.difi.ivfc4) (part.difi.ivfc4.size - start part at)

  block_fits : (part : Part) (at : ℕ) → at < part.difi.ivfc4.size → start part at + len part at ≤ part.difi.ivfc4.size
  block_fits part at below = omega (arith, below, div-mul-le_self at (block_size part.difi.ivfc4))

  clears : (p n : ℕ) (at : ℕ) → (store_of (states s) c).shape.block_start at ≡ p → (store_of (states s) c).shape.block_len at ≡ n
      → OpenedPuts p (replicate n 0) (record { container = c; disk = s }) (record { container = d; disk = e })
      → OpenedPuts ((store_of (states s) c).shape.block_start at) (replicate ((store_of (states s) c).shape.block_len at) 0)
      (record { container = c; disk = s }) (record { container = d; disk = e })
  clears p n at first then_n puts =
      subst (λ (x : ℕ). OpenedPuts x (replicate ((store_of (states s) c).shape.block_len at) 0) (record { container = c; disk = s })
      (record { container = d; disk = e })) (sym first)
      (subst (λ (x : ℕ). OpenedPuts p (replicate x 0) (record { container = c; disk = s }) (record { container = d; disk = e }))
      (sym then_n) puts)

  moves_off : (p n : ℕ) (at : ℕ) → (store_of (states s) c).shape.block_start at ≡ p → (store_of (states s) c).shape.block_len at ≡ n
      → OpenedMoves p n (record { container = c; disk = s }) (record { container = d; disk = e })
      → OpenedMoves ((store_of (states s) c).shape.block_start at) ((store_of (states s) c).shape.block_len at)
      (record { container = c; disk = s }) (record { container = d; disk = e })
  moves_off p n at first then_n moves =
      subst (λ (x : ℕ). OpenedMoves x ((store_of (states s) c).shape.block_len at) (record { container = c; disk = s })
      (record { container = d; disk = e })) (sym first)
      (subst (λ (x : ℕ). OpenedMoves p x (record { container = c; disk = s }) (record { container = d; disk = e }))
      (sym then_n) moves)

  module _ (second : d.parts.second ≡ c.parts.second) (at : ℕ) (below : at < c.parts.first.difi.ivfc4.size)
      (moves : OverMoves (start c.parts.first at) (len c.parts.first at) (before c.parts.first table)
      (behind d.parts.first later)) where
    pub clear_moves_in_first : OpenedMoves ((store_of (states s) c).shape.block_start at)
        ((store_of (states s) c).shape.block_len at) (record { container = c; disk = s }) (record { container = d; disk = e })
    clear_moves_in_first =
        let block = first_block (image_state (states s) c.image) c.parts.first c.parts.second c.table.items at below in
        moves_off (start c.parts.first at) (len c.parts.first at) at block.0 block.1
        (moves_in_first second (start c.parts.first at) (len c.parts.first at) (block_fits c.parts.first at below) moves)

    pub clear_came_in_first : OverCame c.parts.first d.parts.first table later
        → OpenedCame (record { container = c; disk = s }) (record { container = d; disk = e })
    clear_came_in_first =
        came_in_first second (start c.parts.first at) (len c.parts.first at) (block_fits c.parts.first at below) moves

    pub clear_puts_in_first : Puts (image_over states (before c.parts.first table)) (start c.parts.first at)
        (replicate (len c.parts.first at) 0) (image_over states (behind d.parts.first later)) refusal
        → OpenedPuts ((store_of (states s) c).shape.block_start at)
        (replicate ((store_of (states s) c).shape.block_len at) 0) (record { container = c; disk = s })
        (record { container = d; disk = e })
    clear_puts_in_first puts =
        let block = first_block (image_state (states s) c.image) c.parts.first c.parts.second c.table.items at below in
        let long = length-replicate (len c.parts.first at) 0 in
        clears (start c.parts.first at) (len c.parts.first at) at block.0 block.1
        (puts_in_first second (start c.parts.first at) (replicate (len c.parts.first at) 0)
        (omega (arith, long, block_fits c.parts.first at below))
        (subst (λ (n : ℕ). OverMoves (start c.parts.first at) n (before c.parts.first table) (behind d.parts.first later))
        (sym long) moves) puts)

  module _ (part after : Part) (first : d.parts.first ≡ c.parts.first) (is : c.parts.second ≡ Some part)
      (still : d.parts.second ≡ Some after) (at x : ℕ) (there_is : c.parts.first.difi.ivfc4.size + x ≡ at)
      (below : x < part.difi.ivfc4.size)
      (moves : OverMoves (start part x) (len part x) (before part table) (behind after later)) where
    pub clear_moves_in_second : OpenedMoves ((store_of (states s) c).shape.block_start at)
        ((store_of (states s) c).shape.block_len at) (record { container = c; disk = s }) (record { container = d; disk = e })
    clear_moves_in_second =
        let block = second_block (image_state (states s) c.image) c.parts.first part c.parts.second c.table.items at x is there_is in
        moves_off (c.parts.first.difi.ivfc4.size + start part x) (len part x) at block.0 block.1
        (moves_in_second part after first is still (c.parts.first.difi.ivfc4.size + start part x) (start part x) refl
        (len part x) (block_fits part x below) moves)

    pub clear_came_in_second : OverCame part after table later
        → OpenedCame (record { container = c; disk = s }) (record { container = d; disk = e })
    clear_came_in_second =
        came_in_second part after first is still (c.parts.first.difi.ivfc4.size + start part x) (start part x) refl
        (len part x) (block_fits part x below) moves

    pub clear_puts_in_second : Puts (image_over states (before part table)) (start part x)
        (replicate (len part x) 0) (image_over states (behind after later)) refusal
        → OpenedPuts ((store_of (states s) c).shape.block_start at)
        (replicate ((store_of (states s) c).shape.block_len at) 0) (record { container = c; disk = s })
        (record { container = d; disk = e })
    clear_puts_in_second puts =
        let block = second_block (image_state (states s) c.image) c.parts.first part c.parts.second c.table.items at x is there_is in
        let long = length-replicate (len part x) 0 in
        clears (c.parts.first.difi.ivfc4.size + start part x) (len part x) at block.0 block.1
        (puts_in_second part after first is still (c.parts.first.difi.ivfc4.size + start part x) (start part x) refl
        (replicate (len part x) 0) (omega (arith, long, block_fits part x below))
        (subst (λ (n : ℕ). OverMoves (start part x) n (before part table) (behind after later)) (sym long) moves) puts)

  -- answers on part 0
  pub ready_in_first : (at n : ℕ) → at + n ≤ c.parts.first.difi.ivfc4.size
      → IsReady (part_state (image_of states view) c.parts.first table) at n refusal
      → IsReady (store_of (states s) c) at n refusal
  ready_in_first at n fits ready =
      let base = image_state (states s) c.image in
      let zero : 0 + at ≡ at = omega arith in
      subst (λ (x : ℕ). IsReady (store_of (states s) c) x n refusal) zero
      (ready_whole (store_of (states s) c) (part_state base c.parts.first c.table.items) 0 at
      (first_stands base c.parts.first c.table.items c.parts.second)
      (first_told base c.parts.first c.parts.second c.table.items) n refusal fits
      (in_base c.parts.first (λ k i t. IsReady (part_state (image_state k i) c.parts.first t) at n refusal) ready))

  pub clear_ready_in_first : (at : ℕ) → at + 1 ≤ c.parts.first.difi.ivfc4.size
      → IsClearReady (part_state (image_of states view) c.parts.first table) at refusal
      → IsClearReady (store_of (states s) c) at refusal
  clear_ready_in_first at fits ready =
      let base = image_state (states s) c.image in
      let zero : 0 + at ≡ at = omega arith in
      subst (λ (x : ℕ). IsClearReady (store_of (states s) c) x refusal) zero
      (clear_ready_whole (store_of (states s) c) (part_state base c.parts.first c.table.items) 0 at
      (first_stands base c.parts.first c.table.items c.parts.second)
      (first_told base c.parts.first c.parts.second c.table.items) refusal fits
      (in_base c.parts.first (λ k i t. IsClearReady (part_state (image_state k i) c.parts.first t) at refusal) ready))

  -- and on part 1
  module _ (part : Part) (is : c.parts.second ≡ Some part) (place x : ℕ)
      (there_is : c.parts.first.difi.ivfc4.size + x ≡ place) where
    pub ready_in_second : (n : ℕ) → x + n ≤ part.difi.ivfc4.size
        → IsReady (part_state (image_of states view) part table) x n refusal
        → IsReady (store_of (states s) c) place n refusal
    ready_in_second n fits ready =
        let base = image_state (states s) c.image in
        let o = c.parts.first.difi.ivfc4.size in
        subst (λ (at : ℕ). IsReady (store_of (states s) c) at n refusal) there_is
        (ready_whole (store_of (states s) c) (part_state base part c.table.items) o x
        (rw is (second_stands base c.parts.first c.table.items part))
        (second_told base c.parts.first c.parts.second c.table.items part is) n refusal fits
        (in_base part (λ k i t. IsReady (part_state (image_state k i) part t) x n refusal) ready))

    pub clear_ready_in_second : x + 1 ≤ part.difi.ivfc4.size
        → IsClearReady (part_state (image_of states view) part table) x refusal
        → IsClearReady (store_of (states s) c) place refusal
    clear_ready_in_second fits ready =
        let base = image_state (states s) c.image in
        let o = c.parts.first.difi.ivfc4.size in
        subst (λ (at : ℕ). IsClearReady (store_of (states s) c) at refusal) there_is
        (clear_ready_whole (store_of (states s) c) (part_state base part c.table.items) o x
        (rw is (second_stands base c.parts.first c.table.items part))
        (second_told base c.parts.first c.parts.second c.table.items part is) refusal fits
        (in_base part (λ k i t. IsClearReady (part_state (image_state k i) part t) x refusal) ready))

-- a part that can be viewed over the container's image can be so over a view of it
pub part_viewed : {D : Type 0} (states : D → disks.State) (c : Container) (view : Image D) (s : D) (table : List ℕ)
    → view.image.now ≡ c.image → view.disk.now ≡ s → table ≡ c.table.items → (part : Part)
    → CanViewPart (image_state (states s) c.image).shape part (length c.table.items)
    → CanViewPart (image_state (states view.disk.now) view.image.now).shape part (length table)
part_viewed states c view s table image disk table_is part can = rw (image, disk, table_is) can

-- a range that ends behind part 0 and lies in one part lies in part 1
pub past_first : (at n o : ℕ) → (at < o → at + n ≤ o) → o < at + n → o ≤ at
past_first at n o one more =
    ⊎_elim (λ (lower : at < o). absurd (omega (arith, one lower, more))) (λ (behind : o ≤ at). behind) (cases_lt at o)

-- how long a store of two parts is
pub two_long : (disk : disks.State) (c : Container) (part : Part) → c.parts.second ≡ Some part
    → (store_of disk c).shape.size ≡ c.parts.first.difi.ivfc4.size + part.difi.ivfc4.size
two_long disk c part is = rw is refl

-- the same descriptor has a level four as long
pub size_of : (one two : Difi) → one ≡ two → one.ivfc4.size ≡ two.ivfc4.size
size_of one two same = ap (λ (difi : Difi). difi.ivfc4.size) same

-- a table that was lent as a slice, and is as it was
pub written_back : {A : Type 0} (table : Vec ℕ A) (later lent : List ℕ) → later ≡ lent → length lent ≡ table.len
    → later ≡ (with_items table later).items
written_back table later lent same len = sym (with_items_is table later (ap length same ∙ len))

-- an answer on a range that lies in both parts
pub ready_both : (s t : State) (at split n : ℕ) (refusal : Option Bad) → at ≤ split → split ≤ at + n → at + n ≤ s.shape.size
    → IsReady s at (split - at) None → Stays s t None → IsReady t split (n - (split - at)) refusal → IsReady s at n refusal
ready_both s t at split n refusal from within fits first stays second =
    let there : IsReady s split (n - (split - at)) refusal =
    IsReady-before s t split (n - (split - at)) refusal (omega (arith, from, within, fits)) stays second in
    let place : split ≡ at + (split - at) = omega (arith, from) in
    both refusal (subst (λ (x : ℕ). IsReady s x (n - (split - at)) refusal) place there)
  where
    both : (refusal : Option Bad) → IsReady s (at + (split - at)) (n - (split - at)) refusal → IsReady s at n refusal
    both None behind =
        let whole : (split - at) + (n - (split - at)) ≡ n = omega (arith, from, within) in
        subst (λ (m : ℕ). IsReady s at m None) whole (IsReady-append s at (split - at) (n - (split - at)) first behind)
    both (Some bad) behind =
        IsReady-refused s at (split - at) (n - (split - at)) n bad (omega (arith, from, within)) first behind

-- a put may be made into a part where it may be into the container
module _ {D : Type 0} (states : D → disks.State) (c : Container) (view : Image D) (s : D) (table : List ℕ)
    (image : view.image.now ≡ c.image) (disk : view.disk.now ≡ s) (table_is : table ≡ c.table.items) where
  seen : (part : Part) (at n : ℕ) → CanPut (part_state (image_state (states s) c.image) part c.table.items) at n
      → CanPut (part_state (image_state (states view.disk.now) view.image.now) part table) at n
  seen part at n can = rw (image, disk, table_is) can

  pub can_in_first : (at n : ℕ) → at + n ≤ c.parts.first.difi.ivfc4.size → CanPut (store_of (states s) c) at n
      → CanPut (part_state (image_state (states view.disk.now) view.image.now) c.parts.first table) at n
  can_in_first at n fits can =
      let base = image_state (states s) c.image in
      let zero : at ≡ 0 + at = omega arith in
      seen c.parts.first at n
      (can_in_part (store_of (states s) c) (part_state base c.parts.first c.table.items) 0 at n
      (first_stands base c.parts.first c.table.items c.parts.second) fits
      (first_told base c.parts.first c.parts.second c.table.items can.told)
      (subst (λ (x : ℕ). CanPut (store_of (states s) c) x n) zero can))

  pub can_in_second : (part : Part) → c.parts.second ≡ Some part → (at x : ℕ) → c.parts.first.difi.ivfc4.size + x ≡ at
      → (n : ℕ) → x + n ≤ part.difi.ivfc4.size → CanPut (store_of (states s) c) at n
      → CanPut (part_state (image_state (states view.disk.now) view.image.now) part table) x n
  can_in_second part is at x place n fits can =
      let base = image_state (states s) c.image in
      seen part x n
      (can_in_part (store_of (states s) c) (part_state base part c.table.items) c.parts.first.difi.ivfc4.size x n
      (rw is (second_stands base c.parts.first c.table.items part)) fits
      (second_told base c.parts.first c.parts.second c.table.items part is can.told)
      (subst (λ (y : ℕ). CanPut (store_of (states s) c) y n) (sym place) can))

-- what is found in part 1 is found in the store
pub found_second : (base last : State) (first second : Part) (o : Option Part) (table : List ℕ) (at x most : ℕ)
    (result : Result (ℕ × ℕ) Bad) → o ≡ Some second → first.difi.ivfc4.size + x ≡ at
    → IsFound (part_state base second table) last x most result → IsFound (state_of base first o table) last at most result
found_second base last first second o table at x most (Ok (place, n)) is there found = record {
  some = found.some;
  bounded = found.bounded;
  inside = rw is (omega (arith, found.inside, there));
  in_base = found.in_base;
  cells = λ told k less.
      (let rest : at + k - first.difi.ivfc4.size ≡ x + k = omega (arith, there) in
      rw (is, le-ltb (at + k) first.difi.ivfc4.size (omega (arith, there)), rest)
      (found.cells (second_told base first o table second is told) k less));
  damaged = λ told. tt;
}
found_second base last first second o table at x most (Err Disk) is there found =
    record { some = tt; bounded = tt; inside = tt; in_base = tt; cells = λ told. tt; damaged = λ told. tt }
found_second base last first second o table at x most (Err (Damaged part level block)) is there found = record {
  some = tt;
  bounded = tt;
  inside = tt;
  in_base = tt;
  cells = λ told. tt;
  damaged = λ told.
      (let rest : at - first.difi.ivfc4.size ≡ x = omega (arith, there) in
      rw (is, le-ltb at first.difi.ivfc4.size (omega (arith, there)), rest)
      (found.damaged (second_told base first o table second is told)));
}
