-- The tests on a view as facts, and the laws of a space, of a view.
use Rattle.std.proofs.Common.{◌≡◌, ℕ, ◌+◌, ◌-◌, ◌^◌, ◌<◌, ◌≤◌, Bool, true, false, not, IsTrue, Result, Ok, Err, is_ok}
use Rattle.std.proofs.Common.{refl, ◌∙◌, ap, arith, ⊎_elim}
use Rattle.std.proofs.lemmas.Bool.{and_parts, and_from, cases_lt, lt-ltb, le-leb, eq-eqb, ltb-true, leb-true, eqb-true}
use Rattle.save_bytes.specs.State.{Shape, State}
use Rattle.save_bytes.specs.Stays.{SameCells, SameTwins}
use Rattle.save_bytes.specs.Spots.{Spot, Mark, Frame, LandsAsBefore}
use Rattle.save_bytes.specs.declared.extent.Extent.{Extent}
use Rattle.difi.specs.declared.descriptor.Difi.{Difi}
use Rattle.difi.specs.declared.fault.DifiFault.{DifiFault}
use Rattle.difi.specs.Places.{copies_of}
use Rattle.difi.specs.Conditions.{external_extent}
use Rattle.save_bytes.specs.Extents.{AreApart}
use Rattle.difi.specs.Sound.{HasCopies, HasExternalLevel, HasSoundLevels}
use Rattle.difi.proofs.SoundLemmas.{on_levels}
use Rattle.difi.proofs.CompleteLemmas.{levels_pass}
use Rattle.dpfs_tree.specs.declared.state.DpfsState.{DpfsState}
use Rattle.difi.specs.Contents.{view_size}
use Rattle.dpfs_tree.specs.declared.view.DpfsView.{DpfsView}
use Rattle.dpfs_tree.specs.Marks.{IsMadeForContents}
use Rattle.dpfs_tree.specs.View.{CanViewContents, can_view_contents, HasContents, contents_state}
use Rattle.dpfs_tree.specs.Held.{shown_contents, SameContents, SameState, ContentsKeep, ContentsLand, contents_land}
use Rattle.dpfs_tree.specs.Picks.{bytes_of}
use Rattle.dpfs_tree.specs.SameLaws.{view_cells, lands_as_before}

-- levels that are sound in a partition are so in a longer one
module _ (difi : Difi) (n m : ℕ) (le : n ≤ m) (h : HasSoundLevels difi n) where
  longer_copies : HasCopies difi m
  longer_copies = record {
    level1 = record { some = h.copies.level1.some; inside = omega (arith, h.copies.level1.inside) };
    level2 = record { some = h.copies.level2.some; inside = omega (arith, h.copies.level2.inside) };
    level3 = record { some = h.copies.level3.some; inside = omega (arith, h.copies.level3.inside) };
    bits1 = h.copies.bits1;
    bits2 = h.copies.bits2;
    apart12 = h.copies.apart12;
    apart13 = h.copies.apart13;
    apart23 = h.copies.apart23;
  }

  longer_external : HasExternalLevel difi n → HasExternalLevel difi m
  longer_external level =
      record {
        inside = omega (arith, level.inside);
        apart1 = level.apart1;
        apart2 = level.apart2;
        apart3 =
            level.apart3;
      }

  pub longer : HasSoundLevels difi m
  longer = record {
    selector = h.selector;
    block_sizes = h.block_sizes;
    copies = longer_copies;
    hash_levels = h.hash_levels;
    external_level = λ external. longer_external (h.external_level external);
  }

is_ok-Ok : {A E : Type 0} (r : Result A E) (value : A) → r ≡ Ok value → is_ok r ≡ true
is_ok-Ok r value e = ap is_ok e

unit_ok : (r : Result (Unit {0}) DifiFault) → is_ok r ≡ true → r ≡ Ok tt
unit_ok (Ok tt) ok = refl
unit_ok (Err fault) ok = cc

-- the test passes where a view can be made
pub can_view_contents-true : (base : Shape) (part_at : ℕ) (difi : Difi) (state : DpfsState)
    → CanViewContents base part_at difi state → can_view_contents base part_at difi state ≡ true
unfolding can_view_contents
can_view_contents-true base part_at difi state h =
    let part = h.partition in
    let levels = longer difi part.part_len (base.size - part_at) (omega (arith, part.inside)) part.levels in
    and_from _ _ h.sound
    (and_from _ _ h.plain
    (and_from _ _ (ap not h.single)
    (and_from _ _ (le-leb base.first part_at part.first)
    (and_from _ _ (le-leb part_at base.size (omega (arith, part.inside)))
    (and_from _ _ (lt-ltb difi.selector 2 part.levels.selector)
    (and_from _ _ (is_ok-Ok _ tt (levels_pass difi (base.size - part_at) levels))
    (and_from _ _ (eq-eqb _ _ h.made.marks) (lt-ltb state.selector 2 (h.made.selector part.levels.selector)))))))))

not-true : (b : Bool) → not b ≡ true → b ≡ false
not-true true h = cc
not-true false h = refl

-- and only there
pub true-can_view_contents : (base : Shape) (part_at : ℕ) (difi : Difi) (state : DpfsState)
    → can_view_contents base part_at difi state ≡ true → CanViewContents base part_at difi state
unfolding can_view_contents
true-can_view_contents base part_at difi state h =
    let sound = and_parts _ _ h in
    let plain = and_parts _ _ sound.1 in
    let single = and_parts _ _ plain.1 in
    let first = and_parts _ _ single.1 in
    let inside = and_parts _ _ first.1 in
    let selector = and_parts _ _ inside.1 in
    let levels = and_parts _ _ selector.1 in
    let marks = and_parts _ _ levels.1 in
    let there : part_at ≤ base.size = leb-true part_at base.size inside.0 in
    let sound_levels = on_levels difi (base.size - part_at) (unit_ok _ levels.0) in
    record {
      sound = sound.0;
      plain = plain.0;
      single = not-true _ single.0;
      partition = record {
        first = leb-true base.first part_at first.0;
        part_len = base.size - part_at;
        inside = omega (arith, there);
        levels = record {
          selector = ltb-true difi.selector 2 selector.0;
          block_sizes = sound_levels.block_sizes;
          copies = sound_levels.copies;
          hash_levels = sound_levels.hash_levels;
          external_level = sound_levels.external_level;
        };
      };
      made = record { marks = eqb-true _ _ marks.0; selector = λ _. ltb-true state.selector 2 marks.1 };
    }

-- two ranges that lie apart in a partition fit into it side by side
fit_apart : (one other : Extent) (n : ℕ) → AreApart one other → 0 < one.size → 0 < other.size → one.at + one.size ≤ n
    → other.at + other.size ≤ n → one.size + other.size ≤ n
fit_apart one other n apart some_one some_other one_in other_in =
    ⊎_elim
    (λ (before : one.at < other.at).
    ⊎_elim
    (λ (meets : other.at < one.at + one.size).
    absurd (apart other.at (omega (arith, before)) meets (omega arith) (omega (arith, some_other))))
    (λ (clear : one.at + one.size ≤ other.at). omega (arith, clear, other_in))
    (cases_lt other.at (one.at + one.size)))
    (λ (behind : other.at ≤ one.at).
    ⊎_elim
    (λ (meets : one.at < other.at + other.size).
    absurd (apart one.at (omega arith) (omega (arith, some_one)) behind meets))
    (λ (clear : other.at + other.size ≤ one.at). omega (arith, clear, one_in))
    (cases_lt one.at (other.at + other.size)))
    (cases_lt one.at other.at)

view_size-fits : (difi : Difi) (n : ℕ) (external : Bool) → difi.external ≡ external → HasSoundLevels difi n
    → view_size difi ≤ n
view_size-fits difi n true is h =
    let level = h.external_level is in
    let both = fit_apart (external_extent difi) (copies_of difi.dpfs3) n level.apart3 h.hash_levels.some4
    (omega (arith, h.copies.level3.some)) level.inside h.copies.level3.inside in
    rw is (omega (arith, both))
view_size-fits difi n false is h = rw is (omega (arith, h.copies.level3.inside))

-- what can be viewed has its tree in the base
pub tree_of : (base : Shape) (part_at : ℕ) (difi : Difi) (state : DpfsState) → base.size < 2 ^ 64
    → CanViewContents base part_at difi state → HasContents base part_at difi state.selector
tree_of base part_at difi state small h =
    let part = h.partition in
    let copies = part.levels.copies in
    record {
      sound = h.sound;
      plain = h.plain;
      single = h.single;
      first = part.first;
      small = small;
      one_of_two = h.made.selector part.levels.selector;
      log2 = part.levels.block_sizes.dpfs2;
      log3 = part.levels.block_sizes.dpfs3;
      level1 = omega (arith, part.inside, copies.level1.inside);
      level2 = omega (arith, part.inside, copies.level2.inside);
      level3 = omega (arith, part.inside, copies.level3.inside);
      bits1 = copies.bits1;
      bits2 = copies.bits2;
      apart12 = copies.apart12;
      apart13 = copies.apart13;
      apart23 = copies.apart23;
      external_apart = λ external.
          (let level = part.levels.external_level external in (level.apart1, level.apart2, level.apart3));
      external = λ external.
          (let level = part.levels.external_level external in omega (arith, part.inside, level.inside));
      view_fits = omega (arith, part.inside, view_size-fits difi part.part_len difi.external refl part.levels);
    }

pub contents_tree : (base : Shape) (part_at : ℕ) (difi : Difi) (state : DpfsState)
    → (IsTrue base.sound → base.size < 2 ^ 64) → can_view_contents base part_at difi state ≡ true
    → HasContents base part_at difi state.selector
contents_tree base part_at difi state fits sound = let view = true-can_view_contents base part_at difi state sound in
    tree_of base part_at difi state (fits view.sound) view

-- so a view that lies soundly over a base has its tree there, and a state that is made for it
module _ {S : Type 0} (states : S → State) (fits : (s : S) → IsTrue (states s).shape.sound
    → (states s).shape.size < 2 ^ 64)
    (view : DpfsView S) (sound : IsTrue (shown_contents states view).shape.sound) where
  pub shown_tree : HasContents (states view.base.now).shape view.part_at view.difi.now view.state.now.selector
  shown_tree = contents_tree (states view.base.now).shape view.part_at view.difi.now view.state.now (fits view.base.now)
      sound

  pub shown_made : IsMadeForContents view.difi.now view.state.now
  shown_made = (true-can_view_contents (states view.base.now).shape view.part_at view.difi.now view.state.now
      sound).made

-- the laws of a space
pub view_size_fits : (base : State) (part_at : ℕ) (difi : Difi) (state : DpfsState)
    → (IsTrue base.shape.sound → base.shape.size < 2 ^ 64) → IsTrue (contents_state base part_at difi state).shape.sound
    → view_size difi < 2 ^ 64
view_size_fits base part_at difi state fits sound = let tree = contents_tree base.shape part_at difi state fits sound in
    omega (arith, tree.view_fits, tree.small)

SameState-same : (spot : Spot) (state : DpfsState) → SameState spot state state
SameState-same (Mark part level block) state = λ here. refl
SameState-same Frame state = refl
SameState-same spot state = tt

pub SameState-join : (spot : Spot) (a b c : DpfsState) → SameState spot a b → SameState spot b c → SameState spot a c
SameState-join (Mark part level block) a b c h k = λ here. k here ∙ h here
SameState-join Frame a b c h k = k ∙ h
SameState-join spot a b c h k = tt

module _ {S : Type 0} (keeps : Spot → S → S → Type 0) where
  SameContents-same : (s : DpfsView S) → SameContents s s
  SameContents-same s =
      record { same_base = refl; same_place = refl; same_difi = refl; same_state = refl; marks = refl; selector = refl }

  pub ContentsKeep-same : ((spot : Spot) (s : S) → keeps spot s s) → (spot : Spot) (s : DpfsView S)
      → ContentsKeep keeps spot s s
  ContentsKeep-same same spot s = (SameContents-same s, SameState-same spot s.state.now, same spot s.base.now)

  SameContents-join : (s t u : DpfsView S) → SameContents s t → SameContents t u → SameContents s u
  SameContents-join s t u h k = record {
    same_base = k.same_base ∙ h.same_base;
    same_place = k.same_place ∙ h.same_place;
    same_difi = k.same_difi ∙ h.same_difi;
    same_state = k.same_state ∙ h.same_state;
    marks = k.marks ∙ h.marks;
    selector = k.selector ∙ h.selector;
  }

  pub ContentsKeep-join : ((spot : Spot) (s t u : S) → keeps spot s t → keeps spot t u → keeps spot s u)
      → (spot : Spot) (s t u : DpfsView S)
      → ContentsKeep keeps spot s t → ContentsKeep keeps spot t u → ContentsKeep keeps spot s u
  ContentsKeep-join join spot s t u h k = (
    SameContents-join s t u h.0 k.0,
    SameState-join spot s.state.now t.state.now u.state.now h.1 k.1,
    join spot s.base.now t.base.now u.base.now h.2 k.2,
  )

module _ {S : Type 0} (states : S → State) (s t : DpfsView S) (same : SameContents s t) where
  -- the same shape, where the base has the same
  pub contents_shape : (states t.base.now).shape ≡ (states s.base.now).shape
      → (shown_contents states t).shape ≡ (shown_contents states s).shape
  unfolding can_view_contents
  contents_shape shape = rw (same.same_place, same.same_difi, same.marks, same.selector, shape) refl

  -- the same cells, where the base has the same and no mark was set or cleared
  pub contents_cells : t.state.now ≡ s.state.now
      → HasContents (states s.base.now).shape s.part_at s.difi.now s.state.now.selector
      → SameCells (states s.base.now) (states t.base.now)
      → SameCells (shown_contents states s) (shown_contents states t)
      × SameTwins (shown_contents states s) (shown_contents states t)
  contents_cells state_now tree cells =
      let there : SameCells (shown_contents states s)
      (contents_state (states t.base.now) s.part_at s.difi.now s.state.now) =
      view_cells (states s.base.now) (states t.base.now) s.part_at s.difi.now s.state.now tree cells in
      (rw (same.same_place, same.same_difi, state_now) there, record { bottom = λ x h. refl; is_fixed = λ x h. refl })

  -- and puts land where they would have landed
  pub contents_lands : (lands : S → ℕ → Spot → Type 0)
      → HasContents (states s.base.now).shape s.part_at s.difi.now s.state.now.selector
      → SameCells (states s.base.now) (states t.base.now)
      → LandsAsBefore (states s.base.now).shape.size (lands s.base.now) (lands t.base.now)
      → LandsAsBefore (view_size s.difi.now) (contents_land states lands s) (contents_land states lands t)
  contents_lands lands tree cells as_before =
      let old = bytes_of (states s.base.now).cells in
      let new = bytes_of (states t.base.now).cells in
      let there : LandsAsBefore (view_size s.difi.now) (contents_land states lands s)
      (ContentsLand new s.part_at s.difi.now s.state.now.selector (lands t.base.now)) =
      lands_as_before (states s.base.now).shape s.part_at s.difi.now s.state.now.selector tree old new
      (λ y h. rw (cells y h) refl)
      (lands s.base.now) (lands t.base.now) as_before in
      rw (same.same_place, same.same_difi, same.selector) there
