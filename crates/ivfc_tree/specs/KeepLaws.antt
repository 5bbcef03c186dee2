-- The laws of a space on what is kept, of a view through the hash tree, where they hold of its base.
use Rattle.std.proofs.Common.{◌≡◌, ℕ, ◌+◌, ◌^◌, ◌<◌, IsTrue, IsFalse, length, refl, inl, inr, ◌∙◌, arith, ⊎_elim}
use Rattle.std.proofs.lemmas.Bool.{and_parts}
use Rattle.save_bytes.specs.State.{Shape, State}
use Rattle.save_bytes.specs.Stays.{SameCells, SameTwins}
use Rattle.save_bytes.specs.Spots.{Spot, Mark, Frame, Hold, LandsAsBefore}
use Rattle.difi.specs.declared.descriptor.Difi.{Difi}
use Rattle.ivfc_tree.specs.declared.view.IvfcView.{IvfcView}
use Rattle.ivfc_tree.specs.declared.state.IvfcState.{IvfcState}
use Rattle.ivfc_tree.specs.Levels.{IsLevel, level_of}
use Rattle.ivfc_tree.specs.Marks.{is_made_for, AsManyMarks}
use Rattle.ivfc_tree.specs.View.{CanViewHashes, can_view_hashes, HasLevels, HasTree, view_state}
use Rattle.ivfc_tree.specs.Held.{shown, SameHold, SameOwn, HashKeeps, IsOnPath, MarksPath, HashLands, hash_lands}
use Rattle.ivfc_tree.specs.ViewLaws.{level4_size, true-can_view_hashes, tree_of, view_cells}

pub AsManyMarks-same : (s : IvfcState) → AsManyMarks s s
AsManyMarks-same s level = refl

pub AsManyMarks-join : (s t u : IvfcState) → AsManyMarks s t → AsManyMarks t u → AsManyMarks s u
AsManyMarks-join s t u h k level = k level ∙ h level

-- as many marks serve the same tree
pub is_made_for-many : (difi : Difi) (s t : IvfcState) → AsManyMarks s t → is_made_for difi t ≡ is_made_for difi s
is_made_for-many difi s t many = rw (many 1, many 2, many 3, many 4) refl

module _ {S : Type 0} where
  SameHold-same : (s : IvfcView S) → SameHold s s
  SameHold-same s = record {
    same_base = refl;
    same_part = refl;
    same_difi = refl;
    same_master = refl;
    master_len = refl;
    same_state = refl;
    marks = AsManyMarks-same s.state.now;
  }

  SameHold-join : (s t u : IvfcView S) → SameHold s t → SameHold t u → SameHold s u
  SameHold-join s t u h k = record {
    same_base = k.same_base ∙ h.same_base;
    same_part = k.same_part ∙ h.same_part;
    same_difi = k.same_difi ∙ h.same_difi;
    same_master = k.same_master ∙ h.same_master;
    master_len = k.master_len ∙ h.master_len;
    same_state = k.same_state ∙ h.same_state;
    marks = AsManyMarks-join s.state.now t.state.now u.state.now h.marks k.marks;
  }

  SameOwn-same : (spot : Spot) (s : IvfcView S) → SameOwn spot s s
  SameOwn-same (Mark part level block) s = λ here. refl
  SameOwn-same Frame s = (λ level block. refl, refl)
  SameOwn-same spot s = tt

  SameOwn-join : (spot : Spot) (s t u : IvfcView S) → SameOwn spot s t → SameOwn spot t u → SameOwn spot s u
  SameOwn-join (Mark part level block) s t u h k = λ here. k here ∙ h here
  SameOwn-join Frame s t u h k = (λ level block. k.0 level block ∙ h.0 level block, k.1 ∙ h.1)
  SameOwn-join spot s t u h k = tt

-- a put lands where it would have landed, where that is so in the base
pub HashLands-before : (base : Shape) (difi : Difi) → HasLevels base difi → (old new : ℕ → Spot → Type 0)
    → LandsAsBefore base.size old new
    → LandsAsBefore difi.ivfc4.size (HashLands old difi) (HashLands new difi)
HashLands-before base difi levels old new before x below spot =
    ⊎_elim
    (λ (found : (level y : ℕ) × IsLevel level × IsOnPath difi x level y × new ((level_of difi level).at + y) spot).
    let y = found.1 in
    let inside = levels.inside found.0 found.2 in
    inl (found.0, y, found.2, found.3, before _ (omega (arith, inside, found.3.0)) spot found.4))
    (λ (marks : MarksPath difi x spot). inr marks)

module _ {S : Type 0} (keeps : Spot → S → S → Type 0) where
  pub HashKeeps-same : ((spot : Spot) (s : S) → keeps spot s s) → (spot : Spot) (s : IvfcView S)
      → HashKeeps keeps spot s s
  HashKeeps-same same spot s = (SameHold-same s, SameOwn-same spot s, same spot s.base.now)

  pub HashKeeps-join : ((spot : Spot) (s t u : S) → keeps spot s t → keeps spot t u → keeps spot s u)
      → (spot : Spot) (s t u : IvfcView S)
      → HashKeeps keeps spot s t → HashKeeps keeps spot t u → HashKeeps keeps spot s u
  HashKeeps-join join spot s t u h k =
      (SameHold-join s t u h.0 k.0, SameOwn-join spot s t u h.1 k.1, join spot s.base.now t.base.now u.base.now h.2 k.2)

  pub HashKeeps-hold : ((s t : S) → keeps Frame s t → keeps Hold s t) → (s t : IvfcView S) → HashKeeps keeps Frame s t
      → HashKeeps keeps Hold s t
  HashKeeps-hold hold s t h = (h.0, tt, hold s.base.now t.base.now h.2)

module _ {S : Type 0} (states : S → State) (keeps : Spot → S → S → Type 0) where
  pub HashKeeps-shape : ((s t : S) → keeps Hold s t → (states t).shape ≡ (states s).shape) → (s t : IvfcView S)
      → HashKeeps keeps Hold s t
      → (shown states t).shape ≡ (shown states s).shape
  unfolding can_view_hashes
  HashKeeps-shape shape s t h =
      rw (
        shape s.base.now t.base.now h.2,
        h.0.same_difi,
        h.0.master_len,
        is_made_for-many s.difi.now s.state.now t.state.now h.0.marks,
      ) refl

-- what holds of two spaces where each spot was left alone, if they lie soundly without twins and are told
abbrev pub WhereKept : {A : Type 0} → (A → State) → (Spot → A → A → Type 0) → (A → A → Type 0) → Type 0
WhereKept {A} states keeps P = (s t : A) → IsTrue (states s).shape.sound → IsFalse (states s).shape.doubled
    → IsTrue (states s).told
    → IsTrue (states t).told → ((spot : Spot) → keeps spot s t) → P s t

module _ {S : Type 0} (states : S → State)
    (fits : (s : S) → IsTrue (states s).shape.sound → (states s).shape.size < 2 ^ 64) where
  -- what can be viewed, its tree, and its size
  module _ (s : IvfcView S) (sound : IsTrue (shown states s).shape.sound) where
    pub shown_can : CanViewHashes (states s.base.now).shape s.difi.now (length s.master.now) s.state.now
    shown_can = true-can_view_hashes (states s.base.now).shape s.difi.now (length s.master.now) s.state.now sound

    pub shown_tree : HasTree (states s.base.now).shape s.difi.now (length s.master.now)
    shown_tree = tree_of (states s.base.now).shape s.difi.now (length s.master.now) s.state.now
        (fits s.base.now shown_can.sound) shown_can

    pub shown_fits : s.difi.now.ivfc4.size < 2 ^ 64
    shown_fits =
        let inside = shown_tree.levels.inside 4 (omega arith, omega arith) in
        omega (arith, rw (level4_size s.difi.now) at inside, shown_tree.levels.small)

  module _ (keeps : Spot → S → S → Type 0) where
    pub HashKeeps-cells : WhereKept states keeps
        (λ s t. SameCells (states s) (states t) × SameTwins (states s) (states t))
        → WhereKept (shown states) (HashKeeps keeps) (λ s t. SameCells (shown states s) (shown states t)
        × SameTwins (shown states s) (shown states t))
    HashKeeps-cells law s t sound single told still kept =
        let can = shown_can s sound in
        let below = law s.base.now t.base.now can.sound can.single (and_parts _ _ told).0 (and_parts _ _ still).0
        (λ spot. (kept spot).2) in
        let frame = kept Frame in
        let there : SameCells (shown states s)
        (view_state (states t.base.now) s.part s.master.now s.difi.now t.state.now) =
        view_cells (states s.base.now) (states t.base.now) s.part s.master.now s.difi.now s.state.now t.state.now
        (shown_tree s sound) frame.1.0 below.0 in (
          rw (frame.0.same_part, frame.0.same_difi, frame.1.1) there,
          record { bottom = λ x h. refl; is_fixed = λ x h. refl },
        )

    pub HashKeeps-lands : (lands : S → ℕ → Spot → Type 0)
        → WhereKept states keeps (λ s t. LandsAsBefore (states s).shape.size (lands s) (lands t))
        → WhereKept (shown states) (HashKeeps keeps)
        (λ s t. LandsAsBefore (shown states s).shape.size (hash_lands lands s) (hash_lands lands t))
    HashKeeps-lands lands law s t sound single told still kept =
        let can = shown_can s sound in
        let below = law s.base.now t.base.now can.sound can.single (and_parts _ _ told).0 (and_parts _ _ still).0
        (λ spot. (kept spot).2) in
        rw (kept Frame).0.same_difi
        (HashLands-before (states s.base.now).shape s.difi.now (shown_tree s sound).levels (lands s.base.now)
        (lands t.base.now) below)
