-- A view behind a seal.
use Rattle.std.proofs.Common.{ℕ, suc, ◌/◌, Bool, IsTrue, List, length, Option}
use Rattle.std.proofs.Common.{refl, inl}
use Rattle.std.proofs.lemmas.Bool.{and_parts, and_from}
use Rattle.save_bytes.specs.declared.space.Bad.{Bad}
use Rattle.save_bytes.specs.Cells.{Cell}
use Rattle.save_bytes.specs.State.{Shape, State}
use Rattle.save_bytes.specs.Refusals.{UnlessDisk}
use Rattle.save_bytes.specs.Stays.{SameCells, Stays}
use Rattle.save_bytes.specs.Spots.{Spot}
use Rattle.save_bytes.proofs.SpaceLemmas.{UnlessDisk-map, UnlessDisk-both, UnlessDisk-always}
use Rattle.difi.specs.declared.descriptor.Difi.{Difi}
use Rattle.difi.specs.Places.{block_size}
use Rattle.ivfc_tree.specs.declared.state.IvfcState.{IvfcState}
use Rattle.ivfc_tree.specs.declared.view.IvfcView.{IvfcView}
use Rattle.ivfc_tree.specs.Marks.{is_marked}
use Rattle.ivfc_tree.specs.Known.{Remembers, is_told}
use Rattle.ivfc_tree.specs.KnownLaws.{true-remembers, remembers-true}
use Rattle.ivfc_tree.specs.View.{HasTree, can_view_hashes, view_state}
use Rattle.ivfc_tree.specs.ViewLaws.{block_of_there}
use Rattle.ivfc_tree.specs.Held.{shown, SameHold}
use Rattle.ivfc_tree.specs.Seals.{CountsOn, ShowsSame, SealsTree}
use Rattle.ivfc_tree.specs.Origins.{CameFrom, MarksMore}
use Rattle.ivfc_tree.specs.SealViews.{SealsView}
use Rattle.ivfc_tree.proofs.OriginLemmas.{CameFrom-more}

module _ (base new : State) (master new_master : List ℕ) (difi : Difi) (state later : IvfcState)
    (counts : CountsOn state later)
    (same : ShowsSame difi (is_marked state) base.cells master new.cells new_master) where
  -- what is remembered is true behind it
  shown_remembers : Remembers base.cells master difi state → Remembers new.cells new_master difi later
  shown_remembers h = rw counts.marks (record {
    closed = h.closed;
    agrees = λ level block there. rw (same.blocks level block there) (h.agrees level block there);
  })

  shown_told : IsTrue (is_told base master difi state) → IsTrue new.told → IsTrue (is_told new new_master difi later)
  shown_told told told_new =
      let true_before = true-remembers base.cells master difi state (and_parts _ _ told).1 in
      and_from _ _ told_new (remembers-true new.cells new_master difi later (shown_remembers true_before))

  -- and cells are the same
  shown_cells : (part : ℕ) → SameCells (view_state base part master difi state) (view_state new part new_master
      difi later)
  shown_cells part x inside =
      rw (
        counts.marks,
        same.blocks 4 (x / block_size difi.ivfc4) (block_of_there difi x inside),
        same.contents x
            inside,
      )
      refl

-- what blocks tell of the tree as the transaction began stays true
shown_came : (difi : Difi) (marked : ℕ → ℕ → Bool) (cells new : ℕ → Cell) (master new_master : List ℕ) (base : Shape)
    (master_len : ℕ) → HasTree base difi master_len → ShowsSame difi marked cells master new new_master
    → (was : ℕ → Cell) (was_master : List ℕ) → CameFrom difi marked was was_master cells master
    → CameFrom difi marked was was_master new new_master
shown_came difi marked cells new master new_master base master_len tree same was was_master came =
    let more : MarksMore difi marked marked cells master new new_master = record {
      more = λ level block isnt. isnt;
      unmarked = λ level block there isnt. inl (record {
        own = same.unmarked (suc level) block there isnt;
        above = λ below no is. absurd (cc (no, is));
      });
    } in
    CameFrom-more base difi master_len tree marked was cells was_master master came marked new new_master more

module _ {S : Type 0} (states : S → State) (keeps : Spot → S → S → Type 0) (lands : S → ℕ → Spot → Type 0)
    (old new : IvfcView S) (refusal : Option Bad) (there : HasTree (states old.base.now).shape old.difi.now
    (length old.master.now))
    (hold : SameHold old new) (counts : CountsOn old.state.now new.state.now)
    (tree : SealsTree states keeps lands old.difi.now (is_marked old.state.now) old.base.now old.master.now
    new.base.now new.master.now refusal) where
  abbrev IsShownSame : Type 0
  IsShownSame = ShowsSame old.difi.now (is_marked old.state.now) (states old.base.now).cells old.master.now
      (states new.base.now).cells new.master.now

  same_after : IsTrue (shown states old).told → UnlessDisk refusal IsShownSame
  same_after told =
      let both = and_parts _ _ told in
      tree.shown both.0 (true-remembers (states old.base.now).cells old.master.now old.difi.now old.state.now
      both.1).closed

  seal_stays : Stays (shown states old) (shown states new) refusal
  unfolding can_view_hashes
  seal_stays = rw (hold.same_difi, hold.same_part) (record {
    space = record {
      shape = rw (tree.writes.space.shape, hold.master_len, counts.marks) refl;
      faults = tree.writes.space.faults;
      cause = tree.writes.space.cause;
      told = λ told. UnlessDisk-both refusal (IsTrue (states new.base.now).told) IsShownSame _
          (λ told_new same. shown_told (states old.base.now) (states new.base.now) old.master.now new.master.now
          old.difi.now
          old.state.now new.state.now counts same told told_new)
          (tree.writes.space.told (and_parts _ _ told).0) (same_after told);
      twins = λ told. UnlessDisk-always refusal (record { bottom = λ x below. refl; is_fixed = λ x below. refl });
    };
    cells = λ told. UnlessDisk-map refusal
        (λ (same : IsShownSame). shown_cells (states old.base.now) (states new.base.now) old.master.now new.master.now
        old.difi.now old.state.now new.state.now counts same old.part) (same_after told);
  })

  pub seals_view : SealsView states keeps lands old new refusal
  seals_view = record {
    hold = hold;
    counts = counts;
    stays = seal_stays;
    tree = tree;
    came = λ told was was_master came. UnlessDisk-map refusal
        (λ (same : IsShownSame). shown_came old.difi.now (is_marked old.state.now) (states old.base.now).cells
        (states new.base.now).cells old.master.now new.master.now (states old.base.now).shape (length
        old.master.now) there same
        was was_master came) (same_after told);
  }
