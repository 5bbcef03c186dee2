-- Puts into a view, one after another, and as calls of a space.
use Rattle.std.proofs.Common.{◌≡◌, ℕ, ◌+◌, ◌-◌, ◌<◌, ◌≤◌, true, List, ◌++◌, length, take, drop, get_or, IsTrue}
use Rattle.std.proofs.Common.{Option, Some, None, refl, sym, ◌∙◌, ap, subst, arith, inl, inr, ⊎_elim, length-append}
use Rattle.std.proofs.Common.{length-drop}
use Rattle.std.proofs.lemmas.Bool.{cases_lt}
use Rattle.std.proofs.lemmas.List.{length-take-le, take_rest}
use Rattle.save_bytes.specs.declared.space.Bad.{Bad}
use Rattle.save_bytes.specs.Cells.{Cell, Byte, Blank, Spoilt, IsByte, IsBlank}
use Rattle.save_bytes.specs.State.{State}
use Rattle.save_bytes.specs.Puts.{SoftensFrom, HasPut, Puts}
use Rattle.save_bytes.specs.Spots.{Spot, LandsAsBefore, MovesOnly}
use Rattle.save_bytes.specs.Writes.{Writes}
use Rattle.save_bytes.proofs.CellLemmas.{AreBytesAt-append}
use Rattle.save_bytes.proofs.SpaceLemmas.{UnlessDisk-both, UnlessDisk-always, IfDamaged-never, IfDone-map}
use Rattle.save_bytes.proofs.JoinLemmas.{take-more}
use Rattle.save_bytes.proofs.WriteLemmas.{Writes-wider, Writes-then}
use Rattle.difi.specs.declared.descriptor.Difi.{Difi}
use Rattle.difi.specs.Contents.{view_size}
use Rattle.dpfs_tree.specs.declared.state.DpfsState.{DpfsState}
use Rattle.dpfs_tree.specs.declared.view.DpfsView.{DpfsView}
use Rattle.dpfs_tree.specs.Picks.{bytes_of}
use Rattle.dpfs_tree.specs.Marks.{other_place}
use Rattle.dpfs_tree.specs.View.{HasContents, contents_state}
use Rattle.dpfs_tree.specs.Held.{shown_contents, SameContents, MarksSpot, ContentsKeep, ContentsLand, contents_land}
use Rattle.dpfs_tree.specs.Puts.{MarksOnly, WritesIn, IsPut, PutsInto}
use Rattle.dpfs_tree.specs.SameLaws.{place_by-upper, lands_by-upper}
use Rattle.dpfs_tree.specs.ViewLaws.{SameState-join, contents_shape}
use Rattle.dpfs_tree.proofs.BlockLemmas.{upper_stays}

-- marks that change by one put and the next
marks_more : (difi : Difi) (at n m : ℕ) (was mid now : DpfsState) → MarksOnly difi at n was mid
    → MarksOnly difi (at + n) m mid now
    → MarksOnly difi at (n + m) was now
marks_more difi at n m was mid now h k = record {
  marks = k.marks ∙ h.marks;
  selector = k.selector ∙ h.selector;
  spots = λ spot missed.
      SameState-join spot was mid now (h.spots spot (λ j less. missed j (omega (arith, less))))
      (k.spots spot (λ j less.
      (let place : at + (n + j) ≡ at + n + j = omega arith in
      subst (λ (x : ℕ). ¬ MarksSpot difi x spot) place (missed (n + j) (omega (arith, less))))));
}

-- bytes that are put behind bytes
put_more : (size : ℕ) (old mid new : ℕ → Cell) (at : ℕ) (xs ys : List ℕ) → at + length xs + length ys ≤ size
    → IsPut size old at xs mid
    → IsPut size mid (at + length xs) ys new → IsPut size old at (xs ++ ys) new
put_more size old mid new at xs ys fits h k = record {
  range = AreBytesAt-append new at xs ys
      (λ j less. k.others (at + j) (omega (arith, less)) (λ within. omega (arith, less, within.0)) ∙ h.range j less)
      k.range;
  others = λ x below out.
      k.others x below (λ within. out (omega (arith, within.0), omega (arith, within.1, length-append xs ys)))
      ∙ h.others x below (λ within. out (within.0, omega (arith, within.1, length-append xs ys)));
}

module _ {A : Type 0} (states : A → State) (keeps : Spot → A → A → Type 0) (lands : A → ℕ → Spot → Type 0)
    (join : (spot : Spot) (s t u : A) → keeps spot s t → keeps spot t u → keeps spot s u) where
  module _ (s t u : A) (part_at : ℕ) (difi : Difi) (was mid now : DpfsState) (at : ℕ)
      (tree : HasContents (states s).shape part_at difi was.selector) where
    -- what a put that was refused leaves, one of more bytes leaves
    pub PutsInto-longer : (xs ys : List ℕ) (bad : Bad) → length xs ≤ length ys
        → PutsInto states keeps lands part_at difi was now at xs s u (Some bad)
        → PutsInto states keeps lands part_at difi was now at ys s u (Some bad)
    PutsInto-longer xs ys bad le h = record {
      marks = record {
        marks = h.marks.marks;
        selector = h.marks.selector;
        spots = λ spot missed. h.marks.spots spot (λ k less. missed k (omega (arith, less)));
      };
      writes = Writes-wider states keeps lands
          (WritesIn (bytes_of (states s).cells) part_at difi was.selector at (length xs))
          (WritesIn (bytes_of (states s).cells) part_at difi was.selector at (length ys)) s u (Some bad)
          (λ told x below (k, y, less, rest, beside, is). (k, y, omega (arith, less), rest, beside, is)) h.writes;
      put = λ told. tt;
    }

    module _ (xs ys : List ℕ) (h : PutsInto states keeps lands part_at difi was mid at xs s t None) where
      abbrev sites : ℕ → Type 0
      sites = WritesIn (bytes_of (states s).cells) part_at difi was.selector at (length (xs ++ ys))

      first_writes : Writes states keeps lands sites s t None
      first_writes =
          Writes-wider states keeps lands
          (WritesIn (bytes_of (states s).cells) part_at difi was.selector at (length xs)) sites s t None
          (λ told x below (k, y, less, rest, beside, is).
          (k, y, omega (arith, less, length-append xs ys), rest, beside, is)) h.writes

      -- the places of the second put, where the cells were told before the first
      then_sites : IsTrue (states s).told → (x : ℕ) → x < (states s).shape.size
          → WritesIn (bytes_of (states t).cells) part_at difi mid.selector (at + length xs) (length ys) x → sites x
      then_sites told x below (k, y, less, rest, beside, is) =
          let upper = upper_stays (states s).shape part_at difi was.selector tree (states s).cells (states t).cells at
          (length xs)
          (h.writes.others told) in
          let same : other_place (bytes_of (states t).cells) part_at difi mid.selector y
          ≡ other_place (bytes_of (states s).cells) part_at difi was.selector y =
          ap (λ (c : ℕ). other_place (bytes_of (states t).cells) part_at difi c y) h.marks.selector
          ∙ place_by-upper (states s).shape part_at difi was.selector tree (bytes_of (states s).cells)
          (bytes_of (states t).cells) upper
          (λ block. true) y in
          let place : at + length xs + k ≡ at + (length xs + k) = omega arith in
          (length xs + k, y, omega (arith, less, length-append xs ys), rest, rw place at beside, is ∙ same)

      -- a put behind a put
      pub PutsInto-append : (refusal : Option Bad) → at + length xs + length ys ≤ view_size difi
          → PutsInto states keeps lands part_at difi mid now (at + length xs) ys t u refusal
          → PutsInto states keeps lands part_at difi was now at (xs ++ ys) s u refusal
      PutsInto-append refusal fits k = record {
        marks = rw (length-append xs ys) (marks_more difi at (length xs) (length ys) was mid now h.marks k.marks);
        writes = Writes-then states keeps lands join sites
            (WritesIn (bytes_of (states t).cells) part_at difi mid.selector (at + length xs) (length ys)) s t u
            refusal then_sites first_writes k.writes;
        put = λ told.
            IfDone-map refusal
            (put_more (view_size difi) (contents_state (states s) part_at difi was).cells
            (contents_state (states t) part_at difi mid).cells
            (contents_state (states u) part_at difi now).cells at xs ys fits (h.put told))
            (k.put (h.writes.space.told told));
      }

    -- the front of some bytes was put
    module _ (bytes : List ℕ) (done : ℕ) (within : done ≤ length bytes) (inside : at + length bytes ≤ view_size difi)
        (h : PutsInto states keeps lands part_at difi was mid at (take done bytes) s t None) where
      -- the bytes behind it
      abbrev rest : List ℕ
      rest = take (length bytes - done) (drop done bytes)

      pub rest_len : length rest ≡ length bytes - done
      rest_len = rw take_rest (length-drop done bytes)

      behind : (ys : List ℕ) (refusal : Option Bad) → done + length ys ≤ length bytes
          → PutsInto states keeps lands part_at difi mid now (at + done) ys t u refusal
          → PutsInto states keeps lands part_at difi was now at (take done bytes ++ ys) s u refusal
      behind ys refusal fits k =
          let len : length (take done bytes) ≡ done = length-take-le done bytes within in
          PutsInto-append (take done bytes) ys h refusal (omega (arith, len))
          (subst (λ (n : ℕ). PutsInto states keeps lands part_at difi mid now (at + n) ys t u refusal) (sym len) k)

      -- some more were put
      pub rest_put : (n : ℕ) → n ≤ length rest
          → PutsInto states keeps lands part_at difi mid now (at + done) (take n rest) t u None
          → PutsInto states keeps lands part_at difi was now at (take (done + n) bytes) s u None
      rest_put n le k =
          let len : length (take n rest) ≡ n = length-take-le n rest le in
          subst (λ (l : List ℕ). PutsInto states keeps lands part_at difi was now at l s u None)
          (sym (take-more bytes done n))
          (behind (take n rest) None (omega (arith, len, le, rest_len, within)) k)

      -- or the others were refused
      pub rest_refused : (bad : Bad) → PutsInto states keeps lands part_at difi mid now (at + done) rest t u (Some bad)
          → PutsInto states keeps lands part_at difi was now at bytes s u (Some bad)
      rest_refused bad k =
          let whole : length (take done bytes ++ rest) ≤ length bytes =
          omega (arith, length-append (take done bytes) rest, length-take-le done bytes within, rest_len, within) in
          PutsInto-longer (take done bytes ++ rest) bytes bad whole
          (behind rest (Some bad) (omega (arith, rest_len, within)) k)

-- a byte that stays has softened
softens_byte : (s : State) (at n x : ℕ) (cell new : Cell) → IsByte cell → new ≡ cell → SoftensFrom s at n x cell new
softens_byte s at n x (Byte value) new byte same = same
softens_byte s at n x (Blank part level block) new byte same = absurd byte
softens_byte s at n x (Spoilt part level block) new byte same = absurd byte

not_blank : (cell : Cell) → IsByte cell → IsBlank cell → ⊥
not_blank (Byte value) byte blank = blank
not_blank (Blank part level block) byte blank = byte
not_blank (Spoilt part level block) byte blank = byte

-- bytes that were put where all cells are bytes, as any space says it
module _ (s : State) (at : ℕ) (bytes : List ℕ) (new : ℕ → Cell) (ground : (x : ℕ) → s.bottom x ≡ x)
    (all : (x : ℕ) → IsByte (s.cells x))
    (put : IsPut s.shape.size s.cells at bytes new) where
  still_byte : (x : ℕ) → x < s.shape.size → IsByte (new x)
  still_byte x below =
      ⊎_elim
      (λ (before : x < at). subst IsByte (sym (put.others x below (λ within. omega (arith, within.0, before)))) (all x))
      (λ (from : at ≤ x).
      ⊎_elim
      (λ (inside : x < at + length bytes).
      let place : at + (x - at) ≡ x = omega arith in
      let is : new x ≡ Byte (get_or bytes (x - at) 0) = rw place at (put.range (x - at) (omega arith)) in
      subst IsByte (sym is) tt)
      (λ (behind : at + length bytes ≤ x).
      subst IsByte (sym (put.others x below (λ within. omega (arith, within.1, behind)))) (all x))
      (cases_lt x (at + length bytes)))
      (cases_lt x at)

  pub HasPut-is : HasPut s at bytes new
  HasPut-is = record {
    written = λ x k below less same.
        (let here : x ≡ at + k = sym (ground x) ∙ same ∙ ground (at + k) in
        ap new here ∙ put.range k less);
    others = λ x below missed.
        softens_byte s at (length bytes) x (s.cells x) (new x) (all x)
        (put.others x below
        (λ within.
        (let place : x ≡ at + (x - at) = omega (arith, within.0) in
        missed (x - at) (omega (arith, within.0, within.1)) (ap s.bottom place))));
    joined = λ x y in_x in_y blank same. absurd (not_blank (new x) (still_byte x in_x) blank);
  }

module _ {S : Type 0} (states : S → State) (keeps : Spot → S → S → Type 0) (lands : S → ℕ → Spot → Type 0)
    (v w : DpfsView S)
    (same : SameContents v w) (tree : HasContents (states v.base.now).shape v.part_at v.difi.now v.state.now.selector)
    (at : ℕ)
    (bytes : List ℕ) (refusal : Option Bad)
    (into : PutsInto states keeps lands v.part_at v.difi.now v.state.now w.state.now at bytes v.base.now w.base.now
    refusal) where
  -- a put into the base puts into the view
  pub view_puts : (IsTrue (states v.base.now).told → (x : ℕ) → IsByte ((states v.base.now).cells x))
      → Puts (shown_contents states v) at bytes (shown_contents states w) refusal
  view_puts all = record {
    space = record {
      shape = contents_shape states v w same into.writes.space.shape;
      faults = into.writes.space.faults;
      cause = into.writes.space.cause;
      told = λ can. into.writes.space.told can.told;
      twins = λ can. UnlessDisk-always refusal (record { bottom = λ x h. refl; is_fixed = λ x h. refl });
    };
    done = λ can.
        IfDone-map refusal
        (λ (put : IsPut (view_size v.difi.now) (shown_contents states v).cells at bytes
        (contents_state (states w.base.now) v.part_at v.difi.now w.state.now).cells).
        HasPut-is (shown_contents states v) at bytes (shown_contents states w).cells (λ x. refl) (λ x. all can.told _)
        (rw (same.same_place, same.same_difi) put))
        (into.put can.told);
    damaged = λ can. IfDamaged-never refusal _ into.writes.plain;
  }

  view_reach : ((x : ℕ) → x < (states v.base.now).shape.size
      → ¬ WritesIn (bytes_of (states v.base.now).cells) v.part_at v.difi.now v.state.now.selector at (length bytes) x
      → (states w.base.now).cells x ≡ (states v.base.now).cells x)
      → LandsAsBefore (states v.base.now).shape.size (lands v.base.now) (lands w.base.now)
      → LandsAsBefore (view_size v.difi.now) (contents_land states lands v) (contents_land states lands w)
  view_reach others as_before =
      let old = bytes_of (states v.base.now).cells in
      let new = bytes_of (states w.base.now).cells in
      let upper = upper_stays (states v.base.now).shape v.part_at v.difi.now v.state.now.selector tree
      (states v.base.now).cells
      (states w.base.now).cells at (length bytes) others in
      let there : LandsAsBefore (view_size v.difi.now) (contents_land states lands v)
      (ContentsLand new v.part_at v.difi.now v.state.now.selector (lands w.base.now)) =
      lands_by-upper (states v.base.now).shape v.part_at v.difi.now v.state.now.selector tree old new upper
      (lands v.base.now)
      (lands w.base.now) as_before in
      rw (same.same_place, same.same_difi, same.selector) there

  -- and moves what it moves
  pub view_moves : MovesOnly (ContentsKeep keeps) (contents_land states lands) (shown_contents states v) v at
      (length bytes) w refusal
  view_moves = record {
    hold = (same, tt, into.writes.hold);
    spots = λ can spot misses. (
      same,
      into.marks.spots spot (λ k less mark. misses k less (inr mark)),
      into.writes.spots can.told spot
          (λ x below (k, y, less, inside, beside, is) landed.
          misses k less (inl (y, inside, beside, subst (λ (p : ℕ). lands v.base.now p spot) is landed))),
    );
    damaged = λ can. IfDamaged-never refusal _ into.writes.plain;
    reach = λ can. UnlessDisk-both refusal _ _ _ view_reach (into.writes.others can.told) (into.writes.reach can.told);
  }
