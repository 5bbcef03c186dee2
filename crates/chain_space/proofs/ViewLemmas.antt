-- A space behind which a chain's blocks are shown, where its base stays or is put to.
use Rattle.std.proofs.Common.{◌≡◌, ◌≢◌, ℕ, zero, suc, ◌+◌, ◌-◌, ◌*◌, ◌/◌, ◌<◌, ◌≤◌, min, Bool, true, false, ◌&&◌, ◌||◌}
use Rattle.std.proofs.Common.{eqb, ltb, cond, IsTrue, List}
use Rattle.std.proofs.Common.{[], length, get_or, unwrap_or, Option, Some, None, Ok, refl, sym, ◌∙◌, ap, subst, arith}
use Rattle.std.proofs.Common.{⊎_elim, ◌^◌, MatchOption}
use Rattle.std.proofs.Common.{IsSomeAnd}
use Rattle.std.proofs.lemmas.Bool.{and_parts, and_from, cases_lt, cases_Bool, lt-ltb, le-ltb, le-leb, eq-eqb}
use Rattle.std.proofs.lemmas.Bool.{false≢true}
use Rattle.std.proofs.Math.Bool.{and-true}
use Rattle.std.proofs.lemmas.Nat.{mod_below}
use Rattle.std.proofs.Math.Nat.{mul-le-mul_right}
use Rattle.save_bytes.specs.declared.space.Bad.{Bad}
use Rattle.save_bytes.specs.declared.space.Bad.TheVariants.{Disk, Damaged}
use Rattle.save_bytes.specs.Cells.{Cell, IsByte}
use Rattle.save_bytes.specs.State.{State, Shape, CanPut}
use Rattle.save_bytes.specs.Refusals.{UnlessDisk, IfDone, IfDamaged}
use Rattle.save_bytes.specs.Stays.{SameTwins, SameSpace, SameCells, Stays}
use Rattle.save_bytes.specs.Puts.{HasPut, Puts}
use Rattle.save_bytes.specs.Spots.{Spot, LandsAsBefore}
use Rattle.save_bytes.specs.Reads.{Reads}
use Rattle.save_bytes.proofs.SpaceLemmas.{UnlessDisk-map, UnlessDisk-both}
use Rattle.save_bytes.proofs.WriteLemmas.{byte_stays}
use Rattle.save_bytes.proofs.ViewLemmas.{Shows, IsRun, shown_put}
use Rattle.chain_nodes.specs.declared.info.ChainInfo.{ChainInfo}
use Rattle.chain_nodes.specs.declared.info.Run.{Run}
use Rattle.chain_space.specs.declared.space.Shown.{Shown}
use Rattle.chain_nodes.specs.declared.fault.ChainFault.{ChainFault}
use Rattle.chain_nodes.specs.declared.fault.ChainFault.TheVariants.{Bad as Refused}
use Rattle.chain_nodes.specs.Faults.{FailsAt, IsBroken, FaultsOnly}
use Rattle.chain_nodes.specs.Runs.{HasLength, HasPosition, IsRunIn, IsRestOfNode}
use Rattle.chain_nodes.proofs.ExactLemmas.{linked_first, same_list}
use Rattle.chain_nodes.proofs.OwnLemmas.{list_rests}
use Rattle.chain_nodes.specs.declared.node.Lead.TheVariants.{Opens}
use Rattle.chain_nodes.specs.Table.{table_in, HasAllocationTable}
use Rattle.chain_space.specs.Bounded.{some_passes}
use Rattle.chain_space.specs.Walks.{list_in, has_length}
use Rattle.chain_space.specs.Shown.{found_list, chain_list, is_shown, block_place, is_in_table, is_kept, place_of}
use Rattle.chain_space.specs.Shown.{shown_state, ShownLands, IsLocatedRun}
use Rattle.chain_nodes.proofs.TableLemmas.{table_same}
use Rattle.chain_space.specs.ShownLaws.{CanShow, can_show-facts, with_blocks}
use Rattle.chain_space.proofs.ShownLemmas.{IsShown, found_run, shown_fault, is_shown-true, list_entry, linked-found}
use Rattle.chain_space.proofs.ShownLemmas.{block_inside, block_some}

each_below : (n : ℕ) (f g : ℕ → Bool) → ((k : ℕ) → k < n → g k ≡ f k) → some_passes n g ≡ some_passes n f
unfolding some_passes
each_below zero f g each = refl
each_below (suc n) f g each =
    let last : g n ≡ f n = each n (omega arith) in
    let rest : some_passes n g ≡ some_passes n f = each_below n f g (λ k less. each k (omega arith)) in
    rw (last, rest) refl

some_passes-same : (n m : ℕ) (f g : ℕ → Bool) → m ≡ n → ((k : ℕ) → k < n → g k ≡ f k)
    → some_passes m g ≡ some_passes n f
some_passes-same n m f g same each =
    subst (λ (l : ℕ). some_passes l g ≡ some_passes n f) (sym same) (each_below n f g each)

or_false : (x y : Bool) → (x || y) ≡ false → (x ≡ false) × (y ≡ false)
or_false true y h = absurd (false≢true (sym h))
or_false false y h = (refl, h)

some_passes-false : (n : ℕ) (test : ℕ → Bool) → some_passes n test ≡ false → (k : ℕ) → k < n → test k ≡ false
unfolding some_passes
some_passes-false zero test h k less = absurd (omega (arith, less))
some_passes-false (suc n) test h k less =
    let parts = or_false (test n) (some_passes n test) h in
    ⊎_elim
    (λ (below : k < n). some_passes-false n test parts.1 k below)
    (λ (last : n ≤ k). (let same : n ≡ k = omega arith in subst (λ (m : ℕ). test m ≡ false) same parts.0))
    (cases_lt k n)

-- a place that is not kept is no twin of one that is
kept_apart : (base : State) (info : ChainInfo) (x y : ℕ) → is_kept base info x ≡ false → y < base.shape.size
    → (base.is_fixed y || is_in_table info y) ≡ true → base.bottom y ≢ base.bottom x
unfolding is_kept
kept_apart base info x y free inside kept same =
    let none = some_passes-false base.shape.size (λ z. (base.is_fixed z || is_in_table info z) && eqb (base.bottom z)
    (base.bottom x)) free y inside in
    false≢true (sym none ∙ and_from _ _ kept (eq-eqb _ _ same))

-- a place that is not kept is not fixed in the base
free_below : (base : State) (info : ChainInfo) (x : ℕ) → is_kept base info x ≡ false → x < base.shape.size
    → base.is_fixed x ≡ false
free_below base info x free inside =
    ⊎_elim
    (λ (fixed : base.is_fixed x ≡ true). absurd (kept_apart base info x x free inside (rw fixed refl) refl))
    (λ (not_fixed : base.is_fixed x ≡ false). not_fixed)
    (cases_Bool (base.is_fixed x))

-- the same list is found, and so shown
pub record SameList (old new : State) (info : ChainInfo) (first : ℕ) : Type 0 where
  pub shape : new.shape ≡ old.shape
  pub found : found_list new info first ≡ found_list old info first

module _ (old new : State) (info : ChainInfo) (first blocks : ℕ) (same : SameList old new info first) where
  same_size : new.shape.size ≡ old.shape.size
  same_size = ap (λ (shape : Shape). shape.size) same.shape

  pub same_shown : is_shown new info first blocks ≡ is_shown old info first blocks
  unfolding is_shown
  same_shown = ap (λ (o : Option (List ℕ)). has_length blocks info.count o) same.found

  pub same_place : (x : ℕ) → place_of new info first x ≡ place_of old info first x
  unfolding place_of chain_list
  same_place x =
      ap (λ (n : ℕ). cond (ltb x n) x (block_place info (chain_list new info first) (x - n))) same_size
      ∙ ap (λ (o : Option (List ℕ)). cond (ltb x old.shape.size) x (block_place info (unwrap_or o [])
      (x - old.shape.size))) same.found

  same_kept : SameTwins old new → (x : ℕ) → x < old.shape.size → is_kept new info x ≡ is_kept old info x
  unfolding is_kept
  same_kept twins x inside =
      some_passes-same old.shape.size new.shape.size
      (λ y. (old.is_fixed y || is_in_table info y) && eqb (old.bottom y) (old.bottom x))
      (λ y. (new.is_fixed y || is_in_table info y) && eqb (new.bottom y) (new.bottom x)) same_size
      (λ y below. rw (twins.is_fixed y below, twins.bottom y below, twins.bottom x inside) refl)

-- each place that is shown lies in the base
pub place_inside : (base : State) (info : ChainInfo) (first blocks x : ℕ) → CanShow base.shape info blocks
    → IsShown base info first blocks → x < base.shape.size + blocks * info.block
    → place_of base info first x < base.shape.size
unfolding place_of
place_inside base info first blocks x room shown inside =
    ⊎_elim
    (λ (front : x < base.shape.size). rw (lt-ltb x base.shape.size front) front)
    (λ (behind : base.shape.size ≤ x).
    let at : ℕ = x - base.shape.size in
    let at_inside : at < blocks * info.block = omega arith in
    let some = block_some at blocks info.block at_inside in
    let pos = block_inside info.block some at blocks at_inside in
    let entry = list_entry (table_in base.cells info) info.count Opens first shown.list
    (at / info.block) shown.linked (omega (arith, pos, shown.enough)) in
    let e : ℕ = get_or shown.list (at / info.block) 0 in
    let whole : e - 1 + 1 ≤ info.count = omega (arith, entry.0, entry.1) in
    rw (le-ltb x base.shape.size behind, shown.is) (omega (
      arith,
      mod_below at info.block some,
      mul-le-mul_right
          info.block whole,
      room.table.region,
    )))
    (cases_lt x base.shape.size)

-- the view shows its base, where the chain is as it should be
pub view_shows : (base : State) (info : ChainInfo) (first blocks : ℕ) → CanShow base.shape info blocks
    → is_shown base info first blocks ≡ true
    → Shows base (shown_state info first blocks base) (place_of base info first)
view_shows base info first blocks room good = record {
  inside = λ x below. place_inside base info first blocks x room (is_shown-true base info first blocks good) below;
  told = rw (good, and-true) refl;
  plain = λ plain. plain;
  cells = λ x below. refl;
  bottom = λ x below. refl;
  block_start = refl;
}

-- what is told of the view is told of its base, and of its chain
pub base_told : (base : State) (info : ChainInfo) (first blocks : ℕ) → IsTrue (shown_state info first blocks base).told
    → IsTrue base.told
base_told base info first blocks told = (and_parts base.told (is_shown base info first blocks) told).0

pub chain_told : (base : State) (info : ChainInfo) (first blocks : ℕ) → IsTrue (shown_state info first blocks base).told
    → IsShown base info first blocks
chain_told base info first blocks told =
    is_shown-true base info first blocks (and_parts base.told (is_shown base info first blocks) told).1

-- the facts that a view needs of its base
pub shown_room : (base : State) (shown : Shown) → IsTrue (with_blocks shown base).shape.sound
    → CanShow base.shape shown.info shown.blocks
shown_room base shown sound = can_show-facts base.shape shown.info shown.blocks sound

-- where the view is told, a call on its chain is done, or fails for the disk's sake
module _ (base : State) (shown : Shown) (sound : IsTrue (with_blocks shown base).shape.sound) (told : IsTrue
    (with_blocks shown base).told) where
  few : shown.info.count < 2 ^ 31
  few = (shown_room base shown sound).table.few

  chain : IsShown base shown.info shown.first shown.blocks
  chain = chain_told base shown.info shown.first shown.blocks told

  pub told_first : shown.first ≤ shown.info.count
  told_first = linked_first (table_in base.cells shown.info) shown.info.count few Opens shown.first chain.list
      chain.linked

  pub told_length : (n : ℕ) → HasLength (table_in base.cells shown.info) shown.info.count Opens shown.first n
      → shown.blocks ≤ n
  told_length n len =
      let same = same_list (table_in base.cells shown.info) shown.info.count few Opens shown.first chain.list
      chain.linked len.0 len.1 in
      omega (arith, len.2, ap length same, chain.enough)

  pub told_run : (pos : ℕ) (found : Option Run) → pos < shown.blocks
      → MatchOption found (¬ HasPosition (table_in base.cells shown.info) shown.info.count Opens shown.first pos)
      (IsRestOfNode (table_in base.cells shown.info) shown.info.count Opens shown.first pos)
      → IsSomeAnd found (IsRunIn (chain_list base shown.info shown.first) pos)
  told_run pos found inside = found_run base shown.info shown.first shown.blocks pos found few chain inside

  pub told_fault : (fault : ChainFault) → FaultsOnly base shown.info
      (IsBroken (table_in base.cells shown.info) shown.info.count Opens shown.first)
      (FailsAt (table_in base.cells shown.info) shown.info.count Opens shown.first) (Some fault) → fault ≡ Refused Disk
  told_fault fault = shown_fault base shown.info shown.first shown.blocks fault few chain
      (base_told base shown.info shown.first shown.blocks told)

-- the list stays where the cells do
found_stays : (old new : State) (info : ChainInfo) (first : ℕ) → HasAllocationTable old.shape info
    → new.shape ≡ old.shape → SameCells old new
    → SameList old new info first
unfolding found_list
found_stays old new info first table shape cells = record {
  shape = shape;
  found = ap (λ (t : ℕ → ℕ → Cell). list_in t info.count info.count Opens first)
      (table_same old.cells new.cells info old.shape.size table.table cells);
}

module _ (old new : State) (info : ChainInfo) (first blocks : ℕ) (room : CanShow old.shape info blocks) where
  abbrev view : State → State
  view base = shown_state info first blocks base

  shape_stays : new.shape ≡ old.shape → (view new).shape ≡ (view old).shape
  shape_stays same = ap (λ (shape : Shape). (view (record old { shape = shape })).shape) same

  view_told : IsTrue (view old).told → IsTrue new.told → SameList old new info first → IsTrue (view new).told
  view_told told now same = and_from new.told (is_shown new info first blocks) now
      (same_shown old new info first blocks same ∙ (and_parts old.told (is_shown old info first blocks) told).1)

  view_twins : IsTrue (view old).told → SameTwins old new → SameList old new info first
      → SameTwins (view old) (view new)
  view_twins told twins same =
      let inside = λ (x : ℕ) (below : x < (view old).shape.size). place_inside old info first blocks x room
      (chain_told old info first blocks told) below in
      record {
        bottom = λ x below. rw (same_place old new info first blocks same x)
            (twins.bottom (place_of old info first x) (inside x below));
        is_fixed = λ x below. rw (same_place old new info first blocks same x)
            (same_kept old new info first blocks same twins (place_of old info first x) (inside x below));
      }

  view_cells : IsTrue (view old).told → SameCells old new → SameList old new info first
      → SameCells (view old) (view new)
  view_cells told cells same x below = rw (same_place old new info first blocks same x)
      (cells (place_of old info first x) (place_inside old info first blocks x room
      (chain_told old info first blocks told) below))

  -- what the base keeps, the view does, where its list stays
  view_space : {P Q : Type 0} (refusal : Option Bad) → (Q → P) → (Q → IsTrue (view old).told)
      → (Q → UnlessDisk refusal (SameList old new info first)) → SameSpace P old new refusal
      → SameSpace Q (view old) (view new) refusal
  view_space refusal gives told list h = record {
    shape = shape_stays h.shape;
    faults = h.faults;
    cause = h.cause;
    told = λ q. UnlessDisk-both refusal (IsTrue new.told) (SameList old new info first) (IsTrue (view new).told)
        (view_told (told q)) (h.told (gives q)) (list q);
    twins = λ q. UnlessDisk-both refusal (SameTwins old new) (SameList old new info first) (SameTwins (view old)
        (view new))
        (view_twins (told q)) (h.twins (gives q)) (list q);
  }

  reads_list : (refusal : Option Bad) → Stays old new refusal → IsTrue (view old).told
      → UnlessDisk refusal (SameList old new info first)
  reads_list refusal stays told =
      UnlessDisk-map refusal (found_stays old new info first room.table stays.space.shape)
      (stays.cells (base_told old info first blocks told))

  -- the view stays where its base does
  pub view_stays : (refusal : Option Bad) → Stays old new refusal → Stays (view old) (view new) refusal
  view_stays refusal stays = record {
    space = view_space refusal (base_told old info first blocks) (λ told. told) (reads_list refusal stays) stays.space;
    cells = λ told. UnlessDisk-both refusal (SameCells old new) (SameList old new info first) (SameCells (view old)
        (view new))
        (view_cells told) (stays.cells (base_told old info first blocks told)) (reads_list refusal stays told);
  }

module _ {A : Type 0} (states : A → State) (keeps : Spot → A → A → Type 0) (lands : A → ℕ → Spot → Type 0) (a b : A)
    (info : ChainInfo) (first blocks : ℕ) (room : CanShow (states a).shape info blocks) where
  abbrev view_of : A → State
  view_of x = shown_state info first blocks (states x)

  -- what a later put touches it would have touched before, where the list stays
  pub view_reach : (refusal : Option Bad) → IsTrue (view_of a).told
      → UnlessDisk refusal (SameList (states a) (states b) info first)
      → UnlessDisk refusal (LandsAsBefore (states a).shape.size (lands a) (lands b))
      → UnlessDisk refusal (LandsAsBefore (view_of a).shape.size (ShownLands states lands info first a)
      (ShownLands states lands info first b))
  view_reach refusal told =
      UnlessDisk-both refusal (SameList (states a) (states b) info first) (LandsAsBefore (states a).shape.size
      (lands a) (lands b))
      (LandsAsBefore (view_of a).shape.size (ShownLands states lands info first a)
      (ShownLands states lands info first b))
      (λ same before x below spot lands_b. before (place_of (states a) info first x)
      (place_inside (states a) info first blocks x room (chain_told (states a) info first blocks told) below) spot
      (subst (λ (p : ℕ). lands b p spot) (same_place (states a) (states b) info first blocks same x) lands_b))

  -- a call that reads in the base reads in the view
  pub view_reads : (refusal : Option Bad) → Reads states keeps lands a b refusal
      → Reads view_of keeps (ShownLands states lands info first) a b refusal
  view_reads refusal h = record {
    stays = view_stays (states a) (states b) info first blocks room refusal h.stays;
    frame = h.frame;
    sectors = h.sectors;
    spots = λ told. h.spots (base_told (states a) info first blocks told);
    reach = λ told. view_reach refusal told (reads_list (states a)
        (states b) info first blocks room refusal h.stays told)
        (h.reach (base_told (states a) info first blocks told));
  }

-- A put into the base, where the view may be written.

or_true : (x y : Bool) → y ≡ true → (x || y) ≡ true
or_true true y h = refl
or_true false y h = h

module _ (old new : State) (info : ChainInfo) (first blocks at most place n : ℕ) (room : CanShow old.shape info blocks)
    (run : IsLocatedRun old info first blocks at most (Ok (place, n))) (bytes : List ℕ) (len : length bytes ≡ n) where
  abbrev shown : State → State
  shown base = shown_state info first blocks base

  -- it may be made in the base
  pub can_below : CanPut (shown old) at n → CanPut old place n
  can_below can = record {
    told = base_told old info first blocks can.told;
    apart = λ j k in_j in_k same. can.apart j k in_j in_k
        (ap old.bottom (run.places can.told j in_j) ∙ same ∙ sym (ap old.bottom (run.places can.told k in_k)));
    free = λ k less. free_below old info (place + k)
        (subst (λ (x : ℕ). is_kept old info x ≡ false) (run.places can.told k less) (can.free k less))
        (omega (arith, less, run.in_base));
  }

  -- a byte of the table stays
  table_stays_put : CanPut (shown old) at n → HasPut old place bytes new.cells → (entry k : ℕ)
      → IsByte (table_in old.cells info entry k) → table_in new.cells info entry k ≡ table_in old.cells info entry k
  unfolding table_in
  table_stays_put can put entry k is =
      let t : ℕ = info.table_at + 8 * min entry info.count + min k 7 in
      let inside : t < old.shape.size = omega (arith, room.table.table) in
      let in_table : is_in_table info t ≡ true = and_from _ _ (le-leb info.table_at t (omega arith))
      (lt-ltb t (info.table_at + 8 * (info.count + 1)) (omega arith)) in
      let kept : (old.is_fixed t || is_in_table info t) ≡ true = or_true (old.is_fixed t)
      (is_in_table info t) in_table in
      let missed : (j : ℕ) → j < length bytes → old.bottom t ≢ old.bottom (place + j) = λ j less same.
      (let here : j < n = omega (arith, less, len) in
      kept_apart old info (place_of old info first (at + j)) t (can.free j here) inside kept
      (same ∙ ap old.bottom (sym (run.places can.told j here)))) in
      byte_stays old place (length bytes) t (old.cells t) (new.cells t) is (put.others t inside missed)

  pub put_list : CanPut (shown old) at n → (refusal : Option Bad) → Puts old place bytes new refusal
      → UnlessDisk refusal (SameList old new info first)
  put_list can None puts =
      let chain = chain_told old info first blocks can.told in
      let put = puts.done (subst (λ (m : ℕ). CanPut old place m) (sym len) (can_below can)) in
      record {
        shape = puts.space.shape;
        found = linked-found new info first chain.list room.table.few
            (list_rests (table_in old.cells info) (table_in new.cells info) info.count Opens first chain.list
            (λ entry within k small. table_stays_put can put entry k) chain.linked) chain.few ∙ sym chain.found;
      }
  put_list can (Some Disk) puts = tt
  put_list can (Some (Damaged part level block)) puts =
      found_stays old new info first room.table puts.space.shape
      (puts.damaged (subst (λ (m : ℕ). CanPut old place m) (sym len) (can_below can)))

  can_here : CanPut (shown old) at (length bytes) → CanPut (shown old) at n
  can_here can = subst (λ (m : ℕ). CanPut (shown old) at m) len can

  can_there : CanPut (shown old) at (length bytes) → CanPut old place (length bytes)
  can_there can = subst (λ (m : ℕ). CanPut old place m) (sym len) (can_below (can_here can))

  first_place : IsTrue (shown old).told → place_of old info first at ≡ place
  first_place told =
      let here : at + 0 ≡ at = omega arith in
      let there : place + 0 ≡ place = omega arith in
      subst (λ (x : ℕ). place_of old info first x ≡ place) here (run.places told 0 run.some ∙ there)

  put_done : CanPut (shown old) at (length bytes) → (refusal : Option Bad) → Puts old place bytes new refusal
      → IfDone refusal (HasPut (shown old) at bytes (shown new).cells)
  put_done can None puts =
      let same = put_list (can_here can) None puts in
      let good = (and_parts old.told (is_shown old info first blocks) can.told).1 in
      let side : IsRun (place_of old info first) at (length bytes) = λ k less.
      run.places can.told k (omega (arith, less, len)) ∙ ap (λ (p : ℕ). p + k) (sym (first_place can.told)) in
      shown_put old (shown old) (place_of old info first) at bytes new.cells (shown new).cells
      (view_shows old info first blocks room good) (omega (arith, len, run.inside)) side
      (λ x below. ap new.cells (same_place old new info first blocks same x)) (rw (first_place can.told) (puts.done
      (can_there can)))
  put_done can (Some bad) puts = tt

  put_damaged : CanPut (shown old) at (length bytes) → (refusal : Option Bad) → Puts old place bytes new refusal
      → IfDamaged refusal (λ part level block. SameCells (shown old) (shown new))
  put_damaged can None puts = tt
  put_damaged can (Some Disk) puts = tt
  put_damaged can (Some (Damaged part level block)) puts =
      view_cells old new info first blocks room can.told (puts.damaged (can_there can))
      (put_list (can_here can) (Some (Damaged part level block)) puts)

  -- what is put into the base is put into the view
  pub view_puts : (refusal : Option Bad) → Puts old place bytes new refusal
      → Puts (shown old) at bytes (shown new) refusal
  view_puts refusal puts = record {
    space = view_space old new info first blocks room refusal can_there (λ can. can.told)
        (λ can. put_list (can_here can) refusal puts) puts.space;
    done = λ can. put_done can refusal puts;
    damaged = λ can. put_damaged can refusal puts;
  }
