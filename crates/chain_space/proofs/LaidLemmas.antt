-- A space behind which some of its blocks lie once more, where its base stays or is put to.
use Rattle.std.proofs.Common.{◌≡◌, ℕ, ◌+◌, ◌-◌, ◌*◌, ◌/◌, ◌%◌, ◌<◌, ◌≤◌, min, true, false, eqb, ltb, length, get_or}
use Rattle.std.proofs.Common.{List, take, Option, Some, Result, Ok, Err, refl, sym, ◌∙◌, ap, subst, arith, ⊎_elim}
use Rattle.std.specs.Borrow.{Bor}
use Rattle.std.proofs.lemmas.Bool.{and_parts, and_from, cases_lt, lt-ltb, le-ltb, le-leb, eq-eqb, eqb-true, leb-true}
use Rattle.std.proofs.lemmas.Bool.{ltb-true}
use Rattle.std.proofs.lemmas.List.{length-take-le}
use Rattle.std.proofs.lemmas.Nat.{mod_below, div-add-mod'}
use Rattle.std.proofs.Math.Nat.{div-eq_of_lt, mod-eq_of_lt, mul-le-mul_right}
use Rattle.save_bytes.specs.declared.space.Bad.{Bad}
use Rattle.save_bytes.specs.State.{State, Shape, CanPut}
use Rattle.save_bytes.specs.declared.space.Bad.TheVariants.{Disk, Damaged}
use Rattle.save_bytes.specs.Cells.{AreBytesAt, Blames}
use Rattle.save_bytes.specs.Answers.{IsReady, IsPiece}
use Rattle.save_bytes.specs.Refusals.{UnlessDisk, NeverDamaged}
use Rattle.save_bytes.specs.Stays.{SameTwins, SameSpace, SameCells, Stays}
use Rattle.save_bytes.specs.Puts.{HasPut, Puts}
use Rattle.save_bytes.specs.Spots.{Spot, LandsAsBefore, MovesOnly}
use Rattle.save_bytes.specs.Reads.{Reads}
use Rattle.save_bytes.specs.Within.{MaySoften, ChangesWithin}
use Rattle.save_bytes.proofs.WithinLemmas.{ChangesWithin-put}
use Rattle.save_bytes.proofs.SpaceLemmas.{UnlessDisk-map, IfDone-map, IfDamaged-map}
use Rattle.save_bytes.proofs.JoinLemmas.{CanPut-front, Puts-refused, MovesOnly-longer}
use Rattle.save_bytes.proofs.PutLemmas.{AreUnspoilt, IsReady-unspoilt}
use Rattle.save_bytes.proofs.ViewLemmas.{Shows, IsRun, shown_ready, shown_put}
use Rattle.chain_space.specs.Bounded.{each_passes}
use Rattle.chain_space.specs.Laid.{Extra, laid_place, is_inside, can_lay, laid_shape, laid_state, LaidLands, LieIn}
use Rattle.chain_space.specs.Laid.{CanLay, IsLaidRun, IsLaidSite}
use Rattle.chain_space.proofs.ShownLemmas.{block_inside, block_some, step_div, step_mod}
use Rattle.chain_space.proofs.WalkLemmas.{each_passes-true, true-each_passes}

-- within a block
same_block : (block at k : ℕ) → 0 < block → at % block + k < block → (at + k) / block ≡ at / block
same_block block at k some less =
    let none : (at % block + k) / block ≡ 0 = div-eq_of_lt less in
    omega (arith, step_div block some at k, none)

block_rest : (block at k : ℕ) → 0 < block → at % block + k < block → (at + k) % block ≡ at % block + k
block_rest block at k some less = step_mod block some at k ∙ mod-eq_of_lt less

module _ (extra : Extra) where
  pub can_lay-facts : (base : Shape) → can_lay extra base ≡ true → CanLay extra base
  unfolding can_lay
  can_lay-facts base h =
      let a = and_parts base.sound _ h in
      let b = and_parts (eqb base.first 0) _ a.1 in
      let c = and_parts (each_passes (length extra.blocks) (is_inside extra base.size)) _ b.1 in
      record {
        sound = a.0;
        first = eqb-true _ _ b.0;
        lie = record {
          inside = λ k less. leb-true _ _ (each_passes-true (length extra.blocks)
              (is_inside extra base.size) c.0 k less);
          fits = ltb-true _ _ c.1;
        };
      }

  pub true-can_lay : (base : Shape) → CanLay extra base → can_lay extra base ≡ true
  unfolding can_lay
  true-can_lay base room =
      and_from _ _ room.sound (and_from _ _ (eq-eqb _ _ room.first)
      (and_from _ _ (true-each_passes (length extra.blocks) (is_inside extra base.size) (λ k less. le-leb _ _
      (room.lie.inside k less)))
      (lt-ltb _ _ room.lie.fits)))

  -- the bytes of a block behind the base lie in the base
  pub laid_inside : (base : Shape) (x : ℕ) → CanLay extra base → x < base.size + length extra.blocks * extra.block
      → laid_place extra base.size x < base.size
  unfolding laid_place
  laid_inside base x room inside =
      ⊎_elim
      (λ (front : x < base.size). rw (lt-ltb x base.size front) front)
      (λ (behind : base.size ≤ x).
      let at : ℕ = x - base.size in
      let at_inside : at < length extra.blocks * extra.block = omega arith in
      let some = block_some at (length extra.blocks) extra.block at_inside in
      let whole = room.lie.inside (at / extra.block) (block_inside extra.block some at
      (length extra.blocks) at_inside) in
      rw (le-ltb x base.size behind) (omega (arith, mod_below at extra.block some, whole)))
      (cases_lt x base.size)

  -- a place of the base is its own
  pub laid_front : (size x : ℕ) → x < size → laid_place extra size x ≡ x
  unfolding laid_place
  laid_front size x front = rw (lt-ltb x size front) refl

  -- the bytes of a block lie side by side
  pub laid_behind : (size at k : ℕ) → size ≤ at → 0 < extra.block → (at - size) % extra.block + k < extra.block
      → laid_place extra size (at + k)
      ≡ extra.region_at + get_or extra.blocks ((at - size) / extra.block) 0 * extra.block +
      (at - size) % extra.block + k
  unfolding laid_place
  laid_behind size at k behind some less =
      let far : ltb (at + k) size ≡ true → ⊥ = λ h. omega (arith, ltb-true (at + k) size h) in
      let there : at + k - size ≡ at - size + k = omega arith in
      rw (
        le-ltb (at + k) size (omega arith),
        there,
        same_block extra.block (at - size) k some less,
        block_rest extra.block (at - size) k some less,
      ) (omega arith)

module _ (extra : Extra) (old new : State) (room : CanLay extra old.shape) where
  abbrev view : State → State
  view = laid_state extra

  module _ (same : new.shape ≡ old.shape) where
    pub same_place : (x : ℕ) → laid_place extra new.shape.size x ≡ laid_place extra old.shape.size x
    same_place x = ap (λ (s : Shape). laid_place extra s.size x) same

    laid_twins : SameTwins old new → SameTwins (view old) (view new)
    laid_twins twins = record {
      bottom = λ x below. rw (same_place x) (twins.bottom (laid_place extra old.shape.size x)
          (laid_inside extra old.shape x room below));
      is_fixed = λ x below. rw (same_place x)
          (twins.is_fixed (laid_place extra old.shape.size x) (laid_inside extra old.shape x room below));
    }

    pub laid_cells : SameCells old new → SameCells (view old) (view new)
    laid_cells cells x below = rw (same_place x) (cells (laid_place extra old.shape.size x)
        (laid_inside extra old.shape x room below))

  -- what the base keeps, the view does
  pub laid_space : {P Q : Type 0} (refusal : Option Bad) → (Q → P) → SameSpace P old new refusal
      → SameSpace Q (view old) (view new) refusal
  laid_space refusal gives h = record {
    shape = ap (laid_shape extra) h.shape;
    faults = h.faults;
    cause = h.cause;
    told = λ q. h.told (gives q);
    twins = λ q. UnlessDisk-map refusal (laid_twins h.shape) (h.twins (gives q));
  }

  pub laid_stays : (refusal : Option Bad) → Stays old new refusal → Stays (view old) (view new) refusal
  laid_stays refusal stays = record {
    space = laid_space refusal (λ told. told) stays.space;
    cells = λ told. UnlessDisk-map refusal (laid_cells stays.space.shape) (stays.cells told);
  }

-- the view shows its base
pub laid_shows : (extra : Extra) (base : State) → CanLay extra base.shape
    → Shows base (laid_state extra base) (laid_place extra base.shape.size)
laid_shows extra base room = record {
  inside = λ x below. laid_inside extra base.shape x room below;
  told = refl;
  plain = λ plain. plain;
  cells = λ x below. refl;
  bottom = λ x below. refl;
  block_start = refl;
}

-- a run of the base, in the view
module _ (extra : Extra) (size at most place n : ℕ) (run : IsLaidRun extra size at most (place, n)) where
  pub run_first : laid_place extra size at ≡ place
  run_first =
      let here : at + 0 ≡ at = omega arith in
      let there : place + 0 ≡ place = omega arith in
      subst (λ (x : ℕ). laid_place extra size x ≡ place) here (run.places 0 run.some ∙ there)

  pub run_side : IsRun (laid_place extra size) at n
  run_side k less = run.places k less ∙ ap (λ (p : ℕ). p + k) (sym run_first)

-- the numbers of a run behind the base
module _ (extra : Extra) (size at : ℕ) (lie : LieIn extra size) (behind : size ≤ at)
    (inside : at < size + length extra.blocks * extra.block) where
  at_inside : at - size < length extra.blocks * extra.block
  at_inside = omega arith

  pub some_bytes : 0 < extra.block
  some_bytes = block_some (at - size) (length extra.blocks) extra.block at_inside

  pub number_inside : (at - size) / extra.block < length extra.blocks
  number_inside = block_inside extra.block some_bytes (at - size) (length extra.blocks) at_inside

  pub skipped_less : (at - size) % extra.block < extra.block
  skipped_less = mod_below (at - size) extra.block some_bytes

  pub block_fits : extra.region_at + get_or extra.blocks ((at - size) / extra.block) 0 * extra.block + extra.block ≤
      size
  block_fits =
      let whole = lie.inside ((at - size) / extra.block) number_inside in
      omega (arith, whole)

  pub behind_run : (most : ℕ) → 1 ≤ most → IsLaidRun extra size at most (
    extra.region_at + get_or extra.blocks ((at - size) / extra.block) 0 * extra.block + (at - size) % extra.block,
    min most (extra.block - (at - size) % extra.block),
  )
  behind_run most some =
      let whole : (at - size) / extra.block * extra.block + extra.block ≤ length extra.blocks * extra.block =
      omega (arith, mul-le-mul_right extra.block number_inside) in
      record {
        some = omega (arith, skipped_less, some);
        bounded = omega arith;
        inside = omega (arith, whole, div-add-mod' (at - size) extra.block, behind);
        in_base = omega (arith, block_fits, skipped_less);
        places = λ k less. laid_behind extra size at k behind some_bytes (omega (arith, less, skipped_less));
      }

-- what a call answers of a run of the base, it answers of the view
pub laid_ready : (extra : Extra) (base : State) → CanLay extra base.shape → (at most place n : ℕ) (refusal : Option Bad)
    → IsLaidRun extra base.shape.size at most (place, n) → IsReady base place n refusal
    → IsReady (laid_state extra base) at n refusal
laid_ready extra base room at most place n refusal run h =
    shown_ready base (laid_state extra base) (laid_place extra base.shape.size)
    (laid_shows extra base room) at n run.inside
    (run_side extra base.shape.size at most place n run) refusal
    (subst (λ (p : ℕ). IsReady base p n refusal) (sym (run_first extra base.shape.size at most place n run)) h)

module _ {A : Type 0} (states : A → State) (keeps : Spot → A → A → Type 0) (lands : A → ℕ → Spot
    → Type 0) (extra : Extra) (a b : A)
    (room : CanLay extra (states a).shape) where
  -- what a later put touches it would have touched before
  pub laid_reach : (refusal : Option Bad) → (states b).shape ≡ (states a).shape
      → UnlessDisk refusal (LandsAsBefore (states a).shape.size (lands a) (lands b))
      → UnlessDisk refusal (LandsAsBefore (laid_shape extra (states a).shape).size (LaidLands states lands extra a)
      (LaidLands states lands extra b))
  laid_reach refusal same =
      UnlessDisk-map refusal (λ (before : LandsAsBefore (states a).shape.size (lands a)
      (lands b)). λ x below spot lands_b.
      before (laid_place extra (states a).shape.size x) (laid_inside extra (states a).shape x room below) spot
      (subst (λ (p : ℕ). lands b p spot) (same_place extra (states a) (states b) room same x) lands_b))

  -- a call that reads in the base reads in the view
  pub laid_reads : (refusal : Option Bad) → Reads states keeps lands a b refusal
      → Reads (λ (x : A). laid_state extra (states x)) keeps (LaidLands states lands extra) a b refusal
  laid_reads refusal h = record {
    stays = laid_stays extra (states a) (states b) room refusal h.stays;
    frame = h.frame;
    sectors = h.sectors;
    spots = h.spots;
    reach = λ told. laid_reach refusal h.stays.space.shape (h.reach told);
  }

  -- and one that reads in the view has read in the base
  module _ (same : (states b).shape ≡ (states a).shape) where
    back_cells : SameCells (laid_state extra (states a)) (laid_state extra (states b)) → SameCells (states a) (states b)
    back_cells cells x below =
        let size : (states b).shape.size ≡ (states a).shape.size = ap (λ (s : Shape). s.size) same in
        ap (states b).cells (sym (laid_front extra (states b).shape.size x (omega (arith, size, below)))) ∙ cells x
        (omega (arith, below))
        ∙ ap (states a).cells (laid_front extra (states a).shape.size x below)

    back_twins : SameTwins (laid_state extra (states a)) (laid_state extra (states b)) → SameTwins (states a) (states b)
    back_twins twins =
        let size : (states b).shape.size ≡ (states a).shape.size = ap (λ (s : Shape). s.size) same in
        record {
          bottom = λ x below.
              ap (states b).bottom (sym (laid_front extra (states b).shape.size x (omega (arith, size, below))))
              ∙ twins.bottom x (omega (arith, below)) ∙ ap (states a).bottom (laid_front extra
              (states a).shape.size x below);
          is_fixed = λ x below.
              ap (states b).is_fixed (sym (laid_front extra (states b).shape.size x (omega (arith, size, below))))
              ∙ twins.is_fixed x (omega (arith, below)) ∙ ap (states a).is_fixed (laid_front extra
              (states a).shape.size x below);
        }

    back_reach : LandsAsBefore (laid_shape extra (states a).shape).size (LaidLands states lands extra a)
        (LaidLands states lands extra b)
        → LandsAsBefore (states a).shape.size (lands a) (lands b)
    back_reach before x below spot lands_b =
        let size : (states b).shape.size ≡ (states a).shape.size = ap (λ (s : Shape). s.size) same in
        subst (λ (p : ℕ). lands a p spot) (laid_front extra (states a).shape.size x below)
        (before x (omega (arith, below)) spot
        (subst (λ (p : ℕ). lands b p spot) (sym (laid_front extra (states b).shape.size x (omega
        (arith, size, below)))) lands_b))

    pub laid_back : (refusal : Option Bad)
        → Reads (λ (x : A). laid_state extra (states x)) keeps (LaidLands states lands extra) a b refusal
        → Reads states keeps lands a b refusal
    laid_back refusal h = record {
      stays = record {
        space = record {
          shape = same;
          faults = h.stays.space.faults;
          cause = h.stays.space.cause;
          told = h.stays.space.told;
          twins = λ told. UnlessDisk-map refusal back_twins (h.stays.space.twins told);
        };
        cells = λ told. UnlessDisk-map refusal back_cells (h.stays.cells told);
      };
      frame = h.frame;
      sectors = h.sectors;
      spots = h.spots;
      reach = λ told. UnlessDisk-map refusal back_reach (h.reach told);
    }

-- a put of the front of some bytes into the base
module _ {A : Type 0} (states : A → State) (keeps : Spot → A → A → Type 0) (lands : A → ℕ → Spot → Type 0)
    (join : (spot : Spot) (s t u : A) → keeps spot s t → keeps spot t u → keeps spot s u) (extra : Extra) (a b : A)
    (at : ℕ) (all : List ℕ) (place n : ℕ) (room : CanLay extra (states a).shape)
    (run : IsLaidRun extra (states a).shape.size at (length all) (place, n)) where
  abbrev shown : A → State
  shown x = laid_state extra (states x)

  len : length (take n all) ≡ n
  len = length-take-le n all run.bounded

  -- it may be made there
  can_base : CanPut (shown a) at n → CanPut (states a) place (length (take n all))
  can_base can = subst (λ (m : ℕ). CanPut (states a) place m) (sym len) (record {
    told = can.told;
    apart = λ j k in_j in_k same. can.apart j k in_j in_k
        (ap (states a).bottom (run.places j in_j) ∙ same ∙ sym (ap (states a).bottom (run.places k in_k)));
    free = λ k less. subst (λ (x : ℕ). (states a).is_fixed x ≡ false) (run.places k less) (can.free k less);
  })

  can_front : CanPut (shown a) at (length (take n all)) → CanPut (states a) place (length (take n all))
  can_front can = can_base (subst (λ (m : ℕ). CanPut (shown a) at m) len can)

  -- puts them into the view
  pub run_puts : (refusal : Option Bad) → Puts (states a) place (take n all) (states b) refusal
      → Puts (shown a) at (take n all) (shown b) refusal
  run_puts refusal puts =
      let side : IsRun (laid_place extra (states a).shape.size) at (length (take n all)) = λ k less.
      run_side extra (states a).shape.size at (length all) place n run k (omega (arith, less, len)) in
      record {
        space = laid_space extra (states a) (states b) room refusal can_front puts.space;
        done = λ can. IfDone-map refusal (λ (put : HasPut (states a) place (take n all) (states b).cells).
            shown_put (states a) (shown a) (laid_place extra (states a).shape.size) at (take n all) (states b).cells
            (shown b).cells
            (laid_shows extra (states a) room) (omega (arith, len, run.inside)) side
            (λ x below. ap (states b).cells (same_place extra (states a) (states b) room puts.space.shape x))
            (subst (λ (p : ℕ). HasPut (states a) p (take n all) (states b).cells)
            (sym (run_first extra (states a).shape.size at (length all) place n run)) put)) (puts.done (can_front can));
        damaged = λ can. IfDamaged-map refusal (λ part level block cells.
            laid_cells extra (states a) (states b) room puts.space.shape cells) (puts.damaged (can_front can));
      }

  pub run_refused : (bad : Bad) → Puts (states a) place (take n all) (states b) (Some bad)
      → Puts (shown a) at all (shown b) (Some bad)
  run_refused bad puts =
      Puts-refused (shown a) (shown b) at (take n all) all bad (omega (arith, len, run.bounded)) (run_puts
      (Some bad) puts)

  -- touches in the view what it touches
  pub run_moves : (refusal : Option Bad) → Puts (states a) place (take n all) (states b) refusal
      → MovesOnly keeps lands (states a) a place (length (take n all)) b refusal
      → MovesOnly keeps (LaidLands states lands extra) (shown a) a at n b refusal
  run_moves refusal puts moves = record {
    hold = moves.hold;
    spots = λ can spot misses. moves.spots (can_base can) spot (λ k less lands_k.
        (let here : k < n = omega (arith, less, len) in
        misses k here (subst (λ (x : ℕ). lands a x spot) (sym (run.places k here)) lands_k)));
    damaged = λ can. moves.damaged (can_base can);
    reach = λ can. laid_reach states keeps lands extra a b room refusal puts.space.shape (moves.reach (can_base can));
  }

  pub moves_refused : (bad : Bad) → Puts (states a) place (take n all) (states b) (Some bad)
      → MovesOnly keeps lands (states a) a place (length (take n all)) b (Some bad)
      → MovesOnly keeps (LaidLands states lands extra) (shown a) a at (length all) b (Some bad)
  moves_refused bad puts moves =
      MovesOnly-longer shown keeps (LaidLands states lands extra) join a b at n (length all) (Some bad) run.bounded
      (run_moves (Some bad) puts moves)

  -- and is not refused where no cell is spoilt
  pub run_never : (refusal : Option Bad)
      → (CanPut (states a) place (length (take n all)) → IsReady (states a) place (length (take n all)) refusal)
      → CanPut (shown a) at (length all) → AreUnspoilt (shown a) at (length all) → NeverDamaged refusal
  run_never refusal ready can ok =
      let there = subst (λ (l : ℕ). IsReady (states a) place l refusal) len
      (ready (can_base (CanPut-front (shown a) at (length all) n run.bounded can))) in
      IsReady-unspoilt (shown a) at n refusal (laid_ready extra (states a) room at
      (length all) place n refusal run there) can.told
      (λ k less. ok k (omega (arith, less, run.bounded)))

-- a piece of the base, as one of the view
module _ (extra : Extra) (base : State) (at most place n : ℕ) (run : IsLaidRun extra base.shape.size at most
    (place, n)) where
  laid_bytes : (bytes : List ℕ) → length bytes ≤ n → AreBytesAt base.cells place bytes
      → AreBytesAt (laid_state extra base).cells at bytes
  laid_bytes bytes bounded are k less = ap base.cells (run.places k (omega (arith, less, bounded))) ∙ are k less

  pub laid_piece : (result : Result (Bor (List ℕ)) Bad) → IsPiece base place n result
      → IsPiece (laid_state extra base) at most result
  laid_piece (Ok piece) h = record {
    some = h.some;
    bounded = omega (arith, h.bounded, run.bounded);
    inside = omega (arith, h.bounded, run.inside);
    bytes = λ told. laid_bytes piece.now h.bounded (h.bytes told);
    damaged = λ told. tt;
    plain = λ plain. tt;
  }
  laid_piece (Err Disk) h =
      record { some = tt; bounded = tt; inside = tt; bytes = λ told. tt; damaged = λ told. tt; plain = λ plain. tt }
  laid_piece (Err (Damaged part level block)) h = record {
    some = tt;
    bounded = tt;
    inside = tt;
    bytes = λ told. tt;
    damaged = λ told. subst (λ (p : ℕ). Blames (base.cells p) part level block)
        (sym (run_first extra base.shape.size at most place n run)) (h.damaged told);
    plain = h.plain;
  }

-- what a put into the view changes in the base
pub laid_changes : (extra : Extra) (old new : State) → CanLay extra old.shape → new.shape ≡ old.shape → (at : ℕ)
    (bytes : List ℕ) → at + length bytes ≤ (laid_shape extra old.shape).size
    → HasPut (laid_state extra old) at bytes (laid_state extra new).cells
    → ChangesWithin old (IsLaidSite extra old.shape.size at (length bytes)) new.cells
laid_changes extra old new room same at bytes fits put x inside out =
    let size : new.shape.size ≡ old.shape.size = ap (λ (s : Shape). s.size) same in
    let here : laid_place extra old.shape.size x ≡ x = laid_front extra old.shape.size x inside in
    let there : laid_place extra new.shape.size x ≡ x =
    laid_front extra new.shape.size x (omega (arith, size, inside)) in
    let soft = ChangesWithin-put (laid_state extra old) at bytes (laid_state extra new).cells fits put x
    (omega (arith, inside)) (λ (y, below, written, twin).
    (let place : at + (y - at) ≡ y = omega (arith, written.0) in
    out (
      laid_place extra old.shape.size y,
      laid_inside extra old.shape y room below,
      (y - at, omega (arith, written.0, written.1), ap (laid_place extra old.shape.size) place),
      ap old.bottom (sym here) ∙ twin,
    ))) in
    subst (λ (p : ℕ). MaySoften (old.cells x) (new.cells p)) there
    (subst (λ (p : ℕ). MaySoften (old.cells p) (new.cells (laid_place extra new.shape.size x))) here soft)
