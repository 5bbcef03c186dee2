-- The laws of a space, of one that shows a chain.
use Rattle.std.specs.Prelude.{◌≡◌, ℕ, ◌+◌, ◌*◌, ◌^◌, ◌<◌, true, false, IsTrue}
use Rattle.std.proofs.Common.{ap, ◌∙◌, sym}
use Rattle.std.proofs.lemmas.Bool.{and_parts, ltb-true, leb-true, eqb-true, false≢true}
use Rattle.save_bytes.specs.State.{Shape, State, HasNoTwins}
use Rattle.chain_nodes.specs.declared.info.ChainInfo.{ChainInfo}
use Rattle.chain_space.specs.declared.space.Shown.{Shown}
use Rattle.chain_nodes.specs.Table.{HasAllocationTable}
use Rattle.chain_space.specs.Shown.{can_show, shown_state}

-- what a contract sees of a space with some blocks behind it
abbrev pub with_blocks : Shown → State → State
with_blocks shown base = shown_state shown.info shown.first shown.blocks base

-- the test on what a space is shown over, as facts
pub record CanShow (base : Shape) (info : ChainInfo) (blocks : ℕ) : Type 0 where
  pub table : HasAllocationTable base info
  pub fits : base.size + blocks * info.block < 2 ^ 64

pub can_show-facts : (base : Shape) (info : ChainInfo) (blocks : ℕ) → can_show base info blocks ≡ true
    → CanShow base info blocks
unfolding can_show
can_show-facts base info blocks h =
    let a = and_parts _ _ h in
    let b = and_parts _ _ a.1 in
    let c = and_parts _ _ b.1 in
    let d = and_parts _ _ c.1 in
    let e = and_parts _ _ d.1 in
    record {
      table = record {
        sound = a.0;
        first = eqb-true _ _ b.0;
        few = ltb-true _ _ c.0;
        table = leb-true _ _ d.0;
        region = leb-true _ _ e.0;
      };
      fits = ltb-true _ _ e.1;
    }

pub shown_size_fits : (shown : Shown) (base : State) → IsTrue (with_blocks shown base).shape.sound
    → base.shape.size + shown.blocks * shown.info.block < 2 ^ 64
shown_size_fits shown base h = (can_show-facts base.shape shown.info shown.blocks h).fits

-- the base tells its cells where the view does
pub shown_told : (shown : Shown) (base : State) → IsTrue (with_blocks shown base).told → IsTrue base.told
shown_told shown base h = let parts = and_parts _ _ h in parts.0

pub shown_twins : (shown : Shown) (base : State) → true ≡ false → HasNoTwins (with_blocks shown base)
shown_twins shown base h = absurd (false≢true (sym h))

pub shown_shape : (shown other : Shown) (old new : State) → other ≡ shown → new.shape ≡ old.shape
    → (with_blocks other new).shape ≡ (with_blocks shown old).shape
shown_shape shown other old new same shape =
    ap (λ (s : Shown). (with_blocks s new).shape) same
    ∙ ap (λ (s : Shape). (with_blocks shown (record old { shape = s })).shape) shape
