-- The laws of a space, of one behind which some of its blocks lie once more.
use Rattle.std.specs.Prelude.{◌≡◌, ◌+◌, ◌*◌, ◌^◌, ◌<◌, true, ◌==◌, length}
use Rattle.std.proofs.Common.{ap, ◌∙◌}
use Rattle.std.proofs.lemmas.Bool.{and_parts, ltb-true}
use Rattle.save_bytes.specs.State.{Shape, State}
use Rattle.chain_space.specs.Bounded.{each_passes}
use Rattle.chain_space.specs.Laid.{Extra, is_inside, can_lay, laid_shape, laid_state}

pub laid_size_fits : (extra : Extra) (base : Shape) → can_lay extra base ≡ true
    → base.size + length extra.blocks * extra.block < 2 ^ 64
unfolding can_lay
laid_size_fits extra base h =
    let a = and_parts base.sound _ h in
    let b = and_parts (base.first == 0) _ a.1 in
    let c = and_parts (each_passes (length extra.blocks) (is_inside extra base.size)) _ b.1 in
    ltb-true _ _ c.1

pub laid_shape-same : (extra other : Extra) (old new : State) → other ≡ extra → new.shape ≡ old.shape
    → (laid_state other new).shape ≡ (laid_state extra old).shape
laid_shape-same extra other old new same shape =
    ap (λ (e : Extra). laid_shape e new.shape) same ∙ ap (laid_shape extra) shape
