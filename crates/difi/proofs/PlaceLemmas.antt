-- Laws of blocks.
use Rattle.std.proofs.Common.{ℕ, ◌+◌, ◌*◌, ◌/◌, ◌^◌, ◌<◌, ◌≤◌, arith}
use Rattle.std.specs.Int.{div_ceil}
use Rattle.std.proofs.Math.Nat.{mul-le-mul_right}
use Rattle.std.proofs.lemmas.Nat.{pow_pos, div_below}
use Rattle.std.proofs.lemmas.Grind.{div_ceil_times}

-- a place of a level lies in one of its blocks
pub block_below : (x size log : ℕ) → x < size → x / 2 ^ log < div_ceil size (2 ^ log)
block_below x size log h =
    let bound = div_ceil_times size (2 ^ log) (pow_pos log) in
    div_below x (2 ^ log) (div_ceil size (2 ^ log)) (pow_pos log) (omega (arith, bound.0))

-- a block of a level begins in it
pub block_begins : (block size log : ℕ) → block < div_ceil size (2 ^ log) → block * 2 ^ log < size
block_begins block size log h =
    let bound = div_ceil_times size (2 ^ log) (pow_pos log) in
    let blocks = div_ceil size (2 ^ log) in
    let next : (block + 1) * 2 ^ log ≤ blocks * 2 ^ log = mul-le-mul_right {m = block + 1} (2 ^ log) (omega (arith, h))
    in
    omega (arith, bound.1, next)
