-- Tests of all numbers below a bound.
use Rattle.std.specs.Prelude.{ℕ, zero, suc, Bool, true, false, ◌&&◌, ◌||◌}

-- the test passes for each number below n
unfoldable pub each_passes : ℕ → (ℕ → Bool) → Bool
each_passes zero test = true
each_passes (suc n) test = test n && each_passes n test

-- the test passes for some number below n
unfoldable pub some_passes : ℕ → (ℕ → Bool) → Bool
some_passes zero test = false
some_passes (suc n) test = test n || some_passes n test
