use Rattle.std.proofs.Common.{refl}
use Rattle.entry_tables.specs.Hash.{name_hash}
use Rattle.entry_tables.proofs.hash.bucket.Goals as goal

pub returns-clause-number : goal.returns-clause-number
unfolding name_hash
returns-clause-number c =
    rw (
      c.rotate_right-4.ensures,
      c.u32_at-4.ensures,
      c.rotate_right-3.ensures,
      c.u32_at-3.ensures,
      c.rotate_right-2.ensures,
      c.u32_at-2.ensures,
      c.rotate_right.ensures,
      c.u32_at.ensures,
    ) refl
