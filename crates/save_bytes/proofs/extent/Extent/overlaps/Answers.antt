use Rattle.std.proofs.Common.{◌≡◌, nat_lt, sym, ◌∙◌}
use Rattle.save_bytes.specs.Extents.{overlap}
use Rattle.save_bytes.proofs.ExtentLemmas.{shared, overlap-shared, apart, overlap-apart}
use Rattle.save_bytes.proofs.extent.Extent.overlaps.Goals as goal

is_overlap : (c : goal.After-min) → nat_lt c.from.result c.min.result ≡ overlap c.args.self.now c.args.other.now
is_overlap c = cc

pub returns-clause-shared : goal.returns-clause-shared
returns-clause-shared c = (
  λ h. shared c.args.self.now c.args.other.now (sym (is_overlap c) ∙ h),
  λ h. is_overlap c ∙ overlap-shared c.args.self.now c.args.other.now h.0 h.1 h.2,
)

pub returns-clause-apart : goal.returns-clause-apart
returns-clause-apart c = (
  λ h. apart c.args.self.now c.args.other.now (sym (is_overlap c) ∙ h),
  λ h. is_overlap c ∙ overlap-apart c.args.self.now c.args.other.now h,
)
