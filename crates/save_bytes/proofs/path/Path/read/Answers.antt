use Rattle.std.proofs.Common.{sym, ◌∙◌}
use Rattle.save_bytes.proofs.PathLemmas.{path_is, path_from-text}
use Rattle.save_bytes.proofs.PathFaultLemmas.{first_fault, fault_from}
use Rattle.save_bytes.proofs.path.Path.read.Goals as goal

pub returns-clause-ok : goal.returns-clause-ok
returns-clause-ok c = λ names. (
  λ h. path_is c.args.text.now names (sym c.read_path.ensures ∙ h),
  λ text. c.read_path.ensures ∙ path_from-text names c.args.text.now text,
)

pub returns-clause-err : goal.returns-clause-err
returns-clause-err c = λ fault. (
  λ h. first_fault c.args.text.now fault (sym c.read_path.ensures ∙ h),
  λ first. c.read_path.ensures ∙ fault_from c.args.text.now fault first,
)
