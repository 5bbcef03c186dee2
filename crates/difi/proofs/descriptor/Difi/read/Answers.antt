use Rattle.std.proofs.Common.{◌≡◌, ap, is_ok, sym, ◌∙◌, subst}
use Rattle.difi.proofs.SoundLemmas.{is_read, if_ok, ok_value}
use Rattle.difi.proofs.CompleteLemmas.{reading-sound}
use Rattle.difi.specs.Fields.{fields}
use Rattle.difi.specs.Sound.{IsSoundDifi}
use Rattle.difi.proofs.descriptor.Difi.read.Goals as goal

pub returns-clause-fields : goal.returns-clause-fields
returns-clause-fields c =
    if_ok c.checked.result (λ difi. difi ≡ fields c.args.table.now c.args.place)
    (λ difi e. (is_read c.args.table.now c.args.place c.args.size c.args.part_len difi
    (sym c.checked.ensures ∙ e)).fields)

pub returns-clause-sound : goal.returns-clause-sound
returns-clause-sound c =
    if_ok c.checked.result (λ difi. IsSoundDifi difi c.args.size c.args.part_len)
    (λ difi e. (is_read c.args.table.now c.args.place c.args.size c.args.part_len difi
    (sym c.checked.ensures ∙ e)).sound)

pub returns-clause-ok : goal.returns-clause-ok
returns-clause-ok c = (
  λ ok.
      let found = ok_value c.checked.result ok in
      let read = is_read c.args.table.now c.args.place c.args.size c.args.part_len found.0
      (sym c.checked.ensures ∙ found.1) in
      (read.descriptor, subst (λ difi. IsSoundDifi difi c.args.size c.args.part_len) read.fields read.sound),
  λ h. ap is_ok (c.checked.ensures ∙ reading-sound c.args.table.now c.args.place c.args.size c.args.part_len h.0 h.1),
)
