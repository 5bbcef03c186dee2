use Rattle.std.proofs.Common.{sym, ◌∙◌, ap, Ok}
use Rattle.save_bytes.specs.declared.extent.Extent.{Extent}
use Rattle.difi.specs.declared.descriptor.Difi.{Difi}
use Rattle.container.proofs.PartLemmas.{fields_place, reading_at, sound_at}
use Rattle.container.proofs.table.open_part.Goals as goal

pub returns-in-Ok-open-clause-part : goal.returns-in-Ok-open-clause-part
returns-in-Ok-open-clause-part c =
    let read = c.in-Ok.ensures in
    let made = c.in-Ok-open.ensures in
    record {
      part_of = record {
        number_is = made.number;
        place = made.place ∙ ap (λ (e : Extent). e.at) c.partition-partition.ensures;
        in_table = ap (λ (d : Difi). d.place) (made.descriptor ∙ read.fields)
            ∙ fields_place c.args.table.now c.descriptor-place.result.at ∙ ap (λ (e : Extent). e.at)
            c.descriptor-place.ensures;
        sound = sound_at c.in-Ok.difi c.in-Ok-open.part.difi c.args.header.now c.args.number c.descriptor-place.result
            c.partition-partition.result made.descriptor c.descriptor-place.ensures c.partition-partition.ensures
            read.sound;
        contents = rw made.descriptor made.untouched.made;
        hashes = rw made.descriptor made.made;
      };
      descriptor = sym (reading_at c.args.table.now c.args.header.now c.args.number c.descriptor-place.result
          c.partition-partition.result c.descriptor-place.ensures c.partition-partition.ensures) ∙ sym read.exact
          ∙ ap (λ (d : Difi). Ok d) (sym made.descriptor);
      untouched = record { contents = rw made.descriptor made.untouched; hashes = made.unmarked };
    }
