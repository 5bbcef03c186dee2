use Rattle.std.proofs.Common.{◌≡◌, ◌+◌, Result, Ok, Err, IfOk, refl, sym, subst, arith}
use Rattle.save_bytes.specs.Memory.{memory_shape}
use Rattle.difi.specs.declared.descriptor.Difi.{Difi}
use Rattle.save_bytes.specs.Extents.{AreApart}
use Rattle.difi.specs.Sound.{HasSoundLevels, difi_part}
use Rattle.dpfs_tree.specs.Marks.{IsFreshContents}
use Rattle.ivfc_tree.specs.Marks.{IsMadeFor}
use Rattle.part_store.specs.declared.part.Part.{Part}
use Rattle.part_store.specs.Parts.{CanViewPart}
use Rattle.part_store.proofs.tests.open.Goals as goal

-- what is needed of a descriptor
record IsLone (difi : Difi) : Type 0 where
  levels : HasSoundLevels difi 106496
  apart : AreApart difi_part difi.master
  place : difi.place ≡ 0
  master : difi.master.at + difi.master.size ≡ 300

can_view_part : (part : Part) → part.at ≡ 4096 → IsLone part.difi → IsFreshContents part.difi part.dpfs
    → IsMadeFor part.difi part.ivfc → CanViewPart (memory_shape 110592 512) part 300
can_view_part part at lone fresh made = record {
  contents = record {
    sound = refl;
    plain = refl;
    single = refl;
    partition = record { first = omega (arith); part_len = 106496; inside = omega (arith, at); levels = lone.levels };
    made = fresh.made;
  };
  difi = omega (arith, lone.place);
  master = omega (arith, lone.place, lone.master);
  apart = lone.apart;
  made = made;
}

can_view_part_opened : {E : Type 0} (difi : Difi) (r : Result Part E) → IsLone difi → IfOk r (λ part. part.at ≡ 4096)
    → IfOk r (λ part. part.difi ≡ difi) → IfOk r (λ part. IsFreshContents difi part.dpfs)
    → IfOk r (λ part. IsMadeFor difi part.ivfc) → IfOk r (λ part. CanViewPart (memory_shape 110592 512) part 300)
can_view_part_opened difi (Err e) lone at same fresh made = tt
can_view_part_opened difi (Ok part) lone at same fresh made =
    can_view_part part at (subst IsLone (sym same) lone) (subst (λ difi. IsFreshContents difi part.dpfs) (sym same) fresh)
    (subst (λ difi. IsMadeFor difi part.ivfc) (sym same) made)

pub returns-clause-view : goal.returns-clause-view
returns-clause-view c =
    can_view_part_opened c.lone.result c.open.result
    (record { levels = c.lone.ensures.levels; apart = c.lone.ensures.apart; place = c.lone.ensures.place; master = c.lone.ensures.master })
    c.open.ensures.place c.open.ensures.descriptor c.open.ensures.untouched c.open.ensures.made
