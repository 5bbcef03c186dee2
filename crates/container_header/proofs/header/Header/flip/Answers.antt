use Rattle.std.proofs.Common.{◌≡◌, ◌<◌, length, arith, sym, subst, ap, ◌∙◌}
use Rattle.container_header.specs.declared.header.Header.{Header}
use Rattle.container_header.specs.Sound.{active_at, inactive_at, IsSoundHeader}
use Rattle.container_header.specs.Raw.{IsOfRaw}
use Rattle.container_header.proofs.Soundness.{sound-flipped, active_at-flipped, inactive_at-flipped}
use Rattle.container_header.proofs.Flips.{flip_bytes, places_fit, flipped-of_raw}
use Rattle.container_header.proofs.header.Header.flip.Goals as goal

pub returns-clause-flipped : goal.returns-clause-flipped
returns-clause-flipped c =
    let header = c.args.self.now in
    let at = c.active_place.result in
    let place = c.hash_place-hash_place.result in
    let fit = places_fit header.kind in
    let inside : at < length header.raw = omega arith in
    let size : length c.args.hash.now ≡ 32 = omega arith in
    let bytes = flip_bytes header.raw c.args.hash.now c.copy_from_slice.new.self at place c.other_table-active.result
    inside size c.copy_from_slice.ensures.after in
    let by_at = c.active_place.ensures in
    let by_place = c.hash_place-hash_place.ensures in
    let by_active = c.other_table-active.ensures in
    cc

pub returns-clause-of_raw : goal.returns-clause-of_raw
returns-clause-of_raw c = λ h.
    let size : length c.args.hash.now ≡ 32 = omega arith in
    subst IsOfRaw (sym (returns-clause-flipped c)) (flipped-of_raw c.args.self.now c.args.hash.now size h)

pub returns-clause-sound : goal.returns-clause-sound
returns-clause-sound c = λ len s. subst (λ (header : Header). IsSoundHeader header len) (sym (returns-clause-flipped c))
    (sound-flipped c.args.self.now c.args.hash.now len s)

pub returns-clause-active : goal.returns-clause-active
returns-clause-active c = ap active_at (returns-clause-flipped c) ∙ active_at-flipped c.args.self.now c.args.hash.now

pub returns-clause-inactive : goal.returns-clause-inactive
returns-clause-inactive c = ap inactive_at (returns-clause-flipped c)
    ∙ inactive_at-flipped c.args.self.now c.args.hash.now
