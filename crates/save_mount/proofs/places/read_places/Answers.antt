use Rattle.std.proofs.Common.{◌≡◌, sym, ap, ◌∙◌, ℕ, ◌+◌, true, nat_lt, ◌||◌, subst, arith}
use Rattle.std.proofs.Common.{inr, ◌≤◌}
use Rattle.save_bytes.proofs.CallLemmas.{reads_then}
use Rattle.container_header.specs.Conditions.{first_failing}
use Rattle.tree_layout.specs.Headers.{HasHeader}
use Rattle.tree_rules.specs.Information.{header_len, information_len, front_len, information_in}
use Rattle.tree_rules.specs.declared.information.Information.{Information}
use Rattle.tree_rules.specs.Layout.{passes_end, place_faults}
use Rattle.save_mount.proofs.PlaceLemmas.{information_place, misplaced, place_fails, information_later, bytes_later, front_small}
use Rattle.save_mount.proofs.places.read_places.Goals as goal

pub returns-then-is_misplaced-clause-cause : goal.returns-then-is_misplaced-clause-cause
returns-then-is_misplaced-clause-cause g c told =
    let cells = (g.S.Space.state c.args.store.now).cells in
    let size = (g.S.Space.state c.args.store.now).shape.size in
    let header = c.in-Ok.ensures.found told in
    inr (
      subst (λ (n : ℕ). HasHeader c.args.kind size cells n) header.place header,
      λ t. misplaced c.args.kind c.args.split size (information_in cells) t
          (rw (information_place cells, sym header.place)
          (subst (λ (f : ℕ). (nat_lt c.in-Ok.at header_len || passes_end f c.in-Ok.at information_len) ≡ true)
          (c.front_len-front.ensures ∙ ap (front_len c.args.split) (c.len-size.ensures c.requires.sound))
          (sym c.if-is_misplaced.ensures.is))),
    )

pub returns-in-None-clause-placed : goal.returns-in-None-clause-placed
returns-in-None-clause-placed g c told =
    let old = g.S.Space.state c.args.store.now in
    let header = c.in-Ok.ensures.found told in
    let stays = c.in-Ok.ensures.reads.stays in
    let size_is = c.len-size.ensures c.requires.sound in
    let front = c.front_len-front.ensures ∙ ap (front_len c.args.split) size_is in
    let inside : c.in-Ok.at + information_len ≤ old.shape.size =
    omega (
      arith,
      c.is_misplaced.ensures.fits c.if-is_misplaced.false,
      front,
      front_small c.args.split old.shape.size c.requires.inside,
    ) in
    let info = information_later old (g.S.Space.state c.find_information.new.store) stays told c.in-Ok.at header.place
    inside c.in-Ok-read_information.info (c.in-Ok-read_information.ensures.information (stays.space.told told)) in
    record {
      header = subst (λ (n : ℕ). HasHeader c.args.kind old.shape.size old.cells n) header.place header;
      info_is = info;
      read = bytes_later old (g.S.Space.state c.find_information.new.store) stays told c.in-Ok.at header.place inside
          (c.in-Ok-read_information.ensures.read.done (stays.space.told told));
      faultless = sym (c.in-None.ensures
          ∙ ap (λ (n : ℕ). first_failing 1 (place_faults c.args.kind c.args.split n c.in-Ok-read_information.info)) size_is
          ∙ ap (λ (i : Information). first_failing 1 (place_faults c.args.kind c.args.split old.shape.size i)) info);
    }

pub returns-in-None-clause-reads : goal.returns-in-None-clause-reads
returns-in-None-clause-reads g c =
    reads_then g.met.S.Space.keeps_join c.in-Ok.ensures.reads c.in-Ok-read_information.ensures.reads

pub returns-in-Some-clause-cause : goal.returns-in-Some-clause-cause
returns-in-Some-clause-cause g c told =
    let old = g.S.Space.state c.args.store.now in
    let header = c.in-Ok.ensures.found told in
    let stays = c.in-Ok.ensures.reads.stays in
    let size_is = c.len-size.ensures c.requires.sound in
    let front = c.front_len-front.ensures ∙ ap (front_len c.args.split) size_is in
    let inside : c.in-Ok.at + information_len ≤ old.shape.size =
    omega (
      arith,
      c.is_misplaced.ensures.fits c.if-is_misplaced.false,
      front,
      front_small c.args.split old.shape.size c.requires.inside,
    ) in
    let info = information_later old (g.S.Space.state c.find_information.new.store) stays told c.in-Ok.at header.place
    inside c.in-Ok-read_information.info (c.in-Ok-read_information.ensures.information (stays.space.told told)) in
    inr (
      subst (λ (n : ℕ). HasHeader c.args.kind old.shape.size old.cells n) header.place header,
      λ t. place_fails c.args.kind c.args.split old.shape.size (information_in old.cells) t
          c.in-Some.condition (sym (c.in-Some.ensures
          ∙ ap (λ (n : ℕ). first_failing 1 (place_faults c.args.kind c.args.split n c.in-Ok-read_information.info)) size_is
          ∙ ap (λ (i : Information). first_failing 1 (place_faults c.args.kind c.args.split old.shape.size i)) info)),
    )

pub returns-in-Some-clause-reads : goal.returns-in-Some-clause-reads
returns-in-Some-clause-reads g c =
    reads_then g.met.S.Space.keeps_join c.in-Ok.ensures.reads c.in-Ok-read_information.ensures.reads
