use Rattle.std.proofs.Common.{◌≡◌, ℕ, ◌+◌, ◌-◌, ◌<◌, min, refl, subst, arith}
use Rattle.std.proofs.lemmas.Bool.{lt-ltb}
use Rattle.chain_space.specs.Shown.{place_of}
use Rattle.save_bytes.specs.State.{State}
use Rattle.chain_nodes.specs.declared.info.ChainInfo.{ChainInfo}
use Rattle.chain_space.proofs.ViewLemmas.{shown_room}
use Rattle.chain_space.proofs.space.locate.Goals as goal

place_front : (base : State) (info : ChainInfo) (first x : ℕ) → x < base.shape.size → place_of base info first x ≡ x
unfolding place_of
place_front base info first x inside = rw (lt-ltb x base.shape.size inside) refl

pub returns-then-at-size-clause-located : goal.returns-then-at-size-clause-located
returns-then-at-size-clause-located g c =
    let base = g.S.Space.state c.args.base.now in
    let size = c.len-size.ensures (shown_room (g.S.Space.state c.args.base.now) c.args.shown
    c.requires.inside.sound).table.sound in
    let run : c.min.result ≡ min c.args.most (base.shape.size - c.args.at) = rw size at c.min.ensures in
    record {
      some = omega (arith, run, size);
      bounded = omega (arith, run);
      inside = omega (arith, run, size);
      in_base = omega (arith, run, size);
      places = λ told k less. place_front base c.args.shown.info c.args.shown.first (c.args.at + k) (omega
          (arith, run, size, less));
      plain = tt;
    }

pub locate_behind-requires-clause-inside : goal.locate_behind-requires-clause-inside
locate_behind-requires-clause-inside g c =
    let size = c.len-size.ensures (shown_room (g.S.Space.state c.args.base.now) c.args.shown
    c.requires.inside.sound).table.sound in
    omega (arith, size, c.requires.inside.inside)

pub overflow_sub-rest-2 : goal.overflow_sub-rest-2
overflow_sub-rest-2 g c =
    let size = c.len-size.ensures (shown_room (g.S.Space.state c.args.base.now) c.args.shown
    c.requires.inside.sound).table.sound in
    omega (arith, size, c.requires.inside.inside, c.shown_len.ensures)

pub returns-clause-located : goal.returns-clause-located
returns-clause-located g c =
    let base = g.S.Space.state c.args.base.now in
    let size = c.len-size.ensures (shown_room (g.S.Space.state c.args.base.now) c.args.shown
    c.requires.inside.sound).table.sound in
    let run = c.in-Ok.ensures in
    record {
      some = omega (
        arith,
        run.some,
        c.min-2.ensures,
        c.min-3.ensures,
        size,
        c.requires.inside.inside,
        c.shown_len.ensures,
      );
      bounded = omega (arith, c.min-2.ensures, c.min-3.ensures);
      inside = omega (arith, c.min-3.ensures, size, c.shown_len.ensures);
      in_base = omega (arith, run.in_base, c.min-2.ensures, c.min-3.ensures);
      places = λ told k less.
          (let there = run.places told k (omega (arith, less, c.min-2.ensures, c.min-3.ensures)) in
          let at : base.shape.size + (c.args.at - c.len-size.result) + k ≡ c.args.at + k = omega (arith, size) in
          subst (λ (x : ℕ). place_of base c.args.shown.info c.args.shown.first x ≡ c.in-Ok.run'.0 + k) at there);
      plain = tt;
    }
