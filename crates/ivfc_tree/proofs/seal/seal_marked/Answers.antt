use Rattle.std.proofs.Common.{◌≡◌, true, sym, ◌∙◌}
use Rattle.std.specs.Result.{result_err}
use Rattle.save_bytes.proofs.SpaceLemmas.{IfDone-map}
use Rattle.save_bytes.proofs.WriteLemmas.{Writes-wider}
use Rattle.ivfc_tree.specs.Marks.{is_marked}
use Rattle.ivfc_tree.specs.Seals.{IsInEntry, MarkedEntry}
use Rattle.ivfc_tree.proofs.seal.seal_marked.Goals as goal

pub returns-clause-seals : goal.returns-clause-seals
returns-clause-seals g c =
    let space = g.S.Space in
    let mark : is_marked c.args.state.now c.args.level c.args.block ≡ true = sym c.is_marked.ensures ∙
    c.if-not-is_marked.false in
    let sealed = c.seal_block.ensures in
    record {
      entry = λ told. IfDone-map (result_err c.seal_block.result) (λ is. λ marked. is) (sealed.entry told);
      writes = Writes-wider space.state space.keeps space.lands (IsInEntry c.args.difi.now c.args.level c.args.block)
          (MarkedEntry c.args.difi.now (is_marked c.args.state.now) c.args.level c.args.block) c.args.base.now
          c.seal_block.new.base (result_err c.seal_block.result)
          (λ told x inside entry. (record { there = c.requires.there; is_marked = mark }, entry)) sealed.writes;
      master_hash = record {
        same_len = sealed.master.same_len;
        others = λ x out. sealed.master.others x (λ entry. out (
          record {
            there = c.requires.there;
            is_marked =
                mark;
          },
          entry,
        ));
      };
    }
