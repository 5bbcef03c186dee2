use Rattle.std.proofs.Common.{None, take}
use Rattle.save_bytes.specs.Reads.{Reads}
use Rattle.entry_tables.specs.Tables.{tables_in}
use Rattle.entry_tables.specs.Rules.{IsOrderly}
use Rattle.tree_paths.specs.Causes.{TellsTables}
use Rattle.tree_paths.proofs.DescentLemmas.{HasDescended}
use Rattle.tree_paths.proofs.descent.find_path.Given as goal

abbrev pub invariant-loop-i : goal.invariant-loop-i
invariant-loop-i g l =
    let old = g.S.Space.state l.fn.space in
    let t = tables_in old.cells l.dirs l.files in
    record {
      reads : Reads g.S.Space.state g.S.Space.keeps g.S.Space.lands l.fn.space l.space None;
      descended : TellsTables old l.dirs l.files → IsOrderly t → HasDescended t (take l.i l.path) l.parent l.dir;
    }
