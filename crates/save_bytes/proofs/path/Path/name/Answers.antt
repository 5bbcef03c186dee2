use Rattle.std.proofs.Common.{◌<◌, ℕ, List, ap, arith, length, map, [], subst}
use Rattle.std.proofs.lemmas.List.{get_or-map, length-map}
use Rattle.save_bytes.specs.declared.name.Name.{Name}
use Rattle.save_bytes.specs.Paths.{IsName}
use Rattle.save_bytes.proofs.path.Path.name.Goals as goal

bytes_in : Name → List ℕ
bytes_in name = name.0

pub returns-clause-named : goal.returns-clause-named
unfolding bytes_in
returns-clause-named c =
    let items : List Name = c.self.inside.names.items in
    let few : c.args.i < length (map bytes_in items) = omega (arith, ap length c.self.view_is, c.requires) in
    let within : c.args.i < length items = rw length-map at few in
    rw c.deref.ensures.0 (subst IsName (get_or-map bytes_in items c.args.i (record { 0 = [] }) [] within)
    (c.self.invariant.named c.args.i [] few))
