use Rattle.std.proofs.Common.{◌≡◌, Some, length, refl, arith, slice_get}
use Rattle.std.proofs.lemmas.Option.{slice_get_read}
use Rattle.conf_find.proofs.SharedCapLaws.{as_many, node_read}
use Rattle.conf_find.proofs.shared_caps.SharedCaps.node.Goals.{After-index}
use Rattle.conf_find.proofs.shared_caps.SharedCaps.node.Goals as goal

pub index-requires : goal.index-requires
index-requires c =
    let same = as_many c.self.inside.nodes.items c.args.self.now c.self.invariant c.self.view_is in
    omega (arith, c.requires, same)

read : (c : After-index) → slice_get c.self.inside.nodes.items c.args.k ≡ Some c.index.result.now
read c =
    let same = as_many c.self.inside.nodes.items c.args.self.now c.self.invariant c.self.view_is in
    slice_get_read c.self.inside.nodes.items (length c.self.inside.nodes.items) c.args.k c.index.result.now refl (omega (arith, c.requires, same)) c.index.ensures

pub returns-clause-is : goal.returns-clause-is
returns-clause-is c =
    node_read c.self.inside.nodes.items c.args.self.now c.self.invariant c.self.view_is c.args.k c.index.result.now (read (goal.at.returns-clause-is c).After-index)

pub returns-clause-over : goal.returns-clause-over
returns-clause-over c = c.self.invariant.over c.args.k c.index.result.now (read (goal.at.returns-clause-over c).After-index)
