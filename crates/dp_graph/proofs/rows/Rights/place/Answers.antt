use Rattle.std.proofs.Common.{inl, refl, sym}
use Rattle.dp_graph.proofs.RowLaws.{right_either}
use Rattle.dp_graph.proofs.rows.Rights.place.Goals as goal

pub returns-in-Some : goal.returns-in-Some
returns-in-Some c = inl (sym c.in-Some.ensures.value, refl)

pub returns-in-None : goal.returns-in-None
returns-in-None c = right_either c.args.graph.now c.args.by_root.now c.args.m c.args.self.now c.add.new.self c.add.result c.add.ensures
