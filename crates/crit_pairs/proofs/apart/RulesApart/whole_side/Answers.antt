use Rattle.crit_pairs.proofs.WholeLaws.{side_read}
use Rattle.crit_pairs.proofs.apart.RulesApart.whole_side.Goals as goal

pub returns-in-Some : goal.returns-in-Some
returns-in-Some c =
    rw (← c.self.view_is) (side_read c.self.inside.by_root.rules c.self.inside.whole_sides.items c.deref.result.now c.args.i c.get.result c.in-Some.side c.as_ref.result
    c.self.invariant.1.1.0 c.deref.ensures.value c.get.ensures.lookup c.in-Some.is c.as_ref.ensures.value)
