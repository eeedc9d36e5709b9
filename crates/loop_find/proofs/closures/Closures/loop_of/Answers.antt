use Rattle.trs_core.specs.View.{tree}
use Rattle.term_pool.proofs.NarrowLaws.{narrow_of_well_formed}
use Rattle.loop_find.proofs.LinkLists.{fit_sides}
use Rattle.loop_find.proofs.closures.Closures.loop_of.Goals as goal

pub returns-then-not-may_loop : goal.returns-then-not-may_loop
returns-then-not-may_loop c = λ cl e p h. c.may_loop.ensures c.if-not-may_loop.true cl p e h.returns.recurs

pub loop_through-requires-clause-narrow : goal.loop_through-requires-clause-narrow
loop_through-requires-clause-narrow c =
    let fit = fit_sides c.args.trs.now.arities c.args.self.now c.requires.sound c.args.number c.requires.there (tree c.in_ok-sides.sides.left) (tree c.in_ok-sides.sides.right) c.in_ok-sides.ensures in
    narrow_of_well_formed c.args.trs.now.arities c.requires.arities (tree c.in_ok-sides.sides.right) fit.1.well_formed
