use Rattle.std.proofs.Common.{arith, ◌∙◌}
use Rattle.completion.proofs.GrowingLaws.{last_single}
use Rattle.completion.proofs.growing.GrowingTrs.into_trs.Goals as goal

pub returns-in-Some : goal.returns-in-Some
returns-in-Some c =
    let inside = c.self.inside in
    last_single inside.arities.items inside.rules.items inside.singles.items c.pop.new.self.items c.in-Some.single c.self.invariant.each_single
    (omega (arith, c.len.ensures, c.if-len-eq1.true, inside.singles.ok.0)) c.in-Some.ensures.items
    ∙ c.self.view_is
