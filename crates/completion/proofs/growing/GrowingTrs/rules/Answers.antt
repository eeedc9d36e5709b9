use Rattle.std.proofs.Common.{subst}
use Rattle.trs_defs.specs.System.{System}
use Rattle.trs_core.specs.SystemLimits.{HaveSmallVariables}
use Rattle.completion.proofs.growing.GrowingTrs.rules.Goals as goal

pub returns-clause-variables : goal.returns-clause-variables
returns-clause-variables c =
    let S : System → Type 0 = λ s. HaveSmallVariables s.rules in
    subst S c.self.view_is c.self.invariant.variables
