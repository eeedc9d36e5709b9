use Rattle.std.proofs.Common.{subst, ◌∙◌}
use Rattle.trs_defs.specs.System.{System}
use Rattle.trs_core.specs.SystemLimits.{HaveSmallVariables}
use Rattle.crit_pairs.proofs.apart.RulesApart.rules.Goals as goal

pub returns-clause-small : goal.returns-clause-small
returns-clause-small c =
    let S : System → Type 0 = λ s. HaveSmallVariables s.rules in
    subst S (c.trs.ensures ∙ c.self.view_is) c.rules.ensures.variables
