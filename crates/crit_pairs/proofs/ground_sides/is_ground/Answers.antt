use Rattle.std.proofs.Common.{◌∙◌, sym, refl}
use Rattle.trs_core.specs.View.{tree}
use Rattle.crit_pairs.proofs.GroundRights.{no_variable, none_least}
use Rattle.crit_pairs.proofs.ground_sides.is_ground.Goals as goal

pub returns-in-Some : goal.returns-in-Some
returns-in-Some c = (λ e. absurd cc, λ h. absurd (none_least (tree c.args.t.now) c.least_variable-least.result _ c.least_variable-least.ensures c.in-Some.is h))

pub returns-in-None : goal.returns-in-None
returns-in-None c = (λ e. no_variable (tree c.args.t.now) (sym c.least_variable-least.ensures ∙ c.in-None.is), λ h. refl)
