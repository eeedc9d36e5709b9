use Rattle.std.proofs.Common.{◌∙◌, sym}
use Rattle.trs_core.specs.View.{tree}
use Rattle.closed_pairs.proofs.crit_pairs.GroundRights.{no_variable}
use Rattle.join_find.proofs.root_rule.is_ground.Goals as goal

pub returns-in-None : goal.returns-in-None
returns-in-None c = λ _. no_variable (tree c.args.t.now) (sym c.least_variable-least.ensures ∙ c.in-None.is)
