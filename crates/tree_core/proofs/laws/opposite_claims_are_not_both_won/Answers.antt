use Rattle.std.proofs.Common.{subst}
use Rattle.trs_defs.specs.System.{System}
use Rattle.tree_state.specs.cert_step.Opposites.{opposite}
use Rattle.tree_state.specs.cert_step.ProofProblem.{Says}
use Rattle.tree_state.proofs.cert_step.Opposites.{claims_exclude}
use Rattle.tree_core.proofs.laws.opposite_claims_are_not_both_won.Goals as goal

pub returns : goal.returns
returns c = λ claim won other_won.
    claims_exclude c.args.tree.now.system claim (c.won_claims_are_true.ensures claim won)
    (subst (λ (s : System). Says s (opposite claim)) c.requires (c.won_claims_are_true-2.ensures (opposite claim) other_won))
