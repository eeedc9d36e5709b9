use Rattle.dp_core.proofs.Conclusions.{subterm_concludes, subterm_once, subterm_leaves}
use Rattle.dp_core.proofs.laws.subterm_steps_conclude.Goals as goal

pub returns : goal.returns
returns c = record {
  conclude = subterm_concludes c.dependency_pairs_suffice.ensures.pairs c.subterm_criterion.ensures.finite;
  once = subterm_once;
  numbers = subterm_leaves;
}
