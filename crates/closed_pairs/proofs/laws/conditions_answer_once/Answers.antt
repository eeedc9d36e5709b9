use Rattle.closed_pairs.proofs.OneAnswers.{newman_once, parallel_once, strong_once, joins_once, parallel_steps_once, strong_joins_once}
use Rattle.closed_pairs.proofs.laws.conditions_answer_once.Goals as goal

pub returns : goal.returns
returns c = record {
  joins = newman_once c.peaks_are_listed_once.ensures;
  parallel = parallel_once c.peaks_are_listed_once.ensures;
  strong = strong_once c.peaks_are_listed_once.ensures;
  given_joins = joins_once;
  given_parallel = parallel_steps_once;
  given_strong = strong_joins_once;
}
