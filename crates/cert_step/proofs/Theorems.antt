-- The theorems on which steps of proofs rest.
use Rattle.std.specs.Prelude.{map}
use Rattle.confluence_theory.proofs.CriticalCover.{covered}
use Rattle.confluence_theory.proofs.ParallelPaths.{parallel_path}
use Rattle.confluence_theory.proofs.FollowedPaths.{numbered_path}
use Rattle.confluence_theory.proofs.Claims.{joined, parallel_closed, strongly_closed, decreasing}
use Rattle.pair_theory.proofs.PairList.{listed_are_pairs}
use Rattle.pair_theory.proofs.Problems.{listed_theorem}
use Rattle.pair_theory.proofs.Projections.{criterion_theorem}
use Rattle.dp_graph.specs.dp_core.Laws.{AllPairsConclude, SubtermStepsConclude}
use Rattle.dp_graph.proofs.dp_core.Conclusions.{all_conclude, subterm_concludes}
use Rattle.rule_label.specs.crit_pairs.PlainPeak.{plain}
use Rattle.rule_label.specs.crit_pairs.Laws.{ListedPeaksCover}
use Rattle.rule_label.proofs.crit_pairs.Covering.{has_all}
use Rattle.rule_label.specs.closed_pairs.Laws.{JoinedPeaksConclude, ParallelClosedPeaksConclude, StronglyClosedPeaksConclude}
use Rattle.rule_label.proofs.closed_pairs.Conclusions.{joined_concludes, parallel_concludes, strong_concludes}
use Rattle.rule_label.specs.Laws.{DecreasingPeaksConclude}
use Rattle.rule_label.proofs.Decreasing.{decreasing_concludes}

peaks_cover : ListedPeaksCover
peaks_cover system peaks valid all = covered system (map plain peaks) valid (has_all system peaks all)

pub joined_peaks : JoinedPeaksConclude
joined_peaks = joined_concludes joined peaks_cover

pub parallel_closed_peaks : ParallelClosedPeaksConclude
parallel_closed_peaks = parallel_concludes parallel_closed parallel_path peaks_cover

pub strongly_closed_peaks : StronglyClosedPeaksConclude
strongly_closed_peaks = strong_concludes strongly_closed peaks_cover

pub decreasing_peaks : DecreasingPeaksConclude
decreasing_peaks = decreasing_concludes numbered_path decreasing peaks_cover

pub all_pairs : AllPairsConclude
all_pairs = all_conclude listed_theorem

pub subterm_steps : SubtermStepsConclude
subterm_steps = subterm_concludes listed_are_pairs (λ system pairs stays place ok good class. criterion_theorem system ok pairs stays good place class)
