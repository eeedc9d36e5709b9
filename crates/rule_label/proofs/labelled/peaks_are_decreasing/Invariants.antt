use Rattle.std.proofs.Common.{zip}
use Rattle.rewrite_core.proofs.Items.{Passed}
use Rattle.rule_label.specs.Labelled.{joins_decreasing}
use Rattle.rule_label.proofs.labelled.peaks_are_decreasing.Given as goal

abbrev pub invariant-loop-n : goal.invariant-loop-n
invariant-loop-n g l = Passed (λ n item. joins_decreasing l.trs.rules l.ranks n item.0 item.1) (zip l.peaks l.joins) l.n
