use Rattle.std.proofs.Common.{◌↔◌, drop}
use Rattle.confluence_theory.specs.RanksFit.{RanksFit}
use Rattle.rule_label.specs.Labelled.{ranks_along}
use Rattle.rule_label.specs.FittingRanks.{FitAfter}
use Rattle.rule_label.proofs.fitting.ranks_fit.Given as goal

abbrev pub invariant-loop-step : goal.invariant-loop-step
invariant-loop-step l =
    (FitAfter l.ended l.a l.b (ranks_along l.ranks (drop l.step-index l.path))) ↔ (RanksFit l.a l.b (ranks_along l.ranks l.path))
