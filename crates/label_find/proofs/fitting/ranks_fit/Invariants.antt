use Rattle.std.proofs.Common.{◌≡◌, false, map, drop}
use Rattle.confluence_theory.specs.RuleRanks.{rank_of}
use Rattle.label_find.specs.Constraint.{fit_after}
use Rattle.label_find.proofs.fitting.ranks_fit.Given as goal

abbrev pub invariant-loop-rule : goal.invariant-loop-rule
invariant-loop-rule l =
    fit_after l.ended l.a l.b (map (rank_of l.ranks) (drop l.rule-index l.rules)) ≡ fit_after false l.a l.b (map (rank_of l.ranks) l.rules)
