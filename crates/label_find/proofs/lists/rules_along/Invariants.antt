use Rattle.std.proofs.Common.{◌≡◌, take}
use Rattle.label_find.specs.LabelRow.{rules_along}
use Rattle.label_find.proofs.lists.rules_along.Given as goal

abbrev pub invariant-loop-step : goal.invariant-loop-step
invariant-loop-step l = l.rules.items ≡ rules_along (take l.step-index l.path)
