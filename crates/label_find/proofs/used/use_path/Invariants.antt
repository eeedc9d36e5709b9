use Rattle.std.proofs.Common.{take}
use Rattle.label_find.specs.LabelRow.{rules_along}
use Rattle.label_find.specs.Lists.{IsWith}
use Rattle.label_find.proofs.used.use_path.Given as goal

abbrev pub invariant-loop-step : goal.invariant-loop-step
invariant-loop-step l = IsWith l.fn.used.items (rules_along (take l.step-index l.path)) l.used.items
