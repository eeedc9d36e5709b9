use Rattle.std.proofs.Common.{◌≡◌, ◌∷◌, take}
use Rattle.conf_find.proofs.forks.behind.Given as goal

abbrev pub invariant-loop-step : goal.invariant-loop-step
invariant-loop-step l = l.longer.items ≡ record { place = l.fn.place; rule = l.rule } ∷ take l.step-index l.path
