use Rattle.std.proofs.Common.{All, ◌<◌, take}
use Rattle.order_search.proofs.placing.end_of.Given as goal

abbrev pub invariant-loop-f : goal.invariant-loop-f
invariant-loop-f l = All (λ f. f < l.end) (take l.f-index l.numbers)
