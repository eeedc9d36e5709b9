use Rattle.std.proofs.Common.{◌≡◌, drop}
use Rattle.trs_core.specs.View.{forest}
use Rattle.dp_core.specs.Symbols.{symbols_of_all}
use Rattle.dp_core.specs.LeastLacking.{least_lacking}
use Rattle.usable_rules.proofs.lacking.lacking_in_arguments.Given as goal

abbrev pub invariant-loop-arg : goal.invariant-loop-arg
invariant-loop-arg g l =
    let has = g.O.ReductionPair.has l.order in
    least_lacking has l.found (symbols_of_all (forest (drop l.arg-index l.arg-items))) ≡ least_lacking has l.fn.least (symbols_of_all (forest l.arg-items))
