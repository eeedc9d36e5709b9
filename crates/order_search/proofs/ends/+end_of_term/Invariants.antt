use Rattle.std.proofs.Common.{◌≡◌, drop, max}
use Rattle.trs_core.specs.View.{tree, forest}
use Rattle.order_search.specs.OrderSpace.{occurs_in, occurs_in_some}
use Rattle.order_search.specs.Ends.{end_among}
use Rattle.order_search.proofs.ends.+end_of_term.Given as goal

abbrev pub invariant-loop-arg : goal.invariant-loop-arg
invariant-loop-arg l =
    max l.end (end_among (λ f. occurs_in_some f (forest (drop l.arg-index l.arg-items))) l.places) ≡ end_among (λ f. occurs_in f (tree l.t)) l.places
