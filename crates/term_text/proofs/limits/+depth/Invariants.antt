use Rattle.std.proofs.Common.{◌≡◌, drop, nat_le}
use Rattle.sexp_core.specs.Items.{views}
use Rattle.term_text.specs.Limits.{depth_of_all}
use Rattle.term_text.proofs.limits.+depth.Given as goal

abbrev pub invariant-are_within_depth-loop-term : goal.invariant-are_within_depth-loop-term
invariant-are_within_depth-loop-term l =
    nat_le (depth_of_all (views (drop l.term-index l.terms))) l.depth ≡ nat_le (depth_of_all (views l.terms)) l.depth
