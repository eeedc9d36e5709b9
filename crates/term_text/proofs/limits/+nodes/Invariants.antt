use Rattle.std.proofs.Common.{◌≡◌, drop}
use Rattle.sexp_core.specs.Items.{views}
use Rattle.term_text.specs.Limits.{nodes_left, nodes_of_all}
use Rattle.term_text.proofs.limits.+nodes.Given as goal

abbrev pub invariant-nodes_left_behind_all-loop-term : goal.invariant-nodes_left_behind_all-loop-term
invariant-nodes_left_behind_all-loop-term l =
    nodes_left (nodes_of_all (views (drop l.term-index l.terms))) l.room ≡ nodes_left (nodes_of_all (views l.terms)) l.fn.room
