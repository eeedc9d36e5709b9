use Rattle.std.proofs.Common.{◌+◌, ◌*◌, ◌<◌, ◌≤◌, ◌↔◌, IfSome}
use Rattle.order_theory.specs.PathOrder.{GreaterThanAll, PathGreater, SomeAtLeast}
use Rattle.path_lpo.proofs.Walks.{Left}
use Rattle.path_lpo.proofs.walking.+compare.Given as goal

abbrev pub decreases-compare : goal.decreases-compare
decreases-compare g l = 6 * ((g.T.Terms.walked l.terms.now).size l.s + (g.T.Terms.walked l.terms.now).size l.t) + 4

abbrev pub decreases-compare_roots : goal.decreases-compare_roots
decreases-compare_roots g l = 6 * ((g.T.Terms.walked l.terms.now).size l.s + (g.T.Terms.walked l.terms.now).size l.t) + 3

abbrev pub decreases-compare_in_order : goal.decreases-compare_in_order
decreases-compare_in_order g l = 6 * ((g.T.Terms.walked l.terms.now).size l.s + (g.T.Terms.walked l.terms.now).size l.t) + 2

abbrev pub decreases-exceeds_all : goal.decreases-exceeds_all
decreases-exceeds_all g l = 6 * ((g.T.Terms.walked l.terms.now).size l.s + (g.T.Terms.walked l.terms.now).bound l.list + 1)

abbrev pub decreases-exceeds : goal.decreases-exceeds
decreases-exceeds g l = 6 * ((g.T.Terms.walked l.terms.now).size l.s + (g.T.Terms.walked l.terms.now).size l.b) + 5

abbrev pub decreases-some_reaches : goal.decreases-some_reaches
decreases-some_reaches g l = 6 * ((g.T.Terms.walked l.terms.now).bound l.list + (g.T.Terms.walked l.terms.now).size l.t + 1)

-- what is left to compare decides the whole, and has no greater bounds
abbrev pub invariant-compare_in_order-loop-a : goal.invariant-compare_in_order-loop-a
invariant-compare_in_order-loop-a g l = record {
  left : Left (g.T.Terms.ranks l.terms) ((g.T.Terms.walked l.terms).tree l.s) ((g.T.Terms.walked l.terms).tree l.t)
      ((g.T.Terms.walked l.terms).trees l.lefts) ((g.T.Terms.walked l.terms).trees l.rights);
  memory : g.T.Terms.is_true l.terms l.memory;
  left_bound : (g.T.Terms.walked l.terms).bound l.lefts < (g.T.Terms.walked l.terms).size l.s;
  right_bound : (g.T.Terms.walked l.terms).bound l.rights < (g.T.Terms.walked l.terms).size l.t;
}

abbrev pub decreases-compare_in_order-loop-a : goal.decreases-compare_in_order-loop-a
decreases-compare_in_order-loop-a g l = (g.T.Terms.walked l.terms).most l.lefts

abbrev pub invariant-exceeds_all-loop-b : goal.invariant-exceeds_all-loop-b
invariant-exceeds_all-loop-b g l = record {
  left : GreaterThanAll (g.T.Terms.ranks l.terms) ((g.T.Terms.walked l.terms).tree l.s) ((g.T.Terms.walked l.terms).trees l.rest)
      ↔ GreaterThanAll (g.T.Terms.ranks l.terms) ((g.T.Terms.walked l.terms).tree l.s) ((g.T.Terms.walked l.terms).trees l.fn.list);
  last : IfSome l.last (λ a. PathGreater (g.T.Terms.ranks l.terms) ((g.T.Terms.walked l.terms).tree l.s) ((g.T.Terms.walked l.terms).tree a));
  memory : g.T.Terms.is_true l.terms l.memory;
  bound : (g.T.Terms.walked l.terms).bound l.rest ≤ (g.T.Terms.walked l.terms).bound l.fn.list;
}

abbrev pub decreases-exceeds_all-loop-b : goal.decreases-exceeds_all-loop-b
decreases-exceeds_all-loop-b g l = (g.T.Terms.walked l.terms).most l.rest

abbrev pub invariant-some_reaches-loop-a : goal.invariant-some_reaches-loop-a
invariant-some_reaches-loop-a g l = record {
  left : SomeAtLeast (g.T.Terms.ranks l.terms) ((g.T.Terms.walked l.terms).trees l.rest) ((g.T.Terms.walked l.terms).tree l.t)
      ↔ SomeAtLeast (g.T.Terms.ranks l.terms) ((g.T.Terms.walked l.terms).trees l.fn.list) ((g.T.Terms.walked l.terms).tree l.t);
  memory : g.T.Terms.is_true l.terms l.memory;
  bound : (g.T.Terms.walked l.terms).bound l.rest ≤ (g.T.Terms.walked l.terms).bound l.fn.list;
}

abbrev pub decreases-some_reaches-loop-a : goal.decreases-some_reaches-loop-a
decreases-some_reaches-loop-a g l = (g.T.Terms.walked l.terms).most l.rest
