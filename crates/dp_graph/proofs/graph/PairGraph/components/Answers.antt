use Rattle.std.proofs.Common.{◌≡◌, ◌<◌, get_or, length, Some, slice_get, replicate, false, arith}
use Rattle.pair_theory.specs.DependencyPair.{dependency_pairs}
use Rattle.dp_graph.specs.GraphConditions.{lists_of}
use Rattle.dp_graph.specs.Rows.{EdgeOf}
use Rattle.dp_graph.proofs.ComponentLaws.{all_components}
use Rattle.dp_graph.proofs.ListPlaces.{all_of_each}
use Rattle.dp_graph.proofs.OnePair.{list_of_one, of_problem}
use Rattle.dp_graph.proofs.OrderLaws.{leaders_within}
use Rattle.dp_graph.proofs.PutOutLaws.{put_out_lead}
use Rattle.dp_graph.proofs.RowLaws.{rows_within}
use Rattle.dp_graph.proofs.graph.PairGraph.components.Goals as goal

pub leaders_of-requires : goal.leaders_of-requires
leaders_of-requires c = rw c.deref.ensures.value (rows_within (EdgeOf c.args.self.now) c.args.problem.now (lists_of c.in_ok-rows.rows.items) c.in_ok-rows.ensures)

pub list_led-requires : goal.list_led-requires
list_led-requires c =
    let are = rw c.deref.ensures.value at c.in_ok-leaders.ensures in
    rw c.deref-2.ensures.value (all_of_each (λ l. l < length c.in_ok-leaders.leaders.items) c.in_ok-leaders.leaders.items (leaders_within (lists_of c.in_ok-rows.rows.items) c.in_ok-leaders.leaders.items are))

pub sort_components-requires-clause-leaders : goal.sort_components-requires-clause-leaders
sort_components-requires-clause-leaders c =
    let are = rw c.deref.ensures.value at c.in_ok-leaders.ensures in
    rw (c.deref-3.ensures.value, c.deref-4.ensures.value) are

pub sort_components-requires-clause-within : goal.sort_components-requires-clause-within
sort_components-requires-clause-within c = rw c.deref-3.ensures.value (rows_within (EdgeOf c.args.self.now) c.args.problem.now (lists_of c.in_ok-rows.rows.items) c.in_ok-rows.ensures)

pub sort_components-requires-clause-led : goal.sort_components-requires-clause-led
sort_components-requires-clause-led c = rw (c.deref-4.ensures.value, c.deref-5.ensures.value) (rw c.deref-2.ensures.value at c.in_ok-led.ensures)

pub items-requires-clause-places : goal.items-requires-clause-places
items-requires-clause-places c =
    let are = rw c.deref.ensures.value at c.in_ok-leaders.ensures in
    let n = are.count in
    let m = c.in_ok-rows.ensures.count in
    rw c.deref-6.ensures.value (omega (arith, n, m))

pub items-requires-clause-led : goal.items-requires-clause-led
items-requires-clause-led c = rw (c.deref-6.ensures.value, c.deref-7.ensures.value) (rw c.deref-2.ensures.value at c.in_ok-led.ensures)

pub items-requires-clause-order : goal.items-requires-clause-order
items-requires-clause-order c =
    let out = rw (c.deref-3.ensures.value, c.deref-4.ensures.value) at c.in_ok-sorted.ensures in
    rw (c.deref-6.ensures.value, c.deref-8.ensures.value)
    (all_of_each (λ v. slice_get c.in_ok-leaders.leaders.items v ≡ Some v) c.in_ok-sorted.sorted.items (put_out_lead (length c.args.problem.now) (lists_of c.in_ok-rows.rows.items) c.in_ok-leaders.leaders.items (replicate (length c.in_ok-leaders.leaders.items) false) c.in_ok-sorted.sorted.items out))

pub returns : goal.returns
returns c =
    let are = rw c.deref.ensures.value at c.in_ok-leaders.ensures in
    let out = rw (c.deref-3.ensures.value, c.deref-4.ensures.value) at c.in_ok-sorted.ensures in
    all_components c.args.self.now c.args.problem.now c.requires.ascending (lists_of c.in_ok-rows.rows.items) c.in_ok-rows.ensures c.in_ok-leaders.leaders.items are c.in_ok-sorted.sorted.items out
    c.items.result (rw (c.deref-6.ensures.value, c.deref-8.ensures.value) at c.items.ensures)

pub returns-then-problem-eq1 : goal.returns-then-problem-eq1
returns-then-problem-eq1 c =
    let rules = c.args.self.now.rules in
    of_problem rules (dependency_pairs rules) c.args.problem.now (get_or c.args.problem.now 0 0) (list_of_one c.args.problem.now 0 c.if-problem-eq1.true) c.one_component.result c.one_component.ensures
