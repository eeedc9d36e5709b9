use Rattle.std.specs.Prelude.{All}
use Rattle.std.proofs.Common.{◌≡◌, ◌<◌, length, get_or, arith, refl, sym, subst, ◌∙◌}
use Rattle.std.proofs.lemmas.Option.{slice_get-get_or}
use Rattle.dp_graph.specs.GraphConditions.{lists_of}
use Rattle.dp_graph.proofs.ListPlaces.{row_at, lists_length, all_of_each}
use Rattle.dp_graph.proofs.WaitingLaws.{no_edges, edges_more, all_edges}
use Rattle.dp_graph.proofs.waiting.blockers.Goals as goal

pub loop-i-init : goal.loop-i-init
loop-i-init c = no_edges (lists_of c.args.rows.now) c.args.leaders.now (lists_of c.in_ok-blockers.blockers.items) (length c.args.leaders.now) refl c.in_ok-blockers.ensures

pub add_row-requires-clause-row : goal.add_row-requires-clause-row
add_row-requires-clause-row c =
    let row = c.index-rows-i.result in
    let at = row_at c.args.rows.now c.loop-i.i row c.loop-i-test.true c.index-rows-i.is in
    let size = lists_length c.args.rows.now in
    let count = c.requires.count in
    rw c.deref.ensures.value (all_of_each (λ j. j < length c.args.leaders.now) row.items (λ j j_in. let h = c.requires.rows c.loop-i.i j (row.items, at, j_in) in omega (arith, h, size, count)))

pub add_row-requires-clause-leaders : goal.add_row-requires-clause-leaders
add_row-requires-clause-leaders c =
    let count : length c.loop-i.blockers.items ≡ length c.args.leaders.now = sym (lists_length c.loop-i.blockers.items) ∙ c.loop-i.invariant.count in
    subst (λ z. All (λ l. l < z) c.args.leaders.now) (sym count) c.requires.leaders

pub loop-i-preserved : goal.loop-i-preserved
loop-i-preserved c =
    let i = c.loop-i.i in
    let row = c.index-rows-i.result in
    let count = c.requires.count in
    edges_more (lists_of c.args.rows.now) c.args.leaders.now (lists_of c.loop-i.blockers.items) (lists_of c.add_row.new.blockers.items) i (get_or c.args.leaders.now i 0) row.items
    (row_at c.args.rows.now i row c.loop-i-test.true c.index-rows-i.is) (slice_get-get_or c.args.leaders.now i 0 (omega (arith, c.loop-i-test.true, count)))
    (rw c.deref.ensures.value at c.in_ok-add_row.ensures) c.loop-i.invariant

pub returns : goal.returns
returns c =
    let size = lists_length c.args.rows.now in
    all_edges (lists_of c.args.rows.now) c.args.leaders.now (lists_of c.loop-i.blockers.items) c.loop-i.i (omega (arith, size, c.loop-i-test.false)) c.loop-i.invariant
