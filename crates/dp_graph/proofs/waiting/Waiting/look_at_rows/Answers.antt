use Rattle.std.proofs.Common.{◌<◌, length, take, get_or, arith, refl, subst}
use Rattle.std.proofs.lemmas.List.{take_all}
use Rattle.trs_defs.proofs.Members.{no_in}
use Rattle.dp_graph.specs.GraphConditions.{lists_of}
use Rattle.dp_graph.specs.Waiting.{LooksAt, Other, OfRows}
use Rattle.dp_graph.proofs.ListPlaces.{row_at, lists_length, all_of_each}
use Rattle.dp_graph.proofs.WaitingLaws.{looks_at_none, rows_looked_at}
use Rattle.dp_graph.proofs.waiting.Waiting.look_at_rows.Goals as goal

pub loop-w-init : goal.loop-w-init
loop-w-init c = looks_at_none c.args.self.now (Other c.args.v (OfRows (lists_of c.args.rows.now) c.args.leaders.now (take 0 c.args.places.now))) (λ l h. no_in h.0.2)

pub look_at_row-requires-clause-row : goal.look_at_row-requires-clause-row
look_at_row-requires-clause-row c =
    let i = c.loop-w.w-index in
    let w = get_or c.args.places.now i 0 in
    let lt = c.requires.places i 0 c.loop-w-test.true in
    let row = c.index-rows-w.result in
    let at = row_at c.args.rows.now w row lt c.index-rows-w.is in
    let size = lists_length c.args.rows.now in
    let count = c.requires.count in
    rw c.deref.ensures.value (all_of_each (λ j. j < length c.args.leaders.now) row.items (λ j j_in. let h = c.requires.rows w j (row.items, at, j_in) in omega (arith, h, size, count)))

pub look_at_row-requires-clause-leaders : goal.look_at_row-requires-clause-leaders
look_at_row-requires-clause-leaders c = rw c.loop-w.invariant.count c.requires.leaders

pub loop-w-preserved : goal.loop-w-preserved
loop-w-preserved c =
    let i = c.loop-w.w-index in
    let w = get_or c.args.places.now i 0 in
    let lt = c.requires.places i 0 c.loop-w-test.true in
    let row = c.index-rows-w.result in
    rows_looked_at (lists_of c.args.rows.now) c.args.leaders.now c.args.places.now c.args.self.now c.loop-w.self c.look_at_row.new.self c.args.v i w row.items c.loop-w-test.true refl
    (row_at c.args.rows.now w row lt c.index-rows-w.is) c.loop-w.invariant (rw c.deref.ensures.value at c.in_ok-look_at_row.ensures)

pub returns : goal.returns
returns c =
    subst (λ z. LooksAt c.args.self.now c.loop-w.self (Other c.args.v (OfRows (lists_of c.args.rows.now) c.args.leaders.now z))) (take_all c.loop-w.w-index c.args.places.now c.loop-w-test.false) c.loop-w.invariant
