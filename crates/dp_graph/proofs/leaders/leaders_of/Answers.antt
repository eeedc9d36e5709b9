use Rattle.std.specs.Prelude.{Vec, Result, Ok, Err, IfOk}
use Rattle.std.specs.declared.alloc.Global.{Global}
use Rattle.std.proofs.Common.{ℕ, List, arith}
use Rattle.dp_graph.specs.GraphConditions.{lists_of}
use Rattle.dp_graph.specs.Reversed.{AreReversed}
use Rattle.dp_graph.specs.Finishing.{IsFinishingOrder}
use Rattle.dp_graph.specs.Leaders.{AreLeaders}
use Rattle.dp_graph.proofs.ListPlaces.{lists_length}
use Rattle.dp_graph.proofs.leaders.leaders_of.Goals as goal

pub leaders-requires : goal.leaders-requires
leaders-requires c = λ i i_in.
    let h = c.in_ok-order.ensures.places i (rw c.deref-2.ensures.value at i_in) in
    let n = c.in_ok-back.ensures.count in
    let m = lists_length c.in_ok-back.back.items in
    rw c.deref.ensures.value (omega (arith, h, n, m))

of_these : {E : Type 0} (rows back : List (List ℕ)) (order : List ℕ) (result : Result (Vec ℕ Global) E) → AreReversed rows back → IsFinishingOrder rows order
    → IfOk result (λ v. (rows : List (List ℕ)) → AreReversed rows back → IsFinishingOrder rows order → AreLeaders rows v.items) → IfOk result (λ v. AreLeaders rows v.items)
of_these rows back order (Ok v) reversed finishing found = found rows reversed finishing
of_these rows back order (Err e) reversed finishing found = found

pub returns : goal.returns
returns c =
    of_these (lists_of c.args.rows.now) (lists_of c.in_ok-back.back.items) c.in_ok-order.order.items c.leaders.result c.in_ok-back.ensures c.in_ok-order.ensures
    (rw (c.deref.ensures.value, c.deref-2.ensures.value) at c.leaders.ensures)
