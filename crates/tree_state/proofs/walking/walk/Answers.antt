use Rattle.std.proofs.Common.{◌≡◌, ◌<◌, ◌+◌, ℕ, suc, [], ◌∷◌, ◌++◌, Some, length, map, take, drop, slice_get, subst, sym, arith}
use Rattle.std.proofs.lemmas.Option.{slice_get_read}
use Rattle.tree_definitions.specs.Reports.{Walks}
use Rattle.tree_state.specs.Seen.{node_of}
use Rattle.tree_definitions.proofs.Weights.{sum_of, weight}
use Rattle.tree_state.proofs.Turns.{turn_walks, turn_falls, turn_within, turn_longer, walk_done}
use Rattle.tree_state.proofs.walking.walk.Goals as goal

pub loop-i-preserved : goal.loop-i-preserved
loop-i-preserved c =
    let order = c.loop-i.order.items in
    let lt : c.loop-i.i < length order = omega (arith, c.loop-i-test.true, c.len.ensures, c.loop-i.order.ok.0) in
    let n = c.index-n.result.now in
    let at : slice_get order c.loop-i.i ≡ Some n = slice_get_read order (length order) c.loop-i.i n (λ i. length order) lt c.index-n.ensures in
    let low = c.loop-i.invariant.0 c.loop-i.i n at in
    let there = slice_get_read c.args.nodes.now (length c.args.nodes.now) n c.index-nodes-n.result (λ i. length c.args.nodes.now) low c.index-nodes-n.is in
    let next = c.push_children.new.order.items in
    let is = c.in_ok-push_children.ensures in
    let e : suc c.loop-i.i ≡ c.loop-i.i + 1 = omega arith in (
      turn_within c.args.nodes.now [] order next c.loop-i.i n c.index-nodes-n.result at there is c.requires.ascending c.loop-i.invariant.0,
      (let more = turn_longer c.args.nodes.now [] order next c.loop-i.i n c.index-nodes-n.result at there is in omega (arith, more)),
      λ history tail w.
          subst (λ (k : ℕ). Walks (map (node_of history) c.args.nodes.now) (c.args.root ∷ []) (take k next ++ tail)) e
          (turn_walks c.args.nodes.now history order next c.loop-i.i n c.index-nodes-n.result at there is c.args.root (c.loop-i.invariant.2 history) tail
          (subst (λ (k : ℕ). Walks (map (node_of history) c.args.nodes.now) (drop k next) tail) (sym e) w)),
    )

pub loop-i-smaller : goal.loop-i-smaller
loop-i-smaller c =
    let order = c.loop-i.order.items in
    let lt : c.loop-i.i < length order = omega (arith, c.loop-i-test.true, c.len.ensures, c.loop-i.order.ok.0) in
    let n = c.index-n.result.now in
    let at : slice_get order c.loop-i.i ≡ Some n = slice_get_read order (length order) c.loop-i.i n (λ i. length order) lt c.index-n.ensures in
    let low = c.loop-i.invariant.0 c.loop-i.i n at in
    let there = slice_get_read c.args.nodes.now (length c.args.nodes.now) n c.index-nodes-n.result (λ i. length c.args.nodes.now) low c.index-nodes-n.is in
    let e : suc c.loop-i.i ≡ c.loop-i.i + 1 = omega arith in
    let falls = turn_falls c.args.nodes.now [] order c.push_children.new.order.items c.loop-i.i n c.index-nodes-n.result at there c.in_ok-push_children.ensures c.requires.ascending in
    subst (λ (k : ℕ). sum_of (weight (map (node_of []) c.args.nodes.now) (length (map (node_of []) c.args.nodes.now))) (drop k c.push_children.new.order.items)
    < sum_of (weight (map (node_of []) c.args.nodes.now) (length (map (node_of []) c.args.nodes.now))) (drop c.loop-i.i order)) e falls

pub returns : goal.returns
returns c = λ history.
    walk_done (map (node_of history) c.args.nodes.now) c.args.root c.loop-i.order.items c.loop-i.i
    (omega (arith, c.loop-i-test.false, c.len.ensures, c.loop-i.order.ok.0)) (c.loop-i.invariant.2 history)
