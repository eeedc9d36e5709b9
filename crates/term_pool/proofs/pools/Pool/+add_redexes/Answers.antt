use Rattle.std.proofs.Common.{◌≡◌, [], map, ℕ, length, get_or, refl, arith}
use Rattle.trs_defs.specs.Tree.{app, trees}
use Rattle.term_pool.specs.Pooled.{tree_at}
use Rattle.term_pool.specs.Redexes.{AreRedexes, Grows}
use Rattle.term_pool.specs.Known.{IsKnown}
use Rattle.term_pool.proofs.MatchSteps.{read_again}
use Rattle.term_pool.proofs.NoRedexes.{none_grown, none_listed}
use Rattle.term_pool.proofs.PoolPlaces.{id_tree, id_variable}
use Rattle.term_pool.proofs.RedexWalk.{popped, narrow_app, narrow_next, root_then_arguments, argument_then_rest, grown_all, no_argument_left, root_alone}
use Rattle.term_pool.proofs.pools.Pool.+add_redexes.Goals.{After-as_slice-arg-items, Joined-node, in-Var, in-App+else-loop-i-test}
use Rattle.term_pool.proofs.pools.Pool.+add_redexes.Goals as goal

-- the term is its root over its arguments
node : (t : ℕ) (c : After-as_slice-arg-items t) → tree_at c.args.self.now c.args.id ≡ app c.in-App.field-0 (trees (map (tree_at c.args.self.now) c.as_slice-arg-items.result.now))
node t c = id_tree c.args.self.now c.args.id c.in-App.field-0 c.node.result.now c.in-App.args c.as_slice-arg-items.result.now c.node.ensures.is c.in-App.is c.as_slice-arg-items.ensures

pub loop-i-init : goal.loop-i-init
loop-i-init t c =
    let is = node t (goal.at.loop-i-init t c).After-as_slice-arg-items in
    let term = tree_at c.args.self.now c.args.id in
    let n = narrow_app (tree_at c.args.self.now) c.as_slice-arg-items.result.now c.in-App.field-0 term is c.requires.narrow in
    record {
      rest = λ rest h. root_then_arguments (tree_at c.args.self.now) c.as_slice-arg-items.result.now c.args.by_root.now.rules c.args.place.now.items c.in-App.field-0 term
          c.args.found.now.items c.add_root_redexes.new.found.items rest is (rw c.deref.ensures.value at c.in_ok-add_root_redexes.ensures.found) h;
      narrow = n.1;
      few = n.0;
      same = refl;
      known = c.in_ok-add_root_redexes.ensures.known;
    }

pub loop-i-preserved : goal.loop-i-preserved
loop-i-preserved t c =
    let value = tree_at c.args.self.now in
    let ids = c.as_slice-arg-items.result.now in
    let place = c.args.place.now.items in
    let pushed = rw c.loop-i.invariant.same at c.in_ok-push-in-App.ensures.items in
    let i = c.loop-i.i in
    let arg = get_or ids i 0 in
    let read = read_again ids i c.loop-i-test.true in
    record {
      rest = λ rest h. argument_then_rest value ids c.args.by_root.now.rules place c.push.new.self.items i arg (AreRedexes c.args.by_root.now.rules (value c.args.id))
          c.args.found.now.items c.loop-i.found.items c.add_redexes.new.found.items rest c.loop-i-test.true read pushed c.loop-i.invariant.rest
          c.in_ok-add_redexes-in-App.ensures.found h;
      narrow = (narrow_next value ids i arg c.loop-i-test.true read c.loop-i.invariant.narrow).1;
      few = c.loop-i.invariant.few;
      same = popped place c.push.new.self.items c.add_redexes.new.place.items c.pop.new.self.items _ c.add_redexes.new.place.len pushed c.in_ok-add_redexes-in-App.ensures.place
          (omega (arith, c.add_redexes.new.place.ok.0)) c.pop.ensures.rest;
      known = c.in_ok-add_redexes-in-App.ensures.known;
    }

pub returns-then-is_passed-clause-found : goal.returns-then-is_passed-clause-found
returns-then-is_passed-clause-found t c =
    none_grown c.args.by_root.now.rules (tree_at c.args.self.now c.args.id) c.args.place.now.items c.args.found.now.items (c.is_passed.ensures c.if-is_passed.true)

-- what was added after the root and the arguments
grown : (t : ℕ) (c : Joined-node t)
    → Grows c.args.place.now.items (AreRedexes c.args.by_root.now.rules (tree_at c.args.self.now c.args.id)) c.args.found.now.items c.match-node.found.items
grown t c = elim c.match-node.branch as (λ _. Grows c.args.place.now.items (AreRedexes c.args.by_root.now.rules (tree_at c.args.self.now c.args.id)) c.args.found.now.items c.match-node.found.items) [
  | in-Var w ↦
      let is = id_variable c.args.self.now c.args.id w.in-Var.field-0 c.node.result.now c.node.ensures.is w.in-Var.is in
      rw w.found-is (root_alone c.args.by_root.now.rules c.args.place.now.items (tree_at c.args.self.now c.args.id) w.in-Var.field-0 c.args.found.now.items c.add_root_redexes.new.found.items is
      (rw c.deref.ensures.value at c.in_ok-add_root_redexes.ensures.found))
  | in-App+else-loop-i-test w ↦
      rw w.found-is (grown_all c.args.place.now.items (AreRedexes c.args.by_root.now.rules (tree_at c.args.self.now c.args.id)) c.args.found.now.items w.loop-i.found.items
      (w.loop-i.invariant.rest [] (no_argument_left (tree_at c.args.self.now) w.as_slice-arg-items.result.now c.args.by_root.now.rules w.loop-i.i w.loop-i-test.false)))
]

known : (t : ℕ) (c : Joined-node t) → IsKnown c.args.by_root.now.rules c.args.self.now c.match-node.known
known t c = elim c.match-node.branch as (λ _. IsKnown c.args.by_root.now.rules c.args.self.now c.match-node.known) [
  | in-Var w ↦ rw w.known-is c.in_ok-add_root_redexes.ensures.known
  | in-App+else-loop-i-test w ↦ rw w.known-is w.loop-i.invariant.known
]

pub pass-requires-clause-normal : goal.pass-requires-clause-normal
pass-requires-clause-normal t c =
    let same : length c.match-node.found.items ≡ length c.args.found.now.items =
    omega (arith, c.if-len-before.true, c.len-before.ensures, c.len.ensures, c.args.found.now.ok.0, c.match-node.found.ok.0) in
    none_listed c.args.by_root.now.rules (tree_at c.args.self.now c.args.id) c.args.place.now.items c.args.found.now.items c.match-node.found.items
    (grown t (goal.at.pass-requires-clause-normal t c).Joined-node) same

pub pass-requires-clause-known : goal.pass-requires-clause-known
pass-requires-clause-known t c = known t (goal.at.pass-requires-clause-known t c).Joined-node

pub returns-in_ok-pass-clause-found : goal.returns-in_ok-pass-clause-found
returns-in_ok-pass-clause-found t c = grown t (goal.at.returns-in_ok-pass-clause-found t c).Joined-node

pub returns-else-len-before-clause-found : goal.returns-else-len-before-clause-found
returns-else-len-before-clause-found t c = grown t (goal.at.returns-else-len-before-clause-found t c).Joined-node

pub returns-else-len-before-clause-known : goal.returns-else-len-before-clause-known
returns-else-len-before-clause-known t c = known t (goal.at.returns-else-len-before-clause-known t c).Joined-node
