use Rattle.std.proofs.Common.{◌≡◌, ◌+◌, ◌<◌, ◌≤◌, ℕ, arith, refl, subst, IfOk, List, map, length, get_or}
use Rattle.trs_defs.specs.Tree.{Tree, app, trees}
use Rattle.trs_defs.specs.Size.{size_of}
use Rattle.trs_core.specs.declared.terms.Term.{Term}
use Rattle.trs_core.specs.View.{tree, forest}
use Rattle.term_pool.specs.Pooled.{StandsFor}
use Rattle.term_pool.specs.Bindings.{instance_of}
use Rattle.term_pool.proofs.ArgumentIds.{AreMade, next_smaller, next_few, whole_made, whole_few}
use Rattle.term_pool.proofs.InstanceIds.{value_in, bound_at, instance_whole, call_ids, call_few, call_made}
use Rattle.term_pool.proofs.pools.Pool.+instance.Goals.{After-deref-arg-items}
use Rattle.term_pool.proofs.pools.Pool.+instance.Goals as goal

-- the term is its symbol over its arguments, and its instance that symbol over theirs
node : (t : ℕ) (c : After-deref-arg-items t) → tree c.args.t.now ≡ app c.in-App.f (forest c.deref-arg-items.result.now)
node t c = rw (c.in-App.is, ← c.args-in-App.view_is, c.deref-arg-items.ensures.value) refl

whole : (t : ℕ) (c : After-deref-arg-items t) → instance_of c.args.self.now c.args.found.now (tree c.args.t.now)
    ≡ app c.in-App.f (trees (map (value_in c.args.self.now c.args.found.now) c.deref-arg-items.result.now))
whole t c = instance_whole c.args.self.now c.args.found.now (tree c.args.t.now) c.in-App.f c.deref-arg-items.result.now (node t c)

pub instance-requires : goal.instance-requires
instance-requires t c =
    let a = (goal.at.instance-requires t c).After-deref-arg-items in
    let args = c.deref-arg-items.result.now in
    let m = c.args.found.now in
    let k = c.loop-arg.arg-index in
    let smaller = next_smaller tree args k c.arg-item.result c.loop-arg-test.true c.arg-item.is (tree c.args.t.now) c.in-App.f (node t a) in (
      omega (arith, smaller, c.decreases),
      call_ids c.args.self.now c.loop-arg.self m args c.loop-arg.ids.items k c.requires c.loop-arg.invariant c.arg-item.result c.loop-arg-test.true c.arg-item.is,
    )

few_after : (t : ℕ) (c : After-deref-arg-items t) → (now next : List Tree) (ids : List ℕ) (k : ℕ) (arg : Term) → AreMade (value_in c.args.self.now c.args.found.now) c.args.self.now now c.deref-arg-items.result.now ids k
    → k < length c.deref-arg-items.result.now → arg ≡ get_or c.deref-arg-items.result.now k arg
    → length next ≤ length now + size_of (instance_of now c.args.found.now (tree arg))
    → length next ≤ length c.args.self.now + size_of (instance_of c.args.self.now c.args.found.now (tree c.args.t.now))
few_after t c now next ids k arg so_far within is few =
    next_few (value_in c.args.self.now c.args.found.now) c.deref-arg-items.result.now k arg within is
    (instance_of c.args.self.now c.args.found.now (tree c.args.t.now)) c.in-App.f (whole t c) c.args.self.now now ids so_far next
    (call_few c.args.self.now now c.args.found.now c.deref-arg-items.result.now ids k c.requires so_far arg within is next few)

pub returns-in_err-instance-in-App-clause-few : goal.returns-in_err-instance-in-App-clause-few
returns-in_err-instance-in-App-clause-few t c =
    few_after t (goal.at.returns-in_err-instance-in-App-clause-few t c).After-deref-arg-items c.loop-arg.self c.instance.new.self c.loop-arg.ids.items c.loop-arg.arg-index c.arg-item.result
    c.loop-arg.invariant c.loop-arg-test.true c.arg-item.is c.in_err-instance-in-App.ensures.few

pub returns-in_err-push-in-App-clause-few : goal.returns-in_err-push-in-App-clause-few
returns-in_err-push-in-App-clause-few t c =
    few_after t (goal.at.returns-in_err-push-in-App-clause-few t c).After-deref-arg-items c.loop-arg.self c.instance.new.self c.loop-arg.ids.items c.loop-arg.arg-index c.arg-item.result
    c.loop-arg.invariant c.loop-arg-test.true c.arg-item.is c.in_ok-instance-in-App.ensures.few

pub loop-arg-preserved : goal.loop-arg-preserved
loop-arg-preserved t c =
    rw c.in_ok-push-in-App.ensures.ok (call_made c.args.self.now c.loop-arg.self c.args.found.now c.deref-arg-items.result.now c.loop-arg.ids.items c.loop-arg.arg-index c.requires c.loop-arg.invariant
    c.arg-item.result c.loop-arg-test.true c.arg-item.is c.instance.new.self _ c.in_ok-instance-in-App.ensures.kept c.in_ok-instance-in-App.ensures.id c.in_ok-instance-in-App.ensures.few)

few_made : (t : ℕ) (c : After-deref-arg-items t) → (now : List Tree) (ids : List ℕ) (k : ℕ) → AreMade (value_in c.args.self.now c.args.found.now) c.args.self.now now c.deref-arg-items.result.now ids k
    → length c.deref-arg-items.result.now ≤ k → length now + 1 ≤ length c.args.self.now + size_of (instance_of c.args.self.now c.args.found.now (tree c.args.t.now))
few_made t c now ids k so_far all =
    whole_few (value_in c.args.self.now c.args.found.now) c.args.self.now now c.deref-arg-items.result.now ids k so_far all
    (instance_of c.args.self.now c.args.found.now (tree c.args.t.now)) c.in-App.f (whole t c)

pub returns-after-loop-arg-clause-few : goal.returns-after-loop-arg-clause-few
returns-after-loop-arg-clause-few t c =
    let few = few_made t (goal.at.returns-after-loop-arg-clause-few t c).After-deref-arg-items c.loop-arg.self c.loop-arg.ids.items c.loop-arg.arg-index c.loop-arg.invariant c.loop-arg-test.false in
    omega (arith, few, c.add-in-App.ensures.few)

pub returns-in-Some-clause-id : goal.returns-in-Some-clause-id
returns-in-Some-clause-id t c = rw c.in-Var.is (bound_at c.args.self.now c.args.found.now c.in-Var.v c.in-Some.id c.in-Some.ensures c.requires)

pub returns-after-loop-arg-clause-id : goal.returns-after-loop-arg-clause-id
returns-after-loop-arg-clause-id t c =
    let a = (goal.at.returns-after-loop-arg-clause-id t c).After-deref-arg-items in
    let P : Tree → Type 0 = λ z. IfOk c.add-in-App.result (λ new. StandsFor c.add-in-App.new.self new z) in
    subst P (whole_made (value_in c.args.self.now c.args.found.now) c.args.self.now c.loop-arg.self c.deref-arg-items.result.now c.loop-arg.ids.items c.loop-arg.arg-index c.loop-arg.invariant c.loop-arg-test.false
    (instance_of c.args.self.now c.args.found.now (tree c.args.t.now)) c.in-App.f (whole t a)) c.add-in-App.ensures.id
