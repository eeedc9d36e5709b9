use Rattle.std.proofs.Common.{refl, arith}
use Rattle.term_pool.specs.Pooled.{tree_at}
use Rattle.term_pool.proofs.PoolPlaces.{id_tree, id_variable}
use Rattle.term_pool.proofs.MatchSteps.{read_again}
use Rattle.term_pool.proofs.KnownLaws.{too_small}
use Rattle.term_pool.proofs.LeftSideLaws.{ground_apart}
use Rattle.term_pool.proofs.Refutations.{no_instance_in_variable, no_instance_of_other_read, no_instance_read}
use Rattle.term_pool.proofs.pools.Pool.+may_be_instance.Goals.{then-f-g-via-then-f-g, then-f-g-via-else-f-g+then-patterns-ids}
use Rattle.term_pool.proofs.pools.Pool.+may_be_instance.Goals as goal

pub returns-then-is_marked : goal.returns-then-is_marked
returns-then-is_marked t c = λ _.
    ground_apart c.args.self.now c.args.pattern c.args.id c.measure-size.ensures.distinct c.requires.pattern c.requires.there c.if-pattern-id.false
    (c.requires.ground.each c.args.pattern (c.is_marked.ensures c.if-is_marked.true))

pub returns-then-size-measure : goal.returns-then-size-measure
returns-then-size-measure t c = λ _.
    too_small (tree_at c.args.self.now c.args.pattern) (tree_at c.args.self.now c.args.id) _ _ c.measure-size.ensures.size c.measure.ensures.size c.if-size-measure.true

pub returns-in-App-Var : goal.returns-in-App-Var
returns-in-App-Var t c =
    let a = c.in-App-Var in
    let pool = c.args.self.now in
    rw (id_tree pool c.args.pattern a.field-0-0 c.node.result.now a.field-1-0 a.field-1-0.items c.node.ensures.is a.is-0 refl, id_variable pool c.args.id _ c.node-2.result.now c.node-2.ensures.is a.is-1)
    (λ _. no_instance_in_variable _ _ _)

pub returns-then-f-g : goal.returns-then-f-g
returns-then-f-g t c =
    let a = c.in-App-App in
    let pool = c.args.self.now in
    let ps = c.as_slice-patterns.result.now in
    let ts = c.as_slice-ids.result.now in
    let pattern = id_tree pool c.args.pattern a.f c.node.result.now a.ps ps c.node.ensures.is a.is-0 c.as_slice-patterns.ensures in
    let term = id_tree pool c.args.id a.g c.node-2.result.now a.ts ts c.node-2.ensures.is a.is-1 c.as_slice-ids.ensures in
    rw (pattern, term) (λ _. no_instance_of_other_read (tree_at pool) (tree_at pool) a.f a.g ps ts (elim c.then-f-g.branch [
      | then-f-g-via-then-f-g w ↦ λ same l. w.if-f-g.true same
      | then-f-g-via-else-f-g+then-patterns-ids w ↦ λ same l. w.if-patterns-ids.true (omega (arith, l))
    ]))

pub returns-then-not-may_be_instance : goal.returns-then-not-may_be_instance
returns-then-not-may_be_instance t c =
    let a = c.in-App-App in
    let pool = c.args.self.now in
    let ps = c.as_slice-patterns.result.now in
    let ts = c.as_slice-ids.result.now in
    let pattern = id_tree pool c.args.pattern a.f c.node.result.now a.ps ps c.node.ensures.is a.is-0 c.as_slice-patterns.ensures in
    let term = id_tree pool c.args.id a.g c.node-2.result.now a.ts ts c.node-2.ensures.is a.is-1 c.as_slice-ids.ensures in
    rw (pattern, term) (λ _. no_instance_read (tree_at pool) (tree_at pool) a.f a.g ps ts c.loop-i.i _ _
    c.loop-i.invariant c.loop-i-test.true (read_again ps c.loop-i.i c.loop-i-test.true) (read_again ts c.loop-i.i (omega (arith, c.loop-i-test.true, c.loop-i.invariant)))
    (c.may_be_instance.ensures c.if-not-may_be_instance.true))
