use Rattle.std.proofs.Common.{arith}
use Rattle.trs_core.specs.View.{tree}
use Rattle.term_pool.specs.Pooled.{tree_at}
use Rattle.term_pool.proofs.PoolPlaces.{id_tree, id_variable}
use Rattle.term_pool.proofs.MatchSteps.{read_again}
use Rattle.term_pool.proofs.Refutations.{no_instance_in_variable, no_instance_of_other_read, no_instance_read}
use Rattle.term_pool.proofs.pools.Pool.+may_match.Goals.{then-f-g-via-then-f-g, then-f-g-via-else-f-g+then-len-ids}
use Rattle.term_pool.proofs.pools.Pool.+may_match.Goals as goal

pub returns-then-f-g : goal.returns-then-f-g
returns-then-f-g t c =
    let a = c.in-App-App in
    let term = id_tree c.args.self.now c.args.id a.g c.node.result.now a.args c.as_slice-ids.result.now c.node.ensures.is a.is-1 c.as_slice-ids.ensures in
    rw (a.is-0, term, ← c.ps.view_is) (λ _. no_instance_of_other_read tree (tree_at c.args.self.now) a.f a.g c.ps.inside.items.items c.as_slice-ids.result.now (elim c.then-f-g.branch [
      | then-f-g-via-then-f-g w ↦ λ same l. w.if-f-g.true same
      | then-f-g-via-else-f-g+then-len-ids w ↦ λ same l. w.if-len-ids.true (omega (arith, c.ps.inside.items.ok.0))
    ]))

pub returns-in-App-Var : goal.returns-in-App-Var
returns-in-App-Var t c =
    let a = c.in-App-Var in
    rw (a.is-0, id_variable c.args.self.now c.args.id _ c.node.result.now c.node.ensures.is a.is-1) (λ _. no_instance_in_variable _ _ _)

pub returns-then-not-may_match : goal.returns-then-not-may_match
returns-then-not-may_match t c =
    let a = c.in-App-App in
    let ids = c.as_slice-ids.result.now in
    let term = id_tree c.args.self.now c.args.id a.g c.node.result.now a.args ids c.node.ensures.is a.is-1 c.as_slice-ids.ensures in
    rw (a.is-0, term, ← c.ps.view_is, ← c.deref-p-items.ensures.value) (λ _. no_instance_read tree (tree_at c.args.self.now) a.f a.g c.deref-p-items.result.now ids c.loop-i.i c.p-item.result _
    c.loop-i.invariant c.loop-i-test.true c.p-item.is (read_again ids c.loop-i.i (omega (arith, c.loop-i-test.true, c.loop-i.invariant))) (c.may_match.ensures c.if-not-may_match.true))
