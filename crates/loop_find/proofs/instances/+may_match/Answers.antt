use Rattle.std.proofs.Common.{arith}
use Rattle.trs_core.specs.View.{tree}
use Rattle.term_pool.proofs.Refutations.{no_instance_of_other_read, no_instance_read}
use Rattle.loop_find.proofs.instances.+may_match.Goals.{then-f-g-via-then-f-g, then-f-g-via-else-f-g+then-len}
use Rattle.loop_find.proofs.instances.+may_match.Goals as goal

pub returns-then-f-g : goal.returns-then-f-g
returns-then-f-g t c =
    let a = c.in-App-App in
    rw (a.is-0, a.is-1, ← c.ps.view_is, ← c.ts.view_is) (λ _. no_instance_of_other_read tree tree a.f a.g c.ps.inside.items.items c.ts.inside.items.items (elim c.then-f-g.branch [
      | then-f-g-via-then-f-g w ↦ λ same l. w.if-f-g.true same
      | then-f-g-via-else-f-g+then-len w ↦ λ same l. w.if-len.true (omega (arith, c.ps.inside.items.ok.0, c.ts.inside.items.ok.0))
    ]))

pub returns-then-not-may_match : goal.returns-then-not-may_match
returns-then-not-may_match t c =
    let a = c.in-App-App in
    rw (a.is-0, a.is-1, ← c.ps.view_is, ← c.ts.view_is, ← c.deref-p-items.ensures.value) (λ _. no_instance_read tree tree a.f a.g c.deref-p-items.result.now c.ts.inside.items.items c.loop-i.i c.p-item.result c.index.result.now
    c.loop-i.invariant c.loop-i-test.true c.p-item.is c.index.ensures (c.may_match.ensures c.if-not-may_match.true))
