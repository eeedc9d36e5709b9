use Rattle.trs_core.specs.View.{tree}
use Rattle.term_pool.proofs.ArgumentIds.{one_made}
use Rattle.term_pool.proofs.pools.Pool.+insert.Goals as goal

pub loop-arg-preserved : goal.loop-arg-preserved
loop-arg-preserved t c =
    rw c.in_ok-push-in-App.ensures.ok (one_made tree c.deref-arg-items.result.now c.loop-arg.arg-index c.arg-item.result c.loop-arg-test.true c.arg-item.is c.args.self.now c.loop-arg.self c.loop-arg.ids.items c.loop-arg.invariant
    c.insert.new.self _ c.in_ok-insert-in-App.ensures.kept c.in_ok-insert-in-App.ensures.id c.in_ok-insert-in-App.ensures.few)
