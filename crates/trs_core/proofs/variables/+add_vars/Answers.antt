use Rattle.std.proofs.Common.{refl, arith}
use Rattle.std.proofs.lemmas.List.{drop_all}
use Rattle.trs_defs.proofs.ArgumentLists.{cell}
use Rattle.trs_core.proofs.variables.+add_vars.Goals as goal

pub loop-arg-init : goal.loop-arg-init
loop-arg-init t c = record { walk = rw (c.deref-arg-items.ensures.value, c.in-App.is, ← c.args-in-App.view_is) refl; listed = c.requires }

pub loop-arg-preserved : goal.loop-arg-preserved
loop-arg-preserved t c =
    let next = cell c.deref-arg-items.result.now c.loop-arg.arg-index c.arg-item.result c.loop-arg-test.true c.arg-item.is in
    record {
      walk = rw c.in_ok-add_vars-in-App.ensures.vars (rw next at c.loop-arg.invariant.walk);
      listed = c.in_ok-add_vars-in-App.ensures.seen;
    }

pub returns-after-loop-arg-clause-vars : goal.returns-after-loop-arg-clause-vars
returns-after-loop-arg-clause-vars t c =
    rw (drop_all c.loop-arg.arg-index c.deref-arg-items.result.now (omega arith)) at c.loop-arg.invariant.walk
