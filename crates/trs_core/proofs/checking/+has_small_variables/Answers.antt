use Rattle.std.proofs.Common.{◌<◌, ap}
use Rattle.std.proofs.lemmas.Bool.{lt-ltb, ltb-true}
use Rattle.trs_defs.specs.Tree.{trees}
use Rattle.trs_core.specs.View.{tree}
use Rattle.trs_core.proofs.EachVariable.{one_variable, each_argument, next_argument, not_each}
use Rattle.trs_core.proofs.checking.+has_small_variables.Goals as goal

pub returns-in-Var : goal.returns-in-Var
returns-in-Var t c =
    let one = one_variable (λ v. v < 65536) c.in-Var.v (tree c.args.t.now) (ap tree c.in-Var.is) in
    (λ h. one.0 (ltb-true c.in-Var.v 65536 h), λ h. lt-ltb c.in-Var.v 65536 (one.1 h))

pub loop-arg-init : goal.loop-arg-init
loop-arg-init t c =
    rw c.deref-arg-items.ensures.value
    (each_argument (λ v. v < 65536) c.in-App.field-0 _ _ (tree c.args.t.now) (ap trees c.args-in-App.view_is) (ap tree c.in-App.is))

pub returns-then-not-has_small_variables : goal.returns-then-not-has_small_variables
returns-then-not-has_small_variables t c =
    not_each (λ v. v < 65536) _ c.loop-arg.arg-index c.arg-item.result (tree c.args.t.now) c.loop-arg-test.true c.arg-item.is
    (λ small. let yes = c.has_small_variables.ensures.1 small in cc) c.loop-arg.invariant

pub loop-arg-preserved : goal.loop-arg-preserved
loop-arg-preserved t c =
    next_argument (λ v. v < 65536) _ c.loop-arg.arg-index c.arg-item.result (tree c.args.t.now) c.loop-arg-test.true c.arg-item.is
    (c.has_small_variables.ensures.0 c.if-not-has_small_variables.false) c.loop-arg.invariant
