use Rattle.std.proofs.Common.{◌≡◌, ap, subst, sym, arith}
use Rattle.trs_core.specs.View.{tree}
use Rattle.trs_unify.specs.Bindings.{stopped_depth}
use Rattle.crit_pairs.proofs.PutIn.{unbound_instance, last_instance, further_instance, bound_measure}
use Rattle.crit_pairs.proofs.solved.+depth.Goals as goal

pub depth-requires-in-Some : goal.depth-requires-in-Some
depth-requires-in-Some t c =
    (omega (arith, bound_measure c.args.levels c.args.bindings.now.list.items c.in-Var.v (tree c.in-Some.bound.now) (tree c.args.t.now) c.if-levels-eq0.false (sym c.in-Some.ensures), c.decreases), tt)

pub returns-in-None : goal.returns-in-None
returns-in-None t c =
    ap stopped_depth (sym (unbound_instance c.args.levels c.args.bindings.now.list.items c.in-Var.v (tree c.args.t.now) (ap tree c.in-Var.is) (sym c.in-None.ensures)))

pub returns-then-levels-eq0 : goal.returns-then-levels-eq0
returns-then-levels-eq0 t c =
    subst (λ z. c.depth.result ≡ stopped_depth z)
    (sym (last_instance c.args.levels c.args.bindings.now.list.items c.in-Var.v (tree c.args.t.now) (tree c.in-Some.bound.now) (ap tree c.in-Var.is) c.if-levels-eq0.true (sym c.in-Some.ensures)))
    c.depth.ensures

pub returns-else-levels-eq0 : goal.returns-else-levels-eq0
returns-else-levels-eq0 t c =
    subst (λ z. c.depth-in-Some.result ≡ stopped_depth z)
    (sym (further_instance c.args.levels c.args.bindings.now.list.items c.in-Var.v (tree c.args.t.now) (tree c.in-Some.bound.now) (ap tree c.in-Var.is) c.if-levels-eq0.false (sym c.in-Some.ensures)))
    c.depth-in-Some.ensures
