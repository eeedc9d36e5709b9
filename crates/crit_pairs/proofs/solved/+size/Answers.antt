use Rattle.std.proofs.Common.{◌≡◌, ap, subst, sym, arith}
use Rattle.trs_core.specs.View.{tree}
use Rattle.trs_unify.specs.Bindings.{stopped_size}
use Rattle.crit_pairs.proofs.PutIn.{unbound_instance, last_instance, further_instance, bound_measure}
use Rattle.crit_pairs.proofs.solved.+size.Goals as goal

pub size-requires : goal.size-requires
size-requires t c =
    (omega (arith, bound_measure c.args.levels c.args.bindings.now.list.items c.in-Var.v (tree c.in-Some.bound.now) (tree c.args.t.now) c.if-levels-eq0.false (sym c.in-Some.ensures), c.decreases), tt)

pub returns-in-None : goal.returns-in-None
returns-in-None t c =
    ap stopped_size (sym (unbound_instance c.args.levels c.args.bindings.now.list.items c.in-Var.v (tree c.args.t.now) (ap tree c.in-Var.is) (sym c.in-None.ensures)))

pub returns-then-levels-eq0 : goal.returns-then-levels-eq0
returns-then-levels-eq0 t c =
    subst (λ z. c.bound_size.result ≡ stopped_size z)
    (sym (last_instance c.args.levels c.args.bindings.now.list.items c.in-Var.v (tree c.args.t.now) (tree c.in-Some.bound.now) (ap tree c.in-Var.is) c.if-levels-eq0.true (sym c.in-Some.ensures)))
    c.bound_size.ensures

pub returns-else-levels-eq0 : goal.returns-else-levels-eq0
returns-else-levels-eq0 t c =
    subst (λ z. c.size.result ≡ stopped_size z)
    (sym (further_instance c.args.levels c.args.bindings.now.list.items c.in-Var.v (tree c.args.t.now) (tree c.in-Some.bound.now) (ap tree c.in-Var.is) c.if-levels-eq0.false (sym c.in-Some.ensures)))
    c.size.ensures
