use Rattle.std.proofs.Common.{ap, refl}
use Rattle.trs_core.specs.View.{tree}
use Rattle.dp_core.proofs.Subterms.{proper_of, sub_of_variable}
use Rattle.dp_core.proofs.contained.containment_in.Goals as goal

pub returns-then-same : goal.returns-then-same
returns-then-same c = c.same.ensures.0 c.if-same.true

pub returns-in-Var : goal.returns-in-Var
returns-in-Var c = λ p.
    let found = c.same.ensures.1 (sub_of_variable (tree c.args.t.now) (tree c.args.s.now) c.in-Var.field-0 (ap tree c.in-Var.is) p) in
    let other = c.if-same.false in
    absurd cc

pub returns-in-None : goal.returns-in-None
returns-in-None c =
    proper_of (tree c.args.s.now) (tree c.args.t.now)
    (λ e. let found = c.same.ensures.1 e in let other = c.if-same.false in absurd cc)
    (c.in-None.ensures.found refl)
