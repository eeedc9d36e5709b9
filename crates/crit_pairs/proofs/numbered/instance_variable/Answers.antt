use Rattle.std.proofs.Common.{ap, sym, refl, ◌∙◌}
use Rattle.trs_defs.specs.Tree.{var}
use Rattle.trs_core.specs.View.{tree}
use Rattle.crit_pairs.proofs.PutIn.{unbound_instance, last_instance}
use Rattle.crit_pairs.proofs.numbered.instance_variable.Goals as goal

pub returns-in-None : goal.returns-in-None
returns-in-None c =
    let bindings = c.args.bindings.now in
    unbound_instance bindings.levels bindings.list.items c.args.v (var c.args.v) refl (sym c.in-None.ensures)

pub returns-in-Some-Var : goal.returns-in-Some-Var
returns-in-Some-Var c =
    let bindings = c.args.bindings.now in
    last_instance bindings.levels bindings.list.items c.args.v (var c.args.v) (tree c.in-Some-Var.field-0.now) refl c.if-bindings-eq0.true (sym c.in-Some-Var.ensures)
    ∙ ap tree c.in-Some-Var.field-0-is
