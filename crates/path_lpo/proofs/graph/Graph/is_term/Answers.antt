use Rattle.std.proofs.Common.{Some, ap, refl, ◌∙◌}
use Rattle.path_lpo.specs.declared.nodes.Node.TheVariants.{Var, App}
use Rattle.path_lpo.proofs.Readings.{read_node, term_stands}
use Rattle.path_lpo.proofs.graph.Graph.is_term.Goals as goal

pub returns-in-Some-Var : goal.returns-in-Some-Var
returns-in-Some-Var c = λ _.
    let ns = c.args.self.now.nodes.items in
    term_stands ns c.args.n (Var c.in-Some-Var.field-0-0) _ c.args.self.now.earlier
    (read_node ns c.deref.result.now c.args.n c.get.result c.in-Some-Var.field-0 c.deref.ensures.value c.get.ensures.lookup c.in-Some-Var.is ∙ ap (λ n. Some n) c.in-Some-Var.field-0-is) refl

pub returns-in-Some-App : goal.returns-in-Some-App
returns-in-Some-App c = λ _.
    let ns = c.args.self.now.nodes.items in
    term_stands ns c.args.n (App c.in-Some-App.field-0-0 c.in-Some-App.field-0-1) _ c.args.self.now.earlier
    (read_node ns c.deref.result.now c.args.n c.get.result c.in-Some-App.field-0 c.deref.ensures.value c.get.ensures.lookup c.in-Some-App.is ∙ ap (λ n. Some n) c.in-Some-App.field-0-is) refl
