use Rattle.std.proofs.Common.{Some, refl, ap, sym, ◌∙◌}
use Rattle.trs_defs.specs.System.{RewriteRule}
use Rattle.trs_core.specs.View.{tree}
use Rattle.dp_graph.proofs.PairNodeLaws.{caps_made, free_rule_added, no_pairs_added, rule_added}
use Rattle.dp_graph.proofs.nodes.Nodes.add_rule.Goals as goal

pub returns-in_default : goal.returns-in_default
returns-in_default c = λ k pairs numbered noted are.
    free_rule_added c.args.by_root.now.rules c.args.lefts.now pairs c.args.self.now c.args.rule.now.left c.args.rule.now.right
    (c.requires.others k c.args.rule.now (noted ∙ ap (λ z. Some z) c.in_default.is) numbered) are

pub returns-in-Var : goal.returns-in-Var
returns-in-Var c = λ k pairs numbered noted are.
    let left = sym (ap (λ (r : RewriteRule). r.left) c.rule.view_is) ∙ ap tree c.in-Var.is in
    let made = caps_made c.args.by_root.now.rules c.args.lefts.now pairs c.args.self.now _ c.add_ends.new.self c.args.rule.now.right c.add_ends.new.ends.items refl refl refl are c.in_ok-add_ends.ensures.kept
    (rw (ap (λ (r : RewriteRule). r.right) c.rule.view_is, c.new-ends.ensures.items) at (c.in_ok-add_ends.ensures.ends are.caps are.are)) in
    no_pairs_added c.args.by_root.now.rules c.args.lefts.now pairs _ c.args.rule.now.left c.args.rule.now.right _ left made.0

pub returns : goal.returns
returns c = λ k pairs numbered noted are.
    let left = sym (ap (λ (r : RewriteRule). r.left) c.rule.view_is) ∙ ap tree c.in-App.is in
    let made = caps_made c.args.by_root.now.rules c.args.lefts.now pairs c.args.self.now _ c.add_ends.new.self c.args.rule.now.right c.add_ends.new.ends.items refl refl refl are c.in_ok-add_ends.ensures.kept
    (rw (ap (λ (r : RewriteRule). r.right) c.rule.view_is, c.new-ends.ensures.items) at (c.in_ok-add_ends.ensures.ends are.caps are.are)) in
    rule_added c.args.by_root.now.rules c.args.lefts.now pairs k c.in-Some.first c.in-App.from c.args.rule.now _ c.add_ends.new.ends.items _ c.add_all.new.self numbered (noted ∙ ap (λ z. Some z) c.in-Some.is) left made.0 made.1
    (rw c.deref.ensures.value at c.in_ok-add_all-in-App.ensures)
