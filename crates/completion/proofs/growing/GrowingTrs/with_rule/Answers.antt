use Rattle.std.proofs.Common.{◌∷◌, [], ℕ, List, ap, arith, subst, sym, ◌∙◌}
use Rattle.trs_defs.specs.System.{RewriteRule, System}
use Rattle.trs_core.specs.SystemLimits.{IsWithinLimits}
use Rattle.completion.specs.Growing.{HasNumber, single}
use Rattle.completion.specs.Treating.{whole}
use Rattle.completion.proofs.GrowingLaws.{one_grown}
use Rattle.completion.proofs.growing.GrowingTrs.with_rule.Goals as goal

pub invariant_of-result : goal.invariant_of-result
invariant_of-result c =
    let before = c.self.inside in
    let L : System → Type 0 = λ s. IsWithinLimits (whole s (c.args.rule ∷ [])) in
    let N : RewriteRule → Type 0 = λ r. HasNumber before.by_root.items c.put_number.new.by_root.items r.left c.len.result in
    one_grown before.arities.items before.rules.items before.singles.items before.by_root.items before.nodes c.self.invariant c.args.rule
    c.push-2.new.self.items c.in_ok-single.single c.push.new.self.items c.put_number.new.by_root.items c.len.result c.with_nodes-nodes.result
    c.in_ok-push-2.ensures.items (c.in_ok-single.ensures ∙ ap (λ (table : List ℕ). single table c.args.rule) c.deref.ensures.value) c.in_ok-push.ensures.items
    c.systems_are_valid.ensures.valid c.systems_are_valid.ensures.variables (subst L (sym c.self.view_is) c.requires) (omega (arith, c.len.ensures, before.rules.ok.0))
    (subst N c.rule.view_is c.in_ok-put_number.ensures) 18446744073709551615 (omega arith) c.with_nodes-nodes.ensures
