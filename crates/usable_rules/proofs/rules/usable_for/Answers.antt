use Rattle.std.proofs.Common.{◌≡◌, Bool, false, ap, ◌∙◌, sym, subst, length}
use Rattle.std.proofs.lemmas.List.{length-replicate}
use Rattle.trs_defs.specs.System.{System, IsSystem}
use Rattle.usable_rules.specs.AreUsable.{AreUsableRules}
use Rattle.dp_core.specs.Numbered.{ArePairsOf}
use Rattle.usable_rules.proofs.Found.{unmarked_start, whole}
use Rattle.usable_rules.proofs.rules.usable_for.Goals as goal

pub mark_pairs-requires-clause-marked : goal.mark_pairs-requires-clause-marked
mark_pairs-requires-clause-marked c =
    rw c.new-found.ensures.items (unmarked_start c.in_ok-flags.flags.items (length c.arities.result.now) (c.in_ok-flags.ensures.items_if_clones_equal (λ y e. e)))

pub returns : goal.returns
returns c = record {
  usable = λ pairs are.
      let system = c.in_ok-by_root.by_root in
      let flags = c.close.new.flags.items in
      let found = c.mark_pairs.new.found.items in
      let led = c.in_ok-mark_pairs.ensures in
      let closed = c.in_ok-close.ensures in
      let here : ArePairsOf c.sides.result.now c.args.problem.now pairs = rw c.sides.ensures are in
      let made = c.in_ok-flags.ensures.items_if_clones_equal (λ y e. e) in
      let same : length flags ≡ length c.args.trs.now.arities =
      closed.flags ∙ (led.flags ∙ (ap length made ∙ (length-replicate {A = Bool} (length c.arities.result.now) false ∙ ap length c.arities.ensures))) in
      subst (λ (s : System). AreUsableRules s.rules pairs c.in_ok-numbers.numbers.items) c.in_ok-by_root.ensures
      (whole system pairs flags found c.close.new.found.items c.in_ok-numbers.numbers.items (subst IsSystem (sym c.in_ok-by_root.ensures) c.rules.ensures.valid) (rw c.in_ok-by_root.ensures same) closed.marked
      (rw (c.in_ok-by_root.ensures, ← c.deref.ensures.value, ← c.rules.ensures.rules) c.in_ok-numbers.ensures) closed.kept (λ g by_pairs low. led.all pairs here g by_pairs (rw (← led.flags, ← closed.flags) low))
      (λ g i. rw (← c.new-found.ensures.items) (led.only pairs here g i)) (λ f g i by_rule low. closed.all f g i by_rule (rw (← closed.flags) low)) (closed.only pairs));
}
