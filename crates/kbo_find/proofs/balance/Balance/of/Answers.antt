use Rattle.std.proofs.Common.{◌↔◌, ℕ, IsTrue, List, ap, sym, subst}
use Rattle.trs_defs.specs.Tree.{Tree}
use Rattle.trs_defs.specs.System.{RewriteRule}
use Rattle.trs_core.specs.View.{tree}
use Rattle.order_theory.specs.KnuthBendix.{KeepsOccurrences}
use Rattle.kbo_find.specs.Counted.{AreCountsOf}
use Rattle.kbo_find.specs.Occurring.{StandAsOften}
use Rattle.kbo_find.specs.declared.counts.Counts.{Counts}
use Rattle.kbo_find.proofs.OccurrenceSums.{counted, occurring, kept_by}
use Rattle.kbo_find.proofs.balance.Balance.of.Goals as goal

pub invariant_of-result-clause-left_counted : goal.invariant_of-result-clause-left_counted
invariant_of-result-clause-left_counted c =
    let side = c.args.left_side.now in
    subst (λ (n : Counts). AreCountsOf c.args.rule.now.left n) (sym c.in_ok-clone.ensures.cases)
    (subst (λ (t : Tree). AreCountsOf t side.counts.value) c.requires side.counted)

pub invariant_of-result-clause-right_counted : goal.invariant_of-result-clause-right_counted
invariant_of-result-clause-right_counted c =
    subst (λ (r : RewriteRule). AreCountsOf r.right c.in_ok-of.field-0) c.rule.view_is
    (counted (tree c.rule.inside.right.now) c.in_ok-right.right c.in_ok-right.ensures c.in_ok-of.field-0 c.in_ok-of.ensures)

pub invariant_of-result-clause-kept : goal.invariant_of-result-clause-kept
invariant_of-result-clause-kept c =
    let side = c.args.left_side.now in
    let right = c.in_ok-right.right in
    let keeps = c.stands_as_often.result in
    let stand : IsTrue keeps ↔ StandAsOften side.occurrences.variables.items right.variables.items =
    (subst (λ (l : List ℕ). IsTrue keeps ↔ StandAsOften l right.variables.items) c.deref.ensures.value
    (subst (λ (l : List ℕ). IsTrue keeps ↔ StandAsOften c.deref.result.now l) c.deref-2.ensures.value c.stands_as_often.ensures)) in
    subst (λ (t : Tree). IsTrue keeps ↔ KeepsOccurrences t c.args.rule.now.right) c.requires
    (subst (λ (t : Tree). IsTrue keeps ↔ KeepsOccurrences (tree side.term.now) t) (ap (λ (r : RewriteRule). r.right) c.rule.view_is)
    (kept_by (tree side.term.now) (tree c.rule.inside.right.now) side.occurrences.variables.items right.variables.items side.listed
    (occurring (tree c.rule.inside.right.now) right c.in_ok-right.ensures) keeps stand))
