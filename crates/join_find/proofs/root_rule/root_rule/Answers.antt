use Rattle.std.proofs.Common.{◌≡◌, ◌↔◌, ◌∙◌, List, [], Some, All, IsTrue, take, slice_get, slice_index, subst, ap}
use Rattle.std.proofs.lemmas.List.{take_all}
use Rattle.std.proofs.lemmas.List.Elements.{All-more}
use Rattle.std.proofs.lemmas.Option.{slice_get-get_or}
use Rattle.trs_defs.specs.Tree.{Tree}
use Rattle.trs_defs.specs.System.{System}
use Rattle.trs_defs.specs.Path.{StepsAt}
use Rattle.term_pool.specs.Pooled.{tree_at}
use Rattle.term_pool.specs.Roots.{with_root}
use Rattle.join_find.proofs.RootRules.{no_step_of_variable, no_step_before, no_step_at_all}
use Rattle.join_find.proofs.root_rule.root_rule.Goals.{After-with_root-k-items, In_ok-leads}
use Rattle.join_find.proofs.root_rule.root_rule.Goals as goal

pub returns-in_default-clause-rule : goal.returns-in_default-clause-rule
returns-in_default-clause-rule c =
    let variable = rw c.in_default.is at c.root.ensures.none in
    no_step_of_variable c.args.trs.now c.systems_are_valid.ensures.valid (tree_at c.args.pool.now c.args.ids.0) (tree_at c.args.pool.now c.args.ids.1) variable.0 variable.1

pub leads-requires-clause-from : goal.leads-requires-clause-from
leads-requires-clause-from c = rw c.loop-k.invariant.same c.requires.from

-- the numbers of the rules with the term's root
numbers : (c : After-with_root-k-items) → c.with_root-k-items.result.now ≡ with_root c.in-Some.f c.args.trs.now.rules
numbers c = rw (← ap (λ (s : System). s.rules) c.requires.rules) c.with_root-k-items.ensures.numbers

-- whether the rule of the next number leads there
test : (c : In_ok-leads) → IsTrue c.in_ok-leads.field-0 ↔ StepsAt c.args.trs.now.rules [] (slice_index c.with_root-k-items.result.now c.loop-k.k-index) (tree_at c.args.pool.now c.args.ids.0) (tree_at c.args.pool.now c.args.ids.1)
test c =
    let k = slice_index c.with_root-k-items.result.now c.loop-k.k-index in
    let P : List Tree → Type 0 = λ p. IsTrue c.in_ok-leads.field-0 ↔ StepsAt c.args.trs.now.rules [] k (tree_at p c.args.ids.0) (tree_at p c.args.ids.1) in
    subst P c.loop-k.invariant.same c.in_ok-leads.ensures.leads

pub returns-then-branch-clause-rule : goal.returns-then-branch-clause-rule
returns-then-branch-clause-rule c =
    let ks = c.with_root-k-items.result.now in
    let i = c.loop-k.k-index in
    let are = numbers (goal.at.returns-then-branch-clause-rule c).After-with_root-k-items in
    let rooted = rw c.in-Some.is at c.root.ensures.some in
    record {
      steps = (test (goal.at.returns-then-branch-clause-rule c).In_ok-leads).0 c.if-branch.true;
      least = no_step_before c.args.trs.now c.systems_are_valid.ensures.valid (tree_at c.args.pool.now c.args.ids.0) (tree_at c.args.pool.now c.args.ids.1) c.in-Some.f rooted.0 rooted.1 i (slice_index ks i)
          (subst (λ ns. slice_get ns i ≡ Some (slice_index ks i)) are (slice_get-get_or ks i 0 c.loop-k-test.true))
          (subst (λ ns. All (λ j. StepsAt c.args.trs.now.rules [] j (tree_at c.args.pool.now c.args.ids.0) (tree_at c.args.pool.now c.args.ids.1) → ⊥) (take i ns)) are c.loop-k.invariant.none);
    }

pub loop-k-preserved : goal.loop-k-preserved
loop-k-preserved c = record {
  same = c.in_ok-leads.ensures.same ∙ c.loop-k.invariant.same;
  none = All-more (λ j. StepsAt c.args.trs.now.rules [] j (tree_at c.args.pool.now c.args.ids.0) (tree_at c.args.pool.now c.args.ids.1) → ⊥) c.with_root-k-items.result.now c.loop-k.k-index 0 c.loop-k-test.true c.loop-k.invariant.none
      (λ step. let h = (test (goal.at.loop-k-preserved c).In_ok-leads).1 step in absurd (cc (h, c.if-branch.false)));
}

pub returns-clause-rule : goal.returns-clause-rule
returns-clause-rule c =
    let ks = c.with_root-k-items.result.now in
    let are = numbers (goal.at.returns-clause-rule c).After-with_root-k-items in
    let rooted = rw c.in-Some.is at c.root.ensures.some in
    no_step_at_all c.args.trs.now c.systems_are_valid.ensures.valid (tree_at c.args.pool.now c.args.ids.0) (tree_at c.args.pool.now c.args.ids.1) c.in-Some.f rooted.0 rooted.1
    (subst (λ ns. All (λ j. StepsAt c.args.trs.now.rules [] j (tree_at c.args.pool.now c.args.ids.0) (tree_at c.args.pool.now c.args.ids.1) → ⊥) ns) (take_all c.loop-k.k-index ks c.loop-k-test.false ∙ are) c.loop-k.invariant.none)
