use Rattle.std.proofs.Common.{◌≡◌, ◌+◌, ◌++◌, ◌∙◌, List, [], ◌∷◌, drop, subst, sym}
use Rattle.trs_defs.specs.System.{RewriteRule, System}
use Rattle.trs_core.specs.View.{tree}
use Rattle.trs_defs.proofs.ArgumentLists.{cell}
use Rattle.std.proofs.lemmas.List.{drop_all}
use Rattle.completion.specs.declared.met.Met.{Met}
use Rattle.completion.specs.declared.treating.Outcome.{Outcome as CodeOutcome}
use Rattle.completion.specs.CompletionRun.{Treats}
use Rattle.completion.specs.GreaterBy.{GreaterBy}
use Rattle.completion.specs.MetTerms.{IsMet}
use Rattle.completion.specs.Taking.{IsTermOver}
use Rattle.completion.specs.Treating.{pair_of, whole, IsOutcome}
use Rattle.completion.proofs.TreatLaws.{added_fits}
use Rattle.completion.proofs.LoopLaws.{equation_over, same_taking, take_begins, take_next, take_more, take_stops, take_all}
use Rattle.completion.proofs.taking.take.Goals.{in-Passed, in-Added+in_ok-add_rule-in-Added+in_ok-system-in-Added}
use Rattle.completion.proofs.taking.take.Goals as goal

pub loop-equation-init : goal.loop-equation-init
loop-equation-init c = record {
  on = take_begins (GreaterBy c.args.order.now) c.args.equations.now c.args.budget c.rules-equation-items.ensures.limits c.in_ok-system.system c.rules-equation-items.result.now
      c.in_ok-system.ensures c.rules-equation-items.ensures.rules;
  met = rw c.in_ok-system.ensures c.new-met.ensures;
}

pub treat-requires-clause-left : goal.treat-requires-clause-left
treat-requires-clause-left c =
    let T : RewriteRule → Type 0 = λ p. IsTermOver c.loop-equation.system.arities p.left in
    subst T (sym c.equation.view_is)
    (equation_over c.loop-equation.system c.args.equations.now c.rules-equation-items.result.now c.loop-equation.equation-index c.equation-item.result
    c.rules-equation-items.ensures.valid c.rules-equation-items.ensures.limits c.rules-equation-items.ensures.rules c.loop-equation.invariant.on.arities c.loop-equation-test.true c.equation-item.is).0

pub treat-requires-clause-right : goal.treat-requires-clause-right
treat-requires-clause-right c =
    let T : RewriteRule → Type 0 = λ p. IsTermOver c.loop-equation.system.arities p.right in
    subst T (sym c.equation.view_is)
    (equation_over c.loop-equation.system c.args.equations.now c.rules-equation-items.result.now c.loop-equation.equation-index c.equation-item.result
    c.rules-equation-items.ensures.valid c.rules-equation-items.ensures.limits c.rules-equation-items.ensures.rules c.loop-equation.invariant.on.arities c.loop-equation-test.true c.equation-item.is).1

pub returns-in-Ended : goal.returns-in-Ended
returns-in-Ended c =
    let greater = GreaterBy c.args.order.now in
    let items = c.rules-equation-items.result.now in
    let system = c.loop-equation.system in
    let T : CodeOutcome → Type 0 = IsOutcome (Treats system.arities greater system.rules c.loop-equation.left (pair_of (tree c.equation.inside.left) (tree c.equation.inside.right))) in
    take_stops greater c.args.equations.now c.args.budget system c.loop-equation.left (drop c.loop-equation.equation-index items) c.equation-item.result
    (drop (c.loop-equation.equation-index + 1) items) (cell items c.loop-equation.equation-index c.equation-item.result c.loop-equation-test.true c.equation-item.is)
    (pair_of (tree c.equation.inside.left) (tree c.equation.inside.right)) c.equation.view_is c.loop-equation.invariant.on c.in-Ended.why (subst T c.in-Ended.is c.in_ok-units.ensures.outcome)

pub with_rule-requires : goal.with_rule-requires
with_rule-requires c =
    let system = c.loop-equation.system in
    let T : CodeOutcome → Type 0 = IsOutcome (Treats system.arities (GreaterBy c.args.order.now) system.rules c.loop-equation.left (pair_of (tree c.equation.inside.left) (tree c.equation.inside.right))) in
    (added_fits (subst T c.in-Added.is c.in_ok-units.ensures.outcome)).limits

pub add_rule-requires : goal.add_rule-requires
add_rule-requires c = c.in_ok-units.ensures.met.within

pub returns : goal.returns
returns c =
    let (arities, takes) = take_all (GreaterBy c.args.order.now) c.args.equations.now c.args.budget c.loop-equation.system c.loop-equation.left (drop c.loop-equation.equation-index c.rules-equation-items.result.now)
    (drop_all c.loop-equation.equation-index c.rules-equation-items.result.now c.loop-equation-test.false) c.loop-equation.invariant.on in
    (arities, takes, c.loop-equation.invariant.met)

pub loop-equation-preserved : goal.loop-equation-preserved
loop-equation-preserved c =
    let greater = GreaterBy c.args.order.now in
    let items = c.rules-equation-items.result.now in
    let system = c.loop-equation.system in
    let pair : RewriteRule = pair_of (tree c.equation.inside.left) (tree c.equation.inside.right) in
    let T : CodeOutcome → Type 0 = IsOutcome (Treats system.arities greater system.rules c.loop-equation.left pair) in
    let rest : List RewriteRule = drop c.loop-equation.equation-index items in
    let later : List RewriteRule = drop (c.loop-equation.equation-index + 1) items in
    let is : rest ≡ c.equation-item.result ∷ later = cell items c.loop-equation.equation-index c.equation-item.result c.loop-equation-test.true c.equation-item.is in
    let S : System → Type 0 = λ s. IsMet s.rules c.match-branch-3.met in
    let M : List RewriteRule → Met → Type 0 = λ rules met. IsMet rules met in
    elim c.match-branch-3.branch [
      | in-Passed w ↦ record {
        on = same_taking greater c.args.equations.now c.args.budget system c.match-branch-3.system w.in-Passed.units c.match-branch-3.left later w.system-is w.left-is
            (take_next greater c.args.equations.now c.args.budget system c.loop-equation.left rest c.equation-item.result later is pair c.equation.view_is c.loop-equation.invariant.on
            w.in-Passed.units (subst T w.in-Passed.is c.in_ok-units.ensures.outcome));
        met = subst S (sym w.system-is) (subst (M system.rules) (sym w.met-is) c.in_ok-units.ensures.met);
      }
      | in-Added+in_ok-add_rule-in-Added+in_ok-system-in-Added w ↦ record {
        on = same_taking greater c.args.equations.now c.args.budget (whole system (w.in-Added.rule ∷ [])) c.match-branch-3.system w.in-Added.units c.match-branch-3.left later
            (w.system-is ∙ w.in_ok-system-in-Added.ensures) w.left-is
            (take_more greater c.args.equations.now c.args.budget system c.loop-equation.left rest c.equation-item.result later is pair c.equation.view_is c.loop-equation.invariant.on
            w.in-Added.rule w.in-Added.units (subst T w.in-Added.is c.in_ok-units.ensures.outcome));
        met = subst S (sym (w.system-is ∙ w.in_ok-system-in-Added.ensures)) (subst (M (system.rules ++ w.in-Added.rule ∷ [])) (sym w.met-is) (w.in_ok-add_rule-in-Added.ensures.met system.rules c.in_ok-units.ensures.met));
      }
    ]
