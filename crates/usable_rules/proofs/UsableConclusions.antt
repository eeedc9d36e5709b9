-- What a step by usable rules concludes.
use Rattle.std.proofs.Common.{◌⊎◌, ◌++◌, ℕ, Bool, List, zip, length, IsTrue, inl, inr, sym, subst, Result}
use Rattle.trs_defs.specs.Member.{In}
use Rattle.trs_defs.proofs.Members.{in_or, no_in}
use Rattle.trs_defs.specs.Tree.{Tree, var, app, nil, cons}
use Rattle.trs_defs.specs.System.{RewriteRule, System, IsSystem, is_defined}
use Rattle.pair_theory.specs.Marked.{mark}
use Rattle.pair_theory.specs.DependencyPair.{DependencyPair, dependency_pairs}
use Rattle.pair_theory.specs.PairProblem.{IsFiniteProblem, IsPair}
use Rattle.order_theory.specs.UsableRules.{HasUsable, root_in, choices}
use Rattle.rewrite_core.specs.declared.checks.refusals.CheckFault.{CheckFault}
use Rattle.rewrite_core.specs.Check.{Check, AnswersBy, Then, goes_on}
use Rattle.rewrite_core.proofs.Answering.{then_answers}
use Rattle.rewrite_core.proofs.CheckLaws.{once}
use Rattle.dp_core.specs.Numbered.{ArePairsOf, AreItemsOf, taken}
use Rattle.dp_core.specs.Symbols.{symbols_of_rules, symbols_below_roots}
use Rattle.dp_core.specs.SubtermConditions.{unflagged}
use Rattle.dp_core.specs.PairConditions.{Comparing, removal_conditions}
use Rattle.dp_core.proofs.Conclusions.{takes_pairs_once, each_in}
use Rattle.dp_core.proofs.NumberedPairs.{as_many}
use Rattle.dp_core.proofs.OrderConclusions.{removal_met, removal_leaves, removal_concludes}
use Rattle.dp_core.proofs.OrderLaws.{of_taken}
use Rattle.usable_rules.specs.AreUsable.{AreUsableRules}
use Rattle.usable_rules.specs.UsableConditions.{TakesUsableRules, usable_taken, usable_conditions}
use Rattle.usable_rules.specs.Laws.{UsableStepsConclude, UsableStepsAnswerOnce, UsableStepsLeaveNumbers}
use Rattle.usable_rules.proofs.Chosen.{chosen_has_usable, rooted_chosen, takes_usable_once}

-- the theorem on removal of pairs by usable rules
abbrev pub Suffices : Comparing → (Tree → Type 0) → Type 0
Suffices comparing speaks_of =
    (system : System) (pairs stays : List DependencyPair) (usable : ℕ → Bool) → IsSystem system → ((p : DependencyPair) → In p pairs → IsPair system.arities p)
    → HasUsable system.rules pairs usable → ((t : Tree) → speaks_of t)
    → ((r : RewriteRule) → In r system.rules → IsTrue (root_in usable r.left) → comparing.weak r.left r.right)
    → ((r : RewriteRule) → In r choices → comparing.weak r.left r.right)
    → ((p : DependencyPair) → In p pairs → (In p stays × comparing.weak (mark p.from) (mark p.to)) ⊎ comparing.strict (mark p.from) (mark p.to))
    → IsFiniteProblem system stays → IsFiniteProblem system pairs

module _ (comparing : Comparing) where
  abbrev pub Later : List RewriteRule → List ℕ → List DependencyPair → List ℕ × List RewriteRule → Check (List ℕ)
  Later rules numbers pairs usable =
      removal_conditions comparing (symbols_of_rules usable.1 ++ symbols_below_roots pairs) (zip usable.0 usable.1) (length rules) numbers pairs

  -- what is answered of the usable rules is answered of the whole
  pub usable_answers : {Y : Type 0} (rules : List RewriteRule) (all : List DependencyPair) (numbers : List ℕ) (pairs : List DependencyPair) (ks : List ℕ) (chosen : List RewriteRule)
      (seen : Y → List ℕ) (r : Result Y CheckFault) → ArePairsOf all numbers pairs → AreUsableRules rules pairs ks → AreItemsOf rules ks chosen
      → AnswersBy seen (Later rules numbers pairs (ks, chosen)) r → AnswersBy seen (usable_conditions comparing rules all numbers) r
  usable_answers rules all numbers pairs ks chosen seen r are usable items h =
      of_taken all numbers pairs (λ ps. Then (TakesUsableRules rules ps) (Later rules numbers ps)) seen r are
      (then_answers (TakesUsableRules rules pairs) (Later rules numbers pairs) seen (ks, chosen) r (usable_taken ks chosen usable items) h)

  choices_weak : ((s t : Tree) → comparing.weak (app 8191 (cons s (cons t nil))) s) → ((s t : Tree) → comparing.weak (app 8191 (cons s (cons t nil))) t)
      → (r : RewriteRule) → In r choices → comparing.weak r.left r.right
  choices_weak first second r i = elim (in_or i) [
    | inl same ↦ subst (λ (z : RewriteRule). comparing.weak z.left z.right) (sym same) (first (var 0) (var 1))
    | inr later ↦ elim (in_or later) [
      | inl same ↦ subst (λ (z : RewriteRule). comparing.weak z.left z.right) (sym same) (second (var 0) (var 1))
      | inr none ↦ absurd (no_in none)
    ]
  ]

  pub usable_steps_conclude : (speaks_of : Tree → Type 0) → ((t : Tree) → speaks_of t)
      → ((s t : Tree) → comparing.weak (app 8191 (cons s (cons t nil))) s) → ((s t : Tree) → comparing.weak (app 8191 (cons s (cons t nil))) t)
      → ((system : System) → IsSystem system → (p : DependencyPair) → In p (dependency_pairs system.rules) → IsPair system.arities p)
      → Suffices comparing speaks_of → UsableStepsConclude comparing
  usable_steps_conclude speaks_of speaks first second good suffices system numbers left valid (goes_on pairs _ (taken _ are) (goes_on _ _ (usable_taken ks chosen usable items) h)) =
      let all = dependency_pairs system.rules in
      let symbols = symbols_of_rules chosen ++ symbols_below_roots pairs in
      let m = removal_met comparing symbols (zip ks chosen) (length system.rules) numbers pairs left (as_many all numbers pairs are) h in
      removal_concludes comparing system symbols (zip ks chosen) numbers pairs left are m
      (suffices system pairs (unflagged pairs m.flags) (is_defined chosen) valid (λ p i. good system valid p (each_in all numbers pairs are p i))
      (chosen_has_usable system.rules pairs ks chosen usable items) speaks
      (λ r i u. let n = rooted_chosen system.rules pairs ks chosen usable items r.left r.right i u in m.rules_weak n.0 r n.1)
      (choices_weak first second) m.falls)

  pub usable_steps_once : UsableStepsAnswerOnce comparing
  usable_steps_once rules all numbers = search (once, takes_pairs_once, takes_usable_once) depth 30

  pub usable_steps_leave : UsableStepsLeaveNumbers comparing
  usable_steps_leave rules all numbers left (goes_on pairs _ (taken _ are) (goes_on _ _ (usable_taken ks chosen usable items) h)) =
      removal_leaves comparing (symbols_of_rules chosen ++ symbols_below_roots pairs) (zip ks chosen) (length rules) numbers pairs left (as_many all numbers pairs are) h
