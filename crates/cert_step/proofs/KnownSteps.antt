-- Steps that are known to apply: what they leave, by fewer conditions.
use Rattle.std.specs.Prelude.{◌≡◌, ℕ, List, [], length, Vec, Result, Ok, Err, IsTrue, refl}
use Rattle.std.specs.declared.alloc.Global.{Global}
use Rattle.std.proofs.Common.{sym, subst, ◌∙◌}
use Rattle.trs_defs.specs.System.{System, RewriteRule}
use Rattle.trs_defs.proofs.Members.{no_in}
use Rattle.pair_theory.specs.DependencyPair.{DependencyPair, dependency_pairs}
use Rattle.rewrite_core.specs.declared.checks.refusals.StepRefused.{StepRefused}
use Rattle.rewrite_core.specs.declared.checks.refusals.CheckFault.{CheckFault}
use Rattle.rewrite_core.specs.declared.checks.refusals.CheckFault.TheVariants.{Refused, OutOfMemory}
use Rattle.rewrite_core.specs.Check.{AnswersBy, stops, goes_on, returned, least, holds}
use Rattle.rewrite_core.proofs.Answering.{then_answers}
use Rattle.dp_graph.specs.GroupOrSingle.{GroupOrSingle, groups_of}
use Rattle.dp_graph.specs.dp_core.Numbered.{ArePairsOf, taken}
use Rattle.dp_graph.specs.dp_core.PairConditions.{Comparing, removal_conditions, pair_conditions}
use Rattle.usable_rules.specs.UsableConditions.{usable_conditions, usable_taken}
use Rattle.cert_step.specs.declared.any_order.AnyOrder.{AnyOrder}
use Rattle.cert_step.specs.declared.any_order.AnyOrder.TheVariants.{Poly, Lpo, Kbo}
use Rattle.cert_step.specs.declared.problem.Problem.{Problem}
use Rattle.cert_step.specs.ProofProblem.{ProofProblem, dp}
use Rattle.cert_step.specs.PolyKind.{poly_comparing}
use Rattle.cert_step.specs.GraphKind.{group_problems}
use Rattle.cert_step.specs.ProofStep.{ProofStep, graph, usable_poly, order_step, comparing_of, kind_of}
use Rattle.cert_step.specs.Applies.{Applies, DoesApply}
use Rattle.cert_step.specs.Subproblems.{problems_of}

pub is_for : (system : System) (p : ProofProblem) (s : ProofStep) → DoesApply system p s → IsTrue ((kind_of s).is_for p)
is_for system p s (left, goes_on _ _ (holds is) met) = is

-- ---- pairs that an order leaves

abbrev pub listed : Vec ℕ Global → List ℕ
listed numbers = numbers.items

module _ (c : Comparing) (rules : ℕ) (numbers : List ℕ) (pairs : List DependencyPair) where
  -- where the conditions are met, those on rules and on their symbols need not be checked again
  removed_as_known : (symbols : List ℕ) (weak : List (ℕ × RewriteRule)) (left : List ℕ) → removal_conditions c symbols weak rules numbers pairs (Ok left)
      → (r : Result (List ℕ) StepRefused) → removal_conditions c [] [] rules numbers pairs r → removal_conditions c symbols weak rules numbers pairs r
  removed_as_known symbols weak left (goes_on _ _ entries (goes_on _ _ marked (goes_on _ _ each rest))) r (stops why (least n lacks first)) = absurd (no_in lacks.0)
  removed_as_known symbols weak left (goes_on _ _ entries (goes_on _ _ marked (goes_on _ _ each rest))) r (goes_on _ _ none (stops why lacks)) = goes_on _ _ entries (stops why lacks)
  removed_as_known symbols weak left (goes_on _ _ entries (goes_on _ _ marked (goes_on _ _ each rest))) r (goes_on _ _ none (goes_on _ _ also (stops why never))) = elim never [ ]
  removed_as_known symbols weak left (goes_on _ _ entries (goes_on _ _ marked (goes_on _ _ each rest))) r (goes_on _ _ none (goes_on _ _ also (goes_on _ _ returned answer))) =
      goes_on _ _ entries (goes_on _ _ also (goes_on _ _ each answer))

  known_removal : (symbols : List ℕ) (weak : List (ℕ × RewriteRule)) (left : List ℕ) → removal_conditions c symbols weak rules numbers pairs (Ok left)
      → (result : Result (Vec ℕ Global) CheckFault) → AnswersBy listed (removal_conditions c [] [] rules numbers pairs) result
      → AnswersBy listed (removal_conditions c symbols weak rules numbers pairs) result
  known_removal symbols weak left met (Ok z) h = removed_as_known symbols weak left met (Ok z.items) h
  known_removal symbols weak left met (Err (Refused why)) h = removed_as_known symbols weak left met (Err why) h
  known_removal symbols weak left met (Err OutOfMemory) h = tt

module _ (c : Comparing) (rules : List RewriteRule) (all : List DependencyPair) (numbers : List ℕ) (result : Result (Vec ℕ Global) CheckFault) (answers : (pairs : List DependencyPair) → ArePairsOf all numbers pairs → AnswersBy listed (removal_conditions c [] [] (length rules) numbers pairs) result) where
  pub known_pairs : (left : List ℕ) → pair_conditions c rules all numbers (Ok left) → AnswersBy listed (pair_conditions c rules all numbers) result
  known_pairs left (goes_on _ _ (taken pairs are) met) =
      then_answers _ _ listed pairs result (taken pairs are) (known_removal c (length rules) numbers pairs _ _ left met result (answers pairs are))

  pub known_usable : (left : List ℕ) → usable_conditions c rules all numbers (Ok left) → AnswersBy listed (usable_conditions c rules all numbers) result
  known_usable left (goes_on _ _ (taken pairs are) (goes_on _ _ (usable_taken ks usable those chosen) met)) =
      then_answers _ _ listed pairs result (taken pairs are)
      (then_answers _ _ listed (ks, usable) result (usable_taken ks usable those chosen)
      (known_removal c (length rules) numbers pairs _ _ left met result (answers pairs are)))

module _ (system : System) (numbers : List ℕ) where
  pub order_met : (order : AnyOrder) → DoesApply system (dp numbers) (order_step order)
      → (left : List ℕ) × pair_conditions (comparing_of order) system.rules (dependency_pairs system.rules) numbers (Ok left)
  order_met (Poly table) (left, goes_on _ _ is (goes_on rest _ met others)) = (rest, met)
  order_met (Lpo path) (left, goes_on _ _ is (goes_on rest _ met others)) = (rest, met)
  order_met (Kbo knuth) (left, goes_on _ _ is (goes_on rest _ met others)) = (rest, met)

  pub usable_met : (entries : List (ℕ × List ℕ)) → DoesApply system (dp numbers) (usable_poly entries)
      → (left : List ℕ) × usable_conditions (poly_comparing entries) system.rules (dependency_pairs system.rules) numbers (Ok left)
  usable_met entries (left, goes_on _ _ is (goes_on rest _ met others)) = (rest, met)

-- ---- groups

module _ (system : System) (items : List GroupOrSingle) where
  groups_left : (p : ProofProblem) (left : List ProofProblem) → Applies system p (graph items) left → left ≡ group_problems (groups_of items)
  groups_left (dp numbers) _ (goes_on _ _ is (goes_on _ _ (goes_on _ _ named (goes_on _ _ every (goes_on _ _ onward (goes_on _ _ own returned)))) returned)) = refl
  groups_left _ left (goes_on _ _ is met) = absurd met

  pub groups_apply : (p : ProofProblem) (problems : Vec Problem Global) → DoesApply system p (graph items) → problems_of problems ≡ group_problems (groups_of items)
      → Applies system p (graph items) (problems_of problems)
  groups_apply p problems (left, applies) are = subst (λ x. Applies system p (graph items) x) (groups_left p left applies ∙ sym are) applies
