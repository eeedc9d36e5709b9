-- Removal of pairs where only the usable rules need fall.
use Rattle.std.proofs.Common.{◌≡◌, ℕ, refl, sym, ◌∙◌, ◌⊎◌, inl, inr, List, ◌++◌, Bool, true, false, IsTrue, cond, ◌↔◌}
use Rattle.trs_defs.specs.Tree.{Tree, Trees, var, app, nil, cons}
use Rattle.trs_defs.specs.Member.{In, in_first, in_rest}
use Rattle.trs_defs.specs.System.{RewriteRule, System, IsSystem, Among, IsDefined, is_defined}
use Rattle.pair_theory.specs.Subterm.{Sub, itself, under, Subs, in_head, in_tail}
use Rattle.pair_theory.specs.Marked.{Marked, mark}
use Rattle.pair_theory.specs.DependencyPair.{DependencyPair}
use Rattle.pair_theory.specs.Moves.{IsOrdered, IsWellFounded}
use Rattle.pair_theory.specs.ReductionPair.{AllTerms, marked_rule}
use Rattle.pair_theory.specs.PairProblem.{PairAmong, IsFiniteProblem, IsPair}
use Rattle.order_theory.specs.UsableRules.{IsUsable, in_pair, in_rule, HasUsable, root_in, choices}
use Rattle.order_theory.specs.LinearInterpretation.{LinearWeak, LinearStrict, CoefficientWeak, CoefficientStrict}
use Rattle.order_theory.proofs.Linear.{linear_well_founded}
use Rattle.order_theory.proofs.Coefficients.{weak_by_coefficients}
use Rattle.order_theory.proofs.Removals.{linear_classed}
use Rattle.trs_defs.proofs.Members.{in_left, in_right, in_either, in_map}
use Rattle.pair_theory.proofs.PairList.{defined_true, true_defined}
use Rattle.pair_theory.proofs.Systems.{left_rooted, no_new_variables}
use Rattle.pair_theory.proofs.Problems.{Classed, Ready, chain_ready, fewer, Parted, parted, mark_rules, each_mark, pair_variables, pair_ordered}
use Rattle.order_theory.proofs.Usable.{bool_case, Free, FreeEach, usable_removal}

abbrev outside : Bool → Bool → Bool
outside true b = cond b false true
outside false b = false

outside_of_use : (a b : Bool) → b ≡ true → outside a b ≡ false
outside_of_use true b e = rw e refl
outside_of_use false b e = refl

outside_undefined : (a b : Bool) → a ≡ false → outside a b ≡ false
outside_undefined a b e = rw e refl

inside_use : (a b : Bool) → a ≡ true → outside a b ≡ false → b ≡ true
inside_use true true e h = refl
inside_use true false e h = absurd cc
inside_use false b e h = absurd cc

module _ (rules : List RewriteRule) (pairs : List DependencyPair) where
  -- a set with the test of the least one
  pub exact_has_usable : (usable : ℕ → Bool) → ((g : ℕ) → IsTrue (usable g) ↔ IsUsable rules pairs g) → HasUsable rules pairs usable
  exact_has_usable usable exact = record {
    of_pairs = λ p g us i q d. (exact g).1 (in_pair p g us i q d);
    of_rules = λ f g ls us r u i q d. (exact g).1 (in_rule f g ls us r ((exact f).0 u) i q d);
  }

  -- each such set has the least one
  pub usable_within : (usable : ℕ → Bool) → HasUsable rules pairs usable → (g : ℕ) → IsUsable rules pairs g → IsTrue (usable g)
  usable_within usable has g (in_pair p _ us i q d) = has.of_pairs p g us i q d
  usable_within usable has g (in_rule f _ ls us r u i q d) = has.of_rules f g ls us r (usable_within usable has f u) i q d

module _ (system : System) (ok : IsSystem system) (pairs stays : List DependencyPair)
    (good : (p : DependencyPair) → In p pairs → IsPair system.arities p) (usable : ℕ → Bool)
    (has : HasUsable system.rules pairs usable) (weak strict : Tree → Tree → Type 0) (well_founded : IsWellFounded weak strict AllTerms)
    (falls : (p : RewriteRule) → In p system.rules → IsTrue (root_in usable p.left) → weak p.left p.right)
    (chooses : (p : RewriteRule) → In p choices → weak p.left p.right)
    (class : Classed weak strict pairs stays) where
  abbrev Rule : Tree → Tree → Type 0
  Rule = Among system.rules

  -- defined and not usable
  abbrev hidden : ℕ → Bool
  hidden f = outside (is_defined system.rules f) (usable f)

  fine : (p : RewriteRule) → In p system.rules → (x : ℕ) → Sub (var x) p.right → Sub (var x) p.left
  fine p i = no_new_variables system ok p.left p.right i

  shown : (g : ℕ) → (IsDefined Rule g → IsTrue (usable g)) → hidden g ≡ false
  shown g k = bool_case (is_defined system.rules g)
      (λ e. outside_of_use (is_defined system.rules g) (usable g) (k (true_defined system.rules g e)))
      (λ e. outside_undefined (is_defined system.rules g) (usable g) e)

  mutual
    free_of : (t : Tree) → ((g : ℕ) (us : Trees) → Sub (app g us) t → hidden g ≡ false) → Free 8191 hidden system.rules fine t
    free_of (var x) k = tt
    free_of (app f ts) k = (k f ts itself, free_of_all ts (λ g us p. k g us (under p)))

    free_of_all : (ts : Trees) → ((g : ℕ) (us : Trees) → Subs (app g us) ts → hidden g ≡ false) → FreeEach 8191 hidden system.rules fine ts
    free_of_all nil k = tt
    free_of_all (cons t ts) k = (free_of t (λ g us p. k g us (in_head p)), free_of_all ts (λ g us p. k g us (in_tail p)))

  free_pair : (l r : Marked) → PairAmong pairs l r → FreeEach 8191 hidden system.rules fine r.args
  free_pair l r i = free_of_all r.args (λ g us p. shown g (λ d. has.of_pairs (record { from = l; to = r }) g us i p d))

  vars_pair : (l r : Marked) → PairAmong pairs l r → (x : ℕ) → Subs (var x) r.args → Subs (var x) l.args
  vars_pair l r i = pair_variables system.arities (record { from = l; to = r }) (good (record { from = l; to = r }) i)

  abbrev Used : RewriteRule → Type 0
  Used p = IsTrue (root_in usable p.left)

  used_or_not : (p : RewriteRule) → In p system.rules → Used p ⊎ (root_in usable p.left ≡ false)
  used_or_not p i = bool_case (root_in usable p.left) (λ e. inl e) (λ e. inr e)

  rules_parted : Parted RewriteRule Used (λ p. root_in usable p.left ≡ false) system.rules
  rules_parted = parted Used (λ p. root_in usable p.left ≡ false) system.rules used_or_not

  abbrev StaysWeak : DependencyPair → Type 0
  StaysWeak p = In p stays × weak (mark p.from) (mark p.to)

  abbrev GoesStrict : DependencyPair → Type 0
  GoesStrict p = strict (mark p.from) (mark p.to)

  pairs_parted : Parted DependencyPair StaysWeak GoesStrict pairs
  pairs_parted = parted StaysWeak GoesStrict pairs class

  weaks : List RewriteRule
  weaks = choices ++ (rules_parted.ones ++ mark_rules pairs_parted.ones)

  stricts : List RewriteRule
  stricts = mark_rules pairs_parted.others

  choice_in : (p : RewriteRule) → In p choices → In p weaks
  unfolding weaks
  choice_in p i = in_left (rules_parted.ones ++ mark_rules pairs_parted.ones) i

  usable_rule : (f : ℕ) (ls : Trees) (r : Tree) → Rule (app f ls) r → hidden f ≡ false → Among weaks (app f ls) r × Free 8191 hidden system.rules fine r
  unfolding weaks
  usable_rule f ls r i e =
      let used : usable f ≡ true = inside_use (is_defined system.rules f) (usable f) (defined_true system.rules f (ls, r, i)) e in (
        in_right choices (in_left (mark_rules pairs_parted.ones) (elim (rules_parted.covers _ i) [
          | inl j ↦ j
          | inr j ↦ absurd (let not : usable f ≡ false = (rules_parted.each_other _ j).1 in let clash : true ≡ false = sym used ∙ not in cc)
        ])),
        free_of r (λ g us p. shown g (λ d. has.of_rules f g ls us r used i p d)),
      )

  stay_among : (l r : Marked) → PairAmong pairs_parted.ones l r → Among weaks (mark l) (mark r)
  unfolding weaks
  stay_among l r i = in_right choices (in_right rules_parted.ones (in_map marked_rule i))

  goes_among : (l r : Marked) → PairAmong pairs_parted.others l r → Among stricts (mark l) (mark r)
  unfolding stricts
  goes_among l r i = in_map marked_rule i

  ordered_pair : (order : Tree → Tree → Type 0) (p : DependencyPair) → In p pairs → order (mark p.from) (mark p.to) → IsOrdered AllTerms order (marked_rule p)
  ordered_pair order p i h = pair_ordered system.arities AllTerms order p (good p i) tt tt h

  choice_vars : (p : RewriteRule) → In p choices → (x : ℕ) → Sub (var x) p.right → Sub (var x) p.left
  choice_vars p in_first x q = under (in_head q)
  choice_vars p (in_rest in_first) x q = under (in_tail (in_head q))
  choice_vars p (in_rest (in_rest i)) x q = elim i [ ]

  weak_ordered : (p : RewriteRule) → In p weaks → IsOrdered AllTerms weak p
  unfolding weaks
  weak_ordered p i = elim (in_either choices (rules_parted.ones ++ mark_rules pairs_parted.ones) i) [
    | inl j ↦ record { left_spoken = tt; right_spoken = tt; ordered = chooses p j; variables = choice_vars p j }
    | inr j ↦ elim (in_either rules_parted.ones (mark_rules pairs_parted.ones) j) [
      | inl k ↦ let h : In p system.rules × Used p = rules_parted.each_one p k in
          record { left_spoken = tt; right_spoken = tt; ordered = falls p h.0 h.1; variables = fine p h.0 }
      | inr k ↦ each_mark (IsOrdered AllTerms weak) pairs_parted.ones
          (λ q m. let h : In q pairs × StaysWeak q = pairs_parted.each_one q m in ordered_pair weak q h.0 h.1.1) p k
    ]
  ]

  strict_ordered : (p : RewriteRule) → In p stricts → IsOrdered AllTerms strict p
  unfolding stricts
  strict_ordered p i = each_mark (IsOrdered AllTerms strict) pairs_parted.others
      (λ q m. let h : In q pairs × GoesStrict q = pairs_parted.each_other q m in ordered_pair strict q h.0 h.1) p i

  abbrev Either : Marked → Marked → Type 0
  Either l r = PairAmong pairs_parted.ones l r ⊎ PairAmong pairs_parted.others l r

  one_of_pairs : (l r : Marked) → Either l r → PairAmong pairs l r
  one_of_pairs l r (inl i) = (pairs_parted.each_one _ i).0
  one_of_pairs l r (inr i) = (pairs_parted.each_other _ i).0

  pub usable_theorem : IsFiniteProblem system stays → IsFiniteProblem system pairs
  usable_theorem rest u w small =
      fewer Rule (PairAmong pairs) Either (λ l r i. pairs_parted.covers _ i)
      (usable_removal 8191 hidden system.rules fine weaks choice_in usable_rule (left_rooted system ok) stricts
      (PairAmong pairs_parted.ones) (PairAmong pairs_parted.others)
      (λ l r i. free_pair l r (one_of_pairs l r (inl i))) (λ l r i. free_pair l r (one_of_pairs l r (inr i)))
      (λ l r i. vars_pair l r (one_of_pairs l r (inl i))) (λ l r i. vars_pair l r (one_of_pairs l r (inr i)))
      stay_among goes_among (Ready system)
      (chain_ready system ok Either (λ l r i. good _ (one_of_pairs l r i)))
      (λ u ready. ready.1)
      (λ u ready. fewer Rule (PairAmong pairs_parted.ones) (PairAmong stays) (λ l r i. (pairs_parted.each_one _ i).1.0) (rest u ready.0 ready.1))
      (λ t. well_founded weaks stricts weak_ordered strict_ordered t tt)
      u (w, small))

-- an order that speaks of all terms, however it says so
pub on_all_terms : {weak strict : Tree → Tree → Type 0} {speaks_of : Tree → Type 0} → ((t : Tree) → speaks_of t)
    → IsWellFounded weak strict speaks_of → IsWellFounded weak strict AllTerms
on_all_terms {weak} {strict} {speaks_of} all wf ws ss ordered ordered' t spoken = wf ws ss (λ p i. put weak p (ordered p i)) (λ p i. put strict p (ordered' p i)) t (all t)
  where
    put : (order : Tree → Tree → Type 0) (p : RewriteRule) → IsOrdered AllTerms order p → IsOrdered speaks_of order p
    put order p h = record { left_spoken = all p.left; right_spoken = all p.right; ordered = h.ordered; variables = h.variables }

pub usable_by_interpretation : (system : System) (pairs stays : List DependencyPair) (usable : ℕ → Bool) (c : ℕ → ℕ → ℕ) → IsSystem system
    → ((p : DependencyPair) → In p pairs → IsPair system.arities p) → HasUsable system.rules pairs usable
    → ((r : RewriteRule) → In r system.rules → IsTrue (root_in usable r.left) → CoefficientWeak c r.left r.right)
    → ((r : RewriteRule) → In r choices → CoefficientWeak c r.left r.right)
    → Classed (CoefficientWeak c) (CoefficientStrict c) pairs stays
    → IsFiniteProblem system stays → IsFiniteProblem system pairs
usable_by_interpretation system pairs stays usable c ok good has falls chooses class =
    usable_theorem system ok pairs stays good usable has (LinearWeak c) (LinearStrict c) (linear_well_founded c)
    (λ r i u. weak_by_coefficients c r.left r.right (falls r i u)) (λ r i. weak_by_coefficients c r.left r.right (chooses r i))
    (linear_classed c pairs stays class)
