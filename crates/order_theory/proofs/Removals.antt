-- Removal of pairs by each of the orders.
use Rattle.std.proofs.Common.{◌≡◌, refl, sym, ap, ◌∙◌, ◌+◌, Bool, Option, Some, None, is_some, IsTrue, ◌≤◌, ℕ, List, inl, inr, length}
use Rattle.trs_defs.specs.Member.{In}
use Rattle.trs_defs.specs.Tree.{Tree, Trees, var, app, nil, cons, count}
use Rattle.pair_theory.specs.Erased.{HasEntries, HaveEntries, by_root, erased, erased_all}
use Rattle.trs_defs.specs.System.{RewriteRule, System, IsSystem}
use Rattle.pair_theory.specs.Marked.{mark}
use Rattle.pair_theory.specs.DependencyPair.{DependencyPair}
use Rattle.pair_theory.specs.PairProblem.{IsFiniteProblem, IsPair}
use Rattle.pair_theory.specs.ReductionPair.{Speaks, AllTerms}
use Rattle.order_theory.specs.ArgumentFilter.{ArgumentFilter, PathStrict, PathWeak}
use Rattle.order_theory.specs.LinearInterpretation.{LinearWeak, LinearStrict, CoefficientWeak, CoefficientStrict}
use Rattle.order_theory.specs.KnuthBendix.{KnuthGreater, KnuthWeak, arity_with_marks, IsAdmissible}
use Rattle.pair_theory.specs.Over.{IsOver, AreOver}
use Rattle.pair_theory.proofs.Problems.{Classed, removal_theorem, removal_erased}
use Rattle.order_theory.proofs.Filters.{path_well_founded}
use Rattle.order_theory.proofs.Linear.{linear_well_founded}
use Rattle.order_theory.proofs.Coefficients.{weak_by_coefficients, strict_by_coefficients}
use Rattle.order_theory.proofs.KnuthAccessible.{some_same}
use Rattle.order_theory.proofs.KnuthPair.{knuth_well_founded, knuth_speaks}

-- pairs that coefficients class, the interpretation classes
pub linear_classed : (c : ℕ → ℕ → ℕ) (pairs stays : List DependencyPair) → Classed (CoefficientWeak c) (CoefficientStrict c) pairs stays
    → Classed (LinearWeak c) (LinearStrict c) pairs stays
linear_classed c pairs stays class p i = elim (class p i) [
  | inl h ↦ inl (h.0, weak_by_coefficients c (mark p.from) (mark p.to) h.1)
  | inr h ↦ inr (strict_by_coefficients c (mark p.from) (mark p.to) h)
]

all_spoken : (arities : List ℕ) → Speaks arities AllTerms
all_spoken arities = record { of_terms = λ t w. tt; of_marked = λ u w. tt }

-- which symbols an arity function has
abbrev has_entry : (ℕ → Option ℕ) → ℕ → Bool
has_entry arity f = is_some (arity f)

entry_of : (o : Option ℕ) (n : ℕ) → o ≡ Some n → IsTrue (is_some o)
entry_of o n e = rw e refl

module _ (arity : ℕ → Option ℕ) where
  mutual
    entries_of : (t : Tree) → IsOver arity t → HasEntries (has_entry arity) t
    entries_of (var x) w = tt
    entries_of (app f ts) w = (entry_of (arity f) (count ts) w.0, entries_of_all ts w.1)

    entries_of_all : (ts : Trees) → AreOver arity ts → HaveEntries (has_entry arity) ts
    entries_of_all nil w = tt
    entries_of_all (cons t ts) w = (entries_of t w.0, entries_of_all ts w.1)

  module _ (wider : ℕ → Option ℕ) (agrees : (f n : ℕ) → arity f ≡ Some n → wider f ≡ Some n) where
    count_erased : (ts : Trees) → count (erased_all (has_entry arity) ts) ≡ count ts
    count_erased nil = refl
    count_erased (cons t ts) = ap (λ n. 1 + n) (count_erased ts)

    -- the entry of a symbol has the number of arguments of a term over the wider arities
    root_over : (o : Option ℕ) (f m : ℕ) (ts : Trees) → arity f ≡ o → wider f ≡ Some m → count ts ≡ m → AreOver arity ts → IsOver arity (by_root (is_some o) (app f ts))
    root_over None f m ts e w c k = tt
    root_over (Some n) f m ts e w c k = let same : n ≡ m = some_same (sym (agrees f n e) ∙ w) in (e ∙ ap Some (same ∙ sym c), k)

    mutual
      erased_over : (t : Tree) → IsOver wider t → IsOver arity (erased (has_entry arity) t)
      erased_over (var x) w = tt
      erased_over (app f ts) w = root_over (arity f) f (count ts) (erased_all (has_entry arity) ts) refl w.0 (count_erased ts) (erased_over_all ts w.1)

      erased_over_all : (ts : Trees) → AreOver wider ts → AreOver arity (erased_all (has_entry arity) ts)
      erased_over_all nil w = tt
      erased_over_all (cons t ts) w = (erased_over t w.0, erased_over_all ts w.1)

module _ (system : System) (pairs stays : List DependencyPair) where
  pub remove_by_path_order : (rank : ℕ → ℕ) (filter : ℕ → ArgumentFilter) → IsSystem system → ((p : DependencyPair) → In p pairs → IsPair system.arities p)
      → ((r : RewriteRule) → In r system.rules → PathWeak rank filter r.left r.right)
      → Classed (PathWeak rank filter) (PathStrict rank filter) pairs stays → IsFiniteProblem system stays → IsFiniteProblem system pairs
  remove_by_path_order rank filter ok good falls class =
      removal_theorem system ok (PathWeak rank filter) (PathStrict rank filter) AllTerms (path_well_founded rank filter) falls (all_spoken system.arities)
      pairs stays good class

  pub remove_by_interpretation : (c : ℕ → ℕ → ℕ) → IsSystem system → ((p : DependencyPair) → In p pairs → IsPair system.arities p)
      → ((r : RewriteRule) → In r system.rules → CoefficientWeak c r.left r.right)
      → Classed (CoefficientWeak c) (CoefficientStrict c) pairs stays → IsFiniteProblem system stays → IsFiniteProblem system pairs
  remove_by_interpretation c ok good falls class =
      removal_theorem system ok (LinearWeak c) (LinearStrict c) AllTerms (linear_well_founded c)
      (λ r i. weak_by_coefficients c r.left r.right (falls r i)) (all_spoken system.arities) pairs stays good
      (linear_classed c pairs stays class)

  pub remove_by_knuth_bendix : (arity : ℕ → Option ℕ) (weight rank : ℕ → ℕ) → IsSystem system
      → ((p : DependencyPair) → In p pairs → IsPair system.arities p) → length system.arities ≤ 4096
      → ((f n : ℕ) → arity f ≡ Some n → arity_with_marks system.arities f ≡ Some n) → IsAdmissible arity weight rank
      → ((r : RewriteRule) → In r system.rules → IsOver arity r.left × IsOver arity r.right × KnuthWeak weight rank r.left r.right)
      → ((p : DependencyPair) → In p pairs → IsOver arity (mark p.from) × IsOver arity (mark p.to))
      → Classed (KnuthWeak weight rank) (KnuthGreater weight rank) pairs stays → IsFiniteProblem system stays → IsFiniteProblem system pairs
  remove_by_knuth_bendix arity weight rank ok good few agrees admissible falls over class =
      removal_erased system ok (KnuthWeak weight rank) (KnuthGreater weight rank) (IsOver arity)
      (knuth_well_founded arity weight rank admissible) (λ r i. (falls r i).2) (has_entry arity)
      (record {
        of_erased = λ u w. erased_over arity (arity_with_marks system.arities) agrees (mark u) ((knuth_speaks system.arities few).of_marked u w);
        of_rules = λ r i. ((falls r i).0, (falls r i).1, entries_of arity r.left (falls r i).0, entries_of arity r.right (falls r i).1);
      })
      pairs stays
      (λ p i. (good p i, ((over p i).0, (over p i).1, entries_of arity (mark p.from) (over p i).0, entries_of arity (mark p.to) (over p i).1)))
      class
