-- Addition terminates, by the subterm criterion.
use Rattle.std.proofs.Common.{◌≡◌, ℕ, refl, arith, List, [], ◌∷◌, ◌⊎◌, inr, Some, slice_get}
use Rattle.trs_defs.specs.Member.{In, in_first, in_rest}
use Rattle.trs_defs.specs.Tree.{Tree, var, app, nil, cons}
use Rattle.trs_defs.specs.System.{RewriteRule, System, IsRule, IsSystem}
use Rattle.trs_defs.specs.Claims.{IsTerminating}
use Rattle.pair_theory.specs.Subterm.{ProperSubterm, proper, itself, in_head}
use Rattle.pair_theory.specs.Marked.{marked}
use Rattle.pair_theory.specs.DependencyPair.{DependencyPair, dependency_pairs}
use Rattle.pair_theory.specs.PairProblem.{IsFiniteProblem}
use Rattle.pair_theory.specs.SubtermCriterion.{Projects}
use Rattle.trs_defs.proofs.Members.{in_of_get, no_in}
use Rattle.pair_theory.proofs.PairList.{listed_are_pairs}
use Rattle.pair_theory.proofs.Problems.{listed_theorem, no_pairs_end}
use Rattle.pair_theory.proofs.Projections.{criterion_theorem}

-- symbol 0 is zero, 1 the successor, 2 the sum
abbrev pub sum_of : Tree → Tree → Tree
sum_of s t = app 2 (cons s (cons t nil))

abbrev pub next : Tree → Tree
next s = app 1 (cons s nil)

abbrev pub sum_zero : RewriteRule
sum_zero = record { left = sum_of (app 0 nil) (var 0); right = var 0 }

abbrev pub sum_next : RewriteRule
sum_next = record { left = sum_of (next (var 0)) (var 1); right = next (sum_of (var 0) (var 1)) }

module _ (arities : List ℕ) (of_sum : slice_get arities 2 ≡ Some 2) where
  pub sum_zero_is_rule : slice_get arities 0 ≡ Some 0 → IsRule arities sum_zero
  sum_zero_is_rule of_zero = record {
    left_well_formed = (of_sum, ((of_zero, tt), (tt, tt)));
    right_well_formed = tt;
    left_no_variable = λ v. cc;
    variables = λ v h. grind arith;
  }

  pub sum_next_is_rule : slice_get arities 1 ≡ Some 1 → IsRule arities sum_next
  sum_next_is_rule of_next = record {
    left_well_formed = (of_sum, ((of_next, (tt, tt)), (tt, tt)));
    right_well_formed = (of_next, ((of_sum, (tt, (tt, tt))), tt));
    left_no_variable = λ v. cc;
    variables = λ v h. grind arith;
  }

abbrev pub addition : System
addition = record { arities = 0 ∷ 1 ∷ 2 ∷ []; rules = sum_zero ∷ sum_next ∷ [] }

pub two_rules : (P : RewriteRule → Type 0) → P sum_zero → P sum_next → (p : RewriteRule) → In p addition.rules → P p
two_rules P a b p in_first = a
two_rules P a b p (in_rest in_first) = b
two_rules P a b p (in_rest (in_rest i)) = elim i [ ]

pub is_system : IsSystem addition
is_system = record {
  each = λ k r e. two_rules (IsRule addition.arities) (sum_zero_is_rule addition.arities refl refl) (sum_next_is_rule addition.arities refl refl)
      r (in_of_get addition.rules k r e);
}

abbrev pub sum_pair : DependencyPair
sum_pair = record { from = marked 2 (cons (next (var 0)) (cons (var 1) nil)); to = marked 2 (cons (var 0) (cons (var 1) nil)) }

one_pair : dependency_pairs addition.rules ≡ sum_pair ∷ []
one_pair = refl

pub only_pair : (P : DependencyPair → Type 0) → P sum_pair → (p : DependencyPair) → In p (sum_pair ∷ []) → P p
only_pair P a p in_first = a
only_pair P a p (in_rest i) = elim i [ ]

pub no_pairs : (system : System) → IsFiniteProblem system []
no_pairs system = no_pairs_end system [] (λ p i. no_in i)

-- the first argument of the sum becomes its proper subterm
pub first_shrinks : (p : DependencyPair) → In p (sum_pair ∷ []) → (In p [] × Projects (λ f. 1) (λ s t. s ≡ t) p) ⊎ Projects (λ f. 1) ProperSubterm p
first_shrinks =
    only_pair (λ p. (In p [] × Projects (λ f. 1) (λ s t. s ≡ t) p) ⊎ Projects (λ f. 1) ProperSubterm p)
    (inr (record { left = next (var 0); right = var 0; left_there = refl; right_there = refl; relation = proper (in_head itself) }))

addition_terminates : IsTerminating addition
addition_terminates = listed_theorem addition is_system
    (criterion_theorem addition is_system (dependency_pairs addition.rules) [] (listed_are_pairs addition is_system) (λ f. 1) first_shrinks (no_pairs addition))
