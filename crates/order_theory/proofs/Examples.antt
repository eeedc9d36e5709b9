-- Addition terminates: by a linear interpretation, by a path order and by a Knuth-Bendix order.
use Rattle.std.proofs.Common.{◌≡◌, ℕ, refl, arith, Option, Some, slice_get, ◌⊎◌, inr, [], ◌∷◌, true, ◌==◌, if◌then◌else◌}
use Rattle.trs_defs.specs.Member.{In}
use Rattle.trs_defs.specs.Tree.{Tree}
use Rattle.trs_defs.specs.Claims.{IsTerminating}
use Rattle.pair_theory.specs.Marked.{mark}
use Rattle.pair_theory.specs.DependencyPair.{dependency_pairs}
use Rattle.order_theory.specs.LinearInterpretation.{CoefficientWeak, CoefficientStrict}
use Rattle.order_theory.specs.PathTest.{path_greater}
use Rattle.order_theory.specs.ArgumentFilter.{ArgumentFilter, Keep, filtered, PathWeak, PathStrict}
use Rattle.order_theory.specs.KnuthBendix.{KnuthGreater, by_weight, by_head, KnuthWeak, IsAdmissible, arity_with_marks}
use Rattle.pair_theory.specs.Over.{IsOver}
use Rattle.pair_theory.proofs.PairList.{listed_are_pairs}
use Rattle.pair_theory.proofs.Problems.{listed_theorem}
use Rattle.pair_theory.proofs.Addition.{sum_zero, sum_next, addition, two_rules, is_system, sum_pair, only_pair, no_pairs}
use Rattle.order_theory.proofs.PathDecides.{path_decides}
use Rattle.order_theory.proofs.Removals.{remove_by_interpretation, remove_by_path_order, remove_by_knuth_bendix}

-- successor x1 + 1, sum x1 + x2, marked sum x1
abbrev coefficients_of : ℕ → ℕ → ℕ
coefficients_of f i =
    if f == 1 then 1
    else if f == 2 then (if i == 0 then 0 else 1) else if f == 4098 then (if i == 1 then 1 else 0) else 0

pub addition_terminates : IsTerminating addition
addition_terminates = listed_theorem addition is_system
    (remove_by_interpretation addition (dependency_pairs addition.rules) [] coefficients_of is_system (listed_are_pairs addition is_system)
    (two_rules (λ p. CoefficientWeak coefficients_of p.left p.right) (omega arith, λ x. omega arith) (omega arith, λ x. omega arith))
    (only_pair (λ p. (In p [] × CoefficientWeak coefficients_of (mark p.from) (mark p.to)) ⊎ CoefficientStrict coefficients_of (mark p.from) (mark p.to))
    (inr (omega arith, λ x. omega arith)))
    (no_pairs addition))

-- the sum is above the successor; each symbol keeps its arguments
abbrev ranks : ℕ → ℕ
ranks f = f

abbrev all_kept : ℕ → ArgumentFilter
all_kept f = Keep (1 ∷ 2 ∷ [])

pair_falls : path_greater ranks (mark sum_pair.from) (mark sum_pair.to) ≡ true
pair_falls = refl

by_test : (s t : Tree) → path_greater ranks (filtered all_kept s) (filtered all_kept t) ≡ true → PathStrict ranks all_kept s t
by_test s t e = (path_decides ranks (filtered all_kept s) (filtered all_kept t)).0 e

pub addition_terminates_by_paths : IsTerminating addition
addition_terminates_by_paths = listed_theorem addition is_system
    (remove_by_path_order addition (dependency_pairs addition.rules) [] ranks all_kept is_system (listed_are_pairs addition is_system)
    (two_rules (λ p. PathWeak ranks all_kept p.left p.right) (inr (by_test sum_zero.left sum_zero.right refl)) (inr (by_test sum_next.left sum_next.right refl)))
    (only_pair (λ p. (In p [] × PathWeak ranks all_kept (mark p.from) (mark p.to)) ⊎ PathStrict ranks all_kept (mark p.from) (mark p.to))
    (inr (by_test (mark sum_pair.from) (mark sum_pair.to) refl)))
    (no_pairs addition))

-- each symbol weighs 1
abbrev weights : ℕ → ℕ
weights f = 1

-- entries for the three symbols and the marked sum
abbrev entries : ℕ → Option ℕ
entries f = if f == 4098 then Some 2 else slice_get addition.arities f

agrees : (f n : ℕ) → entries f ≡ Some n → arity_with_marks addition.arities f ≡ Some n
agrees f n e = grind arith

admissible : IsAdmissible entries weights ranks
admissible = record { constants_weigh = λ f e. omega arith; on_top = λ f g n e light e' d. absurd (omega arith) }

pub addition_terminates_by_weights : IsTerminating addition
addition_terminates_by_weights = listed_theorem addition is_system
    (remove_by_knuth_bendix addition (dependency_pairs addition.rules) [] entries weights ranks is_system (listed_are_pairs addition is_system)
    (omega arith) agrees admissible
    (two_rules (λ p. IsOver entries p.left × IsOver entries p.right × KnuthWeak weights ranks p.left p.right)
    ((refl, ((refl, tt), (tt, tt))), tt, inr (by_weight (λ v. omega arith) (omega arith)))
    ((refl, ((refl, (tt, tt)), (tt, tt))), (refl, ((refl, (tt, (tt, tt))), tt)), inr (by_head (λ v. omega arith) refl (omega arith))))
    (only_pair (λ p. IsOver entries (mark p.from) × IsOver entries (mark p.to)) ((refl, ((refl, (tt, tt)), (tt, tt))), (refl, (tt, (tt, tt)))))
    (only_pair (λ p. (In p [] × KnuthWeak weights ranks (mark p.from) (mark p.to)) ⊎ KnuthGreater weights ranks (mark p.from) (mark p.to))
    (inr (by_weight (λ v. omega arith) (omega arith))))
    (no_pairs addition))
