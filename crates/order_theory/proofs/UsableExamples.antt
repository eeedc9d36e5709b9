-- Addition terminates with no usable rule: the order need not make its rules fall.
use Rattle.std.proofs.Common.{ℕ, arith, ◌⊎◌, inr, [], Bool, false, ◌==◌, if◌then◌else◌, IsTrue}
use Rattle.trs_defs.specs.Member.{In, in_first, in_rest}
use Rattle.trs_defs.specs.Tree.{Trees, var, app, nil, cons}
use Rattle.trs_defs.specs.System.{RewriteRule}
use Rattle.trs_defs.specs.Claims.{IsTerminating}
use Rattle.pair_theory.specs.Subterm.{Subs, in_head, in_tail}
use Rattle.pair_theory.specs.Marked.{mark}
use Rattle.pair_theory.specs.DependencyPair.{dependency_pairs}
use Rattle.order_theory.specs.LinearInterpretation.{CoefficientWeak, CoefficientStrict}
use Rattle.order_theory.specs.UsableRules.{HasUsable, root_in, choices}
use Rattle.pair_theory.proofs.PairList.{listed_are_pairs}
use Rattle.pair_theory.proofs.Problems.{listed_theorem}
use Rattle.pair_theory.proofs.Addition.{addition, is_system, two_rules, only_pair, no_pairs}
use Rattle.order_theory.proofs.UsableProblems.{usable_by_interpretation}

abbrev none_usable : ℕ → Bool
none_usable f = false

no_symbol : {g : ℕ} {us : Trees} → Subs (app g us) (cons (var 0) (cons (var 1) nil)) → ⊥
no_symbol (in_head p) = elim p [ ]
no_symbol (in_tail (in_head p)) = elim p [ ]
no_symbol (in_tail (in_tail p)) = elim p [ ]

has_none : HasUsable addition.rules (dependency_pairs addition.rules) none_usable
has_none = record {
  of_pairs = λ p g us i q d. absurd (only_pair (λ p. Subs (app g us) p.to.args → ⊥) no_symbol p i q);
  of_rules = λ f g ls us r u i q d. absurd cc;
}

-- the successor 3 * x1 + 1, the sum 0, the marked sum x1: the second rule does not fall
abbrev coefficients_of : ℕ → ℕ → ℕ
coefficients_of f i =
    if f == 1 then (if i == 0 then 1 else 3)
    else if f == 4098 then (if i == 1 then 1 else 0) else if f == 8191 then (if i == 0 then 0 else 1) else 0

choices_fall : (p : RewriteRule) → In p choices → CoefficientWeak coefficients_of p.left p.right
choices_fall p in_first = (omega arith, λ x. omega arith)
choices_fall p (in_rest in_first) = (omega arith, λ x. omega arith)
choices_fall p (in_rest (in_rest i)) = elim i [ ]

pub addition_terminates : IsTerminating addition
addition_terminates = listed_theorem addition is_system
    (usable_by_interpretation addition (dependency_pairs addition.rules) [] none_usable coefficients_of is_system (listed_are_pairs addition is_system)
    has_none
    (two_rules (λ p. IsTrue (root_in none_usable p.left) → CoefficientWeak coefficients_of p.left p.right) (λ u. absurd cc) (λ u. absurd cc))
    choices_fall
    (only_pair (λ p. (In p [] × CoefficientWeak coefficients_of (mark p.from) (mark p.to)) ⊎ CoefficientStrict coefficients_of (mark p.from) (mark p.to))
    (inr (omega arith, λ x. omega arith)))
    (no_pairs addition))
