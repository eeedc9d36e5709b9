-- How many rules and dependency pairs the sample systems have.
use Rattle.std.specs.Prelude.{◌≡◌, ℕ, zero, suc, ◌+◌, ◌*◌, ◌<◌, ◌||◌, Bool, true, false, List, [], ◌∷◌, ◌++◌, length, refl}
use Rattle.std.proofs.Common.{◌∙◌, inl, inr, arith, eq-eqb}
use Rattle.std.proofs.lemmas.Bool.{cases_lt, ne_eqb}
use Rattle.std.proofs.lemmas.List.{length-append}
use Rattle.trs_defs.specs.System.{RewriteRule, has_root, is_defined}
use Rattle.pair_theory.specs.DependencyPair.{pairs_of, pairs_of_each, dependency_pairs}
use Rattle.sampling.specs.Family.{base_rule, step_rule, rules_to, sample}

-- sample n has 2 n rules
pub length-rules : (n : ℕ) → length (sample n).system.rules ≡ n + n
length-rules zero = refl
length-rules (suc n) = omega (arith, length-append (rules_to n) (base_rule n ∷ step_rule n ∷ []), length-rules n)

-- ---- the defined symbols

defined-append : (rules more : List RewriteRule) (g : ℕ) → is_defined (rules ++ more) g ≡ (is_defined rules g || is_defined more g)
defined-append [] more g = refl
defined-append (r ∷ rules) more g = behind (has_root g r.left) _ (is_defined rules g) (is_defined more g) (defined-append rules more g)
  where
    behind : (b whole rest last : Bool) → whole ≡ (rest || last) → (b || whole) ≡ ((b || rest) || last)
    behind true whole rest last e = refl
    behind false whole rest last e = e

or_true : (b : Bool) → (b || true) ≡ true
or_true true = refl
or_true false = refl

function_defined : (n i : ℕ) → i < n → is_defined (rules_to n) (i + 2) ≡ true
function_defined zero i lt = absurd (omega arith)
function_defined (suc n) i lt =
    defined-append (rules_to n) (base_rule n ∷ step_rule n ∷ []) (i + 2)
    ∙ elim (cases_lt i n) as (λ _. (is_defined (rules_to n) (i + 2) || is_defined (base_rule n ∷ step_rule n ∷ []) (i + 2)) ≡ true) [
      | inl less ↦ rw (function_defined n i less) refl
      | inr more ↦ rw (eq-eqb (n + 2) (i + 2) (omega arith)) (or_true (is_defined (rules_to n) (i + 2)))
    ]

successor_undefined : (n : ℕ) → is_defined (rules_to n) 1 ≡ false
successor_undefined zero = refl
successor_undefined (suc n) =
    defined-append (rules_to n) (base_rule n ∷ step_rule n ∷ []) 1
    ∙ rw (successor_undefined n, ne_eqb (n + 2) 1 (λ e. absurd (omega arith))) refl

-- ---- the pairs of each function

-- the number of pairs of some of the rules
abbrev pairs_in : List RewriteRule → List RewriteRule → ℕ
pairs_in rules some = length (pairs_of_each rules some)

pairs_in-append : (rules some more : List RewriteRule) → pairs_in rules (some ++ more) ≡ pairs_in rules some + pairs_in rules more
pairs_in-append rules [] more = omega arith
pairs_in-append rules (r ∷ some) more =
    omega (
      arith,
      length-append (pairs_of rules r.left r.right) (pairs_of_each rules (some ++ more)),
      length-append (pairs_of rules r.left r.right) (pairs_of_each rules some),
      pairs_in-append rules some more,
    )

pairs_of_first : (n : ℕ) → 0 < n → pairs_in (rules_to n) (base_rule 0 ∷ step_rule 0 ∷ []) ≡ 1
pairs_of_first n lt = rw (successor_undefined n, function_defined n 0 lt) refl

pairs_of_later : (n i : ℕ) → suc i < n → pairs_in (rules_to n) (base_rule (suc i) ∷ step_rule (suc i) ∷ []) ≡ 2
pairs_of_later n i lt = rw (function_defined n (suc i) lt, function_defined n i (omega arith)) refl

pairs_to_function : (n i : ℕ) → i < n → pairs_in (rules_to n) (rules_to (suc i)) ≡ 1 + 2 * i
pairs_to_function n zero lt = pairs_of_first n lt
pairs_to_function n (suc i) lt =
    omega (
      arith,
      pairs_in-append (rules_to n) (rules_to (suc i)) (base_rule (suc i) ∷ step_rule (suc i) ∷ []),
      pairs_to_function n i (omega arith),
      pairs_of_later n i lt,
    )

-- sample (n + 1) has 1 + 2 n dependency pairs
pub length-pairs : (n : ℕ) → length (dependency_pairs (sample (suc n)).system.rules) ≡ 1 + 2 * n
length-pairs n = pairs_to_function (suc n) n (omega arith)
