-- Terms whose variables are numbered in the order of their first occurrences are instances, and each of these variables is
-- found again.
use Rattle.std.specs.Prelude.{◌≡◌, ℕ, Bool, true, false, ◌&&◌, ◌==◌, nat_le, List, [], ◌∷◌, Some, IsTrue, slice_get, unwrap_or, refl}
use Rattle.std.proofs.Common.{zero, suc, ap, ap₂, ◌∙◌, arith, if◌then◌else◌}
use Rattle.std.proofs.lemmas.Bool.Decides.{nat_tests}
use Rattle.std.proofs.lemmas.Option.{same_Some}
use Rattle.std.proofs.lemmas.Bool.{eqb-true}
use Rattle.trs_defs.specs.Tree.{Tree, Trees, var, app, nil, cons}
use Rattle.trs_defs.specs.Variable.{has_var, variables_of}
use Rattle.trs_defs.specs.Size.{within_limits}
use Rattle.trs_defs.specs.Substitution.{apply, apply_all}
use Rattle.trs_defs.proofs.Substitutions.{same_instance}
use Rattle.trs_defs.proofs.NamedTerms.{size_named, depth_named, unchanged}
use Rattle.cert_text.proofs.crit_pairs.Variants.{among_variables}
use Rattle.cert_text.specs.crit_pairs.PeakList.{IsCount}
use Rattle.term_text.specs.Renumbered.{number_among, with_numbers, all_with_numbers, in_order}

-- each variable by another
abbrev pub renamed : (ℕ → ℕ) → Tree → Tree
renamed r t = apply (λ v. var (r v)) t

mutual
  pub with_numbers_renamed : (vs : List ℕ) (t : Tree) → with_numbers vs t ≡ renamed (number_among vs) t
  with_numbers_renamed vs (var v) = refl
  with_numbers_renamed vs (app f ts) = ap (app f) (all_renamed vs ts)

  all_renamed : (vs : List ℕ) (ts : Trees) → all_with_numbers vs ts ≡ apply_all (λ v. var (number_among vs v)) ts
  all_renamed vs nil = refl
  all_renamed vs (cons t ts) = cc (with_numbers_renamed vs t, all_renamed vs ts)

-- ---- size and depth stay

pub renamed_within : (r : ℕ → ℕ) (t : Tree) → within_limits (renamed r t) ≡ within_limits t
renamed_within r t = ap₂ (λ m n. nat_le m 65536 && nat_le n 1024) (size_named r t) (depth_named r t)

-- ---- the number of a variable

found_case : (ns : List ℕ) (n v i : ℕ) → slice_get (n ∷ ns) i ≡ Some v → ((j : ℕ) → slice_get ns j ≡ Some v → slice_get ns (number_among ns v) ≡ Some v)
    → (b : Bool) → (n == v) ≡ b → slice_get (n ∷ ns) (if b then 0 else suc (number_among ns v)) ≡ Some v
found_case ns n v i e later true h = ap (λ k. Some k) (eqb-true n v h)
found_case ns n v zero e later false h =
    let same : n ≡ v = same_Some n v e in
    absurd (grind (arith, nat_tests))
found_case ns n v (suc j) e later false h = later j e

pub number_found : (vs : List ℕ) (v i : ℕ) → slice_get vs i ≡ Some v → slice_get vs (number_among vs v) ≡ Some v
number_found [] v i e = absurd cc
number_found (n ∷ ns) v i e = found_case ns n v i e (λ j h. number_found ns v j h) (n == v) refl

-- the variable of a number
abbrev pub numbered : List ℕ → ℕ → ℕ
numbered vs k = unwrap_or (slice_get vs k) 0

pub numbered_again : (t : Tree) (v : ℕ) → IsTrue (has_var v t) → numbered (variables_of t) (number_among (variables_of t) v) ≡ v
numbered_again t v h =
    let at = among_variables v t h in
    ap (λ o. unwrap_or o 0) (number_found (variables_of t) v at.0 at.1)

-- a term whose variables are numbered so is as it is numbered
pub in_order_already : (t : Tree) → IsCount 0 (variables_of t) → in_order t ≡ t
in_order_already t count =
    with_numbers_renamed (variables_of t) t
    ∙ same_instance (λ v. var (number_among (variables_of t) v)) (λ v. var v) t (λ v h.
    let at = among_variables v t h in
    let is = count (number_among (variables_of t) v) v (number_found (variables_of t) v at.0 at.1) in
    let same : number_among (variables_of t) v ≡ v = omega (arith, is) in
    ap var same)
    ∙ unchanged t
