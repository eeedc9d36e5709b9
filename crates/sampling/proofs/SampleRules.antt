-- The rules of sample systems are rules, and within the limits.
use Rattle.std.proofs.Common.{◌≡◌, ℕ, zero, suc, ◌+◌, ◌*◌, ◌<◌, ◌≤◌, true, List, [], ◌∷◌, ◌++◌, length, replicate, Some, slice_get, IsTrue, refl, ap, ◌∙◌, inl, inr, arith}
use Rattle.std.specs.List.{AllByRecursion}
use Rattle.std.proofs.lemmas.List.{get_or-replicate, length-replicate}
use Rattle.std.proofs.lemmas.Option.{slice_get-get_or}
use Rattle.trs_defs.specs.Tree.{Tree, var}
use Rattle.trs_defs.specs.Variable.{has_var, IsVariable}
use Rattle.trs_defs.specs.WellFormed.{IsWellFormed}
use Rattle.trs_defs.specs.System.{RewriteRule, IsRule}
use Rattle.trs_core.specs.SystemLimits.{nodes_of, IsShallow, HasSmallVariables}
use Rattle.names_text.specs.Named.{next_number, is_shallow}
use Rattle.names_text.proofs.NumberedTerms.{has_below, below_has}
use Rattle.text_reading.proofs.Tables.{all_append}
use Rattle.sampling.specs.Family.{zero_term, successor, function, base_rule, step_right, step_rule, rules_to, arities_to}

-- what holds of both rules of each function
pub each_rule : (P : RewriteRule → Type 0) (n : ℕ) → ((i : ℕ) → i < n → P (base_rule i) × P (step_rule i)) → AllByRecursion P (rules_to n)
each_rule P zero h = tt
each_rule P (suc n) h =
    let last = h n (omega arith) in
    all_append P (rules_to n) (base_rule n ∷ step_rule n ∷ []) (each_rule P n (λ i lt. h i (omega arith))) (last.0, (last.1, tt))

-- ---- well-formed sides

function_arity : (n i : ℕ) → i < n → slice_get (arities_to n) (i + 2) ≡ Some 2
function_arity n i lt =
    let index : i + 2 ≡ suc (suc i) = omega arith in
    let inside : i < length (replicate n 2) = omega (arith, length-replicate {A = ℕ} n 2) in
    rw index (slice_get-get_or (replicate n 2) i 0 inside ∙ ap Some (get_or-replicate n i 2 0 lt))

function_well_formed : (n i : ℕ) (s t : Tree) → i < n → IsWellFormed (arities_to n) s → IsWellFormed (arities_to n) t
    → IsWellFormed (arities_to n) (function i s t)
function_well_formed n i s t lt hs ht = (function_arity n i lt, (hs, (ht, tt)))

successor_well_formed : (n : ℕ) (t : Tree) → IsWellFormed (arities_to n) t → IsWellFormed (arities_to n) (successor t)
successor_well_formed n t h = (refl, (h, tt))

step_right_well_formed : (n i : ℕ) → i < n → IsWellFormed (arities_to n) (step_right i)
step_right_well_formed n zero lt = successor_well_formed n (function 0 (var 0) (var 1)) (function_well_formed n 0 (var 0) (var 1) lt tt tt)
step_right_well_formed n (suc i) lt =
    function_well_formed n (suc i) (var 0) (function i (var 1) (var 1)) lt tt (function_well_formed n i (var 1) (var 1) (omega arith) tt tt)

-- ---- variables

step_right_numbered : (i : ℕ) → next_number 0 (step_right i) ≡ Some 2
step_right_numbered zero = refl
step_right_numbered (suc i) = refl

-- the variables of numbered sides with equally many are the same
same_variables : (left right : Tree) (m : ℕ) → next_number 0 left ≡ Some m → next_number 0 right ≡ Some m
    → (v : ℕ) → IsTrue (has_var v right) → IsTrue (has_var v left)
same_variables left right m l r v h = elim (below_has 0 left m l v (has_below 0 right m r v h)) as (λ _. IsTrue (has_var v left)) [
  | inl less ↦ absurd (omega arith)
  | inr has ↦ has
]

no_variable : (i : ℕ) (s t : Tree) → IsVariable (function i s t) → ⊥
no_variable i s t (v, e) = cc

pub base_is_rule : (n i : ℕ) → i < n → IsRule (arities_to n) (base_rule i)
base_is_rule n i lt = record {
  left_well_formed = function_well_formed n i zero_term (var 0) lt (refl, tt) tt;
  right_well_formed = tt;
  left_no_variable = no_variable i zero_term (var 0);
  variables = same_variables (function i zero_term (var 0)) (var 0) 1 refl refl;
}

pub step_is_rule : (n i : ℕ) → i < n → IsRule (arities_to n) (step_rule i)
step_is_rule n i lt = record {
  left_well_formed = function_well_formed n i (successor (var 0)) (var 1) lt (successor_well_formed n (var 0) tt) tt;
  right_well_formed = step_right_well_formed n i lt;
  left_no_variable = no_variable i (successor (var 0)) (var 1);
  variables = same_variables (function i (successor (var 0)) (var 1)) (step_right i) 2 refl (step_right_numbered i);
}

abbrev pub HasSmall : RewriteRule → Type 0
HasSmall r = HasSmallVariables r.left × HasSmallVariables r.right

few_variables : (t : Tree) (m : ℕ) → next_number 0 t ≡ Some m → m < 65536 → HasSmallVariables t
few_variables t m e lt v h = omega (arith, has_below 0 t m e v h)

pub base_small : (i : ℕ) → HasSmall (base_rule i)
base_small i = (few_variables (function i zero_term (var 0)) 1 refl (omega arith), few_variables (var 0) 1 refl (omega arith))

pub step_small : (i : ℕ) → HasSmall (step_rule i)
step_small i = (
  few_variables (function i (successor (var 0)) (var 1)) 2 refl (omega arith),
  few_variables (step_right i) 2 (step_right_numbered i) (omega arith),
)

-- ---- sizes and depths

pub base_shallow : (i : ℕ) → IsShallow (base_rule i)
base_shallow i = (omega arith, omega arith)

pub step_shallow : (i : ℕ) → IsShallow (step_rule i)
step_shallow zero = (omega arith, omega arith)
step_shallow (suc i) = (omega arith, omega arith)

pub step_is_shallow : (i : ℕ) → is_shallow (step_rule i) ≡ true
step_is_shallow zero = refl
step_is_shallow (suc i) = refl

nodes_append : (xs ys : List RewriteRule) → nodes_of (xs ++ ys) ≡ nodes_of xs + nodes_of ys
nodes_append [] ys = omega arith
nodes_append (x ∷ xs) ys = omega (arith, nodes_append xs ys)

last_nodes : (i : ℕ) → nodes_of (base_rule i ∷ step_rule i ∷ []) ≤ 13
last_nodes zero = omega arith
last_nodes (suc i) = omega arith

pub few_nodes : (n : ℕ) → nodes_of (rules_to n) ≤ 13 * n
few_nodes zero = omega arith
few_nodes (suc n) = omega (arith, nodes_append (rules_to n) (base_rule n ∷ step_rule n ∷ []), last_nodes n, few_nodes n)
