-- No variable occurs twice: walk by walk, each for some variables.
use Rattle.std.proofs.Common.{◌≡◌, ℕ, ◌+◌, ◌-◌, ◌^◌, ◌≤◌, ◌<◌, ◌↔◌, inl, inr, refl, subst, cond, arith, true, false, Bool, IsTrue, Option, Some, None, List, get_or}
use Rattle.std.specs.Prelude.{replicate}
use Rattle.std.proofs.lemmas.Bool.{cases_lt}
use Rattle.std.proofs.lemmas.List.{get_or-replicate}
use Rattle.trs_defs.specs.Tree.{Tree, var}
use Rattle.trs_defs.specs.LeastVariable.{least_variable, IsBelow}
use Rattle.trs_defs.specs.Variable.{occurrences}
use Rattle.trs_defs.proofs.LeastVariables.{least_is_from, none_below_least}
use Rattle.trs_defs.proofs.VariableLaws.{has_var_self}
use Rattle.trs_core.specs.Marked.{times_met, Marks, OccurOnce}

pub none_met : (size i : ℕ) → i < size → times_met (replicate size false) i ≡ 0
none_met size i small = rw (get_or-replicate size i false false small) refl

pub met_again : (size from x : ℕ) (before after : List Bool) → from ≤ x → x - from < size → get_or before (x - from) false ≡ true
    → Marks size from (var x) before after false
met_again size from x before after le small marked =
    let there : from + (x - from) ≡ x = omega arith in
    let two : 1 < times_met before (x - from) + occurrences (from + (x - from)) (var x) = rw (marked, there, has_var_self x) (omega arith) in
    (x - from, small, two)

times_at_most : (b : Bool) → cond b 1 0 ≤ 1
times_at_most true = omega arith
times_at_most false = omega arith

-- a walk that begins with no marks
module _ (size from : ℕ) (t : Tree) (before after : List Bool) (none : (i : ℕ) → i < size → times_met before i ≡ 0) where
  pub walk_decides : (b : Bool) → Marks size from t before after b → IsTrue b ↔ OccurOnce size from t
  walk_decides true marked = (
    λ _ i small. omega (arith, marked i small, none i small, times_at_most (get_or after i false)),
    λ _. refl,
  )
  walk_decides false (i, small, again) = (
    λ no. absurd cc,
    λ once. absurd (omega (arith, again, none i small, once i small)),
  )

-- no variable that is less occurs twice
abbrev pub OnceBelow : Option ℕ → Tree → Type 0
OnceBelow next t = (v : ℕ) → IsBelow v next → occurrences v t ≤ 1

-- how many variables are left from this one on
abbrev pub room_behind : Option ℕ → ℕ
room_behind None = 0
room_behind (Some x) = 2 ^ 32 - x

-- a walk for so many variables from x on, which finds the least one behind them
module _ (size x : ℕ) (t : Tree) (next : Option ℕ) (found : next ≡ least_variable (x + size) None t) where
  pub once_more : OnceBelow (Some x) t → OccurOnce size x t → OnceBelow next t
  once_more below once v less = elim (cases_lt v x) [
    | inl k ↦ below v k
    | inr le ↦ elim (cases_lt v (x + size)) [
      | inl within ↦
          let there : x + (v - x) ≡ v = omega arith in
          subst (λ z. occurrences z t ≤ 1) there (once (v - x) (omega arith))
      | inr behind ↦ omega (arith, none_below_least (x + size) t next found v behind less)
    ]
  ]

  pub less_room : 0 < size → x < 2 ^ 32 → room_behind next < room_behind (Some x)
  less_room some small = go next found
    where
      go : (o : Option ℕ) → o ≡ least_variable (x + size) None t → room_behind o < room_behind (Some x)
      go None is = omega arith
      go (Some y) is = let le = least_is_from (x + size) t (Some y) is y refl in omega arith
