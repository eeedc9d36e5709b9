-- Terms whose variables have the numbers of names.
use Rattle.std.specs.Prelude.{◌≡◌, ◌<◌, ◌==◌, ℕ, List, IsTrue, length}
use Rattle.std.specs.List.{position_or_len}
use Rattle.trs_defs.specs.Tree.{Tree, var}
use Rattle.trs_defs.specs.Variable.{has_var, is_listed}
use Rattle.trs_defs.specs.Substitution.{apply}
use Rattle.trs_unify.specs.Renamed.{old_name}

-- the place of a variable among names
abbrev pub place : List ℕ → ℕ → ℕ
place names v = position_or_len (λ n. n == v) names

-- the term with the places of its variables among the names for them
abbrev pub placed : List ℕ → Tree → Tree
placed names t = apply (λ v. var (place names v)) t

-- each variable of the term is among the names
abbrev pub AreNamed : List ℕ → Tree → Type 0
AreNamed names t = (v : ℕ) → IsTrue (has_var v t) → IsTrue (is_listed v names)

-- the term u is t with the numbers of the names for its variables
pub record IsNumbered (names : List ℕ) (t u : Tree) : Type 0 where
  pub back : apply (λ v. var (old_name names v)) u ≡ t
  pub inside : (v : ℕ) → IsTrue (has_var v u) → v < length names
