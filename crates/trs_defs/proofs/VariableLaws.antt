-- The variables of a variable, and of an argument list.
use Rattle.std.specs.Prelude.{◌≡◌, ℕ, ◌⊎◌, IsTrue}
use Rattle.std.proofs.Common.{arith}
use Rattle.std.proofs.lemmas.Bool.{or_left, or_right, or_cases}
use Rattle.trs_defs.specs.Tree.{Tree, Trees, var, cons}
use Rattle.trs_defs.specs.Variable.{has_var, some_has_var}

pub has_var_same : (v n : ℕ) → IsTrue (has_var v (var n)) → n ≡ v
has_var_same v n h = grind arith

pub has_var_self : (n : ℕ) → IsTrue (has_var n (var n))
has_var_self n = grind arith

-- a variable of an argument list is one of its first item or of the others
pub has_var_cons : (v : ℕ) (t : Tree) (ts : Trees) → IsTrue (some_has_var v (cons t ts)) → IsTrue (has_var v t) ⊎ IsTrue (some_has_var v ts)
has_var_cons v t ts h = or_cases (has_var v t) (some_has_var v ts) h

pub has_var_first : (v : ℕ) (t : Tree) (ts : Trees) → IsTrue (has_var v t) → IsTrue (some_has_var v (cons t ts))
has_var_first v t ts h = or_left (has_var v t) (some_has_var v ts) h

pub has_var_rest : (v : ℕ) (t : Tree) (ts : Trees) → IsTrue (some_has_var v ts) → IsTrue (some_has_var v (cons t ts))
has_var_rest v t ts h = or_right (has_var v t) (some_has_var v ts) h
