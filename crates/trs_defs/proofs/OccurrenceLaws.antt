-- How often variables occur.
use Rattle.std.specs.Prelude.{◌≡◌, ℕ, Bool, true, false, IsTrue, refl}
use Rattle.std.proofs.Common.{arith}
use Rattle.std.proofs.lemmas.Bool.{or_parts}
use Rattle.trs_defs.specs.Tree.{Tree, Trees, var, app, nil, cons}
use Rattle.trs_defs.specs.Variable.{has_var, some_has_var, occurrences, occurrences_in_all}

mutual
  -- a variable that a term lacks does not occur in it
  pub no_occurrence : (v : ℕ) (t : Tree) → has_var v t ≡ false → occurrences v t ≡ 0
  no_occurrence v (var n) e = rw e refl
  no_occurrence v (app f ts) e = no_occurrence_in_all v ts e

  pub no_occurrence_in_all : (v : ℕ) (ts : Trees) → some_has_var v ts ≡ false → occurrences_in_all v ts ≡ 0
  no_occurrence_in_all v nil e = refl
  no_occurrence_in_all v (cons t ts) e =
      let none = or_parts (has_var v t) (some_has_var v ts) e in
      omega (arith, no_occurrence v t none.0, no_occurrence_in_all v ts none.1)

pub no_variable : (v : ℕ) (t : Tree) → (IsTrue (has_var v t) → ⊥) → occurrences v t ≡ 0
no_variable v t none = go (has_var v t) refl
  where
    go : (b : Bool) → has_var v t ≡ b → occurrences v t ≡ 0
    go true e = absurd (none e)
    go false e = no_occurrence v t e
