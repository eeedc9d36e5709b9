-- The variables of a term.
use Rattle.std.specs.Prelude.{◌≡◌, ◌≤◌, ℕ, ◌+◌, Bool, false, ◌||◌, ◌==◌, if◌then◌else◌, List, [], ◌∷◌, ◌++◌}
use Rattle.trs_defs.specs.Tree.{Tree, Trees, var, app, nil, cons}

-- whether v occurs in the term
abbrev mutual
  pub has_var : ℕ → Tree → Bool
  has_var v (var n) = n == v
  has_var v (app f ts) = some_has_var v ts

  pub some_has_var : ℕ → Trees → Bool
  some_has_var v nil = false
  some_has_var v (cons t ts) = has_var v t || some_has_var v ts

-- how often v occurs in the term
abbrev mutual
  pub occurrences : ℕ → Tree → ℕ
  occurrences v (var n) = if n == v then 1 else 0
  occurrences v (app f ts) = occurrences_in_all v ts

  pub occurrences_in_all : ℕ → Trees → ℕ
  occurrences_in_all v nil = 0
  occurrences_in_all v (cons t ts) = occurrences v t + occurrences_in_all v ts

abbrev pub is_listed : ℕ → List ℕ → Bool
is_listed v [] = false
is_listed v (n ∷ ns) = n == v || is_listed v ns

-- the list, and after it the variables of the term that it lacks, each once, in order of first occurrence from the left
abbrev mutual
  pub with_variables : List ℕ → Tree → List ℕ
  with_variables known (var n) = if is_listed n known then known else known ++ n ∷ []
  with_variables known (app f ts) = with_variables_of_all known ts

  pub with_variables_of_all : List ℕ → Trees → List ℕ
  with_variables_of_all known nil = known
  with_variables_of_all known (cons t ts) = with_variables_of_all (with_variables known t) ts

-- the variables of the term in order of first occurrence from the left, each once
abbrev pub variables_of : Tree → List ℕ
variables_of t = with_variables [] t

abbrev pub IsVariable : Tree → Type 0
IsVariable t = (n : ℕ) × (t ≡ var n)

-- no variable occurs twice (Baader and Nipkow, definition 6.3.1)
abbrev pub IsLinear : Tree → Type 0
IsLinear t = (v : ℕ) → occurrences v t ≤ 1
