-- Substitutions and instances. (Baader and Nipkow, definition 3.1.7.)
use Rattle.std.specs.Prelude.{◌≡◌, ℕ, unwrap_or, Some}
use Rattle.std.specs.Ordering.{nat_cmp}
use Rattle.std.specs.FinMap.{FinMap, get}
use Rattle.trs_defs.specs.Tree.{Tree, Trees, var, app, nil, cons}

-- the instance of a term under a substitution, which gives each variable a term
abbrev mutual
  pub apply : (ℕ → Tree) → Tree → Tree
  apply s (var n) = s n
  apply s (app f ts) = app f (apply_all s ts)

  pub apply_all : (ℕ → Tree) → Trees → Trees
  apply_all s nil = nil
  apply_all s (cons t ts) = cons (apply s t) (apply_all s ts)

-- some substitution takes the pattern to the term
abbrev pub IsInstance : Tree → Tree → Type 0
IsInstance pattern term = (s : ℕ → Tree) × (apply s pattern ≡ term)

-- the substitution of a finite map: a variable with no entry stays
abbrev pub bound : FinMap nat_cmp Tree → ℕ → Tree
bound m v = unwrap_or (get m v) (var v)

-- the substitution has each binding of the map
abbrev pub Agrees : FinMap nat_cmp Tree → (ℕ → Tree) → Type 0
Agrees m s = (v : ℕ) (t : Tree) → get m v ≡ Some t → s v ≡ t
