-- Well-formed terms: each symbol is declared, and has as many arguments as the arity table says.
-- (Baader and Nipkow, definition 3.1.2: the terms over a signature.)
use Rattle.std.specs.Prelude.{◌≡◌, ℕ, List, Some, slice_get}
use Rattle.trs_defs.specs.Tree.{Tree, Trees, var, app, nil, cons, count}

abbrev mutual
  pub IsWellFormed : List ℕ → Tree → Type 0
  IsWellFormed arities (var n) = Unit {0}
  IsWellFormed arities (app f ts) = (slice_get arities f ≡ Some (count ts)) × AreWellFormed arities ts

  pub AreWellFormed : List ℕ → Trees → Type 0
  AreWellFormed arities nil = Unit {0}
  AreWellFormed arities (cons t ts) = IsWellFormed arities t × AreWellFormed arities ts
