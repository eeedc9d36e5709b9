-- Terms over an arity function. (Baader and Nipkow, definition 3.1.2.)
use Rattle.std.specs.Prelude.{◌≡◌, ℕ, Option, Some}
use Rattle.trs_defs.specs.Tree.{Tree, Trees, var, app, nil, cons, count}

-- each symbol has as many arguments as the arity function says
abbrev mutual
  pub IsOver : (ℕ → Option ℕ) → Tree → Type 0
  IsOver arity (var x) = Unit {0}
  IsOver arity (app f ts) = (arity f ≡ Some (count ts)) × AreOver arity ts

  pub AreOver : (ℕ → Option ℕ) → Trees → Type 0
  AreOver arity nil = Unit {0}
  AreOver arity (cons t ts) = IsOver arity t × AreOver arity ts
