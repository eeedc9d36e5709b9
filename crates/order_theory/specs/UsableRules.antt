-- Usable symbols and usable rules. (Arts and Giesl, 2000; Hirokawa and Middeldorp, 2007; Giesl, Thiemann,
-- Schneider-Kamp and Falke, 2006.)
use Rattle.std.specs.Prelude.{ℕ, List, [], ◌∷◌, Bool, false, IsTrue}
use Rattle.trs_defs.specs.Member.{In}
use Rattle.trs_defs.specs.Tree.{Tree, Trees, var, app, nil, cons}
use Rattle.trs_defs.specs.System.{RewriteRule, Among, IsDefined}
use Rattle.pair_theory.specs.Subterm.{Sub, Subs}
use Rattle.pair_theory.specs.DependencyPair.{DependencyPair}

-- the least set of symbols that has each defined symbol below the root of a pair's right side and, with the root of a
-- rule, each defined symbol of its right side
pub data IsUsable (rules : List RewriteRule) (pairs : List DependencyPair) : ℕ → Type 0 where
  in_pair : (p : DependencyPair) (g : ℕ) (us : Trees) → In p pairs → Subs (app g us) p.to.args → IsDefined (Among rules) g
      → IsUsable rules pairs g
  in_rule : (f g : ℕ) (ls us : Trees) (r : Tree) → IsUsable rules pairs f → Among rules (app f ls) r → Sub (app g us) r
      → IsDefined (Among rules) g → IsUsable rules pairs g

-- a set, given by its test, that has what the least set has to have
pub record HasUsable (rules : List RewriteRule) (pairs : List DependencyPair) (usable : ℕ → Bool) : Type 0 where
  pub of_pairs : (p : DependencyPair) (g : ℕ) (us : Trees) → In p pairs → Subs (app g us) p.to.args
      → IsDefined (Among rules) g → IsTrue (usable g)
  pub of_rules : (f g : ℕ) (ls us : Trees) (r : Tree) → IsTrue (usable f) → Among rules (app f ls) r → Sub (app g us) r
      → IsDefined (Among rules) g → IsTrue (usable g)

-- whether the root is in a set: the usable rules are those whose left side's root is a usable symbol
abbrev pub root_in : (ℕ → Bool) → Tree → Bool
root_in usable (var x) = false
root_in usable (app f ts) = usable f

-- the rules C(x, y) -> x and C(x, y) -> y of a symbol that no system has, which an order has to make fall too
abbrev pub choices : List RewriteRule
choices =
    record { left = app 8191 (cons (var 0) (cons (var 1) nil)); right = var 0 }
    ∷ record { left = app 8191 (cons (var 0) (cons (var 1) nil)); right = var 1 } ∷ []
