-- Usable rules by their numbers. (Arts and Giesl, 2000; Hirokawa and Middeldorp, 2007.)
use Rattle.std.specs.Prelude.{◌<◌, ◌↔◌, ℕ, List, [], ◌∷◌}
use Rattle.trs_defs.specs.Member.{In}
use Rattle.trs_defs.specs.Tree.{Tree, Trees, app}
use Rattle.trs_defs.specs.System.{RewriteRule, Numbered}
use Rattle.pair_theory.specs.DependencyPair.{DependencyPair}
use Rattle.order_theory.specs.UsableRules.{IsUsable}

-- rule number k is there, and the root of its left side is a usable symbol
pub record IsUsableRule (rules : List RewriteRule) (pairs : List DependencyPair) (k : ℕ) : Type 0 where
  pub root : ℕ
  pub args : Trees
  pub right : Tree
  pub numbered : Numbered rules k (app root args) right
  pub usable : IsUsable rules pairs root

-- each number is less than the next ones
pub data Ascends : List ℕ → Type 0 where
  no_numbers : Ascends []
  number : (n : ℕ) (ns : List ℕ) → ((m : ℕ) → In m ns → n < m) → Ascends ns → Ascends (n ∷ ns)

-- the numbers of exactly the usable rules, ascending
pub record AreUsableRules (rules : List RewriteRule) (pairs : List DependencyPair) (numbers : List ℕ) : Type 0 where
  pub exact : (k : ℕ) → In k numbers ↔ IsUsableRule rules pairs k
  pub ascending : Ascends numbers
