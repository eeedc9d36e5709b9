-- Rules and systems. (Baader and Nipkow, definition 4.2.1.)
use Rattle.std.specs.Prelude.{◌≡◌, ℕ, List, [], ◌∷◌, Bool, false, ◌||◌, ◌==◌, Some, IsTrue, slice_get, refl}
use Rattle.std.specs.Coded.{Coded, code_by, coded×, coded_list, coded_ℕ}
use Rattle.trs_defs.specs.Member.{In}
use Rattle.trs_defs.specs.Tree.{Tree, Trees, var, app, tree_code}
use Rattle.trs_defs.specs.Variable.{has_var, IsVariable}
use Rattle.trs_defs.specs.WellFormed.{IsWellFormed}

pub record RewriteRule : Type 0 where
  pub left : Tree
  pub right : Tree

-- an arity table, which gives each symbol its number of arguments, and a list of rules
pub record System : Type 0 where
  pub arities : List ℕ
  pub rules : List RewriteRule

-- both sides are well-formed, the left one is no variable and has each variable of the right one
pub record IsRule (arities : List ℕ) (r : RewriteRule) : Type 0 where
  pub left_well_formed : IsWellFormed arities r.left
  pub right_well_formed : IsWellFormed arities r.right
  pub left_no_variable : IsVariable r.left → ⊥
  pub variables : (v : ℕ) → IsTrue (has_var v r.right) → IsTrue (has_var v r.left)

-- each rule is one over the arity table
pub record IsSystem (system : System) : Type 0 where
  pub each : (k : ℕ) (r : RewriteRule) → slice_get system.rules k ≡ Some r → IsRule system.arities r

-- l -> r is one of the rules
abbrev pub Among : List RewriteRule → Tree → Tree → Type 0
Among rules l r = In (record { left = l; right = r }) rules

-- l -> r is rule number k, counted from 0
abbrev pub Numbered : List RewriteRule → ℕ → Tree → Tree → Type 0
Numbered rules k l r = slice_get rules k ≡ Some (record { left = l; right = r })

-- g is the root of a left side
abbrev pub IsDefined : (Tree → Tree → Type 0) → ℕ → Type 0
IsDefined rule g = (ls : Trees) × (r : Tree) × rule (app g ls) r

abbrev pub has_root : ℕ → Tree → Bool
has_root g (var x) = false
has_root g (app f ts) = f == g

-- whether g is the root of a left side
abbrev pub is_defined : List RewriteRule → ℕ → Bool
is_defined [] g = false
is_defined (rule ∷ rules) g = has_root g rule.left || is_defined rules g

-- a rule is stored as the pair of its sides
abbrev pub rule_code : Coded RewriteRule
rule_code =
    code_by (Tree × Tree) (coded× tree_code tree_code) (λ r. (r.left, r.right)) (λ p. record { left = p.0; right = p.1 })
    (λ _. refl)

-- a system is stored as the pair of its fields
abbrev pub system_code : Coded System
system_code =
    code_by (List ℕ × List RewriteRule) (coded× (coded_list coded_ℕ) (coded_list rule_code)) (λ s. (s.arities, s.rules))
    (λ p. record { arities = p.0; rules = p.1 }) (λ _. refl)
