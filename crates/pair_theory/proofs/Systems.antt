-- What a system's rules keep to.
use Rattle.std.proofs.Common.{◌≡◌, ℕ, Some, slice_get}
use Rattle.trs_defs.specs.Member.{In}
use Rattle.trs_defs.specs.Tree.{Tree, var}
use Rattle.trs_defs.specs.WellFormed.{IsWellFormed}
use Rattle.trs_defs.specs.System.{RewriteRule, System, IsRule, IsSystem, Among}
use Rattle.pair_theory.specs.Subterm.{Sub}
use Rattle.trs_defs.proofs.Members.{get_of_in}
use Rattle.pair_theory.proofs.Subterms.{sub_of_has, has_of_sub}

module _ (system : System) (ok : IsSystem system) where
  pub rule_among : (p : RewriteRule) → In p system.rules → IsRule system.arities p
  rule_among p i = let found : (k : ℕ) × (slice_get system.rules k ≡ Some p) = get_of_in i in ok.each found.0 p found.1

  pub left_over : (l r : Tree) → Among system.rules l r → IsWellFormed system.arities l
  left_over l r i = (rule_among (record { left = l; right = r }) i).left_well_formed

  pub right_over : (l r : Tree) → Among system.rules l r → IsWellFormed system.arities r
  right_over l r i = (rule_among (record { left = l; right = r }) i).right_well_formed

  pub left_rooted : (l r : Tree) → Among system.rules l r → (x : ℕ) → l ≡ var x → ⊥
  left_rooted l r i x e = (rule_among (record { left = l; right = r }) i).left_no_variable (x, e)

  pub no_new_variables : (l r : Tree) → Among system.rules l r → (x : ℕ) → Sub (var x) r → Sub (var x) l
  no_new_variables l r i x p = sub_of_has x l ((rule_among (record { left = l; right = r }) i).variables x (has_of_sub x r p))
