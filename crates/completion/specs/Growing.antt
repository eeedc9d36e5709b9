-- Systems to which rules are added.
use Rattle.std.specs.Prelude.{◌≡◌, ℕ, List, [], ◌∷◌, ◌++◌, Option, Some, None, Vec, if◌then◌else◌, map, slice_get}
use Rattle.std.specs.declared.alloc.Global.{Global}
use Rattle.trs_defs.specs.Tree.{Tree}
use Rattle.trs_defs.specs.System.{RewriteRule, System, IsSystem, has_root}
use Rattle.trs_core.specs.SystemLimits.{AreBytes, HaveSmallVariables, IsWithinLimits, nodes_of}
use Rattle.trs_core.specs.Valid.{system}
use Rattle.term_pool.specs.Roots.{with_root}

-- the system of one rule
abbrev pub single : List ℕ → RewriteRule → System
single arities r = system arities (r ∷ [])

-- the numbers of a list that may be there
abbrev pub numbers_in : Option (Vec ℕ Global) → List ℕ
numbers_in None = []
numbers_in (Some list) = list.items

-- the numbers in the list of this symbol, if it has one
abbrev pub numbers_at : List (Vec ℕ Global) → ℕ → List ℕ
numbers_at lists f = numbers_in (slice_get lists f)

-- the number stands behind the others in the list of the root of this term, and in no other list
abbrev pub HasNumber : List (Vec ℕ Global) → List (Vec ℕ Global) → Tree → ℕ → Type 0
HasNumber old new t number = (f : ℕ) → numbers_at new f ≡ numbers_at old f ++ (if has_root f t then number ∷ [] else [])

-- a valid system, its rules as systems of their own, their numbers by their roots, and the nodes of all sides
pub record IsGrowing (arities : List ℕ) (rules : List RewriteRule) (singles : List System) (by_root : List (Vec ℕ Global)) (nodes : ℕ) : Type 0 where
  pub valid : IsSystem (system arities rules)
  pub limits : IsWithinLimits (system arities rules)
  pub bytes : AreBytes arities
  pub variables : HaveSmallVariables rules
  pub each_single : singles ≡ map (single arities) rules
  pub numbers : (f : ℕ) → numbers_at by_root f ≡ with_root f rules
  pub counted : nodes ≡ nodes_of rules
