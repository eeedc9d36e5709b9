-- Symbols that are found, and a table of which they are.
use Rattle.std.specs.Prelude.{◌≡◌, ◌+◌, ◌++◌, ℕ, Bool, true, false, List, Some, IsTrue, length, slice_get, slice_index_or}
use Rattle.trs_defs.specs.Member.{In}
use Rattle.trs_defs.specs.Tree.{Tree, Trees, app}
use Rattle.trs_defs.specs.System.{RewriteRule, Among, IsDefined, has_root}
use Rattle.pair_theory.specs.Subterm.{Sub, Subs}
use Rattle.pair_theory.specs.DependencyPair.{DependencyPair}
use Rattle.order_theory.specs.UsableRules.{IsUsable, root_in}
use Rattle.dp_core.specs.Flags.{unset}

-- the flags of exactly the found symbols are set, and each is found once
pub record AreMarked (flags : List Bool) (found : List ℕ) : Type 0 where
  pub once : length found + unset flags ≡ length flags
  pub marked : (f : ℕ) → slice_get flags f ≡ Some true → In f found
  pub found_marked : (f : ℕ) → In f found → slice_get flags f ≡ Some true

-- the symbol stands in the term
abbrev pub IsCalled : Tree → ℕ → Type 0
IsCalled t g = (us : Trees) × Sub (app g us) t

-- or in one of the terms
abbrev pub IsCalledInAny : Trees → ℕ → Type 0
IsCalledInAny ts g = (us : Trees) × Subs (app g us) ts

-- the list begins with the other one
abbrev pub Extends : List ℕ → List ℕ → Type 0
Extends longer shorter = (more : List ℕ) × (longer ≡ shorter ++ more)

-- g stands in the right side of a rule with the root f
abbrev pub IsLed : List RewriteRule → ℕ → ℕ → Type 0
IsLed rules f g = (r : RewriteRule) × In r rules × IsTrue (has_root f r.left) × IsCalled r.right g

-- g stands below the root of the right side of a pair
abbrev pub IsLedByPairs : List DependencyPair → ℕ → Type 0
IsLedByPairs pairs g = (p : DependencyPair) × In p pairs × IsCalledInAny p.to.args g

-- the symbol is usable if a rule has it as its root
abbrev pub IsUsableIfDefined : List RewriteRule → List DependencyPair → ℕ → Type 0
IsUsableIfDefined rules pairs f = IsDefined (Among rules) f → IsUsable rules pairs f

-- whether the flag of the term's root is set
abbrev pub has_flag : List Bool → Tree → Bool
has_flag flags t = root_in (λ f. slice_index_or flags f false) t
