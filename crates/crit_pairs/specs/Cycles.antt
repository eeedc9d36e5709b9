-- Bindings that no substitution solves.
use Rattle.std.specs.Prelude.{◌≡◌, ◌<◌, ◌≤◌, ℕ, List}
use Rattle.trs_defs.specs.Tree.{Tree, Trees, app}
use Rattle.trs_defs.specs.Size.{size_of}
use Rattle.trs_defs.specs.Substitution.{apply}
use Rattle.crit_pairs.specs.Meeting.{Solves}
use Rattle.crit_pairs.specs.declared.binding_table.Binding.{Binding}

-- no substitution solves the bindings
abbrev pub HaveNoSolution : List Binding → Type 0
HaveNoSolution bs = (θ : ℕ → Tree) → Solves bs θ → ⊥

-- Where the bindings are solved, the variable's instance is a part of the term's, and a proper one below a symbol.
pub record StandsIn (bs : List Binding) (v : ℕ) (t : Tree) : Type 0 where
  pub within : (θ : ℕ → Tree) → Solves bs θ → size_of (θ v) ≤ size_of (apply θ t)
  pub below : (f : ℕ) (ts : Trees) → t ≡ app f ts → (θ : ℕ → Tree) → Solves bs θ → size_of (θ v) < size_of (apply θ t)
