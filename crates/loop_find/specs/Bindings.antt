-- Bindings of variables, and the substitutions that they say.
use Rattle.std.specs.Prelude.{◌≡◌, ◌≤◌, ℕ, Bool, true, false, IsTrue, ◌==◌, if◌then◌else◌, List, [], ◌∷◌, Option, Some, None}
use Rattle.std.proofs.Common.{zero, suc}
use Rattle.trs_defs.specs.Tree.{Tree, var}
use Rattle.trs_defs.specs.Variable.{has_var}
use Rattle.trs_defs.specs.Substitution.{apply}
use Rattle.trs_core.specs.SystemLimits.{HasSmallVariables}
use Rattle.trs_core.specs.View.{tree}
use Rattle.loop_find.specs.declared.binding.Binding.{Binding}

-- what stands for a variable, by the first binding of it
abbrev pub term_for : List Binding → ℕ → Option Tree
term_for [] v = None
term_for (b ∷ bs) v = if b.variable == v then Some (tree b.term.now) else term_for bs v

abbrev pub instance_or_variable : Option Tree → (ℕ → Tree) → ℕ → Tree
instance_or_variable None σ v = var v
instance_or_variable (Some t) σ v = apply σ t

-- the substitution that puts what stands for a variable in its place, so many times
abbrev pub resolved : List Binding → ℕ → ℕ → Tree
resolved bs zero v = var v
resolved bs (suc n) v = instance_or_variable (term_for bs v) (resolved bs n) v

-- the substitution makes each variable and what stands for it equal
abbrev pub Satisfies : List Binding → (ℕ → Tree) → Type 0
Satisfies bs σ = (v : ℕ) (t : Tree) → term_for bs v ≡ Some t → σ v ≡ apply σ t

-- nothing stands for a variable of the term
abbrev pub IsFree : List Binding → Tree → Type 0
IsFree bs t = (v : ℕ) → IsTrue (has_var v t) → term_for bs v ≡ None

-- what stands for a variable of a rule is a term of a closure
abbrev pub IsScoped : List Binding → Type 0
IsScoped bs = (v : ℕ) (t : Tree) → term_for bs v ≡ Some t → 65536 ≤ v → HasSmallVariables t

-- The substitutions that satisfy the old bindings and make two terms equal are those that satisfy the new ones.
pub record Unites (s t : Tree) (old new : List Binding) : Type 0 where
  pub sound : (σ : ℕ → Tree) → Satisfies new σ → Satisfies old σ × (apply σ s ≡ apply σ t)
  pub complete : (σ : ℕ → Tree) → Satisfies old σ → apply σ s ≡ apply σ t → Satisfies new σ
  pub scoped : IsScoped old → IsScoped new

abbrev pub Binds : Tree → Tree → List Binding → List Binding → Bool → Type 0
Binds s t old new true = Unites s t old new
Binds s t old new false = Unit {0}

-- the same of a variable and a term
pub record IsAdded (v : ℕ) (t : Tree) (old new : List Binding) : Type 0 where
  pub sound : (σ : ℕ → Tree) → Satisfies new σ → Satisfies old σ × (σ v ≡ apply σ t)
  pub complete : (σ : ℕ → Tree) → Satisfies old σ → σ v ≡ apply σ t → Satisfies new σ
  pub scoped : (65536 ≤ v → HasSmallVariables t) → IsScoped old → IsScoped new

abbrev pub Adds : ℕ → Tree → List Binding → List Binding → Bool → Type 0
Adds v t old new true = IsAdded v t old new
Adds v t old new false = Unit {0}
