-- Ids whose instances are noted.
use Rattle.std.specs.Prelude.{◌≡◌, ℕ, List, All, Some, slice_get}
use Rattle.trs_defs.specs.Tree.{Tree, var}
use Rattle.trs_defs.specs.Substitution.{apply}
use Rattle.term_pool.specs.Pooled.{StandsFor}
use Rattle.term_pool.specs.declared.noted_instances.Instances.{Instances}

-- the instance that is noted for the id has this one: it stands at the id's place
abbrev pub HasNoted : Instances → ℕ → ℕ → Type 0
HasNoted made i own = (place : ℕ) × (slice_get made.places.items i ≡ Some place) × (slice_get made.noted.items place ≡ Some (i, own))

-- for this id an instance is noted
abbrev pub IsNoted : Instances → ℕ → Type 0
IsNoted made i = (own : ℕ) × HasNoted made i own

-- the second id stands for the instance of the first one's term
abbrev pub IsInstanceId : (ℕ → Tree) → List Tree → ℕ → ℕ → Type 0
IsInstanceId s pool i own = (t : Tree) × StandsFor pool i t × StandsFor pool own (apply s t)

-- what is noted are instances by the substitution
pub record AreInstances (s : ℕ → Tree) (pool : List Tree) (made : Instances) : Type 0 where
  pub each : All (λ e. IsInstanceId s pool e.0 e.1) made.noted.items

-- the instance of the variable is noted
abbrev pub HasVariable : List Tree → Instances → ℕ → Type 0
HasVariable pool made v = (i : ℕ) × StandsFor pool i (var v) × IsNoted made i
