-- What is worked out once of a term that is compared with several others.
use Rattle.std.specs.Prelude.{◌≡◌, ◌<◌, ◌+◌, ℕ, ℤ, pos, List, IfOk}
use Rattle.trs_defs.specs.Tree.{Tree}
use Rattle.trs_defs.specs.Variable.{occurrences}
use Rattle.kbo_order.specs.Balances.{difference_at}
use Rattle.kbo_order.specs.Seen.{IsWeight}
use Rattle.kbo_order.specs.declared.profiles.Profile.{Profile}

-- how often each of some variables occurs, from a number on
abbrev pub AreOccurrences : ℕ → ℕ → Tree → List ℤ → Type 0
AreOccurrences size from t counts = (i : ℕ) → i < size → difference_at counts i ≡ pos (occurrences (from + i) t)

pub record IsProfile (weight : ℕ → ℕ) (t : Tree) (profile : Profile) : Type 0 where
  pub weighed : IsWeight weight t profile.weight
  pub counted : IfOk profile.weight (λ m. AreOccurrences 64 0 t profile.occurrences)
