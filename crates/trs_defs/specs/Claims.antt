-- What is claimed of systems. (Baader and Nipkow, chapters 2, 5 and 6.) Nothing here knows of positions, pools, pairs,
-- orders or labels.
use Rattle.std.specs.Prelude.{ℕ}
use Rattle.trs_defs.specs.Derivation.{Derivation, Reaches}
use Rattle.trs_defs.specs.Bounded.{IsBounded}
use Rattle.trs_defs.specs.Joinable.{IsJoinable}
use Rattle.trs_defs.specs.Tree.{Tree}
use Rattle.trs_defs.specs.WellFormed.{IsWellFormed}
use Rattle.trs_defs.specs.System.{System}
use Rattle.trs_defs.specs.Step.{Step}

-- each well-formed term has a bound on the length of the derivations from it
abbrev pub IsTerminating : System → Type 0
IsTerminating system = (t : Tree) → IsWellFormed system.arities t → IsBounded (Step system.rules) t

-- one well-formed term starts a derivation of each length
abbrev pub IsEndless : System → Type 0
IsEndless system =
    (t : Tree) × IsWellFormed system.arities t × ((n : ℕ) → (u : Tree) × Derivation (Step system.rules) n t u)

-- what a well-formed term reaches is joinable
abbrev pub IsConfluent : System → Type 0
IsConfluent system =
    (s t u : Tree) → IsWellFormed system.arities s → Reaches (Step system.rules) s t → Reaches (Step system.rules) s u
    → IsJoinable (Step system.rules) t u

-- some well-formed term reaches two terms that are not joinable
abbrev pub IsForked : System → Type 0
IsForked system =
    (s : Tree) × (t : Tree) × (u : Tree) × IsWellFormed system.arities s × Reaches (Step system.rules) s t
    × Reaches (Step system.rules) s u × (IsJoinable (Step system.rules) t u → ⊥)
