-- Variables that are met one after the other, each once.
use Rattle.std.specs.Prelude.{◌≡◌, ◌<◌, ◌+◌, ℕ, nat_lt, if◌then◌else◌}
use Rattle.trs_defs.specs.Tree.{Tree}
use Rattle.trs_defs.specs.Variable.{occurrences}

-- how often a variable was met, where those below a count were met once each
abbrev pub times_below : ℕ → ℕ → ℕ
times_below count v = if nat_lt v count then 1 else 0

-- the variables of the term are those from the first count up to the second, each once
abbrev pub MeetsNext : Tree → ℕ → ℕ → Type 0
MeetsNext t before after = (v : ℕ) → times_below after v ≡ times_below before v + occurrences v t

-- a variable occurs twice, or once and was met before
abbrev pub MeetsAgain : Tree → ℕ → Type 0
MeetsAgain t before = (v : ℕ) × (1 < times_below before v + occurrences v t)
