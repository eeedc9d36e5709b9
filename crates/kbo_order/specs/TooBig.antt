-- Terms that weigh too much to be compared.
use Rattle.std.specs.Prelude.{◌≤◌, ◌^◌, ◌⊎◌, ℕ}
use Rattle.trs_defs.specs.Tree.{Tree}
use Rattle.pair_theory.specs.Subterm.{Sub}
use Rattle.order_theory.specs.KnuthBendix.{weigh}

-- some subterm weighs more than 2^63 - 1
abbrev pub HasBigWeight : (ℕ → ℕ) → Tree → Type 0
HasBigWeight weight t = (u : Tree) × Sub u t × (2 ^ 63 ≤ weigh weight u)

abbrev pub EitherIsBig : (ℕ → ℕ) → Tree → Tree → Type 0
EitherIsBig weight s t = HasBigWeight weight s ⊎ HasBigWeight weight t
