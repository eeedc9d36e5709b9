-- Terms whose polynomials are too big to be compared.
use Rattle.std.specs.Prelude.{◌≤◌, ◌<◌, ◌^◌, ◌⊎◌, ℕ, Option, zero, suc, max}
use Rattle.trs_defs.specs.LeastVariable.{IsBelow}
use Rattle.trs_defs.specs.Tree.{Tree}
use Rattle.pair_theory.specs.Subterm.{Sub}
use Rattle.order_theory.specs.LinearInterpretation.{constant, coefficient}

-- the polynomial of the term has a constant or a coefficient above 2^63 - 1
abbrev pub IsBig : (ℕ → ℕ → ℕ) → Tree → Type 0
IsBig c t = (2 ^ 63 ≤ constant c t) ⊎ ((x : ℕ) × (2 ^ 63 ≤ coefficient c x t))

-- the coefficients of the variables before the next one, or of all where there is none, are not above 2^63 - 1
abbrev pub AreSmall : (ℕ → ℕ → ℕ) → Tree → Option ℕ → Type 0
AreSmall c t next = (x : ℕ) → IsBelow x next → coefficient c x t < 2 ^ 63

-- that of some subterm has
abbrev pub HasBigCoefficient : (ℕ → ℕ → ℕ) → Tree → Type 0
HasBigCoefficient c t = (u : Tree) × Sub u t × IsBig c u

abbrev pub EitherIsBig : (ℕ → ℕ → ℕ) → Tree → Tree → Type 0
EitherIsBig c s t = HasBigCoefficient c s ⊎ HasBigCoefficient c t

-- a row of coefficients, of which those of arguments are at least 1
abbrev pub counting : (ℕ → ℕ) → ℕ → ℕ
counting row zero = row 0
counting row (suc i) = max (row (suc i)) 1
