-- What is worked out once of a term whose polynomial is compared with several others.
use Rattle.std.specs.Prelude.{◌≡◌, ◌↔◌, ◌<◌, ◌+◌, ◌-◌, ◌^◌, ℕ, List, min, slice_index, IsTrue}
use Rattle.trs_defs.specs.Tree.{Tree}
use Rattle.order_theory.specs.LinearInterpretation.{value, coefficient}
use Rattle.poly_lin.specs.TooBig.{HasBigCoefficient}
use Rattle.poly_lin.specs.declared.profiles.Profile.{Profile}

-- the coefficients of w variables, from this one on, as far as 64 bits tell
abbrev pub AreCoefficients : (ℕ → ℕ → ℕ) → ℕ → ℕ → Tree → List ℕ → Type 0
AreCoefficients c w from t numbers = (i : ℕ) → i < w → min (slice_index numbers i) (2 ^ 64 - 1) ≡ min (coefficient c (from + i) t) (2 ^ 64 - 1)

pub record IsProfile (c : ℕ → ℕ → ℕ) (t : Tree) (profile : Profile) : Type 0 where
  pub big : IsTrue profile.is_big ↔ HasBigCoefficient c t
  pub constant : profile.constant ≡ min (value c (λ x. 0) t) (2 ^ 64 - 1)
  pub coefficients : AreCoefficients c 64 0 t profile.coefficients
