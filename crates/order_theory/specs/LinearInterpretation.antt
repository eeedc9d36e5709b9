-- Linear interpretations over the naturals. (Baader and Nipkow, section 5.3; coefficients may be 0, as in Arts and
-- Giesl, 2000.) A symbol f with n arguments stands for c f 0 + c f 1 * x1 + .. + c f n * xn.
use Rattle.std.specs.Prelude.{ℕ, ◌+◌, ◌*◌, ◌≤◌, ◌<◌, ◌==◌, if◌then◌else◌}
use Rattle.std.proofs.Common.{suc}
use Rattle.trs_defs.specs.Tree.{Tree, Trees, var, app, nil, cons}

-- the value of a term where variables stand for numbers
abbrev mutual
  pub value : (ℕ → ℕ → ℕ) → (ℕ → ℕ) → Tree → ℕ
  value c a (var x) = a x
  value c a (app f ts) = c f 0 + values c a f 1 ts

  -- the share of the arguments of f from place i on
  pub values : (ℕ → ℕ → ℕ) → (ℕ → ℕ) → ℕ → ℕ → Trees → ℕ
  values c a f i nil = 0
  values c a f i (cons t ts) = c f i * value c a t + values c a f (suc i) ts

abbrev pub LinearWeak : (ℕ → ℕ → ℕ) → Tree → Tree → Type 0
LinearWeak c s t = (a : ℕ → ℕ) → value c a t ≤ value c a s

abbrev pub LinearStrict : (ℕ → ℕ → ℕ) → Tree → Tree → Type 0
LinearStrict c s t = (a : ℕ → ℕ) → value c a t < value c a s

-- the constant of a term's polynomial
abbrev mutual
  pub constant : (ℕ → ℕ → ℕ) → Tree → ℕ
  constant c (var x) = 0
  constant c (app f ts) = c f 0 + constants c f 1 ts

  pub constants : (ℕ → ℕ → ℕ) → ℕ → ℕ → Trees → ℕ
  constants c f i nil = 0
  constants c f i (cons t ts) = c f i * constant c t + constants c f (suc i) ts

-- the coefficient of a variable in it
abbrev mutual
  pub coefficient : (ℕ → ℕ → ℕ) → ℕ → Tree → ℕ
  coefficient c x (var y) = if y == x then 1 else 0
  coefficient c x (app f ts) = coefficients c x f 1 ts

  pub coefficients : (ℕ → ℕ → ℕ) → ℕ → ℕ → ℕ → Trees → ℕ
  coefficients c x f i nil = 0
  coefficients c x f i (cons t ts) = c f i * coefficient c x t + coefficients c x f (suc i) ts

-- constant and coefficients are at least as great: how two polynomials are compared
abbrev pub CoefficientWeak : (ℕ → ℕ → ℕ) → Tree → Tree → Type 0
CoefficientWeak c s t = (constant c t ≤ constant c s) × ((x : ℕ) → coefficient c x t ≤ coefficient c x s)

abbrev pub CoefficientStrict : (ℕ → ℕ → ℕ) → Tree → Tree → Type 0
CoefficientStrict c s t = (constant c t < constant c s) × ((x : ℕ) → coefficient c x t ≤ coefficient c x s)
