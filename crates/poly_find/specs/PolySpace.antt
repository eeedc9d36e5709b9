-- Linear interpretations with coefficients 0 to 2.
use Rattle.std.specs.Prelude.{ℕ, ◌+◌, Bool, List, [], ◌∷◌, slice_index}
use Rattle.std.proofs.Common.{zero, suc}
use Rattle.trs_defs.specs.Tree.{Tree}
use Rattle.order_search.specs.Slots.{Table}
use Rattle.order_search.specs.OrderSpace.{OrderFamily}
use Rattle.poly_find.specs.LinearTest.{linear_weak, linear_strict}

-- what a table says of so many parts of a symbol, from one on
abbrev pub values_from : Table → ℕ → ℕ → ℕ → List ℕ
values_from table f part zero = []
values_from table f part (suc n) = table f part ∷ values_from table f (suc part) n

-- the polynomial of a symbol with n arguments: its constant, and the coefficients of its arguments
abbrev pub polynomial_by : (ℕ → ℕ) → Table → ℕ → List ℕ
polynomial_by arity table f = values_from table f 0 (arity f + 1)

-- its coefficient of argument i, counted from 1, or the constant at 0; a missing one is read as 0
abbrev pub coefficient_by : (ℕ → ℕ) → Table → ℕ → ℕ → ℕ
coefficient_by arity table f i = slice_index (polynomial_by arity table f) i

abbrev pub poly_weak : (ℕ → ℕ) → Table → Tree → Tree → Bool
poly_weak arity table s t = linear_weak (coefficient_by arity table) s t

abbrev pub poly_strict : (ℕ → ℕ) → Table → Tree → Tree → Bool
poly_strict arity table s t = linear_strict (coefficient_by arity table) s t

-- a symbol with n arguments has a constant and n coefficients
abbrev pub poly_family : (ℕ → ℕ) → OrderFamily
poly_family arity = record { parts = λ f. arity f + 1; values = λ _. 3; weak = poly_weak arity; strict = poly_strict arity }
