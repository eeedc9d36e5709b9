-- Coefficients of variables, compared as far as 64 bits tell.
use Rattle.std.specs.Prelude.{◌≡◌, ◌<◌, ◌≤◌, ◌+◌, ◌*◌, ◌-◌, ◌^◌, ℕ, List, Option, Some, None, min, slice_index}
use Rattle.trs_defs.specs.Tree.{Tree}
use Rattle.order_theory.specs.LinearInterpretation.{coefficient}
use Rattle.trs_defs.specs.LeastVariable.{IsBelow, IsFrom}

-- the coefficient of a variable in s is at least that in t
abbrev pub CoversAt : (ℕ → ℕ → ℕ) → Tree → Tree → ℕ → Type 0
CoversAt c s t x = min (coefficient c x t) (2 ^ 64 - 1) ≤ min (coefficient c x s) (2 ^ 64 - 1)

-- that of each variable
abbrev pub Covers : (ℕ → ℕ → ℕ) → Tree → Tree → Type 0
Covers c s t = (x : ℕ) → CoversAt c s t x

-- that of each variable before the next one, or of all where there is none
abbrev pub AreCovered : (ℕ → ℕ → ℕ) → Tree → Tree → Option ℕ → Type 0
AreCovered c s t next = (x : ℕ) → IsBelow x next → CoversAt c s t x

-- to each of w numbers a multiple of the coefficient of its variable is added, where the first is that of this variable
abbrev pub AreAdded : (ℕ → ℕ → ℕ) → ℕ → ℕ → ℕ → Tree → List ℕ → List ℕ → Type 0
AreAdded c w from factor t before after = (i : ℕ) → i < w → min (slice_index after i) (2 ^ 64 - 1)
    ≡ min (slice_index before i + factor * coefficient c (from + i) t) (2 ^ 64 - 1)

-- the variables from the end of a window on and before the next one have no coefficient, and are before the best so far
abbrev pub HasNoneBefore : (ℕ → ℕ → ℕ) → ℕ → Tree → Option ℕ → Option ℕ → Type 0
HasNoneBefore c end t best next = (y : ℕ) → end ≤ y → IsBelow y next → IsBelow y best × (coefficient c y t ≡ 0)

-- the next one is behind the window, if the best so far is
abbrev pub IsBehind : ℕ → Option ℕ → Option ℕ → Type 0
IsBehind end best next = IsFrom end best → IsFrom end next

-- the next one comes after this one, and there is none after none
abbrev pub IsAfter : Option ℕ → Option ℕ → Type 0
IsAfter None next = next ≡ None
IsAfter (Some x) next = IsFrom (x + 1) next
