-- By how much variables occur more often in one term than in another.
use Rattle.std.specs.Prelude.{◌≡◌, ◌+◌, ◌<◌, ◌^◌, ℕ, ℤ, pos, negsuc, ◌+ℤ◌, ◌<ℤ◌, ◌≤ℤ◌, Bool, true, false, List, slice_index_or}
use Rattle.trs_defs.specs.Tree.{Tree}
use Rattle.trs_defs.specs.Variable.{occurrences}
use Rattle.kbo_order.specs.declared.balances.Side.{Side}
use Rattle.kbo_order.specs.declared.balances.Side.TheVariants.{Left, Right}

-- by how much variable number i of some differs
abbrev pub difference_at : List ℤ → ℕ → ℤ
difference_at differences i = slice_index_or differences i (pos 0)

abbrev pub is_deficit : ℤ → Bool
is_deficit (pos n) = false
is_deficit (negsuc n) = true

-- so many occurrences on a side are counted in a difference, unless 64 bits are passed
abbrev pub IsCounted : Side → ℕ → ℤ → ℤ → Type 0
IsCounted Left n before after = (before +ℤ pos n) <ℤ pos (2 ^ 63) → after ≡ before +ℤ pos n
IsCounted Right n before after = pos n ≤ℤ (before +ℤ pos (2 ^ 63)) → after +ℤ pos n ≡ before

-- m occurrences on the left are counted in a difference, and then n on the right, unless 64 bits are passed
abbrev pub AreBothCounted : ℕ → ℕ → ℤ → ℤ → Type 0
AreBothCounted m n before after =
    (before +ℤ pos m) <ℤ pos (2 ^ 63) → pos n ≤ℤ ((before +ℤ pos m) +ℤ pos (2 ^ 63)) → after +ℤ pos n ≡ before +ℤ pos m

-- x occurs in s so much more often than in t
abbrev pub IsDifference : ℕ → Tree → Tree → ℤ → Type 0
IsDifference x s t difference = difference +ℤ pos (occurrences x t) ≡ pos (occurrences x s)

-- of so many variables, from a number on
module _ (size from : ℕ) where
  abbrev pub TermIsCounted : Side → Tree → List ℤ → List ℤ → Type 0
  TermIsCounted side t before after = (i : ℕ) → i < size
      → IsCounted side (occurrences (from + i) t) (difference_at before i) (difference_at after i)

  abbrev pub TermsAreCounted : Tree → Tree → List ℤ → List ℤ → Type 0
  TermsAreCounted s t before after = (i : ℕ) → i < size
      → AreBothCounted (occurrences (from + i) s) (occurrences (from + i) t) (difference_at before i) (difference_at after i)

  abbrev pub AreDifferences : Tree → Tree → List ℤ → Type 0
  AreDifferences s t differences = (i : ℕ) → i < size → IsDifference (from + i) s t (difference_at differences i)

module _ (size : ℕ) where
  abbrev pub AreEven : List ℤ → Type 0
  AreEven differences = (i : ℕ) → i < size → difference_at differences i ≡ pos 0

  abbrev pub HaveNoDeficit : List ℤ → Type 0
  HaveNoDeficit differences = (i : ℕ) → i < size → pos 0 ≤ℤ difference_at differences i
