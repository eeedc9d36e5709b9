-- Rules with the same left side.
use Rattle.std.specs.Prelude.{◌≡◌, ◌⊎◌, ◌↔◌, ℕ, List, [], Option, Some, None, length, slice_get}
use Rattle.trs_defs.specs.Tree.{Tree}
use Rattle.trs_defs.specs.System.{RewriteRule}
use Rattle.pair_theory.specs.DependencyPair.{pairs_of}

-- rule number j has this left side
abbrev pub HasLeft : List RewriteRule → ℕ → Tree → Type 0
HasLeft rules j left = (rule : RewriteRule) × (slice_get rules j ≡ Some rule) × (rule.left ≡ left)

-- the number is noted of the id
abbrev pub IsNoted : List (Option ℕ) → ℕ → ℕ → Type 0
IsNoted seen id first = slice_get seen id ≡ Some (Some first)

-- for each rule the number of the one that is noted for its left side, or none if the rule has no pairs
pub record HaveSameLefts (rules : List RewriteRule) (firsts : List (Option ℕ)) : Type 0 where
  pub count : length firsts ≡ length rules
  pub noted : (k j : ℕ) → IsNoted firsts k j → IsNoted firsts j j
  pub each : (k j : ℕ) (rule : RewriteRule) → IsNoted firsts k j → slice_get rules k ≡ Some rule → HasLeft rules j rule.left
  pub others : (k : ℕ) (rule : RewriteRule) → slice_get firsts k ≡ Some None → slice_get rules k ≡ Some rule → pairs_of rules rule.left rule.right ≡ []

-- the number that is noted of the id, or this one
abbrev pub IsNotedOr : List (Option ℕ) → ℕ → ℕ → ℕ → Type 0
IsNotedOr seen id k first = (first ≡ k) ⊎ IsNoted seen id first

-- what is noted was noted before, or is this number of the id
abbrev pub NotesAt : ℕ → ℕ → List (Option ℕ) → List (Option ℕ) → Type 0
NotesAt id first old new = (i j : ℕ) → IsNoted new i j → IsNoted old i j ⊎ ((i ≡ id) × (j ≡ first))

-- the same numbers are noted
abbrev pub NotesStay : List (Option ℕ) → List (Option ℕ) → Type 0
NotesStay old new = (i j : ℕ) → IsNoted new i j ↔ IsNoted old i j
