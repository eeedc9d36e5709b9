-- Rows of flags, as the code keeps them, and the rows of the left sides that caps meet.
use Rattle.std.specs.Prelude.{◌≡◌, ◌<◌, ◌⊎◌, ℕ, ◌/◌, ◌%◌, List, [], length, Option, Some, None, slice_get, slice_index_or}
use Rattle.std.specs.Int.{bit_at}
use Rattle.trs_defs.specs.System.{RewriteRule}
use Rattle.trs_caps.specs.HoledTree.{HoledTree}
use Rattle.trs_caps.specs.HoledCap.{MeetsLeft}
use Rattle.dp_graph.specs.SameLefts.{IsNoted}

-- flag number k, a bit of a word of 64, is set
abbrev pub IsSet : List ℕ → ℕ → Type 0
IsSet row k = bit_at (slice_index_or row (k / 64) 0) (k % 64) ≡ 1

-- the cap meets the left side of rule number k
abbrev pub IsMet : List RewriteRule → HoledTree → ℕ → Type 0
IsMet rules c k = (rule : RewriteRule) × (slice_get rules k ≡ Some rule) × MeetsLeft c rule.left

-- The flags of the rules with pairs whose left sides the cap meets are set. Rules with one left side have the flag of the noted one.
pub record HasFlags (rules : List RewriteRule) (lefts : List (Option ℕ)) (c : HoledTree) (row : List ℕ) : Type 0 where
  pub met : (k : ℕ) → IsSet row k → IsMet rules c k
  pub all : (k j : ℕ) (rule : RewriteRule) → slice_get rules k ≡ Some rule → IsNoted lefts k j → MeetsLeft c rule.left → IsSet row j
  pub some : 0 < length row → (k : ℕ) × IsSet row k

-- it has these flags, and is empty only if the cap meets no left side, also none of a rule without pairs
pub record IsRow (rules : List RewriteRule) (lefts : List (Option ℕ)) (c : HoledTree) (row : List ℕ) : Type 0 where
  pub flags : HasFlags rules lefts c row
  pub none : row ≡ [] → (k : ℕ) → IsMet rules c k → ⊥

-- the cap meets the left side of a rule without pairs
abbrev pub MeetsOther : List RewriteRule → List (Option ℕ) → HoledTree → ℕ → Type 0
MeetsOther rules lefts c k = (slice_get lefts k ≡ Some None) × IsMet rules c k

-- a rule whose left side the cap meets, or none if it meets that of no rule without pairs
abbrev pub IsOther : List RewriteRule → List (Option ℕ) → HoledTree → Option ℕ → Type 0
IsOther rules lefts c None = (k : ℕ) → MeetsOther rules lefts c k → ⊥
IsOther rules lefts c (Some k) = IsMet rules c k

-- the flag of rule number k is set, if it is noted for its left side and the cap meets that
pub record LooksAtLeft (rules : List RewriteRule) (lefts : List (Option ℕ)) (c : HoledTree) (k : ℕ) (old new : List ℕ) : Type 0 where
  pub kept : (j : ℕ) → IsSet old j → IsSet new j
  pub met : IsNoted lefts k k → IsMet rules c k → IsSet new k
  pub only : (j : ℕ) → IsSet new j → IsSet old j ⊎ ((j ≡ k) × IsMet rules c k)
  pub some : (new ≡ old) ⊎ IsSet new k
