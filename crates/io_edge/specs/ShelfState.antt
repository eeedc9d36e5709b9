-- What a shelf in memory is.
use Rattle.std.specs.Prelude.{◌≡◌, ◌⊎◌, ℕ, Bool, List, [], map, length, Vec, String, string_bytes, Option, Some, None, Result, Ok, Err, nat_eq, nat_le, if◌then◌else◌}
use Rattle.std.specs.declared.alloc.Global.{Global}
use Rattle.std.specs.List.{list_any}
use Rattle.io_edge.specs.Edge.{count_after}
use Rattle.io_edge.specs.Shelf.{ShelfMeaning}
use Rattle.io_edge.specs.Telling.{Telling, told, absent}
use Rattle.io_edge.specs.Named.{first_under, shelf_with}
use Rattle.io_edge.specs.declared.counts.Tally.{Tally}
use Rattle.io_edge.specs.declared.fault.FetchFault.{FetchFault}
use Rattle.io_edge.specs.declared.fault.FetchFault.TheVariants.{TooLong, Failed, OutOfMemory}

pub record ShelfState : Type 0 where
  -- texts under names
  pub texts : List (List ℕ × List ℕ)
  -- the numbers of the calls that fail, from 0
  pub failing : List ℕ
  -- how many calls there were
  pub calls : ℕ
  -- counts of faults and of bytes read under names
  pub tallies : List (List ℕ × Tally)

-- what is told of a text that lies in memory, or is not there
abbrev pub telling_of : Option (List ℕ) → Telling
telling_of None = absent []
telling_of (Some text) = told text

-- what it means: it tells its texts, of which the first under a name counts, and that no others are there
abbrev pub shelf_meaning : ShelfState → ShelfMeaning
shelf_meaning s = shelf_with (λ name. telling_of (first_under s.texts name)) s.tallies

-- texts under names, as they lie in memory
abbrev pub texts_of : List (String Global × Vec ℕ Global) → List (List ℕ × List ℕ)
texts_of ts = map (λ t. (string_bytes t.0, t.1.items)) ts

-- the call of this number is to fail
abbrev pub is_failing : List ℕ → ℕ → Bool
is_failing failing call = list_any (λ n. nat_eq n call) failing

-- what a call answers: the text, or why there is none
pub data Answer : Type 0 where
  text : List ℕ → Answer
  too_long : Answer
  failed : Answer

abbrev pub within_limit : Option (List ℕ) → ℕ → Answer
within_limit None limit = failed
within_limit (Some t) limit = if nat_le (length t) limit then text t else too_long

-- what the next call answers, want of memory aside
abbrev pub answer_to : ShelfState → List ℕ → ℕ → Answer
answer_to s name limit =
    if is_failing s.failing s.calls then failed else within_limit (first_under s.texts name) limit

-- how many bytes a call finds under a name
abbrev pub bytes_found : Option (List ℕ) → ℕ
bytes_found None = 0
bytes_found (Some t) = length t

-- how many bytes the next call counts as read
abbrev pub bytes_read : ShelfState → List ℕ → ℕ
bytes_read s name = if is_failing s.failing s.calls then 0 else bytes_found (first_under s.texts name)

-- so many bytes were counted as read; none, perhaps, where memory is wanting
abbrev pub CountsBytes : {X : Type 0} → Result X FetchFault → ℕ → ℕ → ℕ → Type 0
CountsBytes (Err OutOfMemory) bytes before now = (now ≡ before) ⊎ (now ≡ count_after bytes before)
CountsBytes (Err Failed) bytes before now = now ≡ count_after bytes before
CountsBytes (Err TooLong) bytes before now = now ≡ count_after bytes before
CountsBytes (Ok x) bytes before now = now ≡ count_after bytes before
