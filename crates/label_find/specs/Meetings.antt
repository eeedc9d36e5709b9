-- Groups of the two sides of a peak that have one end.
use Rattle.std.specs.Prelude.{◌≡◌, ◌<◌, ◌⊎◌, ◌-◌, ℕ, List, Some}
use Rattle.trs_defs.specs.Member.{In}
use Rattle.join_find.specs.First.{Some_in}
use Rattle.label_find.specs.declared.groups.Groups.{Groups}
use Rattle.label_find.specs.Grouping.{end_at, HasEnd, IsGroupOf}

-- the groups at these places are those of this end
abbrev pub MeetAt : Groups → Groups → ℕ → ℕ × ℕ → Type 0
MeetAt lefts rights end m = IsGroupOf lefts end m.0 × IsGroupOf rights end m.1

abbrev pub HasMeeting : Groups → Groups → ℕ → List (ℕ × ℕ) → Type 0
HasMeeting lefts rights end meetings = Some_in (MeetAt lefts rights end) meetings

-- if the left group of an end begins at this place, and the right has the end, their meeting is listed besides
pub record AddsMeeting (lefts rights : Groups) (place : ℕ) (old new : List (ℕ × ℕ)) : Type 0 where
  pub from : (m : ℕ × ℕ) → In m new → In m old ⊎ ((end : ℕ) × MeetAt lefts rights end m)
  pub stays : (m : ℕ × ℕ) → In m old → In m new
  pub there : (end : ℕ) → end_at lefts place ≡ Some end → HasEnd rights end → HasMeeting lefts rights end new ⊎ ((0 < place) × (end_at lefts (place - 1) ≡ Some end))

-- a meeting for the end of each of the first left lists, if the right has it
pub record AreMeetings (lefts rights : Groups) (first : ℕ) (meetings : List (ℕ × ℕ)) : Type 0 where
  pub each : (m : ℕ × ℕ) → In m meetings → (end : ℕ) × MeetAt lefts rights end m
  pub all : (number end : ℕ) → number < first → end_at lefts number ≡ Some end → HasEnd rights end → HasMeeting lefts rights end meetings
