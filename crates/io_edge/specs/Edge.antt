-- Counts of 64 bits, which stay at their last value.
use Rattle.std.specs.Prelude.{◌≤◌, ℕ, ◌+◌, ◌-◌, ◌^◌, min}

-- one more
abbrev pub next_count : ℕ → ℕ
next_count n = min (n + 1) (2 ^ 64 - 1)

-- so much more
abbrev pub count_after : ℕ → ℕ → ℕ
count_after n count = min (count + n) (2 ^ 64 - 1)

-- a count rose by so much at least, or stands at its last value
abbrev pub RoseBy : ℕ → ℕ → ℕ → Type 0
RoseBy n before now = count_after n before ≤ now

-- a count rose by one at least, or stands at its last value
abbrev pub Rose : ℕ → ℕ → Type 0
Rose before now = next_count before ≤ now
