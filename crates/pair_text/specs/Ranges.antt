-- What is known of entries and items on pairs that a text gives.
use Rattle.std.specs.Prelude.{◌≢◌, ℕ, ◌≤◌, ◌<◌, ◌^◌, []}
use Rattle.std.specs.List.{AllByRecursion}
use Rattle.std.specs.List.Sorted.{IsStrictlyIncreasing}
use Rattle.dp_graph.specs.GroupOrSingle.{GroupOrSingle, group, single}

-- no symbol has more than 255 arguments
abbrev pub HasPlace : ℕ × ℕ → Type 0
HasPlace e = e.1 ≤ 255

-- a group has a pair, and its pairs ascend
abbrev pub IsGroup : GroupOrSingle → Type 0
IsGroup (group pairs) = (pairs ≢ []) × IsStrictlyIncreasing pairs
IsGroup (single pair) = Unit {0}

-- the numbers of its pairs can be read
abbrev pub HasPairs : GroupOrSingle → Type 0
HasPairs (group pairs) = AllByRecursion (λ n. n < 2 ^ 32) pairs
HasPairs (single pair) = pair < 2 ^ 32
