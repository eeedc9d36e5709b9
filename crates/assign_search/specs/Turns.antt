use Rattle.std.specs.Prelude.{◌≡◌, ℕ, ◌<◌, ◌≤◌, List, Some, None, [], length}
use Rattle.assign_search.specs.Puzzle.{Puzzle, solution_of, count_of}
use Rattle.assign_search.specs.Rest.{IsAt, IsStanding, rest_of, todo}
use Rattle.assign_search.specs.declared.visiting.Turn.{Turn}
use Rattle.assign_search.specs.declared.visiting.Turn.TheVariants.{Next, Solved, Exhausted, Spent}

abbrev pub IsTurn : Puzzle → ℕ → List ℕ → ℕ → List ℕ → Turn → Type 0
IsTurn z budget p n q Next = IsAt z n q × (n < budget) × (length (todo z q) < length (todo z p))
IsTurn z budget p n q Solved = (solution_of z ≡ Some q) × (count_of z < budget)
IsTurn z budget p n q Exhausted = (solution_of z ≡ None) × (count_of z < budget)
IsTurn z budget p n q Spent = budget ≤ count_of z

abbrev pub Passes : Puzzle → List ℕ → List ℕ → Turn → Type 0
Passes z p q Next = IsStanding z q × (rest_of z p ≡ todo z q)
Passes z p q Solved = ⊥
Passes z p q Exhausted = rest_of z p ≡ []
Passes z p q Spent = ⊥
