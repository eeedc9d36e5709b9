-- How a finite search ends within a budget.
use Rattle.std.specs.Prelude.{◌≡◌, ◌<◌, ◌≤◌, ℕ, List, Some, None}
use Rattle.assign_search.specs.Puzzle.{Puzzle, solution_of, count_of}
use Rattle.assign_search.specs.declared.search.Search.{Search}
use Rattle.assign_search.specs.declared.search.Search.TheVariants.{Found, NotThere, Spent, Stopped}

-- the values are the first solution, and fewer minimal refuted prefixes than the budget come before it
abbrev pub IsFirst : ℕ → List ℕ → Puzzle → Type 0
IsFirst budget values z = (solution_of z ≡ Some values) × (count_of z < budget)

-- there is no solution, and there are fewer minimal refuted prefixes than the budget
abbrev pub IsNotThere : ℕ → Puzzle → Type 0
IsNotThere budget z = (solution_of z ≡ None) × (count_of z < budget)

-- as many minimal refuted prefixes as the budget come before the first solution
abbrev pub IsSpent : ℕ → Puzzle → Type 0
IsSpent budget z = budget ≤ count_of z

-- what a finder answers: `finds` holds of what is found; `rose` says that the count of stops rose
abbrev pub IsFinding : {A : Type 0} → (A → Type 0) → Type 0 → Type 0 → Type 0 → Search A → Type 0
IsFinding finds none spent rose (Found a) = finds a
IsFinding finds none spent rose NotThere = none
IsFinding finds none spent rose Spent = spent
IsFinding finds none spent rose Stopped = rose
