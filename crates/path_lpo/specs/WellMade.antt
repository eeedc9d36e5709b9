-- An entry of a table of ranks and filters that agrees with the arities and keeps the limits.
use Rattle.std.specs.Prelude.{◌≡◌, ℕ, ◌≤◌, ◌<◌, ◌^◌, List, Some}
use Rattle.std.specs.List.{AllByRecursion}
use Rattle.order_theory.specs.KnuthBendix.{arity_with_marks}
use Rattle.order_theory.specs.ArgumentFilter.{ArgumentFilter, To, Keep}
use Rattle.path_lpo.specs.Table.{PathEntry, AscendsFrom}

-- the places are from 1 to n; those that are kept ascend
abbrev pub IsFilterWithin : ℕ → ArgumentFilter → Type 0
IsFilterWithin n (To place) = (1 ≤ place) × (place ≤ n)
IsFilterWithin n (Keep places) = AscendsFrom 0 places × AllByRecursion (λ place. place ≤ n) places

abbrev pub IsPathEntry : List ℕ → PathEntry → Type 0
IsPathEntry arities e =
    (n : ℕ) × (arity_with_marks arities e.symbol ≡ Some n) × (e.rank < 2 ^ 63) × IsFilterWithin n e.filter
