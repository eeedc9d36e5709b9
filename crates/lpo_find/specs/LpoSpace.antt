-- Path orders with argument filters and ranks 0 to 7.
use Rattle.std.specs.Prelude.{ℕ, ◌+◌, ◌-◌, ◌*◌, Bool, ◌||◌, ◌&&◌, ◌==◌, if◌then◌else◌, nat_lt, nat_le, List, [], ◌∷◌}
use Rattle.std.proofs.Common.{zero, suc}
use Rattle.trs_defs.specs.Tree.{Tree}
use Rattle.order_theory.specs.PathTest.{same_tree, path_greater}
use Rattle.order_theory.specs.ArgumentFilter.{ArgumentFilter, To, Keep, filtered}
use Rattle.order_theory.specs.Keeping.{places_from}
use Rattle.order_search.specs.Slots.{Slot, Table}
use Rattle.order_search.specs.OrderSpace.{OrderFamily}

abbrev pub all_but : ℕ → List ℕ → List ℕ
all_but place [] = []
all_but place (p ∷ ps) = if p == place then all_but place ps else p ∷ all_but place ps

-- how many filters there are for n arguments: 1, 3, and else 2 n + 2
abbrev pub filter_count : ℕ → ℕ
filter_count zero = 1
filter_count (suc zero) = 3
filter_count (suc (suc n)) = 2 * (n + 2) + 2

-- For n arguments: all; for one or more, to place 1, .., to place n; for two or more, all but place 1, .., all but place n; for
-- one or more, none.
abbrev pub filter_number : ℕ → ℕ → ArgumentFilter
filter_number n zero = Keep (places_from 1 n)
filter_number n (suc v) =
    if nat_lt v n then To (v + 1) else (if nat_lt v (2 * n) && nat_le 2 n then Keep (all_but (v - n + 1) (places_from 1 n)) else Keep [])

abbrev pub filter_by : (ℕ → ℕ) → Table → ℕ → ArgumentFilter
filter_by arity table f = filter_number (arity f) (table f 0)

abbrev pub rank_by : Table → ℕ → ℕ
rank_by table f = table f 1

-- the two comparisons of filtered terms, as tests
abbrev pub path_strict : (ℕ → ℕ) → (ℕ → ArgumentFilter) → Tree → Tree → Bool
path_strict rank filter s t = path_greater rank (filtered filter s) (filtered filter t)

abbrev pub path_weak : (ℕ → ℕ) → (ℕ → ArgumentFilter) → Tree → Tree → Bool
path_weak rank filter s t = same_tree (filtered filter s) (filtered filter t) || path_strict rank filter s t

abbrev pub lpo_strict : (ℕ → ℕ) → Table → Tree → Tree → Bool
lpo_strict arity table s t = path_strict (rank_by table) (filter_by arity table) s t

abbrev pub lpo_weak : (ℕ → ℕ) → Table → Tree → Tree → Bool
lpo_weak arity table s t = path_weak (rank_by table) (filter_by arity table) s t

abbrev pub lpo_values : (ℕ → ℕ) → Slot → ℕ
lpo_values arity s = if s.part == 0 then filter_count (arity s.symbol) else 8

-- two parts: the filter and the rank
abbrev pub lpo_family : (ℕ → ℕ) → OrderFamily
lpo_family arity = record { parts = λ _. 2; values = lpo_values arity; weak = lpo_weak arity; strict = lpo_strict arity }
