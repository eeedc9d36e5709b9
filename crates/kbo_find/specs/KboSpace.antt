-- Knuth-Bendix orders with weights 0 to 2 and ranks 0 to 7.
use Rattle.std.specs.Prelude.{ℕ, ◌+◌, Bool, ◌==◌, if◌then◌else◌, List, [], ◌∷◌, ◌++◌}
use Rattle.trs_defs.specs.Tree.{Tree}
use Rattle.order_search.specs.Slots.{Slot, Table}
use Rattle.order_search.specs.OrderSpace.{OrderFamily, OrderConstraint, above}
use Rattle.kbo_find.specs.KnuthTest.{knuth_strict, knuth_weak}

-- the weights of a constant are 1 and 2
abbrev pub weight_by : (ℕ → ℕ) → Table → ℕ → ℕ
weight_by arity table f = if arity f == 0 then table f 0 + 1 else table f 0

abbrev pub rank_by : Table → ℕ → ℕ
rank_by table f = table f 1

abbrev pub kbo_strict : (ℕ → ℕ) → Table → Tree → Tree → Bool
kbo_strict arity table s t = knuth_strict (weight_by arity table) (rank_by table) s t

abbrev pub kbo_weak : (ℕ → ℕ) → Table → Tree → Tree → Bool
kbo_weak arity table s t = knuth_weak (weight_by arity table) (rank_by table) s t

-- a constant has 2 weights, another symbol 3
abbrev pub weight_count : ℕ → ℕ
weight_count arity = if arity == 0 then 2 else 3

abbrev pub kbo_values : (ℕ → ℕ) → Slot → ℕ
kbo_values arity s = if s.part == 0 then weight_count (arity s.symbol) else 8

-- two parts: the weight and the rank
abbrev pub kbo_family : (ℕ → ℕ) → OrderFamily
kbo_family arity = record { parts = λ _. 2; values = kbo_values arity; weak = kbo_weak arity; strict = kbo_strict arity }

-- one symbol above each other one of these
abbrev pub above_each : ℕ → List ℕ → List OrderConstraint
above_each unary [] = []
above_each unary (f ∷ fs) = (if f == unary then [] else above unary f ∷ []) ++ above_each unary fs

-- where it has one argument
abbrev pub above_all : (ℕ → ℕ) → List ℕ → ℕ → List OrderConstraint
above_all arity symbols f = if arity f == 1 then above_each f symbols else []

abbrev pub tops_of : (ℕ → ℕ) → List ℕ → List ℕ → List OrderConstraint
tops_of arity symbols [] = []
tops_of arity symbols (f ∷ fs) = above_all arity symbols f ++ tops_of arity symbols fs

-- each symbol with one argument above each other symbol, if it weighs nothing
abbrev pub kbo_tops : (ℕ → ℕ) → List ℕ → List OrderConstraint
kbo_tops arity symbols = tops_of arity symbols symbols
