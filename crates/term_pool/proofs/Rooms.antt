-- When a term with another subterm at a position is seen to pass the limits.
use Rattle.std.specs.Prelude.{nat_lt}
use Rattle.std.proofs.Common.{◌≡◌, ℕ, ◌+◌, ◌-◌, ◌<◌, ◌≤◌, List, length, Some, min, arith, IsTrue}
use Rattle.trs_defs.specs.Tree.{Tree}
use Rattle.trs_defs.specs.Size.{size_of, depth_of}
use Rattle.trs_defs.specs.Position.{subterm_at, replaced_at}
use Rattle.trs_defs.proofs.Contexts.{replaced_somehow}
use Rattle.trs_defs.proofs.Limits.{size_replaced, size_there, depth_replaced, limits_passed_by_size, limits_passed_by_depth}
use Rattle.term_pool.specs.Placing.{IsTooLargePut}

pub lt_true : (a b : ℕ) → IsTrue (nat_lt a b) → a < b
lt_true a b h = grind arith

module _ (p : List ℕ) (t part : Tree) (there : subterm_at p t ≡ Some part) where
  pub part_fits : size_of part ≤ size_of t
  part_fits = size_there p t part there

  module _ (by : Tree) where
    whole : (u : Tree) × (replaced_at p t by ≡ Some u)
    whole = replaced_somehow p t part by there

    nodes : size_of whole.0 + size_of part ≡ size_of t + size_of by
    nodes = size_replaced p t part by whole.0 there whole.1

    way : length p + depth_of by ≤ depth_of whole.0
    way = depth_replaced p t part by whole.0 there whole.1

    -- sizes and depths, as a `u32` that stands still counts them
    pub too_many_nodes : (size old new : ℕ) → size ≡ min (size_of t) 4294967295 → old ≡ min (size_of part) 4294967295 → new ≡ min (size_of by) 4294967295
        → 65536 < size - old + new → IsTooLargePut p t by
    too_many_nodes size old new s o n h = record { result = whole.0; put = whole.1; large = limits_passed_by_size whole.0 (omega (arith, nodes, part_fits, s, o, n, h)) }

    pub too_deep : (depth : ℕ) → depth ≡ min (depth_of by) 4294967295 → 1024 < length p + depth → IsTooLargePut p t by
    too_deep depth d h = record { result = whole.0; put = whole.1; large = limits_passed_by_depth whole.0 (omega (arith, way, d, h)) }
