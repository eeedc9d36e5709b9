-- What the constraints and entries of a search for a Knuth-Bendix order are, as they are made.
use Rattle.std.specs.Prelude.{ℕ, ◌+◌, ◌<◌, ◌^◌, length, Bool, true, ◌||◌, ◌==◌, if◌then◌else◌, List, Option, Some, None}
use Rattle.trs_defs.specs.System.{RewriteRule}
use Rattle.kbo_order.specs.declared.entries.KboEntry.{KboEntry}
use Rattle.order_search.specs.OrderSpace.{OrderConstraint, above, occurs_in, some_falls}
use Rattle.kbo_find.specs.KnuthTest.{knuth_weak, knuth_strict}
use Rattle.kbo_find.specs.declared.tops.Top.{Top}

-- what is asked of a unary symbol and another one
abbrev pub asked_of : Top → OrderConstraint
asked_of top = above top.unary top.other

-- all constraints are numbered by 32 bits
abbrev pub AreFew : List Top → List RewriteRule → List RewriteRule → Type 0
AreFew tops rules pairs = length tops + (length rules + length pairs + 1) < 2 ^ 32

-- a rule that falls weakly, or some strict pair
abbrev pub falls_by : (ℕ → ℕ) → (ℕ → ℕ) → List RewriteRule → Option RewriteRule → Bool
falls_by weight rank pairs (Some r) = knuth_weak weight rank r.left r.right
falls_by weight rank pairs None = some_falls (knuth_strict weight rank) pairs

-- a rule that the symbol stands in, or some strict pair
abbrev pub uses_by : ℕ → Option RewriteRule → Bool
uses_by f (Some r) = occurs_in f r.left || occurs_in f r.right
uses_by f None = true

-- the entry of a symbol with so many arguments, by the values of its two slots
abbrev pub entry_with : (arity symbol weight rank : ℕ) → KboEntry
entry_with arity f weight rank =
    record { symbol = f; arity = arity; weight = if arity == 0 then weight + 1 else weight; rank = rank }
