-- Ids of one pool, and the ids of the same terms in another.
use Rattle.std.specs.Prelude.{◌≡◌, ℕ, List, Some, slice_get}
use Rattle.trs_defs.specs.Tree.{Tree}
use Rattle.term_pool.specs.Pooled.{StandsFor}
use Rattle.term_pool.specs.declared.crossing.KnownIds.{KnownIds}

-- each id that is known for an id of the first pool stands for its term in the second
pub record AreKnownIds (from to : List Tree) (known : KnownIds) : Type 0 where
  pub each : (i own : ℕ) → slice_get known.by_id.items i ≡ Some (Some own) → (t : Tree) × StandsFor from i t × StandsFor to own t
