-- Ids of one pool that are known in another.
use Rattle.std.proofs.Common.{◌≡◌, ℕ, List, Option, Some, slice_get}
use Rattle.trs_defs.specs.Tree.{Tree}
use Rattle.term_pool.specs.Pooled.{Extends}
use Rattle.term_pool.specs.Crossing.{AreKnownIds}
use Rattle.term_pool.specs.declared.crossing.KnownIds.{KnownIds}

-- they stay known as the second pool grows
pub known_ids_on : (from to next : List Tree) (known : KnownIds) → Extends to next → AreKnownIds from to known → AreKnownIds from next known
known_ids_on from to next known extends h = record {
  each = λ i own at. let (t, there, stand) = h.each i own at in (t, there, extends.kept own t stand);
}

-- the second list has no id that the first one lacks
abbrev pub KnowsNoMore : List (Option ℕ) → List (Option ℕ) → Type 0
KnowsNoMore old new = (i own : ℕ) → slice_get new i ≡ Some (Some own) → slice_get old i ≡ Some (Some own)
