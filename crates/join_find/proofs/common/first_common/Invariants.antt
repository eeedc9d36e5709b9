use Rattle.std.proofs.Common.{ℕ, ◌≡◌, ◌<◌, Some, slice_get}
use Rattle.trs_defs.specs.Member.{In}
use Rattle.term_pool.specs.ListedIds.{ids_of}
use Rattle.join_find.specs.CommonIds.{Reached}
use Rattle.join_find.proofs.common.first_common.Given as goal

abbrev pub invariant-loop-left : goal.invariant-loop-left
invariant-loop-left l = (k : ℕ) (e : Reached) → k < l.left-index → slice_get l.lefts k ≡ Some e → In e.0 (ids_of l.rights) → ⊥
