use Rattle.std.proofs.Common.{◌≡◌, take}
use Rattle.term_pool.specs.ListedIds.{ids_of}
use Rattle.path_lists.proofs.paths.ids_from.Given as goal

abbrev pub invariant-loop-entry : goal.invariant-loop-entry
invariant-loop-entry l = l.ids.items ≡ ids_of (take l.entry-index l.entry-items)
