use Rattle.std.proofs.Common.{◌≡◌, map, take}
use Rattle.path_lpo.specs.Plain.{plain}
use Rattle.path_lpo.proofs.table.Lpo.copy.Given as goal

abbrev pub invariant-loop-entry : goal.invariant-loop-entry
invariant-loop-entry l = map plain l.entries.items ≡ map plain (take l.entry-index l.entry-items)
