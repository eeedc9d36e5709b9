use Rattle.std.proofs.Common.{take, map}
use Rattle.names_text.specs.NameTable.{IsIndex}
use Rattle.names_text.proofs.index.Index.of.Given as goal

abbrev pub invariant-loop-number : goal.invariant-loop-number
invariant-loop-number l = IsIndex (take l.number (map (λ n. n.items) l.names)) l.index
