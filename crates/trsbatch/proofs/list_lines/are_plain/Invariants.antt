use Rattle.std.proofs.Common.{take}
use Rattle.std.specs.List.{All}
use Rattle.trsbatch.specs.ListText.{IsPlain}
use Rattle.trsbatch.proofs.list_lines.are_plain.Given as goal

abbrev pub invariant-loop-byte : goal.invariant-loop-byte
invariant-loop-byte l = All IsPlain (take l.byte-index l.bytes)
