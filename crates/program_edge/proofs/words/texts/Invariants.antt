use Rattle.std.proofs.Common.{◌≡◌, map, take}
use Rattle.std.specs.String.{string_bytes}
use Rattle.program_edge.proofs.words.texts.Given as goal

abbrev pub invariant-loop-string : goal.invariant-loop-string
invariant-loop-string l = map (λ w. w.now) l.texts.items ≡ map string_bytes (take l.string-index l.strings)
