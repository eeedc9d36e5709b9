use Rattle.std.proofs.Common.{map}
use Rattle.names_text.proofs.NameLists.{IsNumberFrom}
use Rattle.names_text.proofs.index.find_among_few.Given as goal

abbrev pub invariant-loop-number : goal.invariant-loop-number
invariant-loop-number l = IsNumberFrom (map (λ n. n.items) l.names) l.name l.number
