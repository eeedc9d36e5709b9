use Rattle.std.proofs.Common.{◌≡◌, ◌++◌, ◌-◌, List, drop, length}
use Rattle.trs_defs.specs.Tree.{Tree}
use Rattle.loop_find.specs.declared.tokens.Token.{Token}
use Rattle.loop_find.specs.Flat.{tokens_of}
use Rattle.loop_find.proofs.TokenWalks.{IsAhead}
use Rattle.loop_find.proofs.recurring.behind.Given as goal

abbrev pub invariant-loop-ahead : goal.invariant-loop-ahead
invariant-loop-ahead l = (t : Tree) (rest : List Token) → drop l.start l.tokens ≡ tokens_of t ++ rest → IsAhead l.tokens l.at l.ahead rest

abbrev pub decreases-loop-ahead : goal.decreases-loop-ahead
decreases-loop-ahead l = length l.tokens - l.at
