use Rattle.std.proofs.Common.{◌≡◌, ◌++◌, ℕ, List, drop}
use Rattle.trs_defs.specs.Tree.{Tree}
use Rattle.loop_find.specs.declared.tokens.Token.{Token}
use Rattle.loop_find.specs.Flat.{images}
use Rattle.loop_find.proofs.recurring.may_match.Given as goal

abbrev pub invariant-loop-token : goal.invariant-loop-token
invariant-loop-token l = (σ : ℕ → Tree) (rest : List Token) → drop l.start l.tokens ≡ images σ l.pattern ++ rest → drop l.at l.tokens ≡ images σ (drop l.token-index l.pattern) ++ rest
