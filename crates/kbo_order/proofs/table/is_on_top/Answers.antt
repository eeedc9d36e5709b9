use Rattle.std.proofs.Common.{All, refl, subst, arith}
use Rattle.std.proofs.lemmas.List.{take_all}
use Rattle.std.proofs.lemmas.List.Elements.{All-more}
use Rattle.kbo_order.specs.Faults.{IsRankedBelow}
use Rattle.kbo_order.proofs.table.is_on_top.Goals as goal

pub loop-other-preserved : goal.loop-other-preserved
loop-other-preserved c =
    All-more (IsRankedBelow c.args.entry.now) c.args.entries.now c.loop-other.other-index (record { symbol = 0; arity = 0; weight = 0; rank = 0 })
    c.loop-other-test.true c.loop-other.invariant (c.is_ranked_below.ensures.0 c.if-not-is_ranked_below.false)

pub returns : goal.returns
returns c =
    let whole = take_all c.loop-other.other-index c.args.entries.now (omega arith) in
    (λ _ _ _. subst (All (IsRankedBelow c.args.entry.now)) whole c.loop-other.invariant, λ _. refl)
