use Rattle.std.proofs.Common.{take, arith, length-take}
use Rattle.kbo_find.proofs.OccurrenceSums.{length_of}
use Rattle.kbo_find.proofs.counts.group.Goals as goal

pub count_one-requires : goal.count_one-requires
count_one-requires c =
    let symbols = c.args.symbols.now in
    let i = c.loop-symbol.symbol-index in
    record { few = omega (arith, c.loop-symbol.invariant (λ _. 1), length_of (take i symbols), length-take i symbols, c.loop-symbol-test.true, c.loop-symbol.auto.symbol-index-end) }
