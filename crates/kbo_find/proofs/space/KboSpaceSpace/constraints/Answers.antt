use Rattle.kbo_find.proofs.KboPuzzle.{count_by_tops}
use Rattle.std.proofs.Common.{arith}
use Rattle.kbo_find.proofs.space.KboSpaceSpace.constraints.Goals as goal

pub returns : goal.returns
returns c =
    let x = c.args.self.now in
    let all = count_by_tops x.arities.now x.symbols.now x.rules.now x.pairs.now x.tops.now x.tops_are in
    omega (arith, all)
