use Rattle.std.proofs.Common.{◌<◌, arith}
use Rattle.label_find.proofs.Searching.{rose_before}
use Rattle.label_find.proofs.label.label_among.Goals as goal

pub constraints_of-requires-clause-listed : goal.constraints_of-requires-clause-listed
constraints_of-requires-clause-listed g c = c.new-sides.ensures.sides c.args.trs.now.rules c.args.pairs.now.pool

pub constraints_of-requires-clause-numbers : goal.constraints_of-requires-clause-numbers
constraints_of-requires-clause-numbers g c = c.new-sides.ensures.numbers c.new-table.result.items

pub returns-clause-answer : goal.returns-clause-answer
returns-clause-answer g c =
    rose_before c.args.trs.now.rules c.args.peaks.now c.args.budget (g.P.Stop.stops c.constraints_of.new.stop < g.P.Stop.stops c.search_ranks.new.stop)
    (g.P.Stop.stops c.args.stop.now < g.P.Stop.stops c.search_ranks.new.stop) c.search_ranks.result
    (λ rose. omega (arith, rose, c.stopped.ensures.later, c.in_ok-found.ensures.continues.later)) c.search_ranks.ensures.answer

pub search_ranks-requires-clause-linear : goal.search_ranks-requires-clause-linear
search_ranks-requires-clause-linear g c = c.are_linear.ensures.linear (cc (c.if-not-are_linear.false))
