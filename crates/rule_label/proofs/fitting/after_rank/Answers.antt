use Rattle.rule_label.proofs.RanksInTurn.{small_rank, low_rank}
use Rattle.rule_label.proofs.fitting.after_rank.Goals as goal

pub returns-then-rank-a : goal.returns-then-rank-a
returns-then-rank-a c = λ later. small_rank c.args.a c.args.b c.args.rank later c.args.ended c.if-rank-a.true

pub returns-then-rank-b : goal.returns-then-rank-b
returns-then-rank-b c = λ later. low_rank c.args.a c.args.b c.args.rank later c.args.ended c.if-rank-a.false c.if-rank-b.true
