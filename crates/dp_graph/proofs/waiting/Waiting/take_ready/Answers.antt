use Rattle.std.proofs.Common.{refl}
use Rattle.dp_graph.proofs.WaitingLaws.{takes_first, takes_last, first_update}
use Rattle.dp_graph.proofs.waiting.Waiting.take_ready.Goals as goal

pub returns-then-has_from : goal.returns-then-has_from
returns-then-has_from c =
    takes_last c.args.pairs c.args.self.now (record { blockers = c.args.self.now.blockers; out = c.args.self.now.out; ready = c.pop_last.new.self }) c.pop_last.result (c.has_from.ensures.there c.if-has_from.true) (refl, refl) c.pop_last.ensures.variant c.pop_last.ensures.member
    c.pop_last.ensures.greatest (first_update c.args.self.now.ready c.pop_last.new.self c.pop_last.result c.pop_last.ensures.updates)

pub returns : goal.returns
returns c =
    takes_first c.args.pairs c.args.self.now (record { blockers = c.args.self.now.blockers; out = c.args.self.now.out; ready = c.pop_first.new.self }) c.pop_first.result (c.has_from.ensures.none c.if-has_from.false) (refl, refl) c.pop_first.ensures.variant c.pop_first.ensures.member
    c.pop_first.ensures.least (first_update c.args.self.now.ready c.pop_first.new.self c.pop_first.result c.pop_first.ensures.updates)
