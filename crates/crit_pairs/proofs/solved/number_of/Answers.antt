use Rattle.std.proofs.Common.{◌≡◌, length, sym, arith}
use Rattle.trs_unify.proofs.ListedVariables.{one_known, one_new}
use Rattle.trs_unify.proofs.NewNames.{known_at, new_at}
use Rattle.crit_pairs.proofs.Renumbering.{distinct_more}
use Rattle.crit_pairs.proofs.solved.number_of.Goals as goal

pub returns-in-Some-clause-renamed : goal.returns-in-Some-clause-renamed
returns-in-Some-clause-renamed c = known_at c.args.names.now.order.items c.args.v c.in-Some.place c.in-Some.ensures.some

pub returns-in-Some-clause-order : goal.returns-in-Some-clause-order
returns-in-Some-clause-order c = sym (one_known c.args.names.now.order.items c.in-Some.place c.args.v c.in-Some.ensures.some)

pub returns-in_ok-add-in-None-clause-distinct : goal.returns-in_ok-add-in-None-clause-distinct
returns-in_ok-add-in-None-clause-distinct c =
    rw c.in_ok-add-in-None.ensures (distinct_more c.args.names.now.order.items c.args.v c.requires c.in-None.ensures.none)

pub returns-in_ok-add-in-None-clause-renamed : goal.returns-in_ok-add-in-None-clause-renamed
returns-in_ok-add-in-None-clause-renamed c =
    let long : c.len-next.result ≡ length c.args.names.now.order.items = omega (arith, c.len-next.ensures, c.args.names.now.order.ok.0) in
    rw (c.in_ok-add-in-None.ensures, long) (new_at c.args.names.now.order.items c.args.v)

pub returns-in_ok-add-in-None-clause-order : goal.returns-in_ok-add-in-None-clause-order
returns-in_ok-add-in-None-clause-order c =
    rw c.in_ok-add-in-None.ensures (sym (one_new c.args.names.now.order.items c.args.v c.in-None.ensures.none))
