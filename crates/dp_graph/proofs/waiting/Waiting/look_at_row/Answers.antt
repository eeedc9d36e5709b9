use Rattle.std.proofs.Common.{take, get_or, arith, refl, subst}
use Rattle.std.proofs.lemmas.List.{take_all}
use Rattle.std.proofs.lemmas.Option.{slice_get-get_or}
use Rattle.trs_defs.proofs.Members.{no_in}
use Rattle.dp_graph.specs.Waiting.{LooksAt, Other, OfRow}
use Rattle.dp_graph.proofs.WaitingLaws.{looks_at_none, row_looked_at}
use Rattle.dp_graph.proofs.waiting.Waiting.look_at_row.Goals as goal

pub loop-j-init : goal.loop-j-init
loop-j-init c = looks_at_none c.args.self.now (Other c.args.v (OfRow c.args.leaders.now (take 0 c.args.row.now))) (λ l h. no_in h.0.1)

pub look_at-requires : goal.look_at-requires
look_at-requires c =
    let x = get_or c.args.row.now c.loop-j.j-index 0 in
    let h = c.requires.leaders x 0 (c.requires.row c.loop-j.j-index 0 c.loop-j-test.true) in
    let count = c.loop-j.invariant.count in
    omega (arith, h, count)

pub loop-j-preserved : goal.loop-j-preserved
loop-j-preserved c =
    let i = c.loop-j.j-index in
    let x = get_or c.args.row.now i 0 in
    row_looked_at c.args.leaders.now c.args.row.now c.args.self.now c.loop-j.self c.look_at.new.self c.args.v i x (get_or c.args.leaders.now x 0) c.loop-j-test.true refl
    (slice_get-get_or c.args.leaders.now x 0 (c.requires.row i 0 c.loop-j-test.true)) c.loop-j.invariant c.in_ok-look_at.ensures

pub returns : goal.returns
returns c =
    subst (λ z. LooksAt c.args.self.now c.loop-j.self (Other c.args.v (OfRow c.args.leaders.now z))) (take_all c.loop-j.j-index c.args.row.now c.loop-j-test.false) c.loop-j.invariant
