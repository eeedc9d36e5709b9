use Rattle.std.proofs.Common.{length, arith, ap, sym, ◌∙◌}
use Rattle.dp_graph.proofs.ListPlaces.{length_more}
use Rattle.dp_graph.proofs.WaitingLaws.{all_left, one_taken_off, last_put_back, all_taken_off}
use Rattle.dp_graph.proofs.waiting.trim.Goals as goal

pub loop-k-init : goal.loop-k-init
loop-k-init c = all_left c.args.out.now c.args.list.now.items

pub loop-k-smaller : goal.loop-k-smaller
loop-k-smaller c =
    let l = ap length c.in-Some.ensures.items in
    let m = length_more c.pop.new.self.items c.in-Some.k in
    omega (arith, l, m)

pub loop-k-preserved : goal.loop-k-preserved
loop-k-preserved c = one_taken_off c.args.out.now c.args.list.now.items c.loop-k.list.items c.pop.new.self.items c.in-Some.k c.in-Some.ensures.items c.loop-k.invariant (c.is_out.ensures.0 c.if-not-is_out.false)

pub returns-then-not-is_out : goal.returns-then-not-is_out
returns-then-not-is_out c =
    last_put_back c.args.out.now c.args.list.now.items c.loop-k.list.items c.pop.new.self.items c.in-Some.k c.in-Some.ensures.items c.loop-k.invariant c.push.new.self.items c.in_ok-push.ensures.items
    (λ h. let e = c.is_out.ensures.1 h in let d = c.if-not-is_out.true in absurd cc)

pub returns : goal.returns
returns c =
    all_taken_off c.args.out.now c.args.list.now.items c.loop-k.list.items c.pop.new.self.items c.in_default.ensures.items (sym c.pop.new.self.ok.0 ∙ c.in_default.ensures.cases.1) c.loop-k.invariant
