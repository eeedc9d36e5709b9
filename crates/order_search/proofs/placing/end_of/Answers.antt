use Rattle.std.proofs.Common.{List, ℕ, All, ◌<◌, take, subst, arith}
use Rattle.std.proofs.lemmas.List.{take_all}
use Rattle.std.proofs.lemmas.List.Elements.{All-more, All-weaker}
use Rattle.order_search.proofs.placing.end_of.Goals as goal

pub loop-f-preserved : goal.loop-f-preserved
loop-f-preserved c =
    let least = c.past-end.ensures.least in
    All-more (λ f. f < c.past-end.result) c.args.numbers.now c.loop-f.f-index 0 c.loop-f-test.true
    (All-weaker (λ f. f < c.loop-f.end) (λ f. f < c.past-end.result) (λ f h. omega (arith, h, least)) (take c.loop-f.f-index c.args.numbers.now) c.loop-f.invariant)
    c.past-end.ensures.above

pub returns : goal.returns
returns c = subst (λ (l : List ℕ). All (λ f. f < c.loop-f.end) l) (take_all c.loop-f.f-index c.args.numbers.now c.loop-f-test.false) c.loop-f.invariant
