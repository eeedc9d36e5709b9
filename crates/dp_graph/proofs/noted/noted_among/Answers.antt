use Rattle.std.proofs.Common.{◌+◌, take, sym, ap, subst, ◌∙◌, arith}
use Rattle.dp_graph.proofs.NotedLaws.{HasNotedOf, no_number, noted_number, other_number, all_numbers_listed}
use Rattle.dp_graph.proofs.noted.noted_among.Goals as goal
use Rattle.dp_graph.proofs.noted.noted_among.Goals.{then-is_noted+in_ok-push, else-is_noted}

pub loop-k-init : goal.loop-k-init
loop-k-init c = no_number c.args.lefts.now c.args.numbers.now c.new-noted.result.items

pub loop-k-preserved : goal.loop-k-preserved
loop-k-preserved c =
    let lefts = c.args.lefts.now in
    let numbers = c.args.numbers.now in
    let i = c.loop-k.k-index in
    let old = c.loop-k.noted.items in
    elim c.if-is_noted.branch [
      | then-is_noted+in_ok-push w ↦
          noted_number lefts numbers i c.loop-k-test.true old c.loop-k.invariant c.if-is_noted.noted.items (ap (λ v. v.items) w.noted-is ∙ w.in_ok-push.ensures.items)
      | else-is_noted w ↦
          subst (HasNotedOf lefts (take (i + 1) numbers)) (sym (ap (λ v. v.items) w.noted-is))
          (other_number lefts numbers i c.loop-k-test.true old c.loop-k.invariant (λ noted. let e = c.is_noted.ensures.1 noted in let d = w.if-is_noted.false in absurd cc))
    ]

pub returns : goal.returns
returns c = all_numbers_listed c.args.lefts.now c.args.numbers.now c.loop-k.noted.items c.loop-k.k-index (omega (arith, c.loop-k-test.false)) c.loop-k.invariant
