use Rattle.std.proofs.Common.{◌-◌, ◌^◌, ℕ, min, ap, sym, arith, ◌∙◌}
use Rattle.kbo_find.specs.Counted.{total}
use Rattle.kbo_find.specs.declared.counts.Counts.{Counts}
use Rattle.kbo_find.proofs.Telling.{unkept_strict, unkept_weak, told_strict, told_weak}
use Rattle.kbo_find.proofs.balance.Balance.tells.Goals as goal

pub returns-then-not-self-clause-strict : goal.returns-then-not-self-clause-strict
returns-then-not-self-clause-strict g c =
    let x = c.args.self.now in
    unkept_strict (g.W.Weighting.weights c.args.order.now) (g.W.Weighting.ranks c.args.order.now) x.rule.now.left x.rule.now.right
    (λ keeps. let set = x.kept.1 keeps in let unset = c.if-not-self.true in absurd cc)

pub returns-then-not-self-clause-weak : goal.returns-then-not-self-clause-weak
returns-then-not-self-clause-weak g c =
    let x = c.args.self.now in
    unkept_weak (g.W.Weighting.weights c.args.order.now) (g.W.Weighting.ranks c.args.order.now) x.rule.now.left x.rule.now.right
    (λ keeps. let set = x.kept.1 keeps in let unset = c.if-not-self.true in absurd cc)

pub returns-clause-strict : goal.returns-clause-strict
returns-clause-strict g c =
    let x = c.args.self.now in
    let weights = g.W.Weighting.weights c.args.order.now in
    let left = c.weight-left.ensures ∙ ap (λ (n : ℕ). min n (2 ^ 64 - 1)) (ap (λ (n : Counts). total weights n) c.deref.ensures ∙ sym (x.left_counted weights)) in
    let right = c.weight-right.ensures ∙ ap (λ (n : ℕ). min n (2 ^ 64 - 1)) (sym (x.right_counted weights)) in
    told_strict weights (g.W.Weighting.ranks c.args.order.now) x.rule.now.left x.rule.now.right c.weight-left.result c.weight-right.result left right
    (omega (arith, c.if-left-gt-GREATEST_NUMBER.false)) (omega (arith, c.if-right-gt-GREATEST_NUMBER.false)) c.if-left-right.false (x.kept.0 c.if-not-self.false)

pub returns-clause-weak : goal.returns-clause-weak
returns-clause-weak g c =
    let x = c.args.self.now in
    let weights = g.W.Weighting.weights c.args.order.now in
    let left = c.weight-left.ensures ∙ ap (λ (n : ℕ). min n (2 ^ 64 - 1)) (ap (λ (n : Counts). total weights n) c.deref.ensures ∙ sym (x.left_counted weights)) in
    let right = c.weight-right.ensures ∙ ap (λ (n : ℕ). min n (2 ^ 64 - 1)) (sym (x.right_counted weights)) in
    told_weak weights (g.W.Weighting.ranks c.args.order.now) x.rule.now.left x.rule.now.right c.weight-left.result c.weight-right.result left right
    (omega (arith, c.if-left-gt-GREATEST_NUMBER.false)) (omega (arith, c.if-right-gt-GREATEST_NUMBER.false)) c.if-left-right.false (x.kept.0 c.if-not-self.false)
