use Rattle.std.specs.Prelude.{◌≡◌, ◌+◌, drop}
use Rattle.std.proofs.Common.{refl}
use Rattle.std.proofs.lemmas.List.{drop_all}
use Rattle.confluence_theory.specs.RuleRanks.{rank_of}
use Rattle.rule_label.specs.Labelled.{ranks_along}
use Rattle.rule_label.proofs.RanksInTurn.{ranks_left, nothing_left}
use Rattle.rule_label.proofs.fitting.ranks_fit.Goals as goal

pub returns-in_default : goal.returns-in_default
returns-in_default c =
    let left = ranks_left c.args.ranks.now c.args.path.now c.loop-step.step-index c.step-item.result c.loop-step-test.true c.step-item.is in
    let rank : c.rank_of.result ≡ rank_of c.args.ranks.now c.step-item.result.rule = rw (← c.step.view_is) c.rank_of.ensures in
    let later = ranks_along c.args.ranks.now (drop (c.loop-step.step-index + 1) c.args.path.now) in
    (λ e. absurd cc, λ h. absurd (c.in_default.ensures later (rw (left, ← rank) at (c.loop-step.invariant.1 h))))

pub loop-step-preserved : goal.loop-step-preserved
loop-step-preserved c =
    let left = ranks_left c.args.ranks.now c.args.path.now c.loop-step.step-index c.step-item.result c.loop-step-test.true c.step-item.is in
    let rank : c.rank_of.result ≡ rank_of c.args.ranks.now c.step-item.result.rule = rw (← c.step.view_is) c.rank_of.ensures in
    let later = ranks_along c.args.ranks.now (drop (c.loop-step.step-index + 1) c.args.path.now) in
    let kept = rw (left, ← rank) at c.loop-step.invariant in
    let both = c.in-Some.ensures later in
    (λ h. kept.0 (both.0 h), λ h. both.1 (kept.1 h))

pub returns : goal.returns
returns c =
    (λ _. c.loop-step.invariant.0 (rw (drop_all c.loop-step.step-index c.args.path.now c.loop-step-test.false) (nothing_left c.args.a c.args.b c.loop-step.ended)), λ _. refl)
