use Rattle.std.specs.Prelude.{ℕ, List, ◌+◌, ◌∷◌, map, drop}
use Rattle.std.proofs.Common.{◌∙◌, ap, sym}
use Rattle.std.proofs.lemmas.List.{drop_all}
use Rattle.confluence_theory.specs.RuleRanks.{rank_of}
use Rattle.label_find.specs.Constraint.{fit_after}
use Rattle.label_find.proofs.FitTests.{ends_there, goes_on_so, rules_left}
use Rattle.label_find.proofs.fitting.ranks_fit.Goals as goal

pub returns-in_default : goal.returns-in_default
returns-in_default c =
    let later : List ℕ = map (rank_of c.args.ranks.now) (drop (c.loop-rule.rule-index + 1) c.args.rules.now) in
    let left = rules_left c.args.ranks.now c.args.rules.now c.loop-rule.rule-index c.loop-rule-test.true in
    let none = ends_there c.loop-rule.ended c.from-first.result c.from-second.result c.from-rank.result later (c.in_default.ensures later) in
    sym (sym c.loop-rule.invariant ∙ (ap (fit_after c.loop-rule.ended c.args.a c.args.b) left
    ∙ (ap (λ x. fit_after c.loop-rule.ended c.args.a c.args.b (x ∷ later)) (sym c.rank_of.ensures) ∙ rw (c.from-first.ensures, c.from-second.ensures, c.from-rank.ensures) at none)))

pub loop-rule-preserved : goal.loop-rule-preserved
loop-rule-preserved c =
    let later : List ℕ = map (rank_of c.args.ranks.now) (drop (c.loop-rule.rule-index + 1) c.args.rules.now) in
    let left = rules_left c.args.ranks.now c.args.rules.now c.loop-rule.rule-index c.loop-rule-test.true in
    let on = goes_on_so c.loop-rule.ended c.in-Some.next c.from-first.result c.from-second.result c.from-rank.result later (c.in-Some.ensures later) in
    sym (rw (c.from-first.ensures, c.from-second.ensures, c.from-rank.ensures) at on) ∙ (ap (λ x. fit_after c.loop-rule.ended c.args.a c.args.b (x ∷ later)) c.rank_of.ensures
    ∙ (ap (fit_after c.loop-rule.ended c.args.a c.args.b) (sym left) ∙ c.loop-rule.invariant))

pub returns : goal.returns
returns c =
    sym (sym c.loop-rule.invariant ∙ ap (λ xs. fit_after c.loop-rule.ended c.args.a c.args.b (map (rank_of c.args.ranks.now) xs)) (drop_all c.loop-rule.rule-index c.args.rules.now c.loop-rule-test.false))
