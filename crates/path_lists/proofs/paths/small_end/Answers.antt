use Rattle.std.proofs.Common.{◌≡◌, ◌<◌, ◌∙◌, List, ap, sym, subst, arith}
use Rattle.std.proofs.lemmas.Option.{get_or_from_slice_get}
use Rattle.trs_core.specs.View.{tree}
use Rattle.trs_defs.specs.Size.{size_of}
use Rattle.trs_defs.specs.Path.{PlacedRule, StepsAt, Follows}
use Rattle.term_pool.specs.Pooled.{tree_at}
use Rattle.term_pool.proofs.Extending.{extends_itself, undone}
use Rattle.term_pool.proofs.LargeReducts.{large_reduct}
use Rattle.path_lists.proofs.Longer.{kept_end}
use Rattle.path_lists.proofs.paths.small_end.Goals.{After-release}
use Rattle.path_lists.proofs.paths.small_end.Goals as goal

-- where the right side alone is too large
pub returns-then-size-gt-MOST_NODES-clause-none : goal.returns-then-size-gt-MOST_NODES-clause-none
returns-then-size-gt-MOST_NODES-clause-none c =
    let rules = c.args.trs.now.rules in
    let redex = c.requires.redex in
    let read = get_or_from_slice_get rules c.args.step.now.rule redex.rule c.index-rules-step.result redex.numbered in
    let number : c.step.inside.rule ≡ c.args.step.now.rule = ap (λ s. s.rule) c.step.view_is in
    let is = rw (c.rules.ensures.rules, number) at c.index-rules-step.is in
    let same : c.index-rules-step.result ≡ redex.rule = is ∙ read in
    let nodes : size_of (tree c.rule.inside.right) ≡ size_of redex.rule.right = ap (λ r. size_of r.right) (c.rule.view_is ∙ same) in
    let large : 4096 < size_of redex.rule.right = omega (arith, c.if-size-gt-MOST_NODES.true, c.size.ensures, nodes) in
    let made = large_reduct rules (tree_at c.args.pool.now c.args.entry.now.0) c.args.step.now 4096 redex large in
    record { result = made.0; steps = made.1; large = made.2 }

unchanged : (c : After-release) → c.release.new.self ≡ c.args.pool.now
unchanged c = undone c.args.pool.now c.step_at.new.self c.release.new.self c.mark-mark.result c.mark-mark.ensures c.in-Ok.ensures.kept c.release.ensures

pub returns-clause-unchanged : goal.returns-clause-unchanged
returns-clause-unchanged c = unchanged (goal.at.returns-clause-unchanged c).After-release

pub returns-clause-kept : goal.returns-clause-kept
returns-clause-kept c = rw (unchanged (goal.at.returns-clause-kept c).After-release) (extends_itself c.args.pool.now)

pub returns-then-suffices-clause-end : goal.returns-then-suffices-clause-end
returns-then-suffices-clause-end c =
    let rules = c.args.trs.now.rules in
    let t = tree_at c.args.pool.now c.args.entry.now.0 in
    let u = tree_at c.step_at.new.self c.in-Ok.end in
    let from = c.requires.from in
    let follows : Follows rules c.deref.result.now from.start t = subst (λ (path : List PlacedRule). Follows rules path from.start t) (sym c.deref.ensures.value) from.follows in
    let step : StepsAt rules c.args.step.now.place c.args.step.now.rule t u = subst (λ (s : PlacedRule). StepsAt rules s.place s.rule t u) c.step.view_is c.in-Ok.ensures.step in
    kept_end rules c.args.step.now t c.args.pool.now c.step_at.new.self c.in-Ok.end step c.in-Ok.ensures.limits
    c.in-Ok.ensures.there c.in-Ok.ensures.few (c.suffices.ensures c.if-suffices.true from.start t u c.step.inside.place from.small follows c.in-Ok.ensures.step)
