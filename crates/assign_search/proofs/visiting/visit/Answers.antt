use Rattle.std.proofs.Common.{◌∙◌, ◌+◌, []}
use Rattle.assign_search.proofs.Steps.{visit_group, visit_refuted, past_turn_ok, spent_turn, visit_solved, visit_dead, visit_push}
use Rattle.assign_search.proofs.visiting.visit.Goals as goal

pub is_refuted-requires-clause-group : goal.is_refuted-requires-clause-group
is_refuted-requires-clause-group g c =
    visit_group (λ a. a.items) (g.S.Space.puzzle c.args.space.now) c.args.count.now c.args.values.now.items c.deref-2.result.now c.deref.result.now c.args.groups.now c.index-groups-depth.result c.len-depth.result
    c.requires.at c.requires.groups (c.len-depth.ensures ∙ c.args.values.now.ok.0) c.index-groups-depth.is c.deref.ensures.value c.deref-2.ensures.value

pub returns-then-count-budget-clause-turn : goal.returns-then-count-budget-clause-turn
returns-then-count-budget-clause-turn g c =
    spent_turn (g.S.Space.puzzle c.args.space.now) c.args.budget (c.args.count.now + 1) c.args.values.now.items [] c.if-count-budget.true
    (visit_refuted (g.S.Space.puzzle c.args.space.now) (g.met.S.Space.lawful c.args.space.now) c.args.count.now c.args.values.now.items c.deref-2.result.now c.in_ok-is_refuted.field-0 c.requires.at c.deref-2.ensures.value c.in_ok-is_refuted.ensures.refuted c.if-branch.true)

pub returns-then-branch-clause-turn : goal.returns-then-branch-clause-turn
returns-then-branch-clause-turn g c =
    past_turn_ok (g.S.Space.puzzle c.args.space.now) c.args.budget (c.args.count.now + 1) c.args.values.now.items _ c.pass.result c.if-count-budget.false
    (visit_refuted (g.S.Space.puzzle c.args.space.now) (g.met.S.Space.lawful c.args.space.now) c.args.count.now c.args.values.now.items c.deref-2.result.now c.in_ok-is_refuted.field-0 c.requires.at c.deref-2.ensures.value c.in_ok-is_refuted.ensures.refuted c.if-branch.true)
    c.pass.ensures

pub returns-then-depth-slots-clause-turn : goal.returns-then-depth-slots-clause-turn
returns-then-depth-slots-clause-turn g c =
    visit_solved (g.S.Space.puzzle c.args.space.now) (g.met.S.Space.lawful c.args.space.now) c.args.budget c.args.count.now c.args.values.now.items c.deref-2.result.now c.in_ok-is_refuted.field-0 c.len-depth.result c.args.slots
    c.requires.below c.requires.at c.deref-2.ensures.value c.in_ok-is_refuted.ensures.refuted c.if-branch.false (c.len-depth.ensures ∙ c.args.values.now.ok.0) c.requires.slots c.if-depth-slots.true

pub returns-then-domain-eq0-clause-turn : goal.returns-then-domain-eq0-clause-turn
returns-then-domain-eq0-clause-turn g c =
    past_turn_ok (g.S.Space.puzzle c.args.space.now) c.args.budget c.args.count.now c.args.values.now.items _ c.pass-then-domain-eq0.result c.requires.below
    (visit_dead (g.S.Space.puzzle c.args.space.now) c.args.count.now c.args.values.now.items c.deref-2.result.now c.in_ok-is_refuted.field-0 c.len-depth.result c.args.slots c.domain.result
    c.requires.at c.deref-2.ensures.value c.in_ok-is_refuted.ensures.refuted c.if-branch.false (c.len-depth.ensures ∙ c.args.values.now.ok.0) c.requires.slots c.if-depth-slots.false c.domain.ensures c.if-domain-eq0.true)
    c.pass-then-domain-eq0.ensures

pub returns-clause-turn : goal.returns-clause-turn
returns-clause-turn g c =
    visit_push (g.S.Space.puzzle c.args.space.now) c.args.budget c.args.count.now c.args.values.now.items c.deref-2.result.now c.push.new.self.items c.in_ok-is_refuted.field-0 c.len-depth.result c.args.slots c.domain.result
    c.requires.below c.requires.at c.deref-2.ensures.value c.in_ok-is_refuted.ensures.refuted c.if-branch.false (c.len-depth.ensures ∙ c.args.values.now.ok.0) c.requires.slots c.if-depth-slots.false c.domain.ensures c.if-domain-eq0.false c.in_ok-push.ensures.items
