use Rattle.std.specs.Prelude.{refl}
use Rattle.std.proofs.Common.{sym, ◌∙◌, subst}
use Rattle.std.proofs.lemmas.Option.{same_Some}
use Rattle.label_find.specs.declared.side_rules.SideRules.{SideRules}
use Rattle.label_find.specs.Grouping.{count_of}
use Rattle.label_find.specs.Meetings.{AreMeetings}
use Rattle.label_find.proofs.SideReads.{side_within, few_groups}
use Rattle.label_find.proofs.constraint.PeakConstraint.new.Goals as goal

pub side_at-lefts-requires : goal.side_at-lefts-requires
side_at-lefts-requires c = side_within c.args.sides.now c.args.left c.requires.left

pub side_at-rights-requires : goal.side_at-rights-requires
side_at-rights-requires c = side_within c.args.sides.now c.args.right c.requires.right

pub meetings_of-requires-clause-few_left : goal.meetings_of-requires-clause-few_left
meetings_of-requires-clause-few_left c = few_groups c.args.sides.now c.args.left c.side_at-lefts.result.now c.side_at-lefts.ensures c.requires.left

pub meetings_of-requires-clause-few_right : goal.meetings_of-requires-clause-few_right
meetings_of-requires-clause-few_right c = few_groups c.args.sides.now c.args.right c.side_at-rights.result.now c.side_at-rights.ensures c.requires.right

pub returns : goal.returns
returns c = record {
  inner_is = refl;
  outer_is = refl;
  left_is = refl;
  right_is = refl;
  meetings = λ a b left_at right_at.
      let M : SideRules → SideRules → Type 0 = λ l r. AreMeetings l.groups r.groups (count_of l.groups) c.in_ok-meetings.meetings.items in
      subst (λ (l : SideRules). M l b) (same_Some c.side_at-lefts.result.now a (sym c.side_at-lefts.ensures ∙ left_at))
      (subst (λ (r : SideRules). M c.side_at-lefts.result.now r) (same_Some c.side_at-rights.result.now b (sym c.side_at-rights.ensures ∙ right_at)) c.in_ok-meetings.ensures);
}
