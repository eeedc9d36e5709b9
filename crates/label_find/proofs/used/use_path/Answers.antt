use Rattle.std.proofs.Common.{ℕ, [], ◌∷◌, ap, subst}
use Rattle.trs_defs.specs.Path.{PlacedRule}
use Rattle.label_find.specs.Lists.{IsWith}
use Rattle.label_find.proofs.RuleLists.{with_none, with_step, with_all_steps}
use Rattle.label_find.proofs.used.use_path.Goals as goal

pub loop-step-init : goal.loop-step-init
loop-step-init c = with_none c.args.used.now.items

pub loop-step-preserved : goal.loop-step-preserved
loop-step-preserved c =
    with_step c.args.used.now.items c.args.path.now c.loop-step.step-index c.step-item.result c.loop-step.used.items c.use_rule.new.used.items c.loop-step-test.true c.step-item.is
    c.loop-step.invariant (subst (λ (k : ℕ). IsWith c.loop-step.used.items (k ∷ []) c.use_rule.new.used.items) (ap (λ (s : PlacedRule). s.rule) c.step.view_is) c.in_ok-use_rule.ensures)

pub returns : goal.returns
returns c = with_all_steps c.args.used.now.items c.args.path.now c.loop-step.step-index c.loop-step.used.items c.loop-step-test.false c.loop-step.invariant
