use Rattle.term_pool.proofs.Extending.{undone}
use Rattle.join_find.proofs.RootRules.{leads_when_equal, equal_when_leads}
use Rattle.join_find.proofs.root_rule.makes.Goals as goal

pub returns-clause-same : goal.returns-clause-same
returns-clause-same c =
    undone c.args.pool.now c.step_at.new.self c.release.new.self c.mark-mark.result c.mark-mark.ensures c.in-Ok.ensures.kept c.release.ensures

pub returns-clause-leads : goal.returns-clause-leads
returns-clause-leads c = (
  λ same. leads_when_equal c.args.trs.now.rules c.new-root.result c.args.k c.args.ids.0 c.in-Ok.reduct c.args.ids.1 c.args.pool.now c.step_at.new.self c.new-root.ensures c.in-Ok.ensures.kept c.requires.to
      c.in-Ok.ensures.step same,
  λ step. equal_when_leads c.args.trs.now.rules c.new-root.result c.args.k c.args.ids.0 c.in-Ok.reduct c.args.ids.1 c.args.pool.now c.step_at.new.self c.new-root.ensures c.in-Ok.ensures.kept c.requires.to
      c.ids_are_distinct.ensures c.in-Ok.ensures.only c.requires.limits step,
)
