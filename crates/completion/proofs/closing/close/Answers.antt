use Rattle.std.proofs.Common.{ap, subst, sym, ◌∙◌}
use Rattle.trs_defs.specs.System.{System}
use Rattle.completion.specs.declared.treating.Outcome.{Outcome as CodeOutcome}
use Rattle.completion.specs.GreaterBy.{GreaterBy}
use Rattle.completion.specs.CompletionRun.{Closes}
use Rattle.completion.specs.Endings.{Done}
use Rattle.completion.specs.MetTerms.{IsMet}
use Rattle.completion.specs.Treating.{IsOutcome}
use Rattle.completion.specs.Taking.{Looks}
use Rattle.completion.proofs.LoopLaws.{close_begins, close_done, close_more, close_end, close_smaller, close_limits, looked_arities}
use Rattle.crit_pairs.proofs.TableLaws.{no_peaks_yet}
use Rattle.completion.proofs.PairLaws.{table_goes_on}
use Rattle.completion.proofs.closing.close.Goals as goal

pub loop-met-init : goal.loop-met-init
loop-met-init c = record {
  on = close_begins (GreaterBy c.args.order.now) c.args.rules c.args.units;
  met = c.requires;
  table = no_peaks_yet c.args.rules.rules _ c.new-table.result c.new-table.ensures;
}

pub returns-in-Passed-clause-closes : goal.returns-in-Passed-clause-closes
returns-in-Passed-clause-closes c =
    let F : CodeOutcome → Type 0 = IsOutcome (Looks c.loop-met.system.arities (GreaterBy c.args.order.now) c.loop-met.system.rules c.loop-met.left) in
    let E : System → Type 0 = λ s. Closes c.args.rules.arities (GreaterBy c.args.order.now) c.args.rules.rules c.args.units (Done s.rules) in
    subst E (sym c.in_ok-trs-in-Passed.ensures)
    (close_done (GreaterBy c.args.order.now) c.args.rules c.args.units c.loop-met.system c.loop-met.left c.loop-met.invariant.on c.in-Passed.field-0
    (subst F c.in-Passed.is c.in_ok-looked.ensures.looks))

pub returns-in-Passed-clause-arities : goal.returns-in-Passed-clause-arities
returns-in-Passed-clause-arities c = ap (λ (s : System). s.arities) c.in_ok-trs-in-Passed.ensures ∙ c.loop-met.invariant.on.arities

pub loop-met-smaller : goal.loop-met-smaller
loop-met-smaller c =
    let F : CodeOutcome → Type 0 = IsOutcome (Looks c.loop-met.system.arities (GreaterBy c.args.order.now) c.loop-met.system.rules c.loop-met.left) in
    close_smaller (GreaterBy c.args.order.now) c.args.rules c.args.units c.loop-met.system c.loop-met.left c.in-Added.rule c.in-Added.units
    (subst F c.in-Added.is c.in_ok-looked.ensures.looks)

pub with_rule-requires : goal.with_rule-requires
with_rule-requires c =
    let F : CodeOutcome → Type 0 = IsOutcome (Looks c.loop-met.system.arities (GreaterBy c.args.order.now) c.loop-met.system.rules c.loop-met.left) in
    close_limits (GreaterBy c.args.order.now) c.loop-met.system c.loop-met.left c.in-Added.rule c.in-Added.units
    (subst F c.in-Added.is c.in_ok-looked.ensures.looks)

pub add_rule-requires : goal.add_rule-requires
add_rule-requires c = c.in_ok-looked.ensures.met.within

pub loop-met-preserved : goal.loop-met-preserved
loop-met-preserved c =
    let system = c.loop-met.system in
    let F : CodeOutcome → Type 0 = IsOutcome (Looks system.arities (GreaterBy c.args.order.now) system.rules c.loop-met.left) in
    let M : System → Type 0 = λ s. IsMet s.rules c.add_rule.new.self in
    record {
      on = close_more (GreaterBy c.args.order.now) c.args.rules c.args.units system c.loop-met.left c.loop-met.invariant.on c.in_ok-system-in-Added.system c.in-Added.rule c.in-Added.units
          c.in_ok-system-in-Added.ensures (subst F c.in-Added.is c.in_ok-looked.ensures.looks);
      met = subst M (sym c.in_ok-system-in-Added.ensures) (c.in_ok-add_rule-in-Added.ensures.met system.rules c.in_ok-looked.ensures.met);
      table = table_goes_on system.rules c.in_ok-system-in-Added.system.rules c.in-Added.rule c.look.new.met c.add_rule.new.self c.in_ok-looked.ensures.table c.in_ok-add_rule-in-Added.ensures.kept (ap (λ (s : System). s.rules) c.in_ok-system-in-Added.ensures);
    }

pub returns-in-Ended-clause-closes : goal.returns-in-Ended-clause-closes
returns-in-Ended-clause-closes c =
    let F : CodeOutcome → Type 0 = IsOutcome (Looks c.loop-met.system.arities (GreaterBy c.args.order.now) c.loop-met.system.rules c.loop-met.left) in
    close_end (GreaterBy c.args.order.now) c.args.rules c.args.units c.loop-met.system c.loop-met.left c.loop-met.invariant.on c.in-Ended.why
    (subst F c.in-Ended.is c.in_ok-looked.ensures.looks)

pub returns-in-Ended-clause-arities : goal.returns-in-Ended-clause-arities
returns-in-Ended-clause-arities c =
    let F : CodeOutcome → Type 0 = IsOutcome (Looks c.loop-met.system.arities (GreaterBy c.args.order.now) c.loop-met.system.rules c.loop-met.left) in
    looked_arities (GreaterBy c.args.order.now) c.loop-met.system c.loop-met.left c.in-Ended.why (subst F c.in-Ended.is c.in_ok-looked.ensures.looks) c.args.rules.arities
