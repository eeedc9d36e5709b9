use Rattle.std.proofs.Common.{ℕ, List, Some, All, ◌<◌, ◌∙◌, length, ap, sym, subst, arith}
use Rattle.trs_defs.specs.System.{RewriteRule}
use Rattle.label_find.specs.LabelRow.{no_ranks}
use Rattle.label_find.specs.ConstraintPuzzle.{KeepsRules}
use Rattle.label_find.specs.Closing.{CanAllBeClosed}
use Rattle.label_find.proofs.Searching.{with_paths, all_keep, few_constraints, has_search, can_all_be_closed, first_of, none_of, spent_of, labelling_found}
use Rattle.label_find.proofs.label.search_ranks.Goals as goal

pub invariant_of-space : goal.invariant_of-space
invariant_of-space g c =
    let few = few_constraints c.args.trs.now.rules c.args.table.items c.args.peaks.now c.requires.critical c.args.constraints.items c.requires.constraints in
    let same = ap length c.rules.ensures.rules in
    let within = c.rules.ensures.limits.rules in
    record {
      keep = subst (λ (rs : List RewriteRule). All (KeepsRules (length rs) c.args.table.items) c.args.constraints.items) (sym c.rules.ensures.rules)
          (all_keep c.args.trs.now.rules c.args.table.items c.args.peaks.now c.requires.critical c.args.constraints.items c.requires.constraints);
      few_rules = omega (arith, same, within);
      few = omega (arith, few);
    }

pub labelled_by-requires-clause-can : goal.labelled_by-requires-clause-can
labelled_by-requires-clause-can g c =
    let first = first_of (length c.rules.result.now) (length c.args.trs.now.rules) c.args.table.items c.args.constraints.items c.args.budget _ c.in-Ok-Found.field-0 (ap length c.rules.ensures.rules)
    c.in-Ok-Found.ensures.answer c.in-Ok-Found.ranks c.in-Ok-Found.field-0-is in
    subst (λ (rs : List ℕ). CanAllBeClosed c.args.trs.now.rules rs c.args.peaks.now) (sym c.deref.ensures.value)
    (can_all_be_closed c.args.trs.now c.rules.ensures.valid c.args.table.items c.args.peaks.now c.args.constraints.items c.in-Ok-Found.ranks.items (with_paths c.args.trs.now.rules c.args.table.items c.requires.constraints) first.0)

pub returns-in-Ok-Found-clause-answer : goal.returns-in-Ok-Found-clause-answer
returns-in-Ok-Found-clause-answer g c =
    let first = first_of (length c.rules.result.now) (length c.args.trs.now.rules) c.args.table.items c.args.constraints.items c.args.budget _ c.in-Ok-Found.field-0 (ap length c.rules.ensures.rules)
    c.in-Ok-Found.ensures.answer c.in-Ok-Found.ranks c.in-Ok-Found.field-0-is in
    labelling_found c.args.trs.now c.rules.ensures.valid c.args.table.items c.args.peaks.now c.args.constraints.items c.args.budget c.deref.result.now
    (g.P.Stop.stops c.first_solution.new.stop < g.P.Stop.stops c.labelled_by.new.stop) (g.P.Stop.stops c.args.stop.now < g.P.Stop.stops c.labelled_by.new.stop) c.labelled_by.result
    c.requires.linear (with_paths c.args.trs.now.rules c.args.table.items c.requires.constraints) (first.0 ∙ ap (λ (rs : List ℕ). Some rs) (sym c.deref.ensures.value)) first.1
    (λ rose. omega (arith, rose, c.in-Ok-Found.ensures.continues.later)) c.labelled_by.ensures.answer

pub returns-in-Ok-NotThere-clause-answer : goal.returns-in-Ok-NotThere-clause-answer
returns-in-Ok-NotThere-clause-answer g c =
    let none = none_of (length c.rules.result.now) (length c.args.trs.now.rules) c.args.table.items c.args.constraints.items c.args.budget _ c.in-Ok-NotThere.field-0 (ap length c.rules.ensures.rules)
    c.in-Ok-NotThere.ensures.answer c.in-Ok-NotThere.field-0-is in
    no_ranks (has_search c.args.trs.now.rules c.args.table.items c.args.peaks.now c.args.constraints.items c.requires.linear (with_paths c.args.trs.now.rules c.args.table.items c.requires.constraints)) none.0 none.1

pub returns-in-Ok-Spent-clause-answer : goal.returns-in-Ok-Spent-clause-answer
returns-in-Ok-Spent-clause-answer g c = record {
  over = has_search c.args.trs.now.rules c.args.table.items c.args.peaks.now c.args.constraints.items c.requires.linear (with_paths c.args.trs.now.rules c.args.table.items c.requires.constraints);
  many = spent_of (length c.rules.result.now) (length c.args.trs.now.rules) c.args.table.items c.args.constraints.items c.args.budget _ c.in-Ok-Spent.field-0 (ap length c.rules.ensures.rules)
      c.in-Ok-Spent.ensures.answer c.in-Ok-Spent.field-0-is;
}
