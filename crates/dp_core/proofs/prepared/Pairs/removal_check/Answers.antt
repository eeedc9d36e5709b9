use Rattle.std.proofs.Common.{ℕ, ◌+◌, [], length, zip, Vec, Global}
use Rattle.std.proofs.lemmas.Result.{err_from_is_err_and}
use Rattle.dp_core.specs.SubtermConditions.{roots_of}
use Rattle.dp_core.specs.PairConditions.{comparing_by}
use Rattle.dp_core.proofs.NumberedPairs.{pairs_of_numbers, within_all, as_many}
use Rattle.dp_core.proofs.OrderLaws.{entries_refuse, marks_refuse, rules_refuse, pairs_refuse, removal_answers, strict_counted}
use Rattle.dp_core.proofs.PairSides.{all_markable}
use Rattle.dp_core.proofs.prepared.Pairs.removal_check.Goals as goal

pub lacking_root-requires-clause-markable : goal.lacking_root-requires-clause-markable
lacking_root-requires-clause-markable g c =
    rw (c.sides.ensures, c.requires.pairs)
    (all_markable c.args.trs.now c.rules-rules.ensures.limits.symbols (c.dependency_pairs_suffice.ensures.pairs c.args.trs.now c.rules-rules.ensures.valid))

pub strict_pairs-requires-clause-markable : goal.strict_pairs-requires-clause-markable
strict_pairs-requires-clause-markable g c =
    rw (c.sides-2.ensures, c.requires.pairs)
    (all_markable c.args.trs.now c.rules-rules.ensures.limits.symbols (c.dependency_pairs_suffice.ensures.pairs c.args.trs.now c.rules-rules.ensures.valid))

pub strict_pairs-requires-clause-lefts : goal.strict_pairs-requires-clause-lefts
strict_pairs-requires-clause-lefts g c = rw c.sides-2.ensures c.lefts.ensures

pub returns-in_err-entries_check : goal.returns-in_err-entries_check
returns-in_err-entries_check g c = record {
  answers = λ symbols chosen taken lacks are_rules are.
      let comparing = comparing_by (g.O.ReductionPair.has c.args.order.now) (g.O.ReductionPair.is_too_big c.args.order.now) (g.O.ReductionOrder.is_weak c.args.order.now) (g.O.ReductionOrder.is_strict c.args.order.now) in
      let p = err_from_is_err_and c.from_residual.result c.from_residual.ensures.1 in
      rw (p.1, p.2) (entries_refuse comparing symbols (zip c.args.weak_rules.now chosen) (length c.args.trs.now.rules) c.args.problem.now taken c.in_err-entries_check.field-0.0 (c.in_err-entries_check.ensures comparing.has_entry symbols lacks));
}

pub returns-in_err-entries_check-2 : goal.returns-in_err-entries_check-2
returns-in_err-entries_check-2 g c = record {
  answers = λ symbols chosen taken lacks are_rules are.
      let comparing = comparing_by (g.O.ReductionPair.has c.args.order.now) (g.O.ReductionPair.is_too_big c.args.order.now) (g.O.ReductionOrder.is_weak c.args.order.now) (g.O.ReductionOrder.is_strict c.args.order.now) in
      let p = err_from_is_err_and c.from_residual-in_err-entries_check-2.result c.from_residual-in_err-entries_check-2.ensures.1 in
      let entries = c.in_ok-entries_check.ensures comparing.has_entry symbols lacks in
      let lacking = (rw c.sides.ensures at c.lacking_root.ensures) taken are in
      rw (p.1, p.2) (marks_refuse comparing symbols (zip c.args.weak_rules.now chosen) (length c.args.trs.now.rules) c.args.problem.now taken c.in_err-entries_check-2.field-0.0 entries (c.in_err-entries_check-2.ensures (λ f. g.O.ReductionPair.has c.args.order.now (f + 4096)) (roots_of taken) lacking));
}

pub returns-in_err-rules_check : goal.returns-in_err-rules_check
returns-in_err-rules_check g c = record {
  answers = λ symbols chosen taken lacks are_rules are.
      let comparing = comparing_by (g.O.ReductionPair.has c.args.order.now) (g.O.ReductionPair.is_too_big c.args.order.now) (g.O.ReductionOrder.is_weak c.args.order.now) (g.O.ReductionOrder.is_strict c.args.order.now) in
      let p = err_from_is_err_and c.from_residual-in_err-rules_check.result c.from_residual-in_err-rules_check.ensures.1 in
      let entries = c.in_ok-entries_check.ensures comparing.has_entry symbols lacks in
      let lacking = (rw c.sides.ensures at c.lacking_root.ensures) taken are in
      let marks = c.in_ok-entries_check-2.ensures (λ f. g.O.ReductionPair.has c.args.order.now (f + 4096)) (roots_of taken) lacking in
      rw (p.1, p.2) (rules_refuse comparing symbols (zip c.args.weak_rules.now chosen) (length c.args.trs.now.rules) c.args.problem.now taken c.in_err-rules_check.field-0.0 entries marks ((rw c.rules-rules.ensures.rules at c.in_err-rules_check.ensures) chosen are_rules));
}

pub returns-in_err-strict : goal.returns-in_err-strict
returns-in_err-strict g c = record {
  answers = λ symbols chosen taken lacks are_rules are.
      let comparing = comparing_by (g.O.ReductionPair.has c.args.order.now) (g.O.ReductionPair.is_too_big c.args.order.now) (g.O.ReductionOrder.is_weak c.args.order.now) (g.O.ReductionOrder.is_strict c.args.order.now) in
      let p = err_from_is_err_and c.from_residual-in_err-strict.result c.from_residual-in_err-strict.ensures.1 in
      let entries = c.in_ok-entries_check.ensures comparing.has_entry symbols lacks in
      let lacking = (rw c.sides.ensures at c.lacking_root.ensures) taken are in
      let marks = c.in_ok-entries_check-2.ensures (λ f. g.O.ReductionPair.has c.args.order.now (f + 4096)) (roots_of taken) lacking in
      let weak = (rw c.rules-rules.ensures.rules at c.in_ok-rules_check.ensures) chosen are_rules in
      rw (p.1, p.2) (pairs_refuse comparing symbols (zip c.args.weak_rules.now chosen) (length c.args.trs.now.rules) c.args.problem.now taken c.in_err-strict.field-0.0 entries marks weak ((rw (c.sides-2.ensures, c.rules-rules.ensures.rules) at c.in_err-strict.ensures) taken are));
}

pub left_over-requires : goal.left_over-requires
left_over-requires g c =
    let comparing = comparing_by (g.O.ReductionPair.has c.args.order.now) (g.O.ReductionPair.is_too_big c.args.order.now) (g.O.ReductionOrder.is_weak c.args.order.now) (g.O.ReductionOrder.is_strict c.args.order.now) in
    let pairs = pairs_of_numbers c.args.self.now c.args.problem.now (within_all (length c.args.self.now) c.args.problem.now c.requires.numbers) in
    let strict = (rw (c.sides-2.ensures, c.rules-rules.ensures.rules) at c.in_ok-strict.ensures) pairs.0 pairs.1 in
    rw c.deref.ensures.value (strict_counted comparing [] [] (length c.args.trs.now.rules) c.args.problem.now pairs.0 c.in_ok-strict.strict.items
    (as_many c.args.self.now c.args.problem.now pairs.0 pairs.1) strict)

pub returns : goal.returns
returns g c = record {
  answers = λ symbols chosen taken lacks are_rules are.
      let comparing = comparing_by (g.O.ReductionPair.has c.args.order.now) (g.O.ReductionPair.is_too_big c.args.order.now) (g.O.ReductionOrder.is_weak c.args.order.now) (g.O.ReductionOrder.is_strict c.args.order.now) in
      let entries = c.in_ok-entries_check.ensures comparing.has_entry symbols lacks in
      let lacking = (rw c.sides.ensures at c.lacking_root.ensures) taken are in
      let marks = c.in_ok-entries_check-2.ensures (λ f. g.O.ReductionPair.has c.args.order.now (f + 4096)) (roots_of taken) lacking in
      let weak = (rw c.rules-rules.ensures.rules at c.in_ok-rules_check.ensures) chosen are_rules in
      let strict = (rw (c.sides-2.ensures, c.rules-rules.ensures.rules) at c.in_ok-strict.ensures) taken are in
      removal_answers comparing symbols (zip c.args.weak_rules.now chosen) (length c.args.trs.now.rules) c.args.problem.now taken (λ (left : Vec ℕ Global). left.items) c.in_ok-strict.strict.items c.left_over.result entries marks weak strict
      (rw c.deref.ensures.value at c.left_over.ensures);
}
