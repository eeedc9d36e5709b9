use Rattle.std.proofs.Common.{ℕ, length, Vec, Global}
use Rattle.std.proofs.lemmas.Result.{err_from_is_err_and}
use Rattle.pair_theory.specs.DependencyPair.{DependencyPair}
use Rattle.std.specs.Prelude.{List}
use Rattle.dp_core.specs.Numbered.{ArePairsOf}
use Rattle.dp_core.proofs.NumberedPairs.{pairs_of_numbers, within_all}
use Rattle.dp_core.proofs.SubtermLaws.{entries_refuse, removals_refuse, subterm_answers, flags_counted}
use Rattle.dp_core.proofs.prepared.Pairs.subterm_step.Goals as goal
use Rattle.dp_core.proofs.prepared.Pairs.subterm_step.Goals.{After-entries_check}

the_pairs : (c : After-entries_check) → (pairs : List DependencyPair) × ArePairsOf c.args.self.now c.args.problem.now pairs
the_pairs c = pairs_of_numbers c.args.self.now c.args.problem.now (within_all (length c.args.self.now) c.args.problem.now c.requires.numbers)

pub returns-in_err-entries_check : goal.returns-in_err-entries_check
returns-in_err-entries_check c =
    let pairs = the_pairs (goal.at.returns-in_err-entries_check c).After-entries_check in
    let p = err_from_is_err_and c.from_residual.result c.from_residual.ensures.1 in
    record { answers = rw (p.1, p.2) (entries_refuse c.args.self.now c.args.projection.now c.args.problem.now pairs.0 pairs.1 c.in_err-entries_check.field-0.0 ((rw c.sides.ensures at c.in_err-entries_check.ensures) pairs.0 pairs.1)) }

pub returns-in_err-removed : goal.returns-in_err-removed
returns-in_err-removed c =
    let pairs = the_pairs (goal.at.returns-in_err-removed c).After-entries_check in
    let p = err_from_is_err_and c.from_residual-in_err-removed.result c.from_residual-in_err-removed.ensures.1 in
    let entries = (rw c.sides.ensures at c.in_ok-entries_check.ensures) pairs.0 pairs.1 in
    record { answers = rw (p.1, p.2) (removals_refuse c.args.self.now c.args.projection.now c.args.problem.now pairs.0 pairs.1 c.in_err-removed.field-0.0 entries ((rw c.sides-2.ensures at c.in_err-removed.ensures) pairs.0 pairs.1)) }

pub left_over-requires : goal.left_over-requires
left_over-requires c =
    let pairs = the_pairs (goal.at.left_over-requires c).After-entries_check in
    let removals = (rw c.sides-2.ensures at c.in_ok-removed.ensures) pairs.0 pairs.1 in
    rw c.deref.ensures.value (flags_counted c.args.self.now c.args.projection.now c.args.problem.now pairs.0 pairs.1 c.in_ok-removed.removed.items removals)

pub returns : goal.returns
returns c =
    let pairs = the_pairs (goal.at.returns c).After-entries_check in
    let entries = (rw c.sides.ensures at c.in_ok-entries_check.ensures) pairs.0 pairs.1 in
    let removals = (rw c.sides-2.ensures at c.in_ok-removed.ensures) pairs.0 pairs.1 in
    record {
      answers = subterm_answers c.args.self.now c.args.projection.now c.args.problem.now pairs.0 pairs.1 (λ (left : Vec ℕ Global). left.items) c.in_ok-removed.removed.items c.left_over.result entries removals
          (rw c.deref.ensures.value at c.left_over.ensures);
    }
