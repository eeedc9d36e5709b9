use Rattle.std.proofs.Common.{◌≡◌, ◌++◌, ℕ, None, length, Vec, Global}
use Rattle.dp_core.specs.Symbols.{symbols_of_rules, symbols_below_roots}
use Rattle.dp_core.specs.LeastLacking.{least_lacking}
use Rattle.dp_core.specs.PairConditions.{comparing_by}
use Rattle.dp_core.proofs.NumberedPairs.{pairs_of_numbers, within_all}
use Rattle.usable_rules.proofs.Chosen.{usable_within}
use Rattle.usable_rules.proofs.SymbolsAsked.{both_asked}
use Rattle.usable_rules.proofs.UsableConclusions.{usable_answers}
use Rattle.usable_rules.proofs.ordered.prepared_usable_check.Goals as goal

pub lacking_in_rules-in_rules-requires : goal.lacking_in_rules-in_rules-requires
lacking_in_rules-in_rules-requires g c =
    let pairs = pairs_of_numbers c.args.pairs.now c.args.problem.now (within_all (length c.args.pairs.now) c.args.problem.now c.requires.numbers) in
    rw (c.deref.ensures.value, c.rules.ensures.rules)
    (usable_within c.args.trs.now.rules pairs.0 c.in_ok-usable.usable.items (c.in_ok-usable.ensures.usable pairs.0 pairs.1))

pub removal_check-requires-clause-rules : goal.removal_check-requires-clause-rules
removal_check-requires-clause-rules g c =
    let pairs = pairs_of_numbers c.args.pairs.now c.args.problem.now (within_all (length c.args.pairs.now) c.args.problem.now c.requires.numbers) in
    rw c.deref-2.ensures.value (usable_within c.args.trs.now.rules pairs.0 c.in_ok-usable.usable.items (c.in_ok-usable.ensures.usable pairs.0 pairs.1))

pub returns : goal.returns
returns g c =
    let comparing = comparing_by (g.O.ReductionPair.has c.args.order.now) (g.O.ReductionPair.is_too_big c.args.order.now) (g.O.ReductionOrder.is_weak c.args.order.now) (g.O.ReductionOrder.is_strict c.args.order.now) in
    let rules = c.args.trs.now.rules in
    let problem = c.args.problem.now in
    let numbers = c.in_ok-usable.usable.items in
    let pairs = pairs_of_numbers c.args.pairs.now problem (within_all (length c.args.pairs.now) problem c.requires.numbers) in
    let usable = c.in_ok-usable.ensures.usable pairs.0 pairs.1 in
    let chosen = pairs_of_numbers rules numbers (within_all (length rules) numbers (usable_within rules pairs.0 numbers usable)) in
    let in_rules : c.lacking_in_rules-in_rules.result ≡ least_lacking comparing.has_entry None (symbols_of_rules chosen.0) =
    (rw (c.rules.ensures.rules, c.deref.ensures.value) at c.lacking_in_rules-in_rules.ensures) chosen.0 chosen.1 in
    let below : c.lacking_below_roots-lacking.result ≡ least_lacking comparing.has_entry c.lacking_in_rules-in_rules.result (symbols_below_roots pairs.0) =
    (rw c.sides.ensures at c.lacking_below_roots-lacking.ensures) pairs.0 pairs.1 in
    let lacking = both_asked comparing.has_entry (symbols_of_rules chosen.0) (symbols_below_roots pairs.0) None c.lacking_in_rules-in_rules.result c.lacking_below_roots-lacking.result in_rules below in
    let removed = (rw c.deref-2.ensures.value at c.removal_check.ensures.answers) (symbols_of_rules chosen.0 ++ symbols_below_roots pairs.0) chosen.0 pairs.0 lacking chosen.1 pairs.1 in
    record {
      answers = usable_answers comparing rules c.args.pairs.now problem pairs.0 numbers chosen.0 (λ (left : Vec ℕ Global). left.items) c.removal_check.result pairs.1 usable chosen.1 removed;
    }
