use Rattle.std.proofs.Common.{◌≡◌, ℕ, None, length, zip, Vec, Global}
use Rattle.dp_core.specs.Numbered.{AreItemsOf, numbers_from}
use Rattle.dp_core.specs.Symbols.{symbols_of_rules}
use Rattle.dp_core.specs.LeastLacking.{least_lacking}
use Rattle.dp_core.specs.PairConditions.{comparing_by, removal_conditions}
use Rattle.dp_core.proofs.AllNumbers.{numbers_within, all_of_numbers}
use Rattle.dp_core.proofs.NumberedPairs.{pairs_of_numbers, within_all}
use Rattle.dp_core.proofs.OrderLaws.{of_taken}
use Rattle.dp_core.proofs.prepared.Pairs.pair_check.Goals as goal

pub lacking_in_system-lacking-requires : goal.lacking_in_system-lacking-requires
lacking_in_system-lacking-requires g c = rw (c.deref.ensures.value, ← c.rules-rules.ensures.rules) c.in_ok-numbers.ensures

pub removal_check-requires-clause-rules : goal.removal_check-requires-clause-rules
removal_check-requires-clause-rules g c =
    rw (c.deref-2.ensures.value, ← c.rules-rules.ensures.rules) (numbers_within c.rules-rules.result.now c.in_ok-numbers.numbers.items c.in_ok-numbers.ensures)

pub returns : goal.returns
returns g c =
    let comparing = comparing_by (g.O.ReductionPair.has c.args.order.now) (g.O.ReductionPair.is_too_big c.args.order.now) (g.O.ReductionOrder.is_weak c.args.order.now) (g.O.ReductionOrder.is_strict c.args.order.now) in
    let rules = c.args.trs.now.rules in
    let numbers = c.in_ok-numbers.numbers.items in
    let problem = c.args.problem.now in
    let numbers_are : numbers ≡ numbers_from 0 rules = rw c.rules-rules.ensures.rules at c.in_ok-numbers.ensures in
    let all_rules : AreItemsOf rules numbers rules = all_of_numbers rules numbers numbers_are in
    let lacking : c.lacking_in_system-lacking.result ≡ least_lacking comparing.has_entry None (symbols_of_rules rules) = c.lacking_in_system-lacking.ensures in
    let pairs = pairs_of_numbers c.args.self.now problem (within_all (length c.args.self.now) problem c.requires.numbers) in
    let removed = (rw c.deref-2.ensures.value at c.removal_check.ensures.answers) (symbols_of_rules rules) rules pairs.0 lacking all_rules pairs.1 in
    record {
      answers = of_taken c.args.self.now problem pairs.0 (λ ps. removal_conditions comparing (symbols_of_rules rules) (zip (numbers_from 0 rules) rules) (length rules) problem ps)
          (λ (left : Vec ℕ Global). left.items) c.removal_check.result pairs.1 (rw numbers_are at removed);
    }
