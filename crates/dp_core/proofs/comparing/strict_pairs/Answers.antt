use Rattle.std.proofs.Common.{◌≡◌, Some, get_or, length, zip, ap, sym, refl, ◌∙◌, arith, slice_get}
use Rattle.std.proofs.lemmas.Option.{IfSome_then, slice_get_read}
use Rattle.std.proofs.lemmas.Result.{err_from_is_err_and}
use Rattle.trs_core.specs.View.{tree}
use Rattle.pair_theory.specs.Marked.{mark}
use Rattle.pair_theory.specs.DependencyPair.{DependencyPair}
use Rattle.dp_core.specs.LeftNumbers.{term_of}
use Rattle.dp_core.specs.PairConditions.{comparing_by, pair_is_weak}
use Rattle.dp_core.proofs.Collecting.{item_stops, one_more_collected, all_collected}
use Rattle.dp_core.proofs.NumberedPairs.{item_at}
use Rattle.dp_core.proofs.LeftNumbering.{serves}
use Rattle.dp_core.proofs.comparing.strict_pairs.Goals.{After-index-pairs-n, After-index-number}
use Rattle.dp_core.proofs.comparing.strict_pairs.Goals as goal
use Rattle.rewrite_core.proofs.Items.{none_left}

-- the left side and the number of the pair that is looked at
pair_here : (g : _) (c : After-index-pairs-n g) → slice_get c.args.pairs.now (get_or c.args.problem.now c.loop-n.n-index 0) ≡ Some c.index-pairs-n.result
pair_here g c = slice_get_read c.args.pairs.now (length c.args.pairs.now) (get_or c.args.problem.now c.loop-n.n-index 0) c.index-pairs-n.result refl
    (c.requires.numbers c.loop-n.n-index 0 c.loop-n-test.true) c.index-pairs-n.is

number_here : (g : _) (c : After-index-number g) → slice_get c.args.lefts.now.numbers.items (get_or c.args.problem.now c.loop-n.n-index 0) ≡ Some c.index-number.result.now
number_here g c =
    let within = c.requires.numbers c.loop-n.n-index 0 c.loop-n-test.true in
    slice_get_read c.args.lefts.now.numbers.items _ (get_or c.args.problem.now c.loop-n.n-index 0) c.index-number.result.now refl
    (omega (arith, within, c.requires.lefts.numbered.as_many)) c.index-number.ensures

pub left_of-requires-clause-last : goal.left_of-requires-clause-last
left_of-requires-clause-last g c =
    IfSome_then c.loop-n.last c.loop-n.invariant.1 (λ left s same.
    s.is_left (get_or c.args.problem.now c.loop-n.n-index 0) c.index-pairs-n.result (number_here g (goal.at.left_of-requires-clause-last g c).After-index-number ∙ ap (λ n. Some n) (sym same))
    (pair_here g (goal.at.left_of-requires-clause-last g c).After-index-pairs-n) ∙ sym (ap (λ (q : DependencyPair). mark q.from) c.sides.view_is))

pub left_of-requires-clause-profile : goal.left_of-requires-clause-profile
left_of-requires-clause-profile g c = IfSome_then c.loop-n.last c.loop-n.invariant.1 (λ left s. s.profiled)

pub left_of-requires-clause-kept : goal.left_of-requires-clause-kept
left_of-requires-clause-kept g c = λ t there.
    c.requires.lefts.kept (get_or c.args.problem.now c.loop-n.n-index 0) _ c.index-pairs-n.result (number_here g (goal.at.left_of-requires-clause-kept g c).After-index-number)
    (pair_here g (goal.at.left_of-requires-clause-kept g c).After-index-pairs-n) t (rw c.deref.ensures.value at there) ∙ sym (ap (λ (q : DependencyPair). mark q.from) c.sides.view_is)

pub returns-in_err-flag : goal.returns-in_err-flag
returns-in_err-flag g c = λ taken are.
    let comparing = comparing_by (g.O.ReductionPair.has c.args.order.now) (g.O.ReductionPair.is_too_big c.args.order.now) (g.O.ReductionOrder.is_weak c.args.order.now) (g.O.ReductionOrder.is_strict c.args.order.now) in
    let p = err_from_is_err_and c.from_residual-in_err-flag.result c.from_residual-in_err-flag.ensures.1 in
    let there = item_at c.args.pairs.now c.args.problem.now taken c.loop-n.n-index c.index-pairs-n.result c.requires.numbers are c.loop-n-test.true c.index-pairs-n.is in
    rw (p.1, p.2) (item_stops (λ _ item. pair_is_weak comparing c.args.rules item.0 item.1) (zip c.args.problem.now taken) c.loop-n.n-index
    (get_or c.args.problem.now c.loop-n.n-index 0, c.index-pairs-n.result) c.loop-n.strict.items c.in_err-flag.field-0.0 there c.in_err-flag.ensures (c.loop-n.invariant.0 taken are))

pub loop-n-preserved : goal.loop-n-preserved
loop-n-preserved g c = (
  λ taken are.
      let comparing = comparing_by (g.O.ReductionPair.has c.args.order.now) (g.O.ReductionPair.is_too_big c.args.order.now) (g.O.ReductionOrder.is_weak c.args.order.now) (g.O.ReductionOrder.is_strict c.args.order.now) in
      let there = item_at c.args.pairs.now c.args.problem.now taken c.loop-n.n-index c.index-pairs-n.result c.requires.numbers are c.loop-n-test.true c.index-pairs-n.is in
      one_more_collected (λ _ item. pair_is_weak comparing c.args.rules item.0 item.1) (zip c.args.problem.now taken) c.loop-n.n-index
      (get_or c.args.problem.now c.loop-n.n-index 0, c.index-pairs-n.result) c.in_ok-flag.flag c.loop-n.strict.items c.add.new.flags.items there c.in_ok-flag.ensures c.in_ok-add.ensures (c.loop-n.invariant.0 taken are),
  serves (λ t. g.O.ReductionPair.is_profile c.args.order.now t c.in_ok-left.left.profile) c.args.lefts.now.numbers.items c.args.pairs.now c.in_ok-left.left.number (tree (term_of c.in_ok-left.left.term)) c.requires.lefts.numbered
      (get_or c.args.problem.now c.loop-n.n-index 0) c.index-pairs-n.result
      (number_here g (goal.at.loop-n-preserved g c).After-index-number ∙ ap (λ n. Some n) (sym c.in_ok-left.ensures.number)) (pair_here g (goal.at.loop-n-preserved g c).After-index-pairs-n)
      (c.in_ok-left.ensures.term ∙ ap (λ (q : DependencyPair). mark q.from) c.sides.view_is) c.in_ok-left.ensures.profile,
)

pub returns : goal.returns
returns g c = λ taken are.
    let comparing = comparing_by (g.O.ReductionPair.has c.args.order.now) (g.O.ReductionPair.is_too_big c.args.order.now) (g.O.ReductionOrder.is_weak c.args.order.now) (g.O.ReductionOrder.is_strict c.args.order.now) in
    all_collected (λ _ item. pair_is_weak comparing c.args.rules item.0 item.1) (zip c.args.problem.now taken) c.loop-n.n-index c.loop-n.strict.items
    (none_left c.args.problem.now taken c.loop-n.n-index c.loop-n-test.false) (c.loop-n.invariant.0 taken are)
