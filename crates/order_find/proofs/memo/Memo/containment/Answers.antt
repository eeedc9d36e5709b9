use Rattle.std.proofs.Common.{get_or, subst}
use Rattle.pair_theory.specs.DependencyPair.{DependencyPair}
use Rattle.order_search.specs.Slots.{table_of}
use Rattle.order_find.specs.SubtermSpace.{subterm_slots}
use Rattle.order_find.specs.Remembered.{ProjectsSo}
use Rattle.order_find.proofs.Remembering.{by_table, the_pair}
use Rattle.order_find.proofs.memo.Memo.containment.Goals as goal

pub returns-in-Some-clause-found : goal.returns-in-Some-clause-found
returns-in-Some-clause-found c = λ p there.
    let x = c.args.space.now in
    let q = get_or x.pairs.now c.args.number c.index-space-number.result in
    by_table (table_of (subterm_slots x.roots.now) c.args.values.now) p q c.from_root.result c.to_root.result c.value_for-left.result c.value_for-right.result c.in-Some.known
    (the_pair x.pairs.now c.args.number c.index-space-number.result p c.requires.there there) c.from_root.ensures c.to_root.ensures c.value_for-left.ensures c.value_for-right.ensures
    (c.in-Some.ensures x.pairs.now c.requires.known p there)

pub returns-clause-found : goal.returns-clause-found
returns-clause-found c = λ p there.
    let x = c.args.space.now in
    let q = get_or x.pairs.now c.args.number c.index-space-number.result in
    let same = the_pair x.pairs.now c.args.number c.index-space-number.result p c.requires.there there in
    by_table (table_of (subterm_slots x.roots.now) c.args.values.now) p q c.from_root.result c.to_root.result c.value_for-left.result c.value_for-right.result c.contained-found.result
    same c.from_root.ensures c.to_root.ensures c.value_for-left.ensures c.value_for-right.ensures
    (subst (λ (y : DependencyPair). ProjectsSo y c.value_for-left.result c.value_for-right.result c.contained-found.result) same c.contained-found.ensures)

pub returns-clause-known : goal.returns-clause-known
returns-clause-known c =
    let x = c.args.space.now in
    c.keep.ensures x.pairs.now c.requires.known
    (λ p there. subst (λ (y : DependencyPair). ProjectsSo y c.value_for-left.result c.value_for-right.result c.contained-found.result)
    (the_pair x.pairs.now c.args.number c.index-space-number.result p c.requires.there there) c.contained-found.ensures)
