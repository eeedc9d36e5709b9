use Rattle.std.proofs.Common.{◌<◌, length, sym, ap, ◌∙◌}
use Rattle.std.proofs.lemmas.List.{drop_all}
use Rattle.order_search.specs.Slots.{table_of}
use Rattle.order_find.specs.SubtermSpace.{some_passes, subterm_slots}
use Rattle.order_find.proofs.Remembering.{pair_there, none_here, one_here}
use Rattle.order_find.proofs.memo.Memo.some_is_strict.Goals as goal

pub returns-then-is_proper-clause-answer : goal.returns-then-is_proper-clause-answer
returns-then-is_proper-clause-answer c =
    let x = c.args.space.now in
    let below : c.loop-number.number < length x.pairs.now = c.loop-number-test.true in
    let (p, there) = pair_there x.pairs.now c.loop-number.number below in
    sym (one_here (table_of (subterm_slots x.roots.now) c.args.values.now) x.pairs.now c.loop-number.number p there
    ((c.containment.ensures.found p there).properly ∙ (sym c.is_proper.ensures ∙ c.if-is_proper.true)))

pub loop-number-preserved : goal.loop-number-preserved
loop-number-preserved c =
    let x = c.args.space.now in
    let table = table_of (subterm_slots x.roots.now) c.args.values.now in
    let below : c.loop-number.number < length x.pairs.now = c.loop-number-test.true in
    let (p, there) = pair_there x.pairs.now c.loop-number.number below in
    record {
      known = c.containment.ensures.known;
      rest = sym (none_here table x.pairs.now c.loop-number.number p there ((c.containment.ensures.found p there).properly ∙ (sym c.is_proper.ensures ∙ c.if-is_proper.false)))
          ∙ c.loop-number.invariant.rest;
    }

pub returns-clause-answer : goal.returns-clause-answer
returns-clause-answer c =
    let x = c.args.space.now in
    sym (ap (some_passes (table_of (subterm_slots x.roots.now) c.args.values.now)) (drop_all c.loop-number.number x.pairs.now c.loop-number-test.false))
    ∙ c.loop-number.invariant.rest
