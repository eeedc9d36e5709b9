use Rattle.std.proofs.Common.{sym, ap, ◌∙◌}
use Rattle.pair_text.specs.KnuthEntries.{is_low}
use Rattle.pair_text.proofs.TopRankLaws.{low_next, low_here}
use Rattle.pair_text.proofs.knuth_entries.first_low.Goals as goal

pub loop-item-preserved : goal.loop-item-preserved
loop-item-preserved c = λ es tops.
    let named = c.args.system.now in
    let high = sym (ap (is_low es) c.read_stated.ensures) ∙ sym (c.is_low.ensures es tops) ∙ c.if-is_low.false in
    sym (low_next named es c.args.items.now c.item-item.result c.loop-item.item-index c.loop-item-test.true c.item-item.is high) ∙ c.loop-item.invariant es tops

pub returns-then-is_low : goal.returns-then-is_low
returns-then-is_low c = λ es tops.
    let named = c.args.system.now in
    let low = sym (ap (is_low es) c.read_stated.ensures) ∙ sym (c.is_low.ensures es tops) ∙ c.if-is_low.true in
    let here = low_here named es c.args.items.now c.item-item.result c.loop-item.item-index c.loop-item-test.true c.item-item.is low in
    rw c.place.ensures (sym here ∙ c.loop-item.invariant es tops)
