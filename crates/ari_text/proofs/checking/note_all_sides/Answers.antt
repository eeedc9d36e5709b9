use Rattle.std.proofs.Common.{◌+◌, ◌∙◌, drop, sym}
use Rattle.sexp_core.specs.Items.{view, views}
use Rattle.ari_text.specs.Entries.{entry_of}
use Rattle.ari_text.specs.Least.{noted}
use Rattle.ari_text.specs.Faults.{side_faults, all_side_faults}
use Rattle.names_text.proofs.Loops.{one_more}
use Rattle.ari_text.proofs.Leasts.{noted_append}
use Rattle.ari_text.proofs.checking.note_all_sides.Goals as goal

pub loop-item-preserved : goal.loop-item-preserved
loop-item-preserved c =
    let symbols = c.args.symbols.now in
    let least = c.loop-item.least in
    rw c.note_sides.ensures
    (sym (noted_append least (side_faults symbols (entry_of (view c.item-item.result))) (all_side_faults symbols (views (drop (c.loop-item.item-index + 1) c.args.items.now))))
    ∙ one_more (λ xs. noted least (all_side_faults symbols (views xs))) c.args.items.now c.loop-item.item-index c.item-item.result c.loop-item-test.true c.item-item.is
    ∙ c.loop-item.invariant)
