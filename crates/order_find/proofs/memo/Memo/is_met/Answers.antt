use Rattle.std.proofs.Common.{◌<◌, length, sym, ◌∙◌, arith}
use Rattle.order_find.proofs.Remembering.{pair_there}
use Rattle.order_find.proofs.SubtermPuzzle.{truth_last, truth_pair}
use Rattle.order_find.proofs.memo.Memo.is_met.Goals as goal

pub returns-then-c-space-clause-truth : goal.returns-then-c-space-clause-truth
returns-then-c-space-clause-truth c =
    let x = c.args.space.now in
    c.some_is_strict.ensures.answer ∙ sym (truth_last x.arities.now x.roots.now x.pairs.now c.args.c c.args.values.now c.if-c-space.true)

pub containment-requires-clause-there : goal.containment-requires-clause-there
containment-requires-clause-there c = omega (arith, c.requires.constraint, c.if-c-space.false)

pub returns-clause-truth : goal.returns-clause-truth
returns-clause-truth c =
    let x = c.args.space.now in
    let below : c.args.c < length x.pairs.now = omega (arith, c.requires.constraint, c.if-c-space.false) in
    let (p, there) = pair_there x.pairs.now c.args.c below in
    c.is_subterm.ensures ∙ (sym (c.containment.ensures.found p there).within ∙ sym (truth_pair x.arities.now x.roots.now x.pairs.now c.args.c c.args.values.now p there))
