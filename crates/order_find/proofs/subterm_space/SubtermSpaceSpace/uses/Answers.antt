use Rattle.std.proofs.Common.{◌≡◌, ◌<◌, length, Some, get_or, slice_get, sym, ◌∙◌, arith}
use Rattle.std.proofs.lemmas.Option.{slice_get-get_or}
use Rattle.order_find.proofs.SubtermPuzzle.{many_slots, many_constraints, uses_all, uses_roots}
use Rattle.order_find.proofs.subterm_space.SubtermSpaceSpace.uses.Goals as goal

pub returns-then-c-self : goal.returns-then-c-self
returns-then-c-self c =
    let x = c.args.self.now in
    let many = many_slots x.arities.now x.roots.now x.pairs.now in
    sym (uses_all x.arities.now x.roots.now x.pairs.now c.args.c c.args.slot c.if-c-self.true (omega (arith, many, c.requires.slot)))

pub returns : goal.returns
returns c =
    let x = c.args.self.now in
    let many = many_slots x.arities.now x.roots.now x.pairs.now in
    let more = many_constraints x.arities.now x.roots.now x.pairs.now in
    let below : c.args.c < length x.pairs.now = omega (arith, more, c.requires.constraint, c.if-c-self.false) in
    let p = get_or x.pairs.now c.args.c c.index-self-c.result in
    let there : slice_get x.pairs.now c.args.c ≡ Some p = slice_get-get_or x.pairs.now c.args.c c.index-self-c.result below in
    c.has_root.ensures ∙ sym (uses_roots x.arities.now x.roots.now x.pairs.now c.args.c c.args.slot 0 p there (omega (arith, many, c.requires.slot)))
