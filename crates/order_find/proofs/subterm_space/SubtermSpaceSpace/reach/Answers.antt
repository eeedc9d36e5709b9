use Rattle.std.proofs.Common.{◌≡◌, ◌<◌, ◌==◌, ◌||◌, ℕ, List, length, Some, get_or, slice_get, ap, sym, ◌∙◌, arith}
use Rattle.std.proofs.lemmas.Option.{slice_get-get_or}
use Rattle.order_search.specs.Ends.{end_among}
use Rattle.order_find.proofs.SubtermPuzzle.{many_slots, many_constraints, reach_pair, reach_last}
use Rattle.order_find.proofs.subterm_space.SubtermSpaceSpace.reach.Goals as goal

pub returns-then-c-self : goal.returns-then-c-self
returns-then-c-self c =
    let x = c.args.self.now in
    c.slots.ensures ∙ (sym (many_slots x.arities.now x.roots.now x.pairs.now) ∙ reach_last x.arities.now x.roots.now x.pairs.now c.args.c c.if-c-self.true)

pub returns : goal.returns
returns c =
    let x = c.args.self.now in
    let more = many_constraints x.arities.now x.roots.now x.pairs.now in
    let below : c.args.c < length x.pairs.now = omega (arith, more, c.requires, c.if-c-self.false) in
    let p = get_or x.pairs.now c.args.c c.index-self-c.result in
    let there : slice_get x.pairs.now c.args.c ≡ Some p = slice_get-get_or x.pairs.now c.args.c c.index-self-c.result below in
    reach_pair x.arities.now x.roots.now x.pairs.now c.args.c c.end_of_pair.result p there
    (c.end_of_pair.ensures ∙ ap (λ (l : List ℕ). end_among (λ f. p.from.symbol == f || p.to.symbol == f) l) x.indexed)
