use Rattle.std.proofs.Common.{sym, ◌∙◌, ◌<◌, ◌-◌, ◌*◌, length, arith, refl}
use Rattle.order_search.proofs.TwoParts.{many_slots}
use Rattle.kbo_find.proofs.KboPuzzle.{uses_top, number_behind, uses_falling}
use Rattle.kbo_find.proofs.space.KboSpaceSpace.uses.Goals as goal

pub bounds-self-slot : goal.bounds-self-slot
bounds-self-slot c = let many = many_slots c.args.self.now.symbols.now in omega (arith, many, c.requires.slot)

pub returns-in-Some : goal.returns-in-Some
returns-in-Some c =
    let x = c.args.self.now in
    let many = many_slots x.symbols.now in
    let below : c.args.slot < 2 * length x.symbols.now = omega (arith, many, c.requires.slot) in
    c.concerns.ensures
    ∙ sym (uses_top x.arities.now x.symbols.now x.rules.now x.pairs.now x.tops.now x.tops_are c.args.c c.args.slot c.in-Some.top.now (sym c.in-Some.ensures) below)

pub returns-in-None : goal.returns-in-None
returns-in-None c =
    let x = c.args.self.now in
    let many = many_slots x.symbols.now in
    let below : c.args.slot < 2 * length x.symbols.now = omega (arith, many, c.requires.slot) in
    c.stands_in.ensures
    ∙ sym (uses_falling x.arities.now x.symbols.now x.rules.now x.pairs.now c.args.c (c.args.c - length x.tops.now)
    (number_behind x.arities.now x.symbols.now x.rules.now x.pairs.now x.tops.now x.tops_are c.args.c (sym c.in-None.ensures)) c.args.slot _ refl c.requires.constraint below)
