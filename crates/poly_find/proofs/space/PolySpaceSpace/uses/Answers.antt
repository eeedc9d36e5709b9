use Rattle.std.proofs.Common.{sym, ◌∙◌, arith}
use Rattle.poly_find.proofs.PolyPuzzle.{slot_count, uses_rule, uses_last}
use Rattle.poly_find.proofs.space.PolySpaceSpace.uses.Goals as goal

pub bounds-self-slot : goal.bounds-self-slot
bounds-self-slot c =
    let x = c.args.self.now in
    let many = slot_count x.arities.now x.symbols.now x.rules.now x.pairs.now x.owners.now x.owners_are in
    omega (arith, many, c.requires.slot)

pub returns-in-Some : goal.returns-in-Some
returns-in-Some c =
    let x = c.args.self.now in
    c.occurs_in_rule.ensures
    ∙ sym (uses_rule x.arities.now x.symbols.now x.rules.now x.pairs.now x.owners.now c.args.c c.args.slot 0 c.in-Some.rule.now x.owners_are (sym c.in-Some.ensures) c.requires.slot)

pub returns-in-None : goal.returns-in-None
returns-in-None c =
    let x = c.args.self.now in
    sym (uses_last x.arities.now x.symbols.now x.rules.now x.pairs.now c.args.c c.args.slot (sym c.in-None.ensures) c.requires.constraint c.requires.slot)
