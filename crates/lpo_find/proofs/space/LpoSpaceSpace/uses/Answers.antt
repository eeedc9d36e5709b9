use Rattle.std.proofs.Common.{sym, ◌∙◌, ◌<◌, ◌*◌, ◌/◌, ◌%◌, length, get_or, arith}
use Rattle.order_search.specs.OrderSpace.{arity_with_mark}
use Rattle.order_search.proofs.Constraints.{uses_symbols, uses_all, last_number}
use Rattle.order_search.proofs.TwoParts.{many_slots, slot_at}
use Rattle.lpo_find.specs.LpoSpace.{lpo_family}
use Rattle.lpo_find.proofs.space.LpoSpaceSpace.uses.Goals as goal

pub bounds-self-slot : goal.bounds-self-slot
bounds-self-slot c = let many = many_slots c.args.self.now.symbols.now in omega (arith, many, c.requires.slot)

pub returns-in-Some : goal.returns-in-Some
returns-in-Some c =
    let x = c.args.self.now in
    let many = many_slots x.symbols.now in
    let below : c.args.slot < 2 * length x.symbols.now = omega (arith, many, c.requires.slot) in
    c.occurs_in_rule.ensures
    ∙ sym (uses_symbols (lpo_family (arity_with_mark x.arities.now)) x.symbols.now x.rules.now x.pairs.now c.args.c c.args.slot c.in-Some.rule.now
    (get_or x.symbols.now (c.args.slot / 2) 0) (c.args.slot % 2) (sym c.in-Some.ensures) c.requires.slot (slot_at x.symbols.now c.args.slot 0 below))

pub returns-in-None : goal.returns-in-None
returns-in-None c =
    let x = c.args.self.now in
    let family = lpo_family (arity_with_mark x.arities.now) in
    sym (uses_all family x.symbols.now x.rules.now x.pairs.now c.args.c c.args.slot
    (last_number family x.symbols.now x.rules.now x.pairs.now c.args.c (sym c.in-None.ensures) c.requires.constraint) c.requires.slot)
