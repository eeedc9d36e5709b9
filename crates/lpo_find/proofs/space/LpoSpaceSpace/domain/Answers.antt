use Rattle.std.proofs.Common.{ℕ, ap, sym, ◌∙◌, ◌<◌, ◌*◌, length, arith}
use Rattle.order_search.specs.OrderSpace.{arity_with_mark}
use Rattle.order_search.proofs.TwoParts.{many_slots}
use Rattle.lpo_find.specs.LpoSpace.{filter_count}
use Rattle.lpo_find.proofs.LpoPuzzle.{filter_domain, rank_domain}
use Rattle.lpo_find.proofs.space.LpoSpaceSpace.domain.Goals as goal

pub bounds-self-slot : goal.bounds-self-slot
bounds-self-slot c = let many = many_slots c.args.self.now.symbols.now in omega (arith, many, c.requires)

pub returns-then-slot-eq0 : goal.returns-then-slot-eq0
returns-then-slot-eq0 c =
    let x = c.args.self.now in
    let many = many_slots x.symbols.now in
    let below : c.args.slot < 2 * length x.symbols.now = omega (arith, many, c.requires) in
    c.filter_count.ensures ∙ (ap (λ (n : ℕ). filter_count n) c.arity_of.ensures.value
    ∙ sym (filter_domain (arity_with_mark x.arities.now) x.symbols.now x.rules.now x.pairs.now c.args.slot below c.if-slot-eq0.true))

pub returns-else-slot-eq0 : goal.returns-else-slot-eq0
returns-else-slot-eq0 c =
    let x = c.args.self.now in
    let many = many_slots x.symbols.now in
    let below : c.args.slot < 2 * length x.symbols.now = omega (arith, many, c.requires) in
    sym (rank_domain (arity_with_mark x.arities.now) x.symbols.now x.rules.now x.pairs.now c.args.slot below (omega (arith, c.if-slot-eq0.false)))
