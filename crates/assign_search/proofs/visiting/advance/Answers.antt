use Rattle.std.proofs.Common.{arith, sym, ◌∙◌}
use Rattle.assign_search.proofs.Steps.{popped_below, advance_next, advance_over, advance_end}
use Rattle.assign_search.proofs.visiting.advance.Goals as goal

pub overflow_cast-len : goal.overflow_cast-len
overflow_cast-len g c =
    let pops = popped_below (g.S.Space.puzzle c.args.space.now) _ _ _ c.loop-value.invariant.standing c.in-Some.ensures.items in
    let room = pops.room in
    omega (arith, room, c.len.ensures, c.requires.small)

pub returns-then-value-end : goal.returns-then-value-end
returns-then-value-end g c =
    advance_next (g.S.Space.puzzle c.args.space.now) c.args.values.now.items c.loop-value.values.items c.pop.new.self.items c.push.new.self.items c.in-Some.value c.len.result c.domain-end.result
    c.loop-value.invariant.standing c.loop-value.invariant.rest c.in-Some.ensures.items c.in_ok-push.ensures.items (c.len.ensures ∙ c.pop.new.self.ok.0) c.domain-end.ensures c.if-value-end.true

pub loop-value-preserved : goal.loop-value-preserved
loop-value-preserved g c =
    let both = advance_over (g.S.Space.puzzle c.args.space.now) c.args.values.now.items c.loop-value.values.items c.pop.new.self.items c.in-Some.value c.len.result c.domain-end.result
    c.loop-value.invariant.standing c.loop-value.invariant.rest c.in-Some.ensures.items (c.len.ensures ∙ c.pop.new.self.ok.0) c.domain-end.ensures c.if-value-end.false in
    record { standing = both.0; rest = both.1 }

pub returns : goal.returns
returns g c =
    advance_end (g.S.Space.puzzle c.args.space.now) c.args.values.now.items c.loop-value.values.items c.loop-value.invariant.rest (sym c.loop-value.values.ok.0 ∙ c.in_default.ensures.cases.0)
