use Rattle.std.proofs.Common.{◌++◌, sym, subst}
use Rattle.poly_find.specs.Spans.{said_by}
use Rattle.poly_find.specs.SmallTerms.{IsSafe}
use Rattle.poly_find.proofs.SpanTruth.{rule_is_safe, pair_is_safe, truth_of_falling, truth_of_some}
use Rattle.poly_find.proofs.RuleListing.{of_this}
use Rattle.poly_find.proofs.space.PolySpaceSpace.holds.Goals as goal

pub is_weak-requires-clause-safe : goal.is_weak-requires-clause-safe
is_weak-requires-clause-safe c =
    let x = c.args.self.now in
    subst (λ b. IsSafe (said_by x.spans.now c.args.values.now) b c.in-Some.rule.now) (sym c.flag_at-small.ensures)
    (rule_is_safe x.arities.now x.symbols.now x.rules.now x.pairs.now x.spans.now x.distinct x.spans_are c.args.c c.args.values.now x.small.now x.small_are c.requires.covers
    c.in-Some.rule.now (sym c.in-Some.ensures))

pub is_weak-requires-clause-subterms : goal.is_weak-requires-clause-subterms
is_weak-requires-clause-subterms c =
    let x = c.args.self.now in
    of_this (x.rules.now ++ x.pairs.now) x.subterms.now c.args.c c.in-Some.rule.now c.subterms_at-subterms.result x.subterms_are c.subterms_at-subterms.ensures (sym c.in-Some.ensures)

pub some_is_strict-requires-clause-safe : goal.some_is_strict-requires-clause-safe
some_is_strict-requires-clause-safe c =
    let x = c.args.self.now in
    pair_is_safe x.arities.now x.symbols.now x.rules.now x.pairs.now x.spans.now x.distinct x.spans_are c.args.c c.args.values.now x.small.now x.small_are c.requires.covers
    (sym c.in-None.ensures) c.requires.constraint

pub returns-in-Ok : goal.returns-in-Ok
returns-in-Ok c =
    let x = c.args.self.now in
    truth_of_falling x.arities.now x.symbols.now x.rules.now x.pairs.now x.spans.now x.distinct x.spans_are c.args.c c.args.values.now c.in-Some.rule.now c.in-Ok.weak
    (sym c.in-Some.ensures) c.in-Ok.ensures

pub returns-in-None : goal.returns-in-None
returns-in-None c =
    let x = c.args.self.now in
    truth_of_some x.arities.now x.symbols.now x.rules.now x.pairs.now x.spans.now x.distinct x.spans_are c.args.c c.args.values.now c.some_is_strict.result
    (sym c.in-None.ensures) c.requires.constraint c.some_is_strict.ensures
