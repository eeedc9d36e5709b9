use Rattle.std.specs.Prelude.{Some, length}
use Rattle.std.proofs.Common.{◌∙◌, get_or, refl, sym, ap, rules}
use Rattle.std.proofs.lemmas.Bool.{ltb-true}
use Rattle.std.proofs.lemmas.List.{drop_all}
use Rattle.std.proofs.lemmas.Option.{slice_get-get_or, slice_get_read}
use Rattle.closed_pairs.proofs.Leftward.{left_ends, right_ends, differ_by_test, agree_here}
use Rattle.closed_pairs.proofs.parallel.is_left_of.Goals as goal

pub returns-in_default : goal.returns-in_default
returns-in_default c =
    (λ e. absurd cc, λ h. absurd (right_ends c.args.p.now c.args.q.now c.loop-i.i c.loop-i.invariant (drop_all c.loop-i.i c.args.q.now (search rules)) h))

pub returns-then-place-other : goal.returns-then-place-other
returns-then-place-other c =
    differ_by_test c.args.p.now c.args.q.now c.loop-i.i c.loop-i.invariant (get_or c.args.p.now c.loop-i.i 0) c.in-Some.other.now (slice_get-get_or c.args.p.now c.loop-i.i 0 c.loop-i-test.true)
    (slice_get_read c.args.q.now (length c.args.q.now) c.loop-i.i c.in-Some.other.now refl (ltb-true c.loop-i.i (length c.args.q.now) (sym c.in-Some.ensures.lookup.0)) c.in-Some.ensures.lookup.1)
    c.if-place-other.true

pub loop-i-preserved : goal.loop-i-preserved
loop-i-preserved c =
    agree_here c.args.p.now c.args.q.now c.loop-i.i c.loop-i.invariant c.in-Some.other.now (slice_get-get_or c.args.p.now c.loop-i.i 0 c.loop-i-test.true ∙ ap (λ x. Some x) c.if-place-other.false)
    (slice_get_read c.args.q.now (length c.args.q.now) c.loop-i.i c.in-Some.other.now refl (ltb-true c.loop-i.i (length c.args.q.now) (sym c.in-Some.ensures.lookup.0)) c.in-Some.ensures.lookup.1)

pub returns : goal.returns
returns c =
    (λ e. absurd cc, λ h. absurd (left_ends c.args.p.now c.args.q.now c.loop-i.i c.loop-i.invariant (drop_all c.loop-i.i c.args.p.now c.loop-i-test.false) h))
