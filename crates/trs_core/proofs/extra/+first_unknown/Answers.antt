use Rattle.std.proofs.Common.{not}
use Rattle.trs_core.specs.VariableSet.{holds}
use Rattle.trs_core.proofs.Unknown.{next_unknown, found_unknown, not_found}
use Rattle.trs_core.proofs.extra.+first_unknown.Goals as goal

pub returns-then-is_some : goal.returns-then-is_some
returns-then-is_some t c =
    found_unknown c.first_unknown-found.result _ _
    (next_unknown (λ v. not (holds c.args.known.now v)) _ c.loop-arg.arg-index c.arg-item.result _ _ c.loop-arg-test.true c.arg-item.is
    c.first_unknown-found.ensures c.loop-arg.invariant) (cc)

pub loop-arg-preserved : goal.loop-arg-preserved
loop-arg-preserved t c =
    not_found c.first_unknown-found.result _ _
    (next_unknown (λ v. not (holds c.args.known.now v)) _ c.loop-arg.arg-index c.arg-item.result _ _ c.loop-arg-test.true c.arg-item.is
    c.first_unknown-found.ensures c.loop-arg.invariant) (cc)
