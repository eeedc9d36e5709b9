use Rattle.std.proofs.Common.{refl}
use Rattle.dp_core.proofs.Flags.{set_here, not_set_here, none_set}
use Rattle.dp_core.proofs.subterm.is_any.Goals as goal

pub returns-then-flag : goal.returns-then-flag
returns-then-flag c = (λ _. set_here c.args.flags.now c.loop-flag.flag-index _ c.loop-flag-test.true c.if-flag.true, λ _. refl)

pub loop-flag-preserved : goal.loop-flag-preserved
loop-flag-preserved c = λ m. not_set_here c.args.flags.now c.loop-flag.flag-index _ c.loop-flag-test.true c.if-flag.false (c.loop-flag.invariant m)

pub returns : goal.returns
returns c = (λ e. absurd cc, λ m. absurd (none_set c.args.flags.now c.loop-flag.flag-index c.loop-flag-test.false (c.loop-flag.invariant m)))
