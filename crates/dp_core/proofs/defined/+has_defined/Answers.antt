use Rattle.std.proofs.Common.{sym, ◌∙◌}
use Rattle.dp_core.proofs.DefinedBelow.{next_none}
use Rattle.dp_core.proofs.defined.+has_defined.Goals as goal

pub returns-then-has_defined : goal.returns-then-has_defined
returns-then-has_defined t c = (
  λ e. absurd cc,
  λ none.
      let both = (next_none c.args.by_root.now.rules c.deref-arg-items.result.now c.loop-arg.arg-index c.arg-item.result c.loop-arg-test.true c.arg-item.is).0 (c.loop-arg.invariant.1 none) in
      sym c.if-has_defined.true ∙ c.has_defined.ensures.1 both.0,
)
