use Rattle.std.proofs.Common.{◌∷◌, subst}
use Rattle.pair_theory.specs.Marked.{Marked}
use Rattle.dp_core.specs.LeastMissing.{IsLeastMissing}
use Rattle.dp_core.proofs.subterm.with_side.Goals as goal

pub returns : goal.returns
returns c = λ symbols h.
    subst (λ (m : Marked). IsLeastMissing c.args.projection.now (m.symbol ∷ symbols) c.with_root.result) c.side.view_is (c.with_root.ensures symbols h)
