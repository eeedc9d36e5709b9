use Rattle.std.proofs.Common.{arith, ap, sym, ◌∙◌}
use Rattle.trs_caps.specs.HoledTree.{symbol, holed_trees}
use Rattle.trs_caps.specs.View.{holed}
use Rattle.trs_caps.proofs.ClashSteps.{unlike}
use Rattle.trs_caps.proofs.holed.Cap.+clashes.Goals.{then-f-g-via-then-f-g, then-f-g-via-else-f-g+then-len}
use Rattle.trs_caps.proofs.holed.Cap.+clashes.Goals as goal

pub returns-then-f-g : goal.returns-then-f-g
returns-then-f-g t c =
    let a = c.in-Symbol-Symbol in
    unlike _ _ a.f a.g c.cs.inside.items.items c.ds.inside.items.items (ap holed a.is-0 ∙ ap (λ z. symbol a.f (holed_trees z)) (sym c.cs.view_is)) (ap holed a.is-1 ∙ ap (λ z. symbol a.g (holed_trees z)) (sym c.ds.view_is)) (elim c.then-f-g.branch [
      | then-f-g-via-then-f-g w ↦ λ same l. w.if-f-g.true same
      | then-f-g-via-else-f-g+then-len w ↦ λ same l. w.if-len.true (omega (arith, c.cs.inside.items.ok.0, c.ds.inside.items.ok.0))
    ])
