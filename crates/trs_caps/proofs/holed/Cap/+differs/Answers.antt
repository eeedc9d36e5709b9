use Rattle.std.proofs.Common.{arith, [], ap, sym, ◌∙◌}
use Rattle.trs_defs.specs.Tree.{app, trees}
use Rattle.trs_core.specs.View.{tree}
use Rattle.trs_caps.specs.HoledTree.{symbol, holed_trees}
use Rattle.trs_caps.specs.View.{holed, holed_all}
use Rattle.trs_caps.proofs.AddedParts.{never_meets, unlike_heads, part_never_meets}
use Rattle.trs_caps.proofs.holed.Cap.+differs.Goals.{then-f-g-via-then-f-g, then-f-g-via-else-f-g+then-len}
use Rattle.trs_caps.proofs.holed.Cap.+differs.Goals as goal

pub returns-then-f-g : goal.returns-then-f-g
returns-then-f-g t c =
    let a = c.in-Symbol-App in
    λ _. never_meets (holed c.args.self.now) (tree c.args.left.now) (unlike_heads (λ v. []) (holed c.args.self.now) (tree c.args.left.now) c.cs.inside.items.items c.ts.inside.items.items a.f a.g
    (ap holed a.is-0 ∙ ap (λ z. symbol a.f (holed_trees z)) (sym c.cs.view_is)) (ap tree a.is-1 ∙ ap (λ z. app a.g (trees z)) (sym c.ts.view_is)) (elim c.then-f-g.branch [
      | then-f-g-via-then-f-g w ↦ λ same l. w.if-f-g.true same
      | then-f-g-via-else-f-g+then-len w ↦ λ same l. w.if-len.true (omega (arith, c.cs.inside.items.ok.0, c.ts.inside.items.ok.0))
    ]))

pub returns-then-differs : goal.returns-then-differs
returns-then-differs t c =
    let a = c.in-Symbol-App in
    λ _. part_never_meets (holed c.args.self.now) (tree c.args.left.now) c.deref-c-items.result.now c.ts.inside.items.items a.f a.g c.loop-i.i c.c-item.result c.index.result.now
    (ap holed a.is-0 ∙ (ap (λ z. symbol a.f (holed_trees z)) (sym c.cs.view_is) ∙ ap (λ z. symbol a.f (holed_all z)) (sym c.deref-c-items.ensures.value)))
    (ap tree a.is-1 ∙ ap (λ z. app a.g (trees z)) (sym c.ts.view_is)) (omega arith) c.c-item.is c.index.ensures (c.differs.ensures c.if-differs.true)
