use Rattle.std.proofs.Common.{ap, refl, arith}
use Rattle.trs_core.specs.View.{tree}
use Rattle.pair_order.proofs.Opening.{application}
use Rattle.kbo_order.proofs.Sight.{apart_by_root, apart_test}
use Rattle.kbo_order.proofs.comparing.are_apart.Goals as goal

pub returns-then-f-g : goal.returns-then-f-g
returns-then-f-g c = (
  λ _. apart_by_root c.in-App.f c.in-App-t.g _ _ (tree c.args.s.now) (tree c.args.t.now) (ap tree c.in-App.is) (ap tree c.in-App-t.is) c.if-f-g.true,
  λ _. refl,
)

pub returns-else-f-g : goal.returns-else-f-g
returns-else-f-g c =
    apart_test c.in-App.f c.in-App-t.g c.ss.inside.items.items c.ts.inside.items.items (tree c.args.s.now) (tree c.args.t.now) c.len.result c.len-in-App-t.result
    (application c.in-App.f _ _ _ _ (ap tree c.in-App.is) c.ss.view_is refl) (application c.in-App-t.g _ _ _ _ (ap tree c.in-App-t.is) c.ts.view_is refl) c.if-f-g.false
    (omega (arith, c.len.ensures, c.ss.inside.items.ok.0)) (omega (arith, c.len-in-App-t.ensures, c.ts.inside.items.ok.0))
