use Rattle.std.proofs.Common.{◌≡◌, ap, sym, ◌∙◌, arith, refl, length}
use Rattle.trs_core.specs.View.{tree}
use Rattle.pair_order.proofs.Opening.{application}
use Rattle.kbo_order.proofs.Towers.{other_count, over_variable, over_application, only_one}
use Rattle.kbo_order.proofs.comparing.+is_tower.Goals as goal
use Rattle.trs_defs.proofs.EqualTerms.{cons_first}

pub returns-then-len-ne1 : goal.returns-then-len-ne1
returns-then-len-ne1 t c = (
  λ yes. absurd cc,
  λ h. absurd (other_count c.args.f c.args.x c.in-App.g c.args-in-App.inside.items.items (tree c.args.t.now)
      (application c.in-App.g _ _ _ _ (ap tree c.in-App.is) c.args-in-App.view_is refl)
      (λ e. c.if-len-ne1.true (omega (arith, e, c.len.ensures, c.args-in-App.inside.items.ok.0))) h),
)

pub returns-in-Var-index : goal.returns-in-Var-index
returns-in-Var-index t c =
    let one : length c.args-in-App.inside.items.items ≡ 1 = omega (arith, c.len.ensures, c.args-in-App.inside.items.ok.0, c.if-len-ne1.false) in
    over_variable c.args.f c.args.x c.in-App.g c.args-in-App.inside.items.items (tree c.args.t.now)
    (application c.in-App.g _ _ _ _ (ap tree c.in-App.is) c.args-in-App.view_is refl) c.index.result.now c.in-Var-index.y c.if-g-f.false
    (only_one c.args-in-App.inside.items.items c.index.result.now one c.index.ensures) (ap tree c.in-Var-index.is)

pub returns-in-App-index : goal.returns-in-App-index
returns-in-App-index t c =
    let one : length c.args-in-App.inside.items.items ≡ 1 = omega (arith, c.len.ensures, c.args-in-App.inside.items.ok.0, c.if-len-ne1.false) in
    let first = only_one c.args-in-App.inside.items.items c.index.result.now one c.index.ensures in
    let again = only_one c.args-in-App.inside.items.items c.index-in-App-index.result.now one c.index-in-App-index.ensures in
    over_application c.args.f c.args.x c.in-App.g c.args-in-App.inside.items.items (tree c.args.t.now)
    (application c.in-App.g _ _ _ _ (ap tree c.in-App.is) c.args-in-App.view_is refl) c.index-in-App-index.result.now c.in-App-index.field-0 _
    c.is_tower.result c.if-g-f.false again (cons_first (sym again ∙ first) ∙ ap tree c.in-App-index.is) c.is_tower.ensures
