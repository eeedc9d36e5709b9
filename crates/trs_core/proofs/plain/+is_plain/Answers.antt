use Rattle.std.proofs.Common.{◌≡◌, ap, arith, refl, sym, ◌∙◌}
use Rattle.trs_defs.specs.Tree.{trees, app}
use Rattle.trs_core.specs.View.{tree, forest}
use Rattle.trs_core.proofs.Arities.{well_formed_app}
use Rattle.trs_core.proofs.plain.+is_plain.Goals as goal

pub loop-arg-init : goal.loop-arg-init
loop-arg-init t c =
    let ts = c.args-in-App.inside.items.items in
    let is : tree c.args.t.now ≡ app c.in-App.f (forest ts) = ap tree c.in-App.is ∙ ap (λ us. app c.in-App.f (trees us)) (sym c.args-in-App.view_is) in
    rw c.deref-arg-items.ensures.value record {
      well_formed = well_formed_app _ c.in-App.f _ (tree c.args.t.now) (ap tree c.in-App.is) ts c.args-in-App.view_is
          (c.has_arity.ensures.0 c.if-not-has_arity.false);
      depth = λ h. rw is (omega (arith, h, c.if-depth-eq0.false));
      nodes = rw is (omega (arith, c.if-tally-eq0.false));
      variables = λ v. rw is refl;
      small = λ h. h;
    }
