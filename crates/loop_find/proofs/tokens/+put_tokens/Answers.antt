use Rattle.std.proofs.Common.{◌≡◌, length, arith, ap, refl}
use Rattle.trs_defs.specs.Tree.{app}
use Rattle.trs_core.specs.View.{tree, forest}
use Rattle.trs_core.proofs.Comparing.{count_forest}
use Rattle.loop_find.proofs.FlatTerms.{put_begins}
use Rattle.loop_find.proofs.tokens.+put_tokens.Goals as goal

pub loop-arg-init : goal.loop-arg-init
loop-arg-init t c =
    let items = c.deref-arg-items.result.now in
    let is : tree c.args.t.now ≡ app c.in-App.f (forest items) = rw (c.in-App.is, ← c.args-in-App.view_is, c.deref-arg-items.ensures.value) refl in
    put_begins c.args.tokens.now.items c.push-in-App.new.self.items c.in-App.f c.len-count.result (forest items) (tree c.args.t.now) c.in_ok-push-in-App.ensures.items
    (omega (arith, count_forest items, c.len-count.ensures, c.args-in-App.inside.items.ok.0, ap length c.deref-arg-items.ensures.value)) is
