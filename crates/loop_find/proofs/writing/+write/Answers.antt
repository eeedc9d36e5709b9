use Rattle.std.proofs.Common.{◌≡◌, ℕ, length, arith, ap, refl}
use Rattle.trs_defs.specs.Tree.{Tree, app, trees}
use Rattle.trs_defs.specs.Substitution.{apply, apply_all}
use Rattle.trs_defs.proofs.ArgumentLists.{count_apply_all}
use Rattle.trs_core.specs.View.{tree, forest}
use Rattle.trs_core.proofs.Comparing.{count_forest}
use Rattle.rewrite_core.proofs.RedexWalk.{applied}
use Rattle.loop_find.specs.Bindings.{resolved}
use Rattle.crit_pairs.proofs.CyclesOfBindings.{smaller_instance}
use Rattle.loop_find.proofs.FlatTerms.{symbol_first, symbol_too_many, next_written, none_written}
use Rattle.loop_find.proofs.Renumbering.{way_begins, way_goes_on, way_stops, way_ends}
use Rattle.loop_find.proofs.writing.+write.Goals as goal

pub returns-then-not-branch : goal.returns-then-not-branch
returns-then-not-branch t c =
    let σ : ℕ → Tree = resolved c.args.found.now c.args.steps in
    let items = c.args-in-App.inside.items.items in
    let is : tree c.args.t.now ≡ app c.in-App.f (forest items) = applied items c.in-App.f _ (tree c.args.t.now) (ap trees c.args-in-App.view_is) (ap tree c.in-App.is) in
    symbol_too_many c.args.tokens.now.items (apply σ (tree c.args.t.now)) c.in-App.f (apply_all σ (forest items)) c.len.result (ap (apply σ) is)
    (omega (arith, count_forest items, count_apply_all σ (forest items), c.len.ensures, c.args-in-App.inside.items.ok.0)) (rw c.if-not-branch.true at c.in_ok-write_symbol-in-App.ensures)

pub loop-arg-init : goal.loop-arg-init
loop-arg-init t c =
    let σ : ℕ → Tree = resolved c.args.found.now c.args.steps in
    let items = c.deref-arg-items.result.now in
    let is : tree c.args.t.now ≡ app c.in-App.f (forest items) = rw (c.in-App.is, ← c.args-in-App.view_is, c.deref-arg-items.ensures.value) refl in
    way_begins c.args.names.now.items c.args.tokens.now.items c.write_symbol.new.tokens.items c.in-App.f c.len.result _ _
    (symbol_first (apply σ (tree c.args.t.now)) c.in-App.f (apply_all σ (forest items)) c.len.result (ap (apply σ) is)
    (omega (arith, count_forest items, count_apply_all σ (forest items), c.len.ensures, c.args-in-App.inside.items.ok.0, ap length c.deref-arg-items.ensures.value)))
    (rw c.if-not-branch.false at c.in_ok-write_symbol-in-App.ensures)

pub write-requires-in-loop-arg : goal.write-requires-in-loop-arg
write-requires-in-loop-arg t c =
    let σ : ℕ → Tree = resolved c.args.found.now c.args.steps in
    let items = c.deref-arg-items.result.now in
    let is : tree c.args.t.now ≡ app c.in-App.f (forest items) = rw (c.in-App.is, ← c.args-in-App.view_is, c.deref-arg-items.ensures.value) refl in
    let smaller = smaller_instance σ items c.loop-arg.arg-index c.in-App.f (tree c.args.t.now) c.arg-item.result is c.loop-arg-test.true c.arg-item.is in
    omega (arith, smaller, c.decreases)

pub returns-then-not-branch-2 : goal.returns-then-not-branch-2
returns-then-not-branch-2 t c =
    way_stops _ _ _ _ c.args.names.now.items c.args.tokens.now.items c.loop-arg.names.items c.loop-arg.tokens.items
    (next_written (resolved c.args.found.now c.args.steps) c.deref-arg-items.result.now c.loop-arg.arg-index c.arg-item.result c.loop-arg-test.true c.arg-item.is) c.loop-arg.invariant
    (rw c.if-not-branch-2.true at c.in_ok-write-in-App.ensures)

pub loop-arg-preserved : goal.loop-arg-preserved
loop-arg-preserved t c =
    way_goes_on _ _ _ _ c.args.names.now.items c.args.tokens.now.items c.loop-arg.names.items c.loop-arg.tokens.items
    (next_written (resolved c.args.found.now c.args.steps) c.deref-arg-items.result.now c.loop-arg.arg-index c.arg-item.result c.loop-arg-test.true c.arg-item.is) c.loop-arg.invariant
    c.write-in-loop-arg.new.names.items c.write-in-loop-arg.new.tokens.items (rw c.if-not-branch-2.false at c.in_ok-write-in-App.ensures)

pub returns-after-loop-arg : goal.returns-after-loop-arg
returns-after-loop-arg t c =
    way_ends _ _ c.args.names.now.items c.args.tokens.now.items c.loop-arg.names.items c.loop-arg.tokens.items
    (none_written (resolved c.args.found.now c.args.steps) c.deref-arg-items.result.now c.loop-arg.arg-index (omega (arith, c.loop-arg-test.false))) c.loop-arg.invariant
