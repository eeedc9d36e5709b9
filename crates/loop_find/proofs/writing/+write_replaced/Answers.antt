use Rattle.std.specs.Option.{option_map}
use Rattle.std.proofs.Common.{◌≡◌, ◌-◌, ◌∷◌, ℕ, length, arith, ap, ◌∙◌, refl}
use Rattle.trs_defs.specs.Tree.{Tree, app, trees}
use Rattle.trs_defs.specs.Substitution.{apply_all}
use Rattle.trs_core.specs.View.{tree, forest}
use Rattle.trs_core.proofs.Comparing.{count_forest}
use Rattle.rewrite_core.proofs.RedexWalk.{applied}
use Rattle.loop_find.specs.declared.tokens.Token.TheVariants.{App}
use Rattle.loop_find.specs.Bindings.{resolved}
use Rattle.loop_find.specs.Flat.{tokens_of_all}
use Rattle.loop_find.specs.Written.{put_into}
use Rattle.loop_find.proofs.FlatTerms.{symbol_first, symbol_too_many}
use Rattle.loop_find.proofs.Renumbering.{way_begins, way_goes_on, way_stops, way_ends}
use Rattle.loop_find.proofs.Ways.{put_symbol, count_put_symbol, next_put_tokens, none_put_left}
use Rattle.loop_find.proofs.writing.+write_replaced.Goals as goal

pub returns-then-not-branch : goal.returns-then-not-branch
returns-then-not-branch t c =
    let σ : ℕ → Tree = resolved c.args.found.now 2 in
    let items = c.args-in-App.inside.items.items in
    let s = c.in-Some-first_step in
    let is : tree c.args.t.now ≡ app c.in-App.f (forest items) = applied items c.in-App.f _ (tree c.args.t.now) (ap trees c.args-in-App.view_is) (ap tree c.in-App.is) in
    let place : c.in-Some.place.now ≡ s.first ∷ s.below.now = cc (s.ensures.some, s.first-is, s.below-is) in
    symbol_too_many c.args.tokens.now.items _ c.in-App.f (apply_all σ (put_into (forest items) s.first s.below.now (tree c.args.by.now))) c.len.result
    (put_symbol σ _ c.in-Some.place.now s.first s.below.now (tree c.args.t.now) c.in-App.f (forest items) (tree c.args.by.now) (ap (option_map (λ w. w.now)) c.in-Some.is) place is)
    (omega (arith, count_forest items, count_put_symbol σ (forest items) s.first s.below.now (tree c.args.by.now), c.len.ensures, c.args-in-App.inside.items.ok.0))
    (rw c.if-not-branch.true at c.in_ok-write_symbol-in-App.ensures)

pub loop-i-init : goal.loop-i-init
loop-i-init t c =
    let σ : ℕ → Tree = resolved c.args.found.now 2 in
    let items = c.deref-arg-items.result.now in
    let s = c.in-Some-first_step in
    let is : tree c.args.t.now ≡ app c.in-App.f (forest items) = rw (c.in-App.is, ← c.args-in-App.view_is, c.deref-arg-items.ensures.value) refl in
    let place : c.in-Some.place.now ≡ s.first ∷ s.below.now = cc (s.ensures.some, s.first-is, s.below-is) in
    let none : s.first ≡ s.first - 0 = omega arith in
    way_begins c.args.names.now.items c.args.tokens.now.items c.write_symbol.new.tokens.items c.in-App.f c.len.result _ _
    (symbol_first _ c.in-App.f (apply_all σ (put_into (forest items) s.first s.below.now (tree c.args.by.now))) c.len.result
    (put_symbol σ _ c.in-Some.place.now s.first s.below.now (tree c.args.t.now) c.in-App.f (forest items) (tree c.args.by.now) (ap (option_map (λ w. w.now)) c.in-Some.is) place is)
    (omega (arith, count_forest items, count_put_symbol σ (forest items) s.first s.below.now (tree c.args.by.now), c.len.ensures, c.args-in-App.inside.items.ok.0, ap length c.deref-arg-items.ensures.value))
    ∙ ap (λ m. App c.in-App.f c.len.result ∷ tokens_of_all (apply_all σ (put_into (forest items) m s.below.now (tree c.args.by.now)))) none)
    (rw c.if-not-branch.false at c.in_ok-write_symbol-in-App.ensures)

pub returns-then-not-branch-2 : goal.returns-then-not-branch-2
returns-then-not-branch-2 t c =
    let s = c.in-Some-first_step in
    way_stops _ _ _ _ c.args.names.now.items c.args.tokens.now.items c.loop-i.names.items c.loop-i.tokens.items
    (next_put_tokens (resolved c.args.found.now 2) c.deref-arg-items.result.now c.loop-i.i c.arg-item.result s.first s.below.now (tree c.args.by.now) c.loop-i-test.true c.arg-item.is) c.loop-i.invariant
    (rw c.way_below-on.ensures at (rw c.if-not-branch-2.true at c.in_ok-write_replaced-in-App.ensures))

pub loop-i-preserved : goal.loop-i-preserved
loop-i-preserved t c =
    let s = c.in-Some-first_step in
    way_goes_on _ _ _ _ c.args.names.now.items c.args.tokens.now.items c.loop-i.names.items c.loop-i.tokens.items
    (next_put_tokens (resolved c.args.found.now 2) c.deref-arg-items.result.now c.loop-i.i c.arg-item.result s.first s.below.now (tree c.args.by.now) c.loop-i-test.true c.arg-item.is) c.loop-i.invariant
    c.write_replaced.new.names.items c.write_replaced.new.tokens.items (rw c.way_below-on.ensures at (rw c.if-not-branch-2.false at c.in_ok-write_replaced-in-App.ensures))

pub returns-after-loop-i : goal.returns-after-loop-i
returns-after-loop-i t c =
    way_ends _ _ c.args.names.now.items c.args.tokens.now.items c.loop-i.names.items c.loop-i.tokens.items
    (none_put_left (resolved c.args.found.now 2) c.deref-arg-items.result.now c.loop-i.i _ _ (tree c.args.by.now) (omega (arith, c.loop-i-test.false))) c.loop-i.invariant
