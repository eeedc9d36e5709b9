use Rattle.std.proofs.Common.{◌≡◌, ℕ, List, ap, sym, arith, ◌∙◌, ◌-◌, ◌++◌, drop, length, map, refl, slice_get}
use Rattle.std.proofs.lemmas.List.{drop_at, length-append, length-map}
use Rattle.trs_defs.specs.System.{RewriteRule}
use Rattle.order_search.specs.Slots.{table_of}
use Rattle.order_search.specs.OrderSpace.{arity_with_mark, slots_of, is_above}
use Rattle.kbo_find.specs.KboSpace.{weight_by, rank_by}
use Rattle.kbo_find.specs.Balanced.{rule_of}
use Rattle.kbo_find.specs.KboPlaces.{falls_by}
use Rattle.kbo_find.proofs.KboPuzzle.{truth_top, number_behind, truth_falling}
use Rattle.kbo_find.proofs.space.KboSpaceSpace.holds.Goals as goal

pub returns-in-Some : goal.returns-in-Some
returns-in-Some c =
    let x = c.args.self.now in
    let top = c.in-Some.top.now in
    c.is_above.ensures
    ∙ (ap (λ (l : List ℕ). is_above (table_of (slots_of (λ _. 2) l) c.args.values.now) top.unary top.other) x.placed
    ∙ sym (truth_top x.arities.now x.symbols.now x.rules.now x.pairs.now x.tops.now x.tops_are c.args.c c.args.values.now top (sym c.in-Some.ensures)))

pub falls-requires : goal.falls-requires
falls-requires c =
    let x = c.args.self.now in
    let same : length (map rule_of x.balances.now) ≡ length (x.rules.now ++ x.pairs.now) = ap length x.balanced in
    omega (arith, same, length-map x.balances.now rule_of, length-append x.rules.now x.pairs.now)

pub returns-in-None : goal.returns-in-None
returns-in-None c =
    let x = c.args.self.now in
    let k = c.args.c - length x.tops.now in
    let weights = λ (symbols : List ℕ). weight_by (arity_with_mark x.arities.now) (table_of (slots_of (λ _. 2) symbols) c.args.values.now) in
    let ranks = λ (symbols : List ℕ). rank_by (table_of (slots_of (λ _. 2) symbols) c.args.values.now) in
    let balanced = ap (λ (l : List RewriteRule). falls_by (weights x.places.now) (ranks x.places.now) (drop (length x.rules.now) l) (slice_get l k)) x.balanced in
    let behind = ap (λ (l : List RewriteRule). falls_by (weights x.places.now) (ranks x.places.now) l (slice_get (x.rules.now ++ x.pairs.now) k))
    (drop_at x.rules.now x.pairs.now (length x.rules.now) refl) in
    let placed = ap (λ (l : List ℕ). falls_by (weights l) (ranks l) x.pairs.now (slice_get (x.rules.now ++ x.pairs.now) k)) x.placed in
    truth_falling x.arities.now x.symbols.now x.rules.now x.pairs.now c.args.c k
    (number_behind x.arities.now x.symbols.now x.rules.now x.pairs.now x.tops.now x.tops_are c.args.c (sym c.in-None.ensures))
    c.args.values.now c.falls.result _ refl c.requires.constraint
    (c.falls.ensures ∙ (balanced ∙ (behind ∙ placed)))
