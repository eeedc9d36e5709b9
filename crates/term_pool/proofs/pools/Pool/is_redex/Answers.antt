use Rattle.std.proofs.Common.{◌≡◌, Some, map, slice_get, slice_index, refl}
use Rattle.trs_defs.specs.Tree.{app, trees}
use Rattle.trs_defs.proofs.Members.{in_of_get}
use Rattle.term_pool.specs.Pooled.{tree_at}
use Rattle.term_pool.specs.Redex.{IsRedex}
use Rattle.term_pool.proofs.PoolPlaces.{id_tree, id_variable}
use Rattle.term_pool.proofs.RootRules.{AreProper, proper_sides, Matches, no_redex_at_variable, rule_read, one_more_not, none_at_end, no_redex}
use Rattle.term_pool.proofs.LeftSideLaws.{side_failed}
use Rattle.term_pool.proofs.pools.Pool.is_redex.Goals.{In-App, After-index-rules-k}
use Rattle.term_pool.proofs.pools.Pool.is_redex.Goals as goal

pub returns-in_default-clause-redex : goal.returns-in_default-clause-redex
returns-in_default-clause-redex c =
    let is = id_variable c.args.self.now c.args.id c.in_default.field-0 c.node.result.now c.node.ensures.is c.in_default.is in
    let proper = proper_sides c.args.by_root.now c.args.by_root.now.rules refl c.rules-rules.ensures.valid in
    (λ e. absurd cc, λ r. absurd (no_redex_at_variable c.args.by_root.now.rules (tree_at c.args.self.now c.args.id) c.in_default.field-0 proper is r))

-- the term is its root over its arguments
node : (c : In-App) → tree_at c.args.self.now c.args.id ≡ app c.in-App.f (trees (map (tree_at c.args.self.now) c.in-App.field-1.items))
node c = id_tree c.args.self.now c.args.id c.in-App.f c.node.result.now c.in-App.field-1 c.in-App.field-1.items c.node.ensures.is c.in-App.is refl

proper : (c : In-App) → AreProper c.rules-rules.result.now
proper c = proper_sides c.args.by_root.now c.rules-rules.result.now c.rules-rules.ensures.rules c.rules-rules.ensures.valid

-- the rule of the next number
here : (c : After-index-rules-k) → slice_get c.rules-rules.result.now (slice_index c.with_root-k-items.result.now c.loop-k.k-index) ≡ Some c.index-rules-k.result
here c =
    rule_read c.args.by_root.now.rules c.rules-rules.result.now c.with_root-k-items.result.now c.loop-k.k-index c.index-rules-k.result c.rules-rules.ensures.rules c.with_root-k-items.ensures.within
    c.loop-k-test.true c.index-rules-k.is

pub returns-then-branch-clause-redex : goal.returns-then-branch-clause-redex
returns-then-branch-clause-redex c =
    let rules = c.rules-rules.result.now in
    let k = slice_index c.with_root-k-items.result.now c.loop-k.k-index in
    let rule = c.index-rules-k.result in
    let found : IsRedex rules (tree_at c.args.self.now c.args.id) =
    (rule, in_of_get rules k rule (here (goal.at.returns-then-branch-clause-redex c).After-index-rules-k), c.in_ok-is_redex_over.ensures.redex.0 c.if-branch.true) in
    rw (← c.rules-rules.ensures.rules) (λ _. found, λ _. refl)

pub loop-k-preserved : goal.loop-k-preserved
loop-k-preserved c =
    let rules = c.rules-rules.result.now in
    let t = tree_at c.args.self.now c.args.id in
    let k = slice_index c.with_root-k-items.result.now c.loop-k.k-index in
    let rule = c.index-rules-k.result in
    let there : slice_get rules k ≡ Some rule = here (goal.at.loop-k-preserved c).After-index-rules-k in
    let fails : Matches t rule → ⊥ = λ inst. let e = c.in_ok-is_redex_over.ensures.redex.1 inst in absurd (cc (e, c.if-branch.false)) in
    record {
      none = one_more_not (Matches t) rules c.with_root-k-items.result.now c.loop-k.k-index rule c.loop-k-test.true there fails c.loop-k.invariant.none;
      last = side_failed c.args.by_root.now.rules c.args.self.now c.args.sides.now k rule t c.id-last.result c.requires.sides c.id-last.ensures (rw (← c.rules-rules.ensures.rules) there) fails;
      known = c.in_ok-is_redex_over.ensures.known;
    }

pub returns-clause-redex : goal.returns-clause-redex
returns-clause-redex c =
    let a = (goal.at.returns-clause-redex c).In-App in
    let rules = c.rules-rules.result.now in
    let t = tree_at c.args.self.now c.args.id in
    let none = none_at_end (Matches t) c.in-App.f c.args.by_root.now.rules rules c.with_root-k-items.result.now c.loop-k.k-index c.rules-rules.ensures.rules c.with_root-k-items.ensures.numbers c.loop-k-test.false
    c.loop-k.invariant.none in
    rw (← c.rules-rules.ensures.rules) (λ e. absurd cc, λ r. absurd (no_redex rules t c.in-App.f _ (proper a) (node a) none r))
