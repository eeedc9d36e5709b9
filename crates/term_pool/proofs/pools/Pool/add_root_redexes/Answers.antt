use Rattle.std.proofs.Common.{◌≡◌, [], Some, map, slice_get, slice_index, refl, subst}
use Rattle.trs_defs.specs.Tree.{app, trees}
use Rattle.term_pool.specs.Pooled.{tree_at}
use Rattle.term_pool.specs.Redexes.{AreRootRedexes}
use Rattle.term_pool.specs.Roots.{with_root}
use Rattle.term_pool.proofs.PoolPlaces.{id_tree, id_variable}
use Rattle.term_pool.proofs.RedexWalk.{AreMatches, grown_all, none_left, root_redexes, rule_tried, nothing_grown}
use Rattle.term_pool.proofs.RootRules.{AreProper, proper_sides, no_roots_at_variable, rule_read}
use Rattle.term_pool.proofs.pools.Pool.add_root_redexes.Goals.{In-App, After-index-rules-k}
use Rattle.term_pool.proofs.pools.Pool.add_root_redexes.Goals as goal

pub returns-in_default-clause-found : goal.returns-in_default-clause-found
returns-in_default-clause-found c =
    let is = id_variable c.args.self.now c.args.id c.in_default.field-0 c.node.result.now c.node.ensures.is c.in_default.is in
    let proper = proper_sides c.args.by_root.now c.args.by_root.now.rules refl c.rules-rules.ensures.valid in
    nothing_grown c.args.place.now (AreRootRedexes c.args.by_root.now.rules 0 (tree_at c.args.self.now c.args.id)) c.args.found.now.items
    (no_roots_at_variable c.args.by_root.now.rules (tree_at c.args.self.now c.args.id) c.in_default.field-0 proper is)

-- the term is its root over its arguments
node : (c : In-App) → tree_at c.args.self.now c.args.id ≡ app c.in-App.f (trees (map (tree_at c.args.self.now) c.in-App.field-1.items))
node c = id_tree c.args.self.now c.args.id c.in-App.f c.node.result.now c.in-App.field-1 c.in-App.field-1.items c.node.ensures.is c.in-App.is refl

proper : (c : In-App) → AreProper c.rules-rules.result.now
proper c = proper_sides c.args.by_root.now c.rules-rules.result.now c.rules-rules.ensures.rules c.rules-rules.ensures.valid

pub loop-k-init : goal.loop-k-init
loop-k-init c =
    let a = (goal.at.loop-k-init c).In-App in
    let rules = c.rules-rules.result.now in
    let t = tree_at c.args.self.now c.args.id in
    let all : c.with_root-k-items.result.now ≡ with_root c.in-App.f rules = rw c.rules-rules.ensures.rules c.with_root-k-items.ensures.numbers in
    record {
      rest = λ rest h. (rest, root_redexes rules t c.in-App.f _ (proper a) (node a) rest (subst (λ ks. AreMatches rules t ks rest) all h), refl);
      known = c.requires.known;
    }

-- the rule of the next number
here : (c : After-index-rules-k) → slice_get c.rules-rules.result.now (slice_index c.with_root-k-items.result.now c.loop-k.k-index) ≡ Some c.index-rules-k.result
here c =
    rule_read c.args.by_root.now.rules c.rules-rules.result.now c.with_root-k-items.result.now c.loop-k.k-index c.index-rules-k.result c.rules-rules.ensures.rules c.with_root-k-items.ensures.within
    c.loop-k-test.true c.index-rules-k.is

pub try_rule-requires-clause-rule : goal.try_rule-requires-clause-rule
try_rule-requires-clause-rule c = rw (← c.rules-rules.ensures.rules) (here (goal.at.try_rule-requires-clause-rule c).After-index-rules-k)

pub loop-k-preserved : goal.loop-k-preserved
loop-k-preserved c = record {
  rest = rule_tried c.rules-rules.result.now (tree_at c.args.self.now c.args.id) c.with_root-k-items.result.now c.loop-k.k-index c.index-rules-k.result c.loop-k-test.true
      (here (goal.at.loop-k-preserved c).After-index-rules-k) c.args.place.now (AreRootRedexes c.rules-rules.result.now 0 (tree_at c.args.self.now c.args.id)) c.args.found.now.items c.loop-k.found.items
      c.try_rule.new.found.items c.in_ok-try_rule.ensures.tried c.loop-k.invariant.rest;
  known = c.in_ok-try_rule.ensures.known;
}

pub returns-clause-found : goal.returns-clause-found
returns-clause-found c =
    let rules = c.rules-rules.result.now in
    let t = tree_at c.args.self.now c.args.id in
    rw (← c.rules-rules.ensures.rules) (grown_all c.args.place.now (AreRootRedexes rules 0 t) c.args.found.now.items c.loop-k.found.items
    (c.loop-k.invariant.rest [] (none_left rules t c.with_root-k-items.result.now c.loop-k.k-index c.loop-k-test.false)))
