use Rattle.std.proofs.lemmas.List.Elements.{All-more}
use Rattle.term_pool.specs.Pooled.{tree_at}
use Rattle.term_pool.specs.LeftSides.{IsGround}
use Rattle.term_pool.proofs.PoolPlaces.{id_tree}
use Rattle.term_pool.proofs.LeftSideLaws.{ground_over}
use Rattle.term_pool.proofs.pools.Pool.is_over_marked.Goals as goal

pub loop-arg-preserved : goal.loop-arg-preserved
loop-arg-preserved c =
    All-more (λ id. IsGround (tree_at c.args.self.now id)) c.as_slice-arg-items.result.now c.loop-arg.arg-index 0 c.loop-arg-test.true c.loop-arg.invariant
    (c.requires.marks.each _ (c.is_marked.ensures c.if-not-is_marked.false))

pub returns : goal.returns
returns c =
    let ids = c.as_slice-arg-items.result.now in
    let is = id_tree c.args.self.now c.args.id c.in-App.field-0 c.node.result.now c.in-App.args ids c.node.ensures.is c.in-App.is c.as_slice-arg-items.ensures in
    λ _. ground_over c.args.self.now (tree_at c.args.self.now c.args.id) c.in-App.field-0 c.loop-arg.arg-index ids is c.loop-arg-test.false c.loop-arg.invariant
