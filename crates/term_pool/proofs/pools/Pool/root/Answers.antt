use Rattle.std.proofs.Common.{map, refl}
use Rattle.trs_defs.specs.Tree.{trees}
use Rattle.term_pool.specs.Pooled.{tree_at}
use Rattle.term_pool.proofs.PoolPlaces.{id_tree, id_variable}
use Rattle.term_pool.proofs.pools.Pool.root.Goals as goal

pub returns-in-Var-clause-none : goal.returns-in-Var-clause-none
returns-in-Var-clause-none c =
    (c.in-Var.field-0, id_variable c.args.self.now c.args.id c.in-Var.field-0 c.node.result.now c.node.ensures.is c.in-Var.is)

pub returns-in-App-clause-some : goal.returns-in-App-clause-some
returns-in-App-clause-some c = (
  trees (map (tree_at c.args.self.now) c.in-App.field-1.items),
  id_tree c.args.self.now c.args.id c.in-App.f c.node.result.now c.in-App.field-1 c.in-App.field-1.items c.node.ensures.is c.in-App.is refl,
)
