use Rattle.std.proofs.Common.{arith}
use Rattle.trs_core.specs.View.{tree}
use Rattle.term_pool.specs.Bindings.{instance_of}
use Rattle.term_pool.specs.Pooled.{tree_at}
use Rattle.term_pool.proofs.Rooms.{lt_true, part_fits, too_many_nodes, too_deep}
use Rattle.term_pool.proofs.pools.Pool.is_too_large.Goals as goal

pub overflow_sub-kept : goal.overflow_sub-kept
overflow_sub-kept c =
    let fits = part_fits c.args.places.now (tree_at c.args.self.now c.args.id) (tree_at c.args.self.now c.args.part) c.requires.there in
    omega (arith, fits, c.measure.ensures.size, c.measure-2.ensures.size)

pub returns-then-from-gt-MOST_NODES : goal.returns-then-from-gt-MOST_NODES
returns-then-from-gt-MOST_NODES c = λ many.
    too_many_nodes c.args.places.now (tree_at c.args.self.now c.args.id) (tree_at c.args.self.now c.args.part) c.requires.there
    (instance_of c.args.self.now c.args.found.now (tree c.args.t.now)) c.measure.result.size c.measure-2.result.size c.instance_measure-put.result.size
    c.measure.ensures.size c.measure-2.ensures.size c.instance_measure-put.ensures.size (omega (arith, lt_true _ _ many, c.from.ensures, c.from-2.ensures))

pub returns-else-from-gt-MOST_NODES : goal.returns-else-from-gt-MOST_NODES
returns-else-from-gt-MOST_NODES c = λ deep.
    too_deep c.args.places.now (tree_at c.args.self.now c.args.id) (tree_at c.args.self.now c.args.part) c.requires.there
    (instance_of c.args.self.now c.args.found.now (tree c.args.t.now)) c.instance_measure-put.result.depth
    c.instance_measure-put.ensures.depth (omega (arith, lt_true _ _ deep, c.from-else-from-gt-MOST_NODES.ensures))
