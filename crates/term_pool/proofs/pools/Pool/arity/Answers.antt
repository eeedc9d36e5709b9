use Rattle.term_pool.proofs.PoolPlaces.{argument_count}
use Rattle.term_pool.proofs.pools.Pool.arity.Goals as goal

pub returns-in-App : goal.returns-in-App
returns-in-App c = λ f ts e.
    argument_count c.args.self.now c.args.id c.in-App.field-0 c.node.result.now c.in-App.args c.as_slice.result.now c.node.ensures.is c.in-App.is c.as_slice.ensures f ts e
