use Rattle.order_theory.proofs.Contexts.{strict_context, well_founded_in_contexts, oriented_terminates}
use Rattle.path_lpo.specs.Table.{rank_in, filter_in}
use Rattle.path_lpo.proofs.laws.full_tables_are_reduction_orders.Goals as goal

pub returns : goal.returns
returns c = record {
  context = λ arities order keeps. strict_context arities (rank_in order) (filter_in order) keeps;
  bound = λ arities order keeps. well_founded_in_contexts arities (rank_in order) (filter_in order) keeps;
  terminating = λ system order keeps each.
      oriented_terminates system.arities (rank_in order) (filter_in order) keeps system.rules each;
}
