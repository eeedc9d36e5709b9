use Rattle.order_theory.proofs.Contexts.{strict_context, well_founded_in_contexts, oriented_terminates}
use Rattle.order_theory.proofs.keeping_path_order_laws.Goals as goal

pub returns : goal.returns
returns c = record {
  context = strict_context;
  bound = well_founded_in_contexts;
  terminating = λ system rank filter keeps each. oriented_terminates system.arities rank filter keeps system.rules each;
}
