use Rattle.std.specs.Prelude.{map}
use Rattle.cert_step.specs.ProofProblem.{problem_of}
use Rattle.strategies.proofs.TrueRows.{each_well_made}
use Rattle.strategies.proofs.found.leaving.Goals as goal

pub returns-clause-is_true : goal.returns-clause-is_true
returns-clause-is_true c = λ budget strategy finds. record {
  finds = finds;
  applies = c.in_ok-left.ensures.ok;
  step_well_made = c.requires.step;
  left_well_made = each_well_made c.args.prepared.now (map problem_of c.in_ok-left.left.items) c.in_ok-left.ensures.well_made;
}
