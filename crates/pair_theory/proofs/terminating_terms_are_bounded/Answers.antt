use Rattle.trs_defs.specs.System.{Among}
use Rattle.trs_defs.specs.Step.{StepBy}
use Rattle.pair_theory.proofs.Accessibility.{bounded_accessible}
use Rattle.pair_theory.proofs.Termination.{terminating_is_bounded}
use Rattle.pair_theory.proofs.terminating_terms_are_bounded.Goals as goal

pub returns-clause-bounded : goal.returns-clause-bounded
returns-clause-bounded c = terminating_is_bounded

pub returns-clause-terminating : goal.returns-clause-terminating
returns-clause-terminating c = λ rules t h. bounded_accessible (StepBy (Among rules)) h.0 t h.1
