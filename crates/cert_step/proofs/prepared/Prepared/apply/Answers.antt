use Rattle.rewrite_core.proofs.Answering.{only_answer}
use Rattle.cert_step.specs.ProofProblem.{problem_of}
use Rattle.cert_step.specs.ProofStep.{step_of}
use Rattle.cert_step.specs.Applies.{step_conditions}
use Rattle.cert_step.specs.Subproblems.{problems_of}
use Rattle.cert_step.proofs.Once.{step_once}
use Rattle.cert_step.proofs.Dispatch.{sound_answer, well_made_answer}
use Rattle.cert_step.proofs.prepared.Prepared.apply.Goals as goal

pub returns-clause-only : goal.returns-clause-only
returns-clause-only c =
    let system = c.self.inside.trs.now in
    rw (← c.self.view_is) (λ left applies.
    only_answer (step_conditions system (problem_of c.args.problem.now) (step_of c.args.step.now)) problems_of c.check.result left
    (step_once system c.keeps_system.ensures (problem_of c.args.problem.now) (step_of c.args.step.now)) c.check.ensures.answers applies)

pub returns-clause-sound : goal.returns-clause-sound
returns-clause-sound c =
    rw (← c.self.view_is)
    (sound_answer c.self.inside.trs.now (problem_of c.args.problem.now) (step_of c.args.step.now) c.check.result c.keeps_system.ensures
    (rw (← c.self.view_is) at c.requires.well_made_step) c.check.ensures.answers)

pub returns-clause-well_made : goal.returns-clause-well_made
returns-clause-well_made c =
    rw (← c.self.view_is)
    (well_made_answer c.self.inside.trs.now (problem_of c.args.problem.now) (step_of c.args.step.now) c.check.result
    (rw (← c.self.view_is) at c.requires.well_made_problem) (rw (← c.self.view_is) at c.requires.well_made_step) c.check.ensures.answers)
