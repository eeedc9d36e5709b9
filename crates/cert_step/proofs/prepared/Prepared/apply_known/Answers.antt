use Rattle.cert_step.specs.ProofProblem.{problem_of}
use Rattle.cert_step.specs.ProofStep.{step_of}
use Rattle.cert_step.proofs.Dispatch.{sound_answer, well_made_answer}
use Rattle.cert_step.proofs.Once.{not_both}
use Rattle.cert_step.proofs.prepared.Prepared.apply_known.Goals as goal
use Rattle.cert_step.proofs.prepared.Prepared.apply_known.Goals.{in-Ok, in-Err-OutOfMemory}

pub unreachable-requires : goal.unreachable-requires
unreachable-requires c =
    let applies = rw (← c.self.view_is) at c.requires.applies in
    not_both c.self.inside.trs.now c.keeps_system.ensures (problem_of c.args.problem.now) (step_of c.args.step.now) applies.0 c.in-Err-Refused.field-0-0 applies.1
    (rw (c.in-Err-Refused.is, c.in-Err-Refused.field-0-is) at c.left_by_known.ensures.answers)

pub returns-clause-ok : goal.returns-clause-ok
returns-clause-ok c =
    elim c.match-left_by_known.branch [ in-Ok w ↦ rw (w.result-is, ← c.self.view_is) (rw w.in-Ok.is at c.left_by_known.ensures.answers) | in-Err-OutOfMemory w ↦ rw w.result-is tt ]

pub returns-clause-sound : goal.returns-clause-sound
returns-clause-sound c =
    let made = rw (← c.self.view_is) at c.requires.well_made_step in
    let sound = sound_answer c.self.inside.trs.now (problem_of c.args.problem.now) (step_of c.args.step.now) c.left_by_known.result c.keeps_system.ensures made c.left_by_known.ensures.answers in
    elim c.match-left_by_known.branch [ in-Ok w ↦ rw (w.result-is, ← c.self.view_is) (rw w.in-Ok.is at sound) | in-Err-OutOfMemory w ↦ rw w.result-is tt ]

pub returns-clause-well_made : goal.returns-clause-well_made
returns-clause-well_made c =
    let well = rw (← c.self.view_is) at c.requires.well_made_problem in
    let made = rw (← c.self.view_is) at c.requires.well_made_step in
    let each = well_made_answer c.self.inside.trs.now (problem_of c.args.problem.now) (step_of c.args.step.now) c.left_by_known.result well made c.left_by_known.ensures.answers in
    elim c.match-left_by_known.branch [ in-Ok w ↦ rw (w.result-is, ← c.self.view_is) (rw w.in-Ok.is at each) | in-Err-OutOfMemory w ↦ rw w.result-is tt ]
