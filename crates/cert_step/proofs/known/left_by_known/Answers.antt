use Rattle.dp_graph.specs.GroupOrSingle.{items_of}
use Rattle.cert_step.specs.ProofProblem.{problem_of}
use Rattle.cert_step.proofs.KnownSteps.{groups_apply}
use Rattle.cert_step.proofs.known.left_by_known.Goals as goal

pub returns-in_ok-groups-in-Graph-clause-answers : goal.returns-in_ok-groups-in-Graph-clause-answers
returns-in_ok-groups-in-Graph-clause-answers c =
    rw c.in-Graph.is
    (groups_apply c.args.trs.now (items_of c.in-Graph.items.items) (problem_of c.args.problem.now) c.in_ok-groups-in-Graph.field-0 (rw c.in-Graph.is at c.requires.applies)
    (rw c.deref.ensures.value at c.in_ok-groups-in-Graph.ensures))
