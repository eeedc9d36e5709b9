use Rattle.std.proofs.Common.{refl}
use Rattle.std.proofs.lemmas.Option.{slice_get_read}
use Rattle.cert_text.specs.cert_step.ProofProblem.{problem_of}
use Rattle.certifier.proofs.NodeLists.{open_there, problem_there}
use Rattle.certifier.proofs.MadeSteps.{step_stuck}
use Rattle.certifier.proofs.steps.subproblems_of.Goals as goal

pub returns-then-not-node-clause-stuck : goal.returns-then-not-node-clause-stuck
returns-then-not-node-clause-stuck c =
    let found = c.in-Some.ensures.lookup.3 in
    let node = c.in-Some.node.now in
    (refl, (node, slice_get_read c.args.nodes.now _ c.args.step.now.node node refl found.0 (found.1 node), rw (← c.node.view_is) c.if-not-node.true))

pub apply-requires-clause-well_made_problem : goal.apply-requires-clause-well_made_problem
apply-requires-clause-well_made_problem c =
    let found = c.in-Some.ensures.lookup.3 in
    let node = c.in-Some.node.now in
    problem_there c.args.nodes.now c.args.step.now.node node (problem_of c.node.inside.problem) c.node.inside.is_open c.node.view_is found.0 (found.1 node)
    c.args.prepared.now c.requires.nodes

pub returns-in-Ok-clause-leaves : goal.returns-in-Ok-clause-leaves
returns-in-Ok-clause-leaves c =
    let found = c.in-Some.ensures.lookup.3 in
    let node = c.in-Some.node.now in
    record {
      problem = problem_of c.node.inside.problem;
      there = open_there c.args.nodes.now c.args.step.now.node node (problem_of c.node.inside.problem) c.node.inside.is_open c.node.view_is found.0 (found.1 node)
          c.if-not-node.false;
      applies = c.in-Ok.ensures.ok;
    }

pub returns-in-Err-clause-stuck : goal.returns-in-Err-clause-stuck
returns-in-Err-clause-stuck c =
    let found = c.in-Some.ensures.lookup.3 in
    let node = c.in-Some.node.now in
    rw c.of_step.ensures
    (step_stuck c.args.prepared.now c.args.nodes.now c.args.step.now c.args.number (problem_of c.node.inside.problem) c.in-Err.fault
    (open_there c.args.nodes.now c.args.step.now.node node (problem_of c.node.inside.problem) c.node.inside.is_open c.node.view_is found.0 (found.1 node)
    c.if-not-node.false) c.in-Err.ensures.refused)
