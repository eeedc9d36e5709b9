use Rattle.std.proofs.Common.{map}
use Rattle.worker_pool.specs.cert_step.ProofStep.{node_step_of}
use Rattle.sampling.proofs.WonGoals.{no_other, won_proved, won_refuted, true_proved, true_refuted}
use Rattle.sampling.proofs.judging.won.Goals as goal

pub returns-in-Terminating-clause-is_true : goal.returns-in-Terminating-clause-is_true
returns-in-Terminating-clause-is_true c =
    let proof = c.in_ok-proof.proof in
    true_proved c.args.tree.now.system c.args.tree.now.budget proof.claim (map node_step_of proof.steps.items) c.in_ok-proof.ensures.accepted c.in_ok-proof.ensures.true_claim
    c.in-Terminating.is

pub returns-in-Terminating-clause-of_tree : goal.returns-in-Terminating-clause-of_tree
returns-in-Terminating-clause-of_tree c =
    let g = c.requires.won.0 in
    won_proved c.args.tree.now c.requires.question c.in_ok-proof.proof.claim (record { g = g; won = c.requires.won.1; claims_it = c.in_ok-proof.ensures.claim g c.requires.won.1 })
    c.in-Terminating.is

pub returns-in-Nonterminating-clause-is_true : goal.returns-in-Nonterminating-clause-is_true
returns-in-Nonterminating-clause-is_true c =
    let proof = c.in_ok-proof.proof in
    true_refuted c.args.tree.now.system c.args.tree.now.budget proof.claim (map node_step_of proof.steps.items) c.in_ok-proof.ensures.accepted c.in_ok-proof.ensures.true_claim
    c.in-Nonterminating.is

pub returns-in-Nonterminating-clause-of_tree : goal.returns-in-Nonterminating-clause-of_tree
returns-in-Nonterminating-clause-of_tree c =
    let g = c.requires.won.0 in
    won_refuted c.args.tree.now c.requires.question c.in_ok-proof.proof.claim (record { g = g; won = c.requires.won.1; claims_it = c.in_ok-proof.ensures.claim g c.requires.won.1 })
    c.in-Nonterminating.is

pub unreachable-requires : goal.unreachable-requires
unreachable-requires c =
    let g = c.requires.won.0 in
    no_other c.args.tree.now c.requires.question c.in_ok-proof.proof.claim (record { g = g; won = c.requires.won.1; claims_it = c.in_ok-proof.ensures.claim g c.requires.won.1 })
    c.in_default.not-Terminating c.in_default.not-Nonterminating
