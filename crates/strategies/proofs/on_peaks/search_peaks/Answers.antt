use Rattle.strategies.proofs.ProblemKinds.{is_for_this, answers_for, none_else}
use Rattle.cert_step.specs.ProofProblem as problem
use Rattle.cert_step.specs.ProofProblem.{problem_of}
use Rattle.strategies.specs.declared.strategy.Strategy.TheVariants as strategy
use Rattle.strategies.proofs.on_peaks.search_peaks.Goals as goal

pub returns-in-Parallel-clause-answer : goal.returns-in-Parallel-clause-answer
returns-in-Parallel-clause-answer g c =
    answers_for c.args.trs.now c.args.budget c.args.strategy strategy.Parallel (problem_of c.args.problem.now) problem.cr _ c.search_among.result c.in-Parallel.is
    (is_for_this (problem_of c.args.problem.now) c.args.strategy strategy.Parallel c.requires.kind c.in-Parallel.is) c.search_among.ensures.answer

pub returns-in-Strong-clause-answer : goal.returns-in-Strong-clause-answer
returns-in-Strong-clause-answer g c =
    answers_for c.args.trs.now c.args.budget c.args.strategy strategy.Strong (problem_of c.args.problem.now) problem.cr _ c.search_among-in-Strong.result c.in-Strong.is
    (is_for_this (problem_of c.args.problem.now) c.args.strategy strategy.Strong c.requires.kind c.in-Strong.is) c.search_among-in-Strong.ensures.answer

pub returns-in-Label-clause-answer : goal.returns-in-Label-clause-answer
returns-in-Label-clause-answer g c =
    answers_for c.args.trs.now c.args.budget c.args.strategy strategy.Label (problem_of c.args.problem.now) problem.cr _ c.search_among-in-Label.result c.in-Label.is
    (is_for_this (problem_of c.args.problem.now) c.args.strategy strategy.Label c.requires.kind c.in-Label.is) c.search_among-in-Label.ensures.answer

pub returns-in-Newman-clause-answer : goal.returns-in-Newman-clause-answer
returns-in-Newman-clause-answer g c =
    answers_for c.args.trs.now c.args.budget c.args.strategy strategy.Newman (problem_of c.args.problem.now) problem.cr_newman _ c.search_among-in-Newman.result c.in-Newman.is
    (is_for_this (problem_of c.args.problem.now) c.args.strategy strategy.Newman c.requires.kind c.in-Newman.is) c.search_among-in-Newman.ensures.answer

pub returns-in-Fork-clause-answer : goal.returns-in-Fork-clause-answer
returns-in-Fork-clause-answer g c =
    answers_for c.args.trs.now c.args.budget c.args.strategy strategy.Fork (problem_of c.args.problem.now) problem.fork _ c.search_among-in-Fork.result c.in-Fork.is
    (is_for_this (problem_of c.args.problem.now) c.args.strategy strategy.Fork c.requires.kind c.in-Fork.is) c.search_among-in-Fork.ensures.answer

pub returns-in-Split-clause-answer : goal.returns-in-Split-clause-answer
returns-in-Split-clause-answer g c =
    answers_for c.args.trs.now c.args.budget c.args.strategy strategy.Split (problem_of c.args.problem.now) problem.split _ c.search_among-in-Split.result c.in-Split.is
    (is_for_this (problem_of c.args.problem.now) c.args.strategy strategy.Split c.requires.kind c.in-Split.is) c.search_among-in-Split.ensures.answer

pub unreachable-requires : goal.unreachable-requires
unreachable-requires g c =
    none_else c.args.strategy c.requires.on_peaks c.in_default.not-Parallel c.in_default.not-Strong c.in_default.not-Label c.in_default.not-Newman c.in_default.not-Fork c.in_default.not-Split
