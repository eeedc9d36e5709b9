use Rattle.std.proofs.Common.{refl}
use Rattle.cert_step.specs.ProofProblem as problem
use Rattle.cert_step.specs.ProofProblem.{problem_of}
use Rattle.strategies.specs.declared.strategy.Strategy.TheVariants as strategy
use Rattle.strategies.proofs.ProblemKinds.{is_for_this, answers_for, answers_always, on_peaks}
use Rattle.strategies.proofs.run.search.Goals as goal

pub search_dp-requires-clause-problem : goal.search_dp-requires-clause-problem
search_dp-requires-clause-problem g c = is_for_this (problem_of c.args.problem.now) c.args.strategy strategy.Dp c.requires.kind c.in-Dp.is

pub search_confluence-requires-clause-problem : goal.search_confluence-requires-clause-problem
search_confluence-requires-clause-problem g c = is_for_this (problem_of c.args.problem.now) c.args.strategy strategy.Confluence c.requires.kind c.in-Confluence.is

pub search_graph-requires-clause-pairs : goal.search_graph-requires-clause-pairs
search_graph-requires-clause-pairs g c = is_for_this (problem_of c.args.problem.now) c.args.strategy strategy.Graph c.requires.kind c.in-Graph.is

pub search_on_pairs-requires-clause-on_pairs : goal.search_on_pairs-requires-clause-on_pairs
search_on_pairs-requires-clause-on_pairs g c = is_for_this (problem_of c.args.problem.now) c.args.strategy strategy.Subterm c.requires.kind c.in-Subterm.is

pub search_on_pairs-requires-in-Poly-clause-on_pairs : goal.search_on_pairs-requires-in-Poly-clause-on_pairs
search_on_pairs-requires-in-Poly-clause-on_pairs g c = is_for_this (problem_of c.args.problem.now) c.args.strategy strategy.Poly c.requires.kind c.in-Poly.is

pub search_on_pairs-requires-in-Lpo-clause-on_pairs : goal.search_on_pairs-requires-in-Lpo-clause-on_pairs
search_on_pairs-requires-in-Lpo-clause-on_pairs g c = is_for_this (problem_of c.args.problem.now) c.args.strategy strategy.Lpo c.requires.kind c.in-Lpo.is

pub search_on_pairs-requires-in-Kbo-clause-on_pairs : goal.search_on_pairs-requires-in-Kbo-clause-on_pairs
search_on_pairs-requires-in-Kbo-clause-on_pairs g c = is_for_this (problem_of c.args.problem.now) c.args.strategy strategy.Kbo c.requires.kind c.in-Kbo.is

pub search_on_pairs-requires-in-Usable-clause-on_pairs : goal.search_on_pairs-requires-in-Usable-clause-on_pairs
search_on_pairs-requires-in-Usable-clause-on_pairs g c = is_for_this (problem_of c.args.problem.now) c.args.strategy strategy.Usable c.requires.kind c.in-Usable.is

pub returns-in-Dp-clause-answer : goal.returns-in-Dp-clause-answer
returns-in-Dp-clause-answer g c =
    answers_always c.args.trs.now c.args.budget c.args.strategy strategy.Dp (problem_of c.args.problem.now) _ c.search_dp.result c.ending.result c.in-Dp.is c.ending.ensures
    c.search_dp.ensures.answer

pub returns-in-Graph-clause-answer : goal.returns-in-Graph-clause-answer
returns-in-Graph-clause-answer g c =
    answers_always c.args.trs.now c.args.budget c.args.strategy strategy.Graph (problem_of c.args.problem.now) _ c.search_graph.result c.ending-in-Graph.result c.in-Graph.is c.ending-in-Graph.ensures
    c.search_graph.ensures.answer

pub returns-in-Confluence-clause-answer : goal.returns-in-Confluence-clause-answer
returns-in-Confluence-clause-answer g c =
    answers_always c.args.trs.now c.args.budget c.args.strategy strategy.Confluence (problem_of c.args.problem.now) _ c.search_confluence.result c.ending-in-Confluence.result c.in-Confluence.is c.ending-in-Confluence.ensures
    c.search_confluence.ensures.answer

pub returns-in-Subterm-clause-answer : goal.returns-in-Subterm-clause-answer
returns-in-Subterm-clause-answer g c =
    answers_for c.args.trs.now c.args.budget c.args.strategy strategy.Subterm (problem_of c.args.problem.now) (problem_of c.args.problem.now) _ c.search_on_pairs.result c.in-Subterm.is refl c.search_on_pairs.ensures.answer

pub returns-in-Poly-clause-answer : goal.returns-in-Poly-clause-answer
returns-in-Poly-clause-answer g c =
    answers_for c.args.trs.now c.args.budget c.args.strategy strategy.Poly (problem_of c.args.problem.now) (problem_of c.args.problem.now) _ c.search_on_pairs-in-Poly.result c.in-Poly.is refl c.search_on_pairs-in-Poly.ensures.answer

pub returns-in-Lpo-clause-answer : goal.returns-in-Lpo-clause-answer
returns-in-Lpo-clause-answer g c =
    answers_for c.args.trs.now c.args.budget c.args.strategy strategy.Lpo (problem_of c.args.problem.now) (problem_of c.args.problem.now) _ c.search_on_pairs-in-Lpo.result c.in-Lpo.is refl c.search_on_pairs-in-Lpo.ensures.answer

pub returns-in-Kbo-clause-answer : goal.returns-in-Kbo-clause-answer
returns-in-Kbo-clause-answer g c =
    answers_for c.args.trs.now c.args.budget c.args.strategy strategy.Kbo (problem_of c.args.problem.now) (problem_of c.args.problem.now) _ c.search_on_pairs-in-Kbo.result c.in-Kbo.is refl c.search_on_pairs-in-Kbo.ensures.answer

pub returns-in-Usable-clause-answer : goal.returns-in-Usable-clause-answer
returns-in-Usable-clause-answer g c =
    answers_for c.args.trs.now c.args.budget c.args.strategy strategy.Usable (problem_of c.args.problem.now) (problem_of c.args.problem.now) _ c.search_on_pairs-in-Usable.result c.in-Usable.is refl c.search_on_pairs-in-Usable.ensures.answer

pub returns-in-Loop-clause-answer : goal.returns-in-Loop-clause-answer
returns-in-Loop-clause-answer g c =
    answers_for c.args.trs.now c.args.budget c.args.strategy strategy.Loop (problem_of c.args.problem.now) problem.loop _ c.search_loop.result c.in-Loop.is
    (is_for_this (problem_of c.args.problem.now) c.args.strategy strategy.Loop c.requires.kind c.in-Loop.is) c.search_loop.ensures.answer

pub search_on_peaks-requires-clause-on_peaks : goal.search_on_peaks-requires-clause-on_peaks
search_on_peaks-requires-clause-on_peaks g c =
    on_peaks c.args.strategy c.in_default.not-Dp c.in_default.not-Graph c.in_default.not-Subterm c.in_default.not-Poly c.in_default.not-Lpo c.in_default.not-Kbo c.in_default.not-Usable c.in_default.not-Loop c.in_default.not-Confluence
