-- What a step by an order answers, whichever it is.
use Rattle.std.specs.Prelude.{ℕ, List, Vec, Result}
use Rattle.std.specs.declared.alloc.Global.{Global}
use Rattle.trs_defs.specs.System.{System}
use Rattle.pair_theory.specs.DependencyPair.{dependency_pairs}
use Rattle.dp_graph.specs.dp_core.PairConditions.{pair_conditions}
use Rattle.rewrite_core.specs.declared.checks.refusals.CheckFault.{CheckFault}
use Rattle.rewrite_core.specs.Check.{AnswersBy, Then, Returns}
use Rattle.cert_step.specs.declared.any_order.AnyOrder.{AnyOrder}
use Rattle.cert_step.specs.declared.any_order.AnyOrder.TheVariants.{Poly, Lpo, Kbo}
use Rattle.cert_step.specs.declared.problem.Problem.{Problem}
use Rattle.cert_step.specs.ProofProblem.{dp}
use Rattle.cert_step.specs.ProofStep.{order_step, comparing_of, kind_of}
use Rattle.cert_step.specs.OnPairs.{problem_if_any}
use Rattle.cert_step.specs.Subproblems.{problems_of}

pub order_answers : (order : AnyOrder) (system : System) (numbers : List ℕ) (result : Result (Vec Problem Global) CheckFault)
    → AnswersBy problems_of
    (Then (pair_conditions (comparing_of order) system.rules (dependency_pairs system.rules) numbers) (λ left. Returns (problem_if_any left))) result
    → AnswersBy problems_of ((kind_of (order_step order)).conditions system (dp numbers)) result
order_answers (Poly table) system numbers result h = h
order_answers (Lpo path) system numbers result h = h
order_answers (Kbo knuth) system numbers result h = h
