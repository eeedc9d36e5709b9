use Rattle.std.proofs.Common.{◌≡◌, ◌∷◌, [], length, map, take, None, refl}
use Rattle.tree_definitions.specs.cert_step.ProofProblem as problem
use Rattle.tree_definitions.specs.cert_step.ProofProblem.{ProofProblem, problem_of}
use Rattle.tree_definitions.specs.strategies.Kinds.{strategies_for}
use Rattle.tree_definitions.specs.declared.mark.Mark.TheVariants.{Idle}
use Rattle.tree_state.proofs.node.Node.new.Goals as goal

fresh_marks : (p : ProofProblem) → take (length (strategies_for p)) (Idle ∷ Idle ∷ Idle ∷ Idle ∷ Idle ∷ Idle ∷ []) ≡ map (λ _. Idle) (strategies_for p)
fresh_marks problem.sn = refl
fresh_marks (problem.dp pairs) = refl
fresh_marks problem.loop = refl
fresh_marks problem.cr = refl
fresh_marks problem.cr_newman = refl
fresh_marks problem.fork = refl
fresh_marks problem.unr = refl
fresh_marks problem.unr_newman = refl
fresh_marks problem.split = refl

pub returns-clause-seen : goal.returns-clause-seen
returns-clause-seen c = λ history i.
    record { goal = c.args.goal; problem = problem_of c.args.problem; decision = None; marks = fresh_marks (problem_of c.args.problem) i }
