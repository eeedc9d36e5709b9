-- The goals of a question.
use Rattle.std.specs.Prelude.{ℕ, List, [], ◌∷◌, map, length}
use Rattle.strategies.specs.cert_step.ProofProblem.{ProofProblem}
use Rattle.strategies.specs.cert_step.declared.claim.Claim.{Claim}
use Rattle.tree_definitions.specs.declared.goal.Goal.{Goal}
use Rattle.tree_definitions.specs.declared.goal.Goal.TheVariants as goal
use Rattle.tree_definitions.specs.declared.question.Question.{Question}
use Rattle.tree_definitions.specs.declared.question.Question.TheVariants.{Termination, Confluence, Unique}
use Rattle.tree_definitions.specs.Goals.{goal_root, goal_claim}

-- the goals, in order
abbrev pub goals_for : Question → List Goal
goals_for Termination = goal.Terminating ∷ goal.Nonterminating ∷ []
goals_for Confluence = goal.Confluent ∷ goal.ConfluentNewman ∷ goal.Nonconfluent ∷ []
goals_for Unique = goal.Unique ∷ goal.UniqueNewman ∷ goal.Nonunique ∷ []

abbrev pub goal_count : Question → ℕ
goal_count question = length (goals_for question)

-- the problem with which each goal begins, in the order of the goals
abbrev pub roots : Question → List ProofProblem
roots question = map goal_root (goals_for question)

-- what each goal claims
abbrev pub claims : Question → List Claim
claims question = map goal_claim (goals_for question)
