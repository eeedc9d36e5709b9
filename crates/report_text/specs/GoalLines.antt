-- The text of a report: one line for each goal.
use Rattle.std.specs.Prelude.{ℕ, List, [], ◌∷◌, ◌++◌, map, codes}
use Rattle.sexp_core.specs.Items.{Item, items_of}
use Rattle.sexp_core.specs.Printed.{lines}
use Rattle.names_text.specs.Named.{NamedSystem}
use Rattle.step_text.specs.cert_step.ProofProblem as problem
use Rattle.step_text.specs.cert_step.ProofProblem.{ProofProblem}
use Rattle.text_reading.specs.Printed.{word_item, number_item, list_item}
use Rattle.step_text.specs.Steps.{step_item}
use Rattle.tree_definitions.specs.strategies.declared.failure.Failure.{Failure}
use Rattle.tree_definitions.specs.strategies.declared.failure.Failure.TheVariants.{NotThere, Spent}
use Rattle.tree_definitions.specs.strategies.declared.strategy.Strategy.{Strategy}
use Rattle.tree_definitions.specs.strategies.Kinds.{word_of}
use Rattle.tree_definitions.specs.declared.question.Question.{Question}
use Rattle.tree_definitions.specs.Goals.{goal_word}
use Rattle.tree_definitions.specs.Questions.{goals_for}
use Rattle.tree_definitions.specs.Reports.{Part}

-- the words of a question's goals, in order
abbrev pub goal_words : Question → List (List ℕ)
goal_words question = map goal_word (goals_for question)

-- a problem by its word, and the numbers of its pairs
abbrev pub problem_items : ProofProblem → List Item
problem_items problem.sn = word_item (codes "sn") ∷ []
problem_items (problem.dp pairs) = word_item (codes "dp") ∷ map number_item pairs
problem_items problem.loop = word_item (codes "loop") ∷ []
problem_items problem.cr = word_item (codes "cr") ∷ []
problem_items problem.cr_newman = word_item (codes "cr-newman") ∷ []
problem_items problem.fork = word_item (codes "fork") ∷ []
problem_items problem.unr = word_item (codes "unr") ∷ []
problem_items problem.unr_newman = word_item (codes "unr-newman") ∷ []
problem_items problem.split = word_item (codes "split") ∷ []

-- `(stuck node problem)`
abbrev pub stuck_item : ℕ → ProofProblem → Item
stuck_item node p = list_item (word_item (codes "stuck") ∷ number_item node ∷ problem_items p)

-- why a strategy failed: its search has no solution, or its budget was spent
abbrev pub reason_word : Failure → List ℕ
reason_word NotThere = codes "none"
reason_word Spent = codes "spent"

-- `(failed strategy reason)`
abbrev pub failed_item : Strategy × Failure → Item
failed_item f = list_item (word_item (codes "failed") ∷ word_item (word_of f.0) ∷ word_item (reason_word f.1) ∷ [])

-- `(goal word step .. (stuck node problem) (failed strategy reason) ..)`
abbrev pub goal_item : NamedSystem → List ℕ → Part → Item
goal_item named word part =
    list_item (word_item (codes "goal") ∷ word_item word
    ∷ map (step_item named []) part.steps ++ stuck_item part.node part.problem ∷ map failed_item part.failed)

-- the goals with these words, in order
abbrev pub goal_items : NamedSystem → List (List ℕ) → List Part → List Item
goal_items named (word ∷ words) (part ∷ parts) = goal_item named word part ∷ goal_items named words parts
goal_items named _ _ = []

-- a line for each goal of the question
abbrev pub report_lines : NamedSystem → Question → List Part → List ℕ
report_lines named question parts = lines (items_of (goal_items named (goal_words question) parts))
