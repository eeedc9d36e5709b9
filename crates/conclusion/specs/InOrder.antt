-- Steps whose terms have their variables numbered in the order of their first occurrences.
use Rattle.std.specs.Prelude.{List}
use Rattle.std.specs.List.{AllByRecursion}
use Rattle.trs_defs.specs.System.{System}
use Rattle.trs_defs.specs.Variable.{variables_of}
use Rattle.cert_text.specs.crit_pairs.PeakList.{IsCount}
use Rattle.cert_text.specs.cert_step.ProofProblem.{ProofProblem}
use Rattle.cert_text.specs.cert_step.ProofStep.{ProofStep, ProofNodeStep, fork}
use Rattle.cert_text.specs.cert_step.Applies.{Applies}
use Rattle.cert_text.specs.step_text.Steps.{method_text}

-- the start of a fork has its variables numbered so
abbrev pub StartsInOrder : ProofStep → Type 0
StartsInOrder (fork start left right test) = IsCount 0 (variables_of start)
StartsInOrder _ = Unit {0}

abbrev pub AreInOrder : List ProofNodeStep → Type 0
AreInOrder steps = AllByRecursion (λ s. StartsInOrder s.step) steps

-- a step that applies does so with its variables numbered anew, as it is read where it was printed
abbrev pub StepsApplyInOrder : Type 0
StepsApplyInOrder =
    (system : System) (p : ProofProblem) (s : ProofStep) (subproblems : List ProofProblem)
    → StartsInOrder s → Applies system p s subproblems → Applies system p (method_text s).in_order subproblems
