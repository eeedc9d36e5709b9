-- Steps that can be printed.
use Rattle.std.specs.Prelude.{◌≡◌, ◌<◌, ◌^◌}
use Rattle.trs_defs.specs.System.{System}
use Rattle.cert_step.specs.ProofStep.{ProofStep, ProofNodeStep, IsWellMade}
use Rattle.step_text.specs.Steps.{method_text, step_renumbered}

-- the step is well-made, and the number of its node can be read
abbrev pub IsPrintable : System → ProofNodeStep → Type 0
IsPrintable system s = IsWellMade system s.step × (s.node < 2 ^ 63)

abbrev pub HasNumbersInRange : ProofStep → Type 0
HasNumbersInRange s = (method_text s).is_in_range

-- what is known of a step that is read: it is well-made for the system, its numbers can be read, and the variables of its term
-- are numbered in the order of their first occurrences
abbrev pub IsReadMethod : System → ProofStep → Type 0
IsReadMethod system s = IsWellMade system s × HasNumbersInRange s × ((method_text s).in_order ≡ s)

-- a step that is well-made for the system, and all of whose numbers can be read
pub record IsWellMadeInRange (system : System) (s : ProofNodeStep) : Type 0 where
  pub well_made : IsWellMade system s.step
  pub node : s.node < 2 ^ 63
  pub numbers : HasNumbersInRange s.step

-- what is known of a step that is read, with the number of its node
pub record IsReadStep (system : System) (s : ProofNodeStep) : Type 0 where
  pub made : IsWellMadeInRange system s
  pub in_order : step_renumbered s ≡ s
