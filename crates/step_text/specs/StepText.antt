-- How a step of some kind is written.
use Rattle.std.specs.Prelude.{List}
use Rattle.sexp_core.specs.Items.{Item}
use Rattle.trs_defs.specs.Path.{PlacedRule}
use Rattle.names_text.specs.Named.{NamedSystem}
use Rattle.cert_step.specs.ProofStep.{ProofStep}

pub record StepText : Type 1 where
  -- what it is printed as, where these paths have names
  pub item : NamedSystem → List (List PlacedRule) → Item
  -- what this is read as: the step, with the variables of its terms numbered in the order of their first occurrences
  pub in_order : ProofStep
  -- the paths that are written as such, in the order of the text
  pub paths : List (List PlacedRule)
  -- the numbers in its positions, and those of rules, can be read
  pub is_in_range : Type 0
