-- Steps that are read one after another.
use Rattle.std.proofs.Common.{◌≡◌, ℕ, Bool, true, false, cond, List, [], ◌∷◌, ◌++◌, map, Ok, Err, codes, sym, ap, ◌∙◌}
use Rattle.std.proofs.lemmas.List.{map-append}
use Rattle.step_text.specs.cert_step.declared.step.NodeStep.{NodeStep}
use Rattle.step_text.specs.cert_step.ProofStep.{ProofNodeStep, node_step_of}
use Rattle.text_reading.specs.Reading.{Read}
use Rattle.text_reading.specs.Seen.{seen}

pub mapped_more : (steps : List NodeStep) (s : NodeStep) (more : List NodeStep) → more ≡ steps ++ s ∷ [] → map node_step_of more ≡ map node_step_of steps ++ node_step_of s ∷ []
mapped_more steps s more e = ap (map node_step_of) e ∙ map-append node_step_of steps (s ∷ [])

pub read_as : (r : Read NodeStep) (s : NodeStep) (a : Read ProofNodeStep) → seen node_step_of r ≡ a → r ≡ Ok s → a ≡ Ok (node_step_of s)
read_as r s a e is = sym e ∙ ap (seen node_step_of) is

pub refused_as : (r : Read NodeStep) (p : ℕ) (a : Read ProofNodeStep) → seen node_step_of r ≡ a → r ≡ Err p → a ≡ Err p
refused_as r p a e is = sym e ∙ ap (seen node_step_of) is
