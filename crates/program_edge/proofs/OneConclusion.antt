-- A question about a problem text has one status.
use Rattle.std.proofs.Common.{◌≡◌, ℕ, List, refl}
use Rattle.ari_text.proofs.OneSystem.{no_refusal}
use Rattle.command_line.specs.declared.Question.{Question}
use Rattle.program_edge.specs.declared.status.Status.{Status}
use Rattle.program_edge.specs.Conclusions.{IsConclusion, no_system, concluded}

pub one_conclusion : (problem : List ℕ) (question : Question) (workers others budget : ℕ) (s other : Status) (text defined : List ℕ)
    → IsConclusion problem question workers budget s text → IsConclusion problem question others budget other defined → s ≡ other
one_conclusion problem question workers others budget s other text defined (no_system f h m) (no_system g k n) = refl
one_conclusion problem question workers others budget s other text defined (no_system f h m) (concluded named says by) = absurd (m (no_refusal problem named f says h))
one_conclusion problem question workers others budget s other text defined (concluded named says by) (no_system g k n) = absurd (n (no_refusal problem named g says k))
one_conclusion problem question workers others budget s other text defined (concluded named says by) (concluded system told also) = refl
