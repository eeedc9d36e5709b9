use Rattle.confluence_theory.proofs.CriticalCover.{overlap_unifies}
use Rattle.confluence_theory.proofs.overlaps_unify.Goals as goal

pub returns : goal.returns
returns c = record { unified = overlap_unifies }
