-- The tops of critical peaks are well-formed.
use Rattle.std.specs.Prelude.{ℕ, ◌+◌, List}
use Rattle.std.proofs.Common.{subst}
use Rattle.trs_defs.specs.Tree.{var}
use Rattle.trs_defs.specs.Renaming.{shifted}
use Rattle.trs_defs.specs.Substitution.{apply}
use Rattle.trs_defs.specs.WellFormed.{IsWellFormed}
use Rattle.trs_defs.specs.System.{RewriteRule}
use Rattle.trs_defs.proofs.WellFormedInstances.{well_formed_image, well_formed_pattern, well_formed_unifier}
use Rattle.trs_defs.proofs.WellFormedness.{subterm_there}
use Rattle.confluence_theory.specs.Peak.{Peak}
use Rattle.confluence_theory.specs.CriticalPeak.{IsCriticalPeak}

pub top_well_formed : (arities : List ℕ) (inner outer : RewriteRule) (p : List ℕ) (peak : Peak) → IsWellFormed arities inner.left → IsWellFormed arities outer.left
    → IsCriticalPeak inner outer p peak → IsWellFormed arities peak.top
top_well_formed arities inner outer p peak inner_left outer_left h =
    let part = (subterm_there arities p outer.left h.part outer_left h.there).well_formed in
    let other : IsWellFormed arities (shifted h.offset inner.left) = well_formed_image arities (λ v. var (h.offset + v)) (λ v. tt) inner.left inner_left in
    let top : IsWellFormed arities (apply h.unifier outer.left) = well_formed_unifier arities h.part (shifted h.offset inner.left) outer.left h.unifier h.most_general part other outer_left in
    well_formed_pattern arities (λ v. var (h.names v)) peak.top (subst (IsWellFormed arities) h.top top)
