-- The peaks at one spot.
use Rattle.std.proofs.Common.{◌≡◌, ℕ, Bool, true, false, List, [], ◌∷◌, Some, length, slice_get, refl, sym, subst, arith, ◌∙◌}
use Rattle.std.specs.Prelude.{◌&&◌, ◌==◌}
use Rattle.std.proofs.lemmas.Bool.{eq-eqb, eqb-true}
use Rattle.trs_defs.specs.Tree.{Tree}
use Rattle.trs_defs.specs.Renaming.{shifted}
use Rattle.trs_defs.specs.System.{RewriteRule}
use Rattle.trs_core.specs.SystemLimits.{HasSmallVariables, HaveSmallVariables}
use Rattle.crit_pairs.specs.PeakList.{Spot, is_root, unless, OverlapsAt}
use Rattle.crit_pairs.specs.Walk.{spot_unless, IsPartOf}
use Rattle.crit_pairs.specs.Apart.{renamed_apart}
use Rattle.crit_pairs.specs.Sides.{DoNotMeet}
use Rattle.crit_pairs.specs.Table.{PeaksAt, no_spot, no_peak}
use Rattle.crit_pairs.proofs.SpotWalk.{OverlapsUnify, small_of, none_there}

unless_none : (rules : List RewriteRule) (b : Bool) (s : Spot) → (OverlapsAt rules s → ⊥) → PeaksAt rules (unless b s []) []
unless_none rules true s none = no_spot
unless_none rules false s none = no_peak none no_spot

-- a rule that does not meet the part
pub none_apart : OverlapsUnify → (rules : List RewriteRule) → HaveSmallVariables rules → (j : ℕ) (p : List ℕ) (part : Tree) → IsPartOf rules j p part → (i : ℕ) (inner : RewriteRule)
    → slice_get rules i ≡ Some inner → DoNotMeet part (shifted 65536 inner.left) → PeaksAt rules (spot_unless j p i) []
none_apart unified rules small j p part at i inner numbered none =
    let outer_small : HasSmallVariables at.outer.left = (small_of rules j at.outer small at.numbered).0 in
    unless_none rules (is_root p && i == j) (record { outer = j; place = p; inner = i })
    (none_there rules j i p part inner (renamed_apart inner) at.outer refl numbered at.numbered at.there outer_small unified none)

-- a rule in itself at the root
pub none_itself : (rules : List RewriteRule) (j i : ℕ) (p : List ℕ) → p ≡ [] → i ≡ j → PeaksAt rules (spot_unless j p i) []
none_itself rules j i p root same =
    let P : List ℕ → Type 0 = λ q. PeaksAt rules (spot_unless j q i) [] in
    let B : Bool → Type 0 = λ b. PeaksAt rules (unless b (record { outer = j; place = []; inner = i }) []) [] in
    subst P (sym root) (subst B (sym (eq-eqb i j same)) no_spot)

-- an empty place
pub no_places : (p : List ℕ) (b : Bool) → b ≡ (length p == 0) → b ≡ true → p ≡ []
no_places [] b e h = refl
no_places (n ∷ p) b e h = absurd (let none : length (n ∷ p) ≡ 0 = eqb-true (length (n ∷ p)) 0 (sym e ∙ h) in omega (arith, none))
