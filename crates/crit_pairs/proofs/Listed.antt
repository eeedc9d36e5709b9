-- What a listed peak is.
use Rattle.std.proofs.Common.{◌≡◌, ℕ, List, Result, Ok, Err, Some, slice_get, inl, inr, refl, sym, ap, subst, ◌∙◌}
use Rattle.std.proofs.lemmas.Option.{same_Some}
use Rattle.trs_defs.specs.Member.{In, in_first, in_rest}
use Rattle.trs_defs.specs.Tree.{Tree, app, nil}
use Rattle.trs_defs.specs.Substitution.{apply}
use Rattle.trs_defs.specs.Position.{subterm_at}
use Rattle.trs_defs.specs.System.{RewriteRule, System, IsSystem}
use Rattle.trs_defs.specs.Unifier.{IsMostGeneralUnifier}
use Rattle.trs_defs.proofs.Contexts.{replaced_somehow}
use Rattle.trs_defs.proofs.Members.{in_or, no_in}
use Rattle.term_pool.specs.LeftSides.{IsGround}
use Rattle.trs_core.specs.SystemLimits.{HasSmallVariables, HaveSmallVariables}
use Rattle.rewrite_core.specs.PlacedPeak.{PlacedPeak}
use Rattle.crit_pairs.specs.Apart.{renamed_apart}
use Rattle.crit_pairs.specs.MadePairs.{spot}
use Rattle.crit_pairs.specs.PeakList.{Spot, spots, OverlapsAt, IsPeakAt, Lists, at_end, no_overlap, one_peak, fault_later, too_large, too_many, IsListed}
use Rattle.crit_pairs.specs.Sides.{AreRenumbered, DoNotMeet}
use Rattle.crit_pairs.specs.declared.faults.PeakFault.{PeakFault}
use Rattle.crit_pairs.proofs.FoundPeaks.{found_peak}
use Rattle.crit_pairs.proofs.OnePeak.{peak_once}
use Rattle.crit_pairs.proofs.Renumbering.{beside_others}
use Rattle.crit_pairs.proofs.Spots.{peak_overlaps}
use Rattle.crit_pairs.proofs.SpotWalk.{OverlapsUnify, none_there, small_of}

abbrev AreAtSpots : List RewriteRule → List Spot → Result (List PlacedPeak) PeakFault → Type 0
AreAtSpots rules left (Ok ps) = (p : PlacedPeak) → In p ps → (s : Spot) × In s left × IsPeakAt rules s p
AreAtSpots rules left (Err e) = Unit {0}

at_spots : {rules : List RewriteRule} {total : ℕ} {left : List Spot} {a : Result (List PlacedPeak) PeakFault} → Lists rules total left a → AreAtSpots rules left a
at_spots at_end = λ p h. absurd (no_in h)
at_spots {a = Ok ps} (no_overlap none l) = λ p h. let (s, at, is) = at_spots l p h in (s, in_rest at, is)
at_spots {a = Err e} (no_overlap none l) = tt
at_spots {rules = rules} (one_peak {s = s} is small few l) = λ p h. elim (in_or h) [
  | inl e ↦ (s, in_first, subst (λ z. IsPeakAt rules s z) (sym e) is)
  | inr k ↦ let (t, at, later) = at_spots l p k in (t, in_rest at, later)
]
at_spots (fault_later is small few l) = tt
at_spots (too_large is large) = tt
at_spots (too_many is small many) = tt

same_spot : {o o' i i' : ℕ} {p p' : List ℕ} → o ≡ o' → p ≡ p' → i ≡ i' → ◌≡◌ {A = Spot} (record { outer = o; place = p; inner = i }) (record { outer = o'; place = p'; inner = i' })
same_spot a b c = cc (a, b, c)

-- its rules have it at its place, and overlap there
pub record IsOwn (rules : List RewriteRule) (p : PlacedPeak) : Type 0 where
  pub at : IsPeakAt rules (spot p.outer p.place p.inner) p
  pub overlap : OverlapsAt rules (spot p.outer p.place p.inner)

own_of : (rules : List RewriteRule) (p : PlacedPeak) → ((s : Spot) × In s (spots rules) × IsPeakAt rules s p) → IsOwn rules p
own_of rules p (s, is_spot, is) =
    let same : s ≡ spot p.outer p.place p.inner = same_spot (sym is.is_outer) (sym is.is_place) (sym is.is_inner) in
    record { at = subst (λ z. IsPeakAt rules z p) same is; overlap = subst (OverlapsAt rules) same (peak_overlaps rules s p is_spot is) }

pub listed_own : (rules : List RewriteRule) (p : PlacedPeak) → IsListed rules p → IsOwn rules p
listed_own rules p listed = own_of rules p (at_spots listed.lists p listed.is_one)

-- what is found again of a listed peak
module _ (system : System) (valid : IsSystem system) (small : HaveSmallVariables system.rules) (p : PlacedPeak) (own : IsOwn system.rules p)
    (outer inner : RewriteRule) (outer_is : slice_get system.rules p.outer ≡ Some outer) (inner_is : slice_get system.rules p.inner ≡ Some inner) where
  pub part_there : (part : Tree) × (subterm_at p.place outer.left ≡ Some part)
  part_there =
      let same : own.at.outer ≡ outer = same_Some own.at.outer outer (sym own.at.outer_numbered ∙ outer_is) in
      (own.at.critical.part, subst (λ r. subterm_at p.place r.left ≡ Some own.at.critical.part) same own.at.critical.there)

  outer_small : HasSmallVariables outer.left
  outer_small = (small_of system.rules p.outer outer small outer_is).0

  module _ (part : Tree) (there : subterm_at p.place outer.left ≡ Some part) where
    pub meets : OverlapsUnify → DoNotMeet part (renamed_apart inner).left → ⊥
    meets unified none = none_there system.rules p.outer p.inner p.place part inner (renamed_apart inner) outer refl inner_is outer_is there outer_small unified none own.overlap

    -- a top that gets its numbers beside other results is the same
    pub same_top : (unifier : ℕ → Tree) → IsMostGeneralUnifier part (renamed_apart inner).left unifier → (t : Tree)
        → ((left right : Tree) → IsGround left → IsGround right → AreRenumbered (apply unifier outer.left) left right t left right) → t ≡ p.top
    same_top unifier most_general t beside =
        let constant : Tree = app 0 nil in
        let alone = beside constant constant (λ v. refl) (λ v. refl) in
        let (u, replaced) = replaced_somehow p.place outer.left part (renamed_apart inner).right there in
        let (l, r, renumbered) = beside_others (apply unifier outer.left) constant constant t constant constant (apply unifier u) (apply unifier outer.right) alone in
        let made = found_peak system.rules p.outer p.inner p.place part inner outer outer_is inner_is there small unifier most_general u replaced t l r renumbered in
        ap (λ (q : PlacedPeak). q.top) (peak_once system valid (spot p.outer p.place p.inner) (record { outer = p.outer; place = p.place; inner = p.inner; top = t; left = l; right = r }) p made own.at)
