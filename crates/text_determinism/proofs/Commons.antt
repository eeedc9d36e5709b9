-- The first term that two lists have in common is one, and so is the list of a term and its reducts.
use Rattle.std.specs.Prelude.{◌≡◌, ℕ, false, List, ◌∷◌, refl}
use Rattle.std.proofs.Common.{ap, ap₂, sym, ◌∙◌, subst}
use Rattle.trs_defs.specs.Tree.{Tree}
use Rattle.trs_defs.specs.System.{System, IsSystem}
use Rattle.trs_defs.specs.Path.{PlacedRule}
use Rattle.trs_defs.proofs.Places.{steps_at_once}
use Rattle.term_pool.specs.Listed.{Listed, HasTerm}
use Rattle.term_pool.specs.Reach.{AreReducts, no_step, kept, left_out, after_step, is_kept}
use Rattle.term_pool.proofs.ReachOnce.{redexes_once}
use Rattle.rewrite_core.specs.PathsOfJoin.{PathsOfJoin}
use Rattle.conclusion.specs.report_text.strategies.join_find.First.{First}
use Rattle.conclusion.specs.report_text.strategies.join_find.Common.{IsFirstCommon, HasNoCommon}
use Rattle.conclusion.specs.report_text.strategies.join_find.StrongRow.{itself, IsNearList}
use Rattle.text_determinism.proofs.Firsts.{first_once, first_is_some}

abbrev pub join_of : List PlacedRule → List PlacedRule → PathsOfJoin
join_of left right = record { left = left; right = right }

common_once : (lefts rights : List Listed) (a b : PathsOfJoin) → IsFirstCommon lefts rights a → IsFirstCommon lefts rights b → a ≡ b
common_once lefts rights a b h k =
    let first = first_once (λ (e : Listed). HasTerm e.term rights) h.first_left k.first_left in
    let term : h.term ≡ k.term = ap (λ (e : Listed). e.term) first in
    let left : a.left ≡ b.left = ap (λ (e : Listed). e.path) first in
    let other = first_once (λ (e : Listed). e.term ≡ k.term)
    (subst (λ (t : Tree). First (λ (e : Listed). e.term ≡ t) rights (record { term = t; path = a.right })) term h.first_right) k.first_right in
    let right : a.right ≡ b.right = ap (λ (e : Listed). e.path) other in
    ap₂ join_of left right

-- the lists are equal to others
pub common_same : (lefts others rights more : List Listed) → lefts ≡ others → rights ≡ more → (a b : PathsOfJoin)
    → IsFirstCommon lefts rights a → IsFirstCommon others more b → a ≡ b
common_same lefts others rights more left right a b h k =
    common_once others more a b (subst (λ xs. IsFirstCommon others xs a) right (subst (λ xs. IsFirstCommon xs rights a) left h)) k

pub common_or_none : (lefts others rights more : List Listed) → lefts ≡ others → rights ≡ more → (a : PathsOfJoin)
    → IsFirstCommon lefts rights a → HasNoCommon others more → ⊥
common_or_none lefts others rights more left right a h k =
    let here : IsFirstCommon others more a = subst (λ xs. IsFirstCommon others xs a) right (subst (λ xs. IsFirstCommon xs rights a) left h) in
    let (e, there, has) = first_is_some here.first_left in
    k.none e there has

module _ (system : System) (valid : IsSystem system) where
  reducts_once : (size : ℕ) (e : Listed) {ss : List PlacedRule} {cs ds : List Listed} → AreReducts system.rules size e ss cs
      → AreReducts system.rules size e ss ds → cs ≡ ds
  reducts_once size e no_step no_step = refl
  reducts_once size e (kept {s = s} {u = u} step small rest) (kept {u = v} other fits more) =
      ap₂ (λ t cs. after_step e s t ∷ cs) (steps_at_once system s.place s.rule e.term u v valid step other) (reducts_once size e rest more)
  reducts_once size e (kept {s = s} {u = u} step small rest) (left_out {u = v} other large more) =
      let same : u ≡ v = steps_at_once system s.place s.rule e.term u v valid step other in
      let large_too : is_kept size u ≡ false = subst (λ (x : Tree). is_kept size x ≡ false) (sym same) large in
      absurd (cc (small, large_too))
  reducts_once size e (left_out {s = s} {u = u} step large rest) (kept {u = v} other small more) =
      let same : u ≡ v = steps_at_once system s.place s.rule e.term u v valid step other in
      let large_too : is_kept size v ≡ false = subst (λ (x : Tree). is_kept size x ≡ false) same large in
      absurd (cc (small, large_too))
  reducts_once size e (left_out step large rest) (left_out other big more) = reducts_once size e rest more

  pub near_once : (t : Tree) (es fs : List Listed) → IsNearList system.rules t es → IsNearList system.rules t fs → es ≡ fs
  near_once t es fs h k =
      let redexes : h.redexes ≡ k.redexes = redexes_once system t h.redexes k.redexes h.are_redexes k.are_redexes in
      let reducts : h.reducts ≡ k.reducts =
      reducts_once 65536 (itself t)
      (subst (λ (ss : List PlacedRule). AreReducts system.rules 65536 (itself t) ss h.reducts) redexes h.are_reducts) k.are_reducts in
      h.listed ∙ (ap (λ (cs : List Listed). itself t ∷ cs) reducts ∙ sym k.listed)
