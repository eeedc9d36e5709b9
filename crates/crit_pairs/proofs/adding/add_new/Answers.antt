use Rattle.std.proofs.Common.{◌≡◌, ◌<◌, ℕ, List, Some, slice_get, get_or, length, arith, ap, refl, ◌∙◌, sym, subst}
use Rattle.std.proofs.lemmas.Option.{slice_get_read}
use Rattle.trs_defs.specs.Position.{subterm_at}
use Rattle.trs_defs.specs.System.{RewriteRule}
use Rattle.trs_defs.specs.Tree.{Tree}
use Rattle.trs_defs.specs.Unifier.{IsMostGeneralUnifier}
use Rattle.trs_core.specs.SystemLimits.{HasSmallVariables}
use Rattle.trs_core.specs.View.{tree}
use Rattle.crit_pairs.specs.Apart.{renamed_apart}
use Rattle.crit_pairs.specs.MadePairs.{spot}
use Rattle.crit_pairs.specs.Overlapping.{substitution}
use Rattle.crit_pairs.specs.Sides.{DoNotMeet}
use Rattle.crit_pairs.proofs.Keeping.{none_kept}
use Rattle.crit_pairs.proofs.RepeatedPeaks.{adds_too, adds_still}
use Rattle.crit_pairs.proofs.SpotWalk.{part_there, part_inside, small_of, none_there, moves_past}
use Rattle.crit_pairs.proofs.adding.add_new.Goals.{After-apart_left-inner_left}
use Rattle.crit_pairs.proofs.adding.add_new.Goals as goal

-- a rule is read
numbered : (rules list : List RewriteRule) → list ≡ rules → (k : ℕ) → k < length rules → (r : RewriteRule) → r ≡ get_or list k r → slice_get rules k ≡ Some r
numbered rules list same k below r is =
    let count : length list ≡ length rules = ap length same in
    ap (λ rs. slice_get rs k) (sym same) ∙ slice_get_read list (length list) k r refl (omega (arith, below, count)) is

-- the outer rule has the part
outer_numbered : (g : _) (c : After-apart_left-inner_left g) → slice_get c.args.rules.now.rules c.args.j ≡ Some c.index-rules-j.result
outer_numbered g c =
    numbered c.args.rules.now.rules c.rules.result.now c.rules.ensures.rules c.args.j (part_inside c.args.rules.now.rules c.args.j c.args.place.now (tree c.args.part.now) c.requires.outer)
    c.index-rules-j.result c.index-rules-j.is

there : (g : _) (c : After-apart_left-inner_left g) → subterm_at c.args.place.now c.index-rules-j.result.left ≡ Some (tree c.args.part.now)
there g c = part_there c.args.rules.now.rules c.args.j c.args.place.now (tree c.args.part.now) c.index-rules-j.result (outer_numbered g c) c.requires.outer

small : (g : _) (c : After-apart_left-inner_left g) → HasSmallVariables c.index-rules-j.result.left
small g c = (small_of c.args.rules.now.rules c.args.j c.index-rules-j.result c.requires.small (outer_numbered g c)).0

inner_numbered : (g : _) (c : After-apart_left-inner_left g) → slice_get c.args.rules.now.rules c.args.i ≡ Some c.index-rules-i.result
inner_numbered g c = numbered c.args.rules.now.rules c.rules-2.result.now c.rules-2.ensures.rules c.args.i c.requires.inner c.index-rules-i.result c.index-rules-i.is

renamed : (g : _) (c : After-apart_left-inner_left g) → tree c.apart_left-inner_left.result.now ≡ (renamed_apart c.index-rules-i.result).left
renamed g c = c.apart_left-inner_left.ensures c.index-rules-i.result (inner_numbered g c)

-- ---- the rules do not overlap

pub returns-in_default-clause-moves : goal.returns-in_default-clause-moves
returns-in_default-clause-moves g c =
    let a = (goal.at.returns-in_default-clause-moves g c).After-apart_left-inner_left in
    let none : DoNotMeet (tree c.args.part.now) (renamed_apart c.index-rules-i.result).left = subst (DoNotMeet (tree c.args.part.now)) (renamed g a) (rw c.in_default.is at c.in_ok-found.ensures.none) in
    λ before h.
    none_kept c.args.rules.now.rules c.args.peaks.now _ _ before h
    (moves_past c.args.rules.now.rules (spot c.args.j c.args.place.now c.args.i) before c.args.peaks.now.nodes
    (none_there c.args.rules.now.rules c.args.j c.args.i c.args.place.now (tree c.args.part.now) c.index-rules-i.result (renamed_apart c.index-rules-i.result) c.index-rules-j.result refl
    (inner_numbered g a) (outer_numbered g a) (there g a) (small g a) c.overlaps_unify.ensures.unified none))

-- ---- they overlap

pub returns-clause-moves : goal.returns-clause-moves
returns-clause-moves g c = adds_still _ _ _ _ _ (adds_too _ c.args.peaks.now _ _ _ c.in_ok-added.ensures.moves)

pub add_found-requires : goal.add_found-requires
add_found-requires g c =
    let a = (goal.at.add_found-requires g c).After-apart_left-inner_left in
    let M : Tree → Type 0 = λ t. IsMostGeneralUnifier (tree c.args.part.now) t (substitution c.in-Some.unifier) in
    let unifier = subst M (renamed g a) (rw c.in-Some.is at c.in_ok-found.ensures.some) in
    λ κs.
    ((refl, tt), (outer_numbered g a, (inner_numbered g a, (there g a, (c.requires.positive, (c.requires.few, (c.requires.small, (unifier, c.requires.held))))))))
