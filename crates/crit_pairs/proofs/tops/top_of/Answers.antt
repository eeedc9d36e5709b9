use Rattle.std.proofs.Common.{◌≡◌, ◌<◌, ℕ, List, length, Some, slice_get, get_or, refl, sym, ap, subst, ◌∙◌}
use Rattle.std.proofs.lemmas.Option.{slice_get_read, slice_get_within}
use Rattle.std.proofs.lemmas.Result.{IfOk-weaker}
use Rattle.trs_defs.specs.System.{RewriteRule}
use Rattle.trs_defs.specs.Tree.{Tree}
use Rattle.trs_defs.specs.Position.{subterm_at}
use Rattle.trs_defs.specs.Unifier.{IsMostGeneralUnifier}
use Rattle.trs_core.specs.View.{tree}
use Rattle.trs_unify.specs.Room.{HasRoom}
use Rattle.crit_pairs.specs.Apart.{renamed_apart}
use Rattle.crit_pairs.specs.Overlapping.{substitution}
use Rattle.crit_pairs.specs.Sides.{DoNotMeet}
use Rattle.rewrite_core.specs.PlacedPeak.{PlacedPeak}
use Rattle.crit_pairs.proofs.Listed.{listed_own, part_there, meets, same_top}
use Rattle.crit_pairs.proofs.SpotWalk.{small_of, small_room}
use Rattle.crit_pairs.proofs.tops.top_of.Goals.{After-index-rules-peak-2}
use Rattle.crit_pairs.proofs.tops.top_of.Goals as goal

-- a rule that is numbered lies in the list, and is the one that is read
inside : (rules list : List RewriteRule) → list ≡ rules → (k n : ℕ) → k ≡ n → (rule : RewriteRule) → slice_get rules n ≡ Some rule → k < length list
inside rules list same k n number rule e =
    let here : slice_get list k ≡ Some rule = rw (same, number) e in
    slice_get_within list k rule here

read : (rules list : List RewriteRule) → list ≡ rules → (k n : ℕ) → k ≡ n → (rule : RewriteRule) → slice_get rules n ≡ Some rule → (r : RewriteRule) → r ≡ get_or list k r → slice_get rules n ≡ Some r
read rules list same k n number rule e r is =
    let here : slice_get list k ≡ Some r = slice_get_read list (length list) k r refl (inside rules list same k n number rule e) is in
    rw (same, number) at here

pub bounds-rules-peak-inside : goal.bounds-rules-peak-inside
bounds-rules-peak-inside g c =
    let own = listed_own c.args.trs.now.rules c.args.peak.now c.requires.listed in
    inside c.args.trs.now.rules c.rules-rules.result.now c.rules-rules.ensures.rules c.peak.inside.outer c.args.peak.now.outer (ap (λ (p : PlacedPeak). p.outer) c.peak.view_is) own.at.outer own.at.outer_numbered

pub bounds-rules-peak-inside-2 : goal.bounds-rules-peak-inside-2
bounds-rules-peak-inside-2 g c =
    let own = listed_own c.args.trs.now.rules c.args.peak.now c.requires.listed in
    inside c.args.trs.now.rules c.rules-rules.result.now c.rules-rules.ensures.rules c.peak.inside.inner c.args.peak.now.inner (ap (λ (p : PlacedPeak). p.inner) c.peak.view_is) own.at.inner own.at.inner_numbered

outer_is : (g : _) (c : After-index-rules-peak-2 g) → slice_get c.args.trs.now.rules c.args.peak.now.outer ≡ Some c.index-rules-peak.result
outer_is g c =
    let own = listed_own c.args.trs.now.rules c.args.peak.now c.requires.listed in
    read c.args.trs.now.rules c.rules-rules.result.now c.rules-rules.ensures.rules c.peak.inside.outer c.args.peak.now.outer (ap (λ (p : PlacedPeak). p.outer) c.peak.view_is) own.at.outer own.at.outer_numbered
    c.index-rules-peak.result c.index-rules-peak.is

inner_is : (g : _) (c : After-index-rules-peak-2 g) → slice_get c.args.trs.now.rules c.args.peak.now.inner ≡ Some c.index-rules-peak-2.result
inner_is g c =
    let own = listed_own c.args.trs.now.rules c.args.peak.now c.requires.listed in
    read c.args.trs.now.rules c.rules-rules.result.now c.rules-rules.ensures.rules c.peak.inside.inner c.args.peak.now.inner (ap (λ (p : PlacedPeak). p.inner) c.peak.view_is) own.at.inner own.at.inner_numbered
    c.index-rules-peak-2.result c.index-rules-peak-2.is

pub rename_apart-requires : goal.rename_apart-requires
rename_apart-requires g c =
    let a = (goal.at.rename_apart-requires g c).After-index-rules-peak-2 in
    let left_is : tree c.inner.inside.left ≡ c.index-rules-peak-2.result.left = ap (λ (r : RewriteRule). r.left) c.inner.view_is in
    let small = (small_of c.args.trs.now.rules c.args.peak.now.inner c.index-rules-peak-2.result c.systems_are_valid.ensures.variables (inner_is g a)).0 in
    subst (HasRoom 65536) (sym left_is) (small_room c.index-rules-peak-2.result.left small)

pub unreachable-requires : goal.unreachable-requires
unreachable-requires g c =
    let a = (goal.at.unreachable-requires g c).After-index-rules-peak-2 in
    let own = listed_own c.args.trs.now.rules c.args.peak.now c.requires.listed in
    let there = part_there c.args.trs.now c.systems_are_valid.ensures.valid c.systems_are_valid.ensures.variables c.args.peak.now own c.index-rules-peak.result c.index-rules-peak-2.result (outer_is g a) (inner_is g a) in
    let place : c.peak.inside.place ≡ c.args.peak.now.place = ap (λ (p : PlacedPeak). p.place) c.peak.view_is in
    let left : tree c.outer.inside.left ≡ c.index-rules-peak.result.left = ap (λ (r : RewriteRule). r.left) c.outer.view_is in
    let none = rw c.in_default.is at c.at.ensures in
    absurd cc

-- the part that is found stands in the outer left side
same_part : (p q : List ℕ) (t u part : Tree) → p ≡ q → t ≡ u → Some part ≡ subterm_at p t → subterm_at q u ≡ Some part
same_part p q t u part place left is = rw (← place, ← left) (sym is)

pub unreachable-requires-in_default-found : goal.unreachable-requires-in_default-found
unreachable-requires-in_default-found g c =
    let a = (goal.at.unreachable-requires-in_default-found g c).After-index-rules-peak-2 in
    let there = same_part c.peak.inside.place c.args.peak.now.place (tree c.outer.inside.left) c.index-rules-peak.result.left (tree c.in-Some.part.now) (ap (λ (p : PlacedPeak). p.place) c.peak.view_is)
    (ap (λ (r : RewriteRule). r.left) c.outer.view_is) c.in-Some.ensures in
    let own = listed_own c.args.trs.now.rules c.args.peak.now c.requires.listed in
    let renamed : tree c.in_ok-inner_left.inner_left ≡ (renamed_apart c.index-rules-peak-2.result).left = c.in_ok-inner_left.ensures ∙ ap (λ (r : RewriteRule). (renamed_apart r).left) c.inner.view_is in
    let none : DoNotMeet (tree c.in-Some.part.now) (tree c.in_ok-inner_left.inner_left) = rw c.in_default-found.is at c.in_ok-found.ensures.none in
    meets c.args.trs.now c.systems_are_valid.ensures.valid c.systems_are_valid.ensures.variables c.args.peak.now own c.index-rules-peak.result c.index-rules-peak-2.result (outer_is g a) (inner_is g a)
    (tree c.in-Some.part.now) there c.overlaps_unify.ensures.unified (subst (DoNotMeet (tree c.in-Some.part.now)) renamed none)

pub returns : goal.returns
returns g c =
    let a = (goal.at.returns g c).After-index-rules-peak-2 in
    let own = listed_own c.args.trs.now.rules c.args.peak.now c.requires.listed in
    let left : tree c.outer.inside.left ≡ c.index-rules-peak.result.left = ap (λ (r : RewriteRule). r.left) c.outer.view_is in
    let there = same_part c.peak.inside.place c.args.peak.now.place (tree c.outer.inside.left) c.index-rules-peak.result.left (tree c.in-Some.part.now) (ap (λ (p : PlacedPeak). p.place) c.peak.view_is) left c.in-Some.ensures in
    let renamed : tree c.in_ok-inner_left.inner_left ≡ (renamed_apart c.index-rules-peak-2.result).left = c.in_ok-inner_left.ensures ∙ ap (λ (r : RewriteRule). (renamed_apart r).left) c.inner.view_is in
    let M : Tree → Type 0 = λ t. IsMostGeneralUnifier (tree c.in-Some.part.now) t (substitution c.in-Some-found.unifier) in
    let most_general = subst M renamed (rw c.in-Some-found.is at c.in_ok-found.ensures.some) in
    record {
      top = IfOk-weaker c.beside_ground.result _ _
          (λ t beside. same_top c.args.trs.now c.systems_are_valid.ensures.valid c.systems_are_valid.ensures.variables c.args.peak.now own c.index-rules-peak.result c.index-rules-peak-2.result
          (outer_is g a) (inner_is g a) (tree c.in-Some.part.now) there (substitution c.in-Some-found.unifier) most_general (tree t) (rw left at beside))
          c.beside_ground.ensures;
    }
