use Rattle.std.proofs.Common.{◌≡◌, inl, inr, ℕ, Some, slice_get, refl, subst, arith}
use Rattle.trs_defs.specs.System.{RewriteRule}
use Rattle.trs_defs.specs.Tree.{Tree}
use Rattle.trs_defs.specs.Unifier.{IsMostGeneralUnifier}
use Rattle.trs_core.specs.View.{tree}
use Rattle.crit_pairs.specs.Apart.{renamed_apart}
use Rattle.crit_pairs.specs.Overlapping.{substitution}
use Rattle.crit_pairs.specs.PeakList.{OverlapsAt}
use Rattle.crit_pairs.specs.MadePairs.{spot}
use Rattle.crit_pairs.specs.Sides.{DoNotMeet}
use Rattle.crit_pairs.specs.Table.{no_peak, no_spot}
use Rattle.crit_pairs.proofs.EqualRules.{none_of_equal, pair_of_equal}
use Rattle.crit_pairs.proofs.SpotWalk.{OverlapsUnify, rule_at}
use Rattle.crit_pairs.proofs.GrowthLaws.{apart_there}
use Rattle.crit_pairs.proofs.growing.grow_by_overlap.Goals.{After-index-inner_left}
use Rattle.crit_pairs.proofs.growing.grow_by_overlap.Goals as goal

-- the copy of the inner left side
renamed : (c : After-index-inner_left) (r : RewriteRule) → slice_get c.args.rules.now c.args.i ≡ Some r → tree c.index-inner_left.result.now ≡ (renamed_apart r).left
renamed c r at = (apart_there c.args.rules.now c.args.prepared.now c.args.i c.requires.prepared c.requires.inner).1 r c.index-inner_left.result.now at c.index-inner_left.ensures

-- no equal rule overlaps
none : (c : After-index-inner_left) → OverlapsUnify → DoNotMeet (tree c.args.part.now) (tree c.index-inner_left.result.now) → (k : ℕ) → slice_get c.args.rules.now k ≡ slice_get c.args.rules.now c.args.i
    → OverlapsAt c.args.rules.now (spot c.args.j c.args.place.now k) → ⊥
none c unified apart =
    let (r, at) = rule_at c.args.rules.now c.args.i c.requires.inner in
    none_of_equal unified c.args.rules.now c.requires.small c.args.j c.args.place.now (tree c.args.part.now) c.requires.outer c.args.i r (renamed_apart r) at refl (subst (DoNotMeet (tree c.args.part.now)) (renamed c r at) apart)

pub returns-in-None-clause-adds : goal.returns-in-None-clause-adds
returns-in-None-clause-adds c =
    let a = (goal.at.returns-in-None-clause-adds c).After-index-inner_left in
    inl (no_peak (none a c.overlaps_unify.ensures.unified (rw c.in-None.is at c.in_ok-found.ensures.none) c.args.i refl) no_spot, refl, refl, refl)

pub returns-in-None-clause-known : goal.returns-in-None-clause-known
returns-in-None-clause-known c =
    let a = (goal.at.returns-in-None-clause-known c).After-index-inner_left in
    none a c.overlaps_unify.ensures.unified (rw c.in-None.is at c.in_ok-found.ensures.none)

pub make_pair-requires-clause-unifier : goal.make_pair-requires-clause-unifier
make_pair-requires-clause-unifier c =
    let a = (goal.at.make_pair-requires-clause-unifier c).After-index-inner_left in
    let (r, at) = rule_at c.args.rules.now c.args.i c.requires.inner in
    let o = c.requires.outer in
    let M : Tree → Type 0 = λ z. IsMostGeneralUnifier (tree c.args.part.now) z (substitution c.in-Some.unifier) in
    record {
      inner = r;
      outer = o.outer;
      part = tree c.args.part.now;
      inner_numbered = at;
      outer_numbered = o.numbered;
      there = o.there;
      most_general = subst M (renamed a r at) (rw c.in-Some.is at c.in_ok-found.ensures.some);
    }

pub returns-in_ok-add_made-in-Some-clause-adds : goal.returns-in_ok-add_made-in-Some-clause-adds
returns-in_ok-add_made-in-Some-clause-adds c =
    let one = c.in_ok-add_made-in-Some.ensures.adds c.args.rules.now (spot c.args.j c.args.place.now c.args.i) c.args.pool.now c.make_pair.new.pool c.in_ok-made-in-Some.ensures.made in
    inr (record {
      peak = one.peak;
      pair = one.pair;
      old = one.old;
      new = one.new;
      at = one.at;
      stands = one.stands;
      there = one.there;
      put = one.put;
      lists = one.lists;
      nodes = one.nodes;
      few = one.few;
    })

pub returns-in_ok-add_made-in-Some-clause-known : goal.returns-in_ok-add_made-in-Some-clause-known
returns-in_ok-add_made-in-Some-clause-known c = λ k same.
    let made = c.in_ok-made-in-Some.ensures.made in
    pair_of_equal c.args.rules.now c.args.j c.args.i k c.args.place.now c.make_pair.new.pool c.args.growth.now.nodes _ c.in_ok-made-in-Some.made same (omega (arith, made.counted, c.saturating_sub-nodes.ensures)) made
