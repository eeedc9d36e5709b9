use Rattle.std.proofs.Common.{refl}
use Rattle.trs_defs.specs.Substitution.{bound}
use Rattle.trs_core.specs.View.{tree}
use Rattle.loop_find.specs.declared.closures.Sides.{Sides}
use Rattle.loop_find.proofs.Narrowings.{not_unified, left_large, right_large, narrowed}
use Rattle.loop_find.proofs.unifying.narrow_by_unifier.Goals as goal

pub returns-in_default : goal.returns-in_default
returns-in_default c = λ rule is.
    not_unified (tree c.apart.inside.left) (tree c.apart.inside.right) c.args.apart.now rule c.apart.view_is is c.args.place.now (tree c.args.left.now) (tree c.args.right.now) (tree c.args.part.now)
    c.requires.there c.requires.left c.requires.right (rw c.in_default.is at c.in_ok-found.ensures.none)

pub returns-then-not-is_small : goal.returns-then-not-is_small
returns-then-not-is_small c = λ rule is.
    left_large (tree c.apart.inside.left) (tree c.apart.inside.right) c.args.apart.now rule c.apart.view_is is c.args.place.now (tree c.args.left.now) (tree c.args.right.now) (tree c.args.part.now)
    c.requires.there c.requires.left c.requires.right (bound c.in-Some.unifier) (rw c.in-Some.is at c.in_ok-found.ensures.most_general)
    (λ h. let e = c.if-not-is_small.ensures.1 h in absurd cc)

pub returns-then-not-is_small-2 : goal.returns-then-not-is_small-2
returns-then-not-is_small-2 c = λ rule is.
    right_large (tree c.apart.inside.left) (tree c.apart.inside.right) c.args.apart.now rule c.apart.view_is is c.args.place.now (tree c.args.left.now) (tree c.args.right.now) (tree c.args.part.now)
    c.requires.there c.requires.left c.requires.right (bound c.in-Some.unifier) (rw c.in-Some.is at c.in_ok-found.ensures.most_general)
    (tree c.in_ok-result.result) c.in_ok-result.ensures (λ h. let e = c.if-not-is_small-2.ensures.1 h in absurd cc)

pub returns : goal.returns
returns c = λ rule is.
    let sides : Sides = record { left = c.in_ok-new_left.new_left; right = c.in_ok-new_right.new_right } in
    narrowed (tree c.apart.inside.left) (tree c.apart.inside.right) c.args.apart.now rule c.apart.view_is is c.args.place.now (tree c.args.left.now) (tree c.args.right.now) (tree c.args.part.now)
    c.requires.there c.requires.left c.requires.right (bound c.in-Some.unifier) (rw c.in-Some.is at c.in_ok-found.ensures.most_general)
    (tree c.in_ok-result.result) c.in_ok-result.ensures (c.if-not-is_small.ensures.0 refl) (c.if-not-is_small-2.ensures.0 refl)
    c.no_names-names.result.order.items c.renumber.new.names.order.items c.renumber-2.new.names.order.items c.no_names-names.ensures.none sides
    c.renumber-2.new.names.numbers c.in_ok-new_right.ensures.names c.in_ok-new_left.ensures.renamed c.in_ok-new_right.ensures.renamed
