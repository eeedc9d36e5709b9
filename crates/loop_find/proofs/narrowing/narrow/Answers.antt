use Rattle.trs_core.specs.View.{tree}
use Rattle.confluence_theory.proofs.Apart.{part_variable}
use Rattle.loop_find.specs.Bindings.{resolved}
use Rattle.loop_find.proofs.Narrowings.{made_answer}
use Rattle.loop_find.proofs.narrowing.narrow.Goals as goal

pub quick_bindings-requires : goal.quick_bindings-requires
quick_bindings-requires c = λ v k. c.requires.right v (part_variable c.args.place.now (tree c.args.right.now) (tree c.args.part.now) v c.requires.there k)

pub returns-in_ok-made-in-Some : goal.returns-in_ok-made-in-Some
returns-in_ok-made-in-Some c = λ rule is.
    made_answer (tree c.apart.inside.left) (tree c.apart.inside.right) c.args.apart.now rule c.apart.view_is is c.args.place.now (tree c.args.left.now) (tree c.args.right.now) (tree c.args.part.now)
    c.requires.there c.requires.left c.requires.right (resolved c.in-Some.found.items 2) (rw c.in-Some.is at c.in_ok-found.ensures) c.in_ok-made-in-Some.made
    (rw c.deref.ensures.value at c.in_ok-made-in-Some.ensures)
