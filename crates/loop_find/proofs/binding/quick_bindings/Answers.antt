use Rattle.trs_core.specs.View.{tree}
use Rattle.loop_find.proofs.QuickUnifiers.{quick_unifier}
use Rattle.loop_find.proofs.binding.quick_bindings.Goals as goal

pub returns : goal.returns
returns c =
    quick_unifier (tree c.args.part.now) (tree c.args.pattern.now) c.bind.new.found.items c.new-found.result.items c.new-found.ensures.items (rw c.if-not-branch.false at c.in_ok-bind.ensures)
    (rw c.deref.ensures.value at (c.are_settled.ensures c.if-not-are_settled.false))
