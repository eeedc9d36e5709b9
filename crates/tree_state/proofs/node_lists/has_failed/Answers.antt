use Rattle.std.proofs.Common.{ap, ◌∙◌}
use Rattle.tree_state.specs.Parts.{all_failed}
use Rattle.tree_state.proofs.node_lists.has_failed.Goals as goal

pub returns : goal.returns
returns c = λ history. c.are_failed.ensures ∙ ap all_failed (c.marks_of.ensures.marks history)
