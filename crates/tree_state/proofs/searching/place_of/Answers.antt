use Rattle.std.proofs.Common.{◌≡◌, false, ap, sym, ◌∙◌, position, rules}
use Rattle.std.specs.Option.{option_map, is_some}
use Rattle.tree_definitions.specs.Marks.{is_idle}
use Rattle.tree_state.specs.Parts.{is_lost_in}
use Rattle.tree_state.specs.Seen.{decided_of}
use Rattle.tree_state.proofs.SeenNodes.{is_some_map}
use Rattle.tree_state.proofs.searching.place_of.Goals as goal

pub returns : goal.returns
returns c = λ history.
    let none : is_some (option_map (decided_of history) c.args.node.now.decision) ≡ false = is_some_map (decided_of history) c.args.node.now.decision ∙ search rules in
    let not_lost : is_lost_in c.args.goals.now c.args.node.now.goal ≡ false = sym c.is_lost.ensures ∙ c.if-is_lost.false in
    rw (none, not_lost) (c.first_idle.ensures ∙ ap (position is_idle) (c.marks_of.ensures.marks history))
