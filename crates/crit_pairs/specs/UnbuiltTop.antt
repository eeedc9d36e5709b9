-- The tree of a top that is not built.
use Rattle.std.specs.Prelude.{ℕ, suc, ◌==◌, if◌then◌else◌, List, [], ◌∷◌, map, Option, Some, None, unwrap_or}
use Rattle.trs_defs.specs.Tree.{Tree, var}
use Rattle.trs_defs.specs.Substitution.{apply, bound}
use Rattle.trs_core.specs.View.{tree}
use Rattle.crit_pairs.specs.InOrder.{in_order}
use Rattle.crit_pairs.specs.Meeting.{times}
use Rattle.crit_pairs.specs.declared.binding_table.Binding.{Binding}
use Rattle.crit_pairs.specs.declared.unbuilt.SeenBinding.{SeenBinding}
use Rattle.crit_pairs.specs.declared.unbuilt.SeenUnifier.{SeenUnifier}
use Rattle.crit_pairs.specs.declared.unbuilt.SeenUnifier.TheVariants as seen
use Rattle.crit_pairs.specs.declared.unbuilt.SeenTop.{SeenTop}
use Rattle.crit_pairs.specs.declared.unbuilt.Seen.{Seen}
use Rattle.crit_pairs.specs.declared.unbuilt.Seen.TheVariants as top
use Rattle.crit_pairs.specs.declared.unbuilt.UnbuiltTop.{UnbuiltTop}

-- a variable with the term that it is bound to
abbrev pub bound_pair : Binding → ℕ × Tree
bound_pair b = (b.variable, tree b.term.now)

abbrev pub seen_pair : SeenBinding → ℕ × Tree
seen_pair b = (b.variable.value, tree b.term.value)

-- the term of the first pair that has the variable
abbrev pub paired_term : List (ℕ × Tree) → ℕ → Option Tree
paired_term [] v = None
paired_term (p ∷ ps) v = if p.0 == v then Some p.1 else paired_term ps v

-- a variable that no pair has stays
abbrev pub paired_to : List (ℕ × Tree) → ℕ → Tree
paired_to ps v = unwrap_or (paired_term ps v) (var v)

abbrev pub seen_substitution : SeenUnifier → ℕ → Tree
seen_substitution (seen.Bound levels bindings) v = times (suc levels) (paired_to (map seen_pair bindings.items)) v
seen_substitution (seen.Shared found) v = bound found.value v

-- the instance of the outer left side, with its variables numbered
abbrev pub seen_tree : SeenTop → Tree
seen_tree top = in_order (apply (seen_substitution top.unifier.value) (tree top.outer_left.value))

abbrev pub tree_seen : Seen → Tree
tree_seen (top.First first) = seen_tree first
tree_seen (top.Again first) = seen_tree first.value

abbrev pub unbuilt_tree : UnbuiltTop → Tree
unbuilt_tree top = tree_seen top.seen
