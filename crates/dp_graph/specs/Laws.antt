-- Steps by the graph conclude.
use Rattle.std.specs.Prelude.{◌≡◌, ℕ, List, Ok}
use Rattle.trs_defs.specs.Member.{In}
use Rattle.trs_defs.specs.System.{RewriteRule, System, IsSystem}
use Rattle.pair_theory.specs.DependencyPair.{DependencyPair, dependency_pairs}
use Rattle.rewrite_core.specs.Check.{HasOneAnswer}
use Rattle.dp_core.specs.Laws.{IsFiniteOf}
use Rattle.dp_graph.specs.GroupOrSingle.{GroupOrSingle, groups_of}
use Rattle.dp_graph.specs.GraphConditions.{graph_conditions}
use Rattle.dp_graph.specs.Components.{AreComponents}

-- a problem is finite if that of each group is
abbrev pub GraphStepsConclude : Type 0
GraphStepsConclude =
    (system : System) (numbers : List ℕ) (items : List GroupOrSingle) (groups : List (List ℕ)) → IsSystem system
    → graph_conditions system.rules (dependency_pairs system.rules) numbers items (Ok groups)
    → ((group : List ℕ) → In group groups → IsFiniteOf system group) → IsFiniteOf system numbers

-- the conditions have at most one answer
abbrev pub GraphStepsAnswerOnce : Type 0
GraphStepsAnswerOnce =
    (rules : List RewriteRule) (all : List DependencyPair) (numbers : List ℕ) (items : List GroupOrSingle)
    → HasOneAnswer (graph_conditions rules all numbers items)

-- the groups are those of the items, and have pairs of the problem alone
abbrev pub GroupsAreOfProblem : Type 0
GroupsAreOfProblem =
    (rules : List RewriteRule) (all : List DependencyPair) (numbers : List ℕ) (items : List GroupOrSingle) (groups : List (List ℕ))
    → graph_conditions rules all numbers items (Ok groups)
    → (groups ≡ groups_of items) × ((group : List ℕ) (n : ℕ) → In group groups → In n group → In n numbers)

-- the components of a problem pass the conditions
abbrev pub ComponentsPass : Type 0
ComponentsPass =
    (rules : List RewriteRule) (all : List DependencyPair) (numbers : List ℕ) (items : List GroupOrSingle)
    → AreComponents rules all numbers items → graph_conditions rules all numbers items (Ok (groups_of items))
