-- Groups along the dependency graph, as steps of proofs.
use Rattle.std.specs.Prelude.{◌≢◌, ℕ, List, [], map}
use Rattle.std.specs.List.{AllByRecursion}
use Rattle.std.specs.List.Sorted.{IsStrictlyIncreasing}
use Rattle.pair_theory.specs.DependencyPair.{dependency_pairs}
use Rattle.dp_graph.specs.GroupOrSingle.{GroupOrSingle, group, single}
use Rattle.dp_graph.specs.GraphConditions.{graph_conditions}
use Rattle.cert_step.specs.ProofProblem.{ProofProblem, dp}
use Rattle.cert_step.specs.Kind.{Kind}
use Rattle.cert_step.specs.OnPairs.{pairs_kind}

-- a group has a member, and its numbers ascend
abbrev pub IsGraphItem : GroupOrSingle → Type 0
IsGraphItem (group members) = (members ≢ []) × IsStrictlyIncreasing members
IsGraphItem (single member) = Unit {0}

-- the problem of each group
abbrev pub group_problems : List (List ℕ) → List ProofProblem
group_problems groups = map dp groups

abbrev pub graph_kind : List GroupOrSingle → Kind
graph_kind items =
    pairs_kind (λ system. AllByRecursion IsGraphItem items)
    (λ system numbers. graph_conditions system.rules (dependency_pairs system.rules) numbers items) group_problems
