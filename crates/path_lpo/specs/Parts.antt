-- Numbers of subterms that stand together in a graph.
use Rattle.std.specs.Prelude.{◌≡◌, ◌<◌, ◌≤◌, ◌⊎◌, ℕ, List, Some, slice_get}
use Rattle.trs_defs.specs.Tree.{Tree}
use Rattle.order_theory.specs.PathOrder.{PathGreater, SomeAtLeast}
use Rattle.path_lpo.specs.Graph.{term, tree_at, list_at, StandsFor}
use Rattle.path_lpo.specs.declared.nodes.Node.{Node}
use Rattle.path_lpo.specs.declared.nodes.Node.TheVariants.{Var, App, Nil, Cons}
use Rattle.path_lpo.specs.declared.parts.Span.{Span}

abbrev pub IsIn : Span → ℕ → Type 0
IsIn span m = (span.from ≤ m) × (m < span.to)

-- the numbers of the result are those of one of the two
abbrev pub AreOfEither : Span → Span → Span → Type 0
AreOfEither a b result = (m : ℕ) → IsIn result m → IsIn a m ⊎ IsIn b m

-- the terms with these numbers are below the term of the number n, in any path order
abbrev pub AreBelow : List Node → ℕ → Span → Type 0
AreBelow nodes n span = (m : ℕ) (u : Tree) → IsIn span m → StandsFor nodes m (term u) → (rank : ℕ → ℕ) → PathGreater rank (tree_at nodes n) u

-- the same, or they are that term
abbrev pub AreAtMost : List Node → ℕ → Span → Type 0
AreAtMost nodes n span =
    (m : ℕ) (u : Tree) → IsIn span m → StandsFor nodes m (term u) → (rank : ℕ → ℕ) → (tree_at nodes n ≡ u) ⊎ PathGreater rank (tree_at nodes n) u

-- the same of some term of the list of the number n
abbrev pub AreReached : List Node → ℕ → Span → Type 0
AreReached nodes n span = (m : ℕ) (u : Tree) → IsIn span m → StandsFor nodes m (term u) → (rank : ℕ → ℕ) → SomeAtLeast rank (list_at nodes n) u

-- the numbers that belong to the node of number n
abbrev pub BelongTo : List Node → ℕ → Node → Span → Type 0
BelongTo nodes n (Var x) span = Unit {0}
BelongTo nodes n (App f args) span = AreBelow nodes n span
BelongTo nodes n Nil span = Unit {0}
BelongTo nodes n (Cons first rest) span = AreReached nodes n span

abbrev pub AreSpansOf : List Node → List Span → Type 0
AreSpansOf nodes spans = (n : ℕ) (node : Node) (span : Span) → slice_get nodes n ≡ Some node → slice_get spans n ≡ Some span → BelongTo nodes n node span
