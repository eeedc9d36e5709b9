-- What the nodes of a graph stand for: filtered terms, and lists of them.
use Rattle.std.specs.Prelude.{◌≡◌, ◌<◌, ◌≤◌, ℕ, ◌+◌, max, List, [], ◌∷◌, ◌++◌, Option, Some, None, slice_get, slice_index_or}
use Rattle.trs_defs.specs.Tree.{Tree, Trees, var, app, nil, cons}
use Rattle.path_lpo.specs.declared.nodes.Node.{Node}
use Rattle.path_lpo.specs.declared.nodes.Node.TheVariants.{Var, App, Nil, Cons}
use Rattle.path_lpo.specs.declared.root.Root.{Root}
use Rattle.path_lpo.specs.declared.root.Root.TheVariants.{Variable, Symbol}
use Rattle.path_lpo.specs.Walked.{Walked}

-- what a number stands for
pub data Reading : Type 0 where
  term : Tree → Reading
  list : Trees → Reading

abbrev pub tree_of : Reading → Tree
tree_of (term t) = t
tree_of (list ts) = var 0

abbrev pub trees_of : Reading → Trees
trees_of (term t) = nil
trees_of (list ts) = ts

-- what the number stands for; one past the last, for the empty list
abbrev pub reading_at : List Reading → ℕ → Reading
reading_at rs n = slice_index_or rs n (list nil)

-- what a node stands for, where earlier ones stand for these
abbrev pub reading_over : List Reading → Node → Reading
reading_over rs (Var x) = term (var x)
reading_over rs (App f args) = term (app f (trees_of (reading_at rs args)))
reading_over rs Nil = list nil
reading_over rs (Cons first rest) = list (cons (tree_of (reading_at rs first)) (trees_of (reading_at rs rest)))

-- what the nodes stand for, each over these readings and those before it
abbrev pub readings_over : List Reading → List Node → List Reading
readings_over rs [] = []
readings_over rs (n ∷ ns) = reading_over rs n ∷ readings_over (rs ++ reading_over rs n ∷ []) ns

abbrev pub readings : List Node → List Reading
readings nodes = readings_over [] nodes

-- the number is there, and stands for this
abbrev pub StandsFor : List Node → ℕ → Reading → Type 0
StandsFor nodes n r = slice_get (readings nodes) n ≡ Some r

abbrev pub tree_at : List Node → ℕ → Tree
tree_at nodes n = tree_of (reading_at (readings nodes) n)

abbrev pub list_at : List Node → ℕ → Trees
list_at nodes n = trees_of (reading_at (readings nodes) n)

-- the least number above all that the node names
abbrev pub bound_of : Node → ℕ
bound_of (Var x) = 0
bound_of (App f args) = args + 1
bound_of Nil = 0
bound_of (Cons first rest) = max first rest + 1

-- the node names numbers below n
abbrev pub IsOver : ℕ → Node → Type 0
IsOver n node = bound_of node ≤ n

abbrev pub AreOverEarlier : List Node → Type 0
AreOverEarlier nodes = (i : ℕ) (node : Node) → slice_get nodes i ≡ Some node → IsOver i node

-- the numbers that were there stand for what they stood for
abbrev pub Keeps : List Node → List Node → Type 0
Keeps old new = (n : ℕ) (r : Reading) → StandsFor old n r → StandsFor new n r

abbrev pub root_of : Node → Root ℕ
root_of (Var x) = Variable x
root_of (App f args) = Symbol f args
root_of Nil = Variable 0
root_of (Cons first rest) = Variable 0

abbrev pub split_of : Node → Option (ℕ × ℕ)
split_of (Var x) = None
split_of (App f args) = None
split_of Nil = None
split_of (Cons first rest) = Some (first, rest)

-- the node of the number is a symbol over its arguments
abbrev pub IsApplication : List Node → ℕ → Type 0
IsApplication nodes n = (f : ℕ) × (args : ℕ) × (slice_get nodes n ≡ Some (App f args))

-- the first term of the list, and the others, both earlier
pub record IsFirstAt (nodes : List Node) (n first rest : ℕ) : Type 0 where
  pub list_is : list_at nodes n ≡ cons (tree_at nodes first) (list_at nodes rest)
  pub first_earlier : first < n
  pub rest_earlier : rest < n

abbrev pub IsSplitAt : List Node → ℕ → Option (ℕ × ℕ) → Type 0
IsSplitAt nodes n None = list_at nodes n ≡ nil
IsSplitAt nodes n (Some p) = IsFirstAt nodes n p.0 p.1

-- terms and lists of the graph, by their numbers
abbrev pub shared_terms : List Node → Walked ℕ ℕ
shared_terms nodes = record { tree = tree_at nodes; trees = list_at nodes; size = λ n. n; bound = λ n. n; most = λ n. n }
