-- The different subterms of two terms, by numbers.
use Rattle.std.specs.Prelude.{◌≡◌, ◌-◌, ◌^◌, ℕ, List, [], ◌∷◌, Some, map, take, min, slice_get}
use Rattle.std.specs.Coded.{codes}
use Rattle.trs_defs.specs.Tree.{Tree, Trees, var, app, nil, cons, tree_code}
use Rattle.trs_core.specs.View.{tree}
use Rattle.order_theory.specs.LinearInterpretation.{value}
use Rattle.poly_lin.specs.declared.listing.Subterm.{Subterm}

abbrev pub term_of : Subterm → Tree
term_of node = tree node.term.now

-- the terms, by their numbers
abbrev pub terms : List Subterm → List Tree
terms nodes = map term_of nodes

abbrev pub IsNumberOf : List Subterm → ℕ → Tree → Type 0
IsNumberOf nodes n t = slice_get (terms nodes) n ≡ Some t

-- the numbers keep their terms
abbrev pub Keeps : List Subterm → List Subterm → Type 0
Keeps old new = (n : ℕ) (t : Tree) → IsNumberOf old n t → IsNumberOf new n t

-- at the numbers stands what is said of the terms
abbrev pub AreAt : {A : Type 0} → (Tree → A) → List A → List ℕ → Trees → Type 0
AreAt said xs [] nil = Unit {0}
AreAt said xs [] (cons t ts) = ⊥
AreAt said xs (n ∷ ns) nil = ⊥
AreAt said xs (n ∷ ns) (cons t ts) = (slice_get xs n ≡ Some (said t)) × AreAt said xs ns ts

abbrev pub itself : Tree → Tree
itself t = t

pub are_at_prop : (xs : List Tree) (ns : List ℕ) (ts : Trees) → IsProp (AreAt itself xs ns ts)
are_at_prop xs [] nil = hlevel
are_at_prop xs [] (cons t ts) = hlevel
are_at_prop xs (n ∷ ns) nil = hlevel
are_at_prop xs (n ∷ ns) (cons t ts) = hlevel (codes, tree_code, are_at_prop xs ns ts)

-- at the numbers stands what is said of the arguments of the term
abbrev pub AreOfArguments : {A : Type 0} → (Tree → A) → List A → List ℕ → Tree → Type 0
AreOfArguments said xs ns t = (f : ℕ) (ts : Trees) → t ≡ app f ts → AreAt said xs ns ts

-- the arguments of each stand before it
abbrev pub AreOverEarlier : List Subterm → Type 0
AreOverEarlier nodes = (i : ℕ) (node : Subterm) → slice_get nodes i ≡ Some node → AreOfArguments itself (terms (take i nodes)) node.args.items (term_of node)

-- the value of the term's polynomial where variables stand for 1, as far as 64 bits tell
abbrev pub value_at_one : (ℕ → ℕ → ℕ) → Tree → ℕ
value_at_one c t = min (value c (λ x. 1) t) (2 ^ 64 - 1)

-- both terms are variables of one number, or symbols of one number
abbrev pub HaveOneRoot : Tree → Tree → Type 0
HaveOneRoot (var x) (var y) = x ≡ y
HaveOneRoot (var x) (app g ts) = ⊥
HaveOneRoot (app f ss) (var y) = ⊥
HaveOneRoot (app f ss) (app g ts) = f ≡ g
