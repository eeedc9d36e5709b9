-- Terms as plain trees: a variable, or a symbol with a list of terms. (Baader and Nipkow, definition 3.1.2.)
use Rattle.std.specs.Prelude.{◌≡◌, ℕ, ◌+◌, List, [], ◌∷◌, ◌++◌, refl}
use Rattle.std.specs.Coded.{Coded, code_by, coded×, coded_list, coded_ℕ}
use Rattle.std.proofs.Common.{zero, suc, ap, ◌∙◌}

mutual
  pub data Tree : Type 0 where
    var : ℕ → Tree
    app : ℕ → Trees → Tree

  -- an argument list
  pub data Trees : Type 0 where
    nil : Trees
    cons : Tree → Trees → Trees

-- the argument list with these items
abbrev pub trees : List Tree → Trees
trees [] = nil
trees (t ∷ ts) = cons t (trees ts)

-- the items of an argument list
abbrev pub items : Trees → List Tree
items nil = []
items (cons t ts) = t ∷ items ts

-- the number of items
abbrev pub count : Trees → ℕ
count nil = 0
count (cons t ts) = 1 + count ts

pub items_trees : (ts : List Tree) → items (trees ts) ≡ ts
items_trees [] = refl
items_trees (t ∷ ts) = ap (λ us. t ∷ us) (items_trees ts)

pub trees_items : (ts : Trees) → trees (items ts) ≡ ts
trees_items nil = refl
trees_items (cons t ts) = ap (cons t) (trees_items ts)

-- A tree is stored as a list of marks, read by a stack of argument lists:
-- (0, _) pushes an empty list, (1, n) puts a variable before the list on top,
-- (2, f) puts a symbol over the top list before the list below it.
abbrev mutual
  marks_tree : Tree → List (ℕ × ℕ)
  marks_tree (var n) = (1, n) ∷ []
  marks_tree (app f ts) = marks_trees ts ++ (2, f) ∷ []

  marks_trees : Trees → List (ℕ × ℕ)
  marks_trees nil = (0, 0) ∷ []
  marks_trees (cons t ts) = marks_trees ts ++ marks_tree t

abbrev read_mark : ℕ → ℕ → List Trees → List Trees
read_mark zero n stack = nil ∷ stack
read_mark (suc zero) n [] = []
read_mark (suc zero) n (ts ∷ stack) = cons (var n) ts ∷ stack
read_mark (suc (suc k)) f [] = []
read_mark (suc (suc k)) f (ts ∷ []) = []
read_mark (suc (suc k)) f (ts ∷ us ∷ stack) = cons (app f ts) us ∷ stack

abbrev read_marks : List (ℕ × ℕ) → List Trees → List Trees
read_marks [] stack = stack
read_marks (m ∷ ms) stack = read_marks ms (read_mark m.0 m.1 stack)

abbrev top : List Trees → Trees
top [] = nil
top (ts ∷ stack) = ts

abbrev first_tree : Trees → Tree
first_tree nil = var 0
first_tree (cons t ts) = t

read_marks_append : (ms ns : List (ℕ × ℕ)) (stack : List Trees) → read_marks (ms ++ ns) stack ≡ read_marks ns (read_marks ms stack)
read_marks_append [] ns stack = refl
read_marks_append (m ∷ ms) ns stack = read_marks_append ms ns (read_mark m.0 m.1 stack)

mutual
  pub read_marks_tree : (t : Tree) (ts : Trees) (stack : List Trees) → read_marks (marks_tree t) (ts ∷ stack) ≡ cons t ts ∷ stack
  read_marks_tree (var n) ts stack = refl
  read_marks_tree (app f us) ts stack =
      read_marks_append (marks_trees us) ((2, f) ∷ []) (ts ∷ stack) ∙ ap (read_mark 2 f) (read_marks_trees us (ts ∷ stack))

  pub read_marks_trees : (ts : Trees) (stack : List Trees) → read_marks (marks_trees ts) stack ≡ ts ∷ stack
  read_marks_trees nil stack = refl
  read_marks_trees (cons t ts) stack =
      read_marks_append (marks_trees ts) (marks_tree t) stack
      ∙ (ap (read_marks (marks_tree t)) (read_marks_trees ts stack) ∙ read_marks_tree t ts stack)

abbrev tree_from : List (ℕ × ℕ) → Tree
tree_from ms = first_tree (top (read_marks ms (nil ∷ [])))

abbrev pub tree_code : Coded Tree
tree_code =
    code_by (List (ℕ × ℕ)) (coded_list (coded× coded_ℕ coded_ℕ)) marks_tree tree_from
    (λ t. ap (λ stack. first_tree (top stack)) (read_marks_tree t nil []))
