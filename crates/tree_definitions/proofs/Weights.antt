-- The walk of a goal ends: the nodes that are still to be walked.
use Rattle.std.proofs.Common.{◌≡◌, ℕ, zero, suc, ◌<◌, ◌≤◌, ◌+◌, List, [], ◌∷◌, ◌++◌, length, Option, Some, None, slice_get, refl, ap, ◌∙◌, subst, arith}
use Rattle.std.proofs.lemmas.Option.{slice_get_past}
use Rattle.tree_definitions.specs.States.{TreeNode, Decided, IsChild}
use Rattle.tree_definitions.specs.Reports.{Walks, stays, goes_on, numbers, children_of, decision_at}

abbrev pub kids_of : Option Decided → List ℕ
kids_of None = []
kids_of (Some d) = children_of d

abbrev pub kids : List TreeNode → ℕ → List ℕ
kids nodes n = kids_of (decision_at (slice_get nodes n))

abbrev pub sum_of : (ℕ → ℕ) → List ℕ → ℕ
sum_of f [] = 0
sum_of f (n ∷ ns) = f n + sum_of f ns

-- how many nodes stand at a node and below it, to this depth
abbrev pub weight : List TreeNode → ℕ → ℕ → ℕ
weight nodes zero n = 1
weight nodes (suc depth) n = 1 + sum_of (weight nodes depth) (kids nodes n)

sum_append : (f : ℕ → ℕ) (xs ys : List ℕ) → sum_of f (xs ++ ys) ≡ sum_of f xs + sum_of f ys
sum_append f [] ys = omega arith
sum_append f (x ∷ xs) ys = omega (arith, sum_append f xs ys)

data Each (P : ℕ → Type 0) : List ℕ → Type 0 where
  none : Each P []
  and : (n : ℕ) (ns : List ℕ) → P n → Each P ns → Each P (n ∷ ns)

sum_same : (f g : ℕ → ℕ) (ns : List ℕ) → Each (λ n. f n ≡ g n) ns → sum_of f ns ≡ sum_of g ns
sum_same f g _ none = refl
sum_same f g _ (and n ns e es) = omega (arith, e, sum_same f g ns es)

each_number : (P : ℕ → Type 0) (first count : ℕ) → ((c : ℕ) → first ≤ c → c < first + count → P c) → Each P (numbers first count)
each_number P first zero h = none
each_number P first (suc count) h =
    and first (numbers (first + 1) count) (h first (omega arith) (omega arith)) (each_number P (first + 1) count (λ c le lt. h c (omega (arith, le)) (omega (arith, lt))))

module _ (nodes : List TreeNode) (above : (m : ℕ) (node : TreeNode) (d : Decided) → slice_get nodes m ≡ Some node → node.decision ≡ Some d → (c : ℕ) → IsChild d c → m < c) where
  each_kid : (P : ℕ → Type 0) (n : ℕ) → ((c : ℕ) → n < c → P c) → Each P (kids nodes n)
  each_kid P n h = go (slice_get nodes n) refl
    where
      at : (node : TreeNode) (o : Option Decided) → slice_get nodes n ≡ Some node → node.decision ≡ o → Each P (kids_of o)
      at node None there e = none
      at node (Some d) there e = each_number P d.first d.count (λ c le lt. h c (above n node d there e c (le, lt)))

      go : (o : Option TreeNode) → slice_get nodes n ≡ o → Each P (kids_of (decision_at o))
      go None e = none
      go (Some node) e = at node node.decision e refl

  stable : (depth n : ℕ) → length nodes ≤ n + depth → weight nodes depth n ≡ weight nodes (suc depth) n
  stable zero n le =
      let past : slice_get nodes n ≡ None = slice_get_past nodes n (omega (arith, le)) in
      rw past refl
  stable (suc depth) n le =
      let same = sum_same (weight nodes depth) (weight nodes (suc depth)) (kids nodes n) (each_kid (λ c. weight nodes depth c ≡ weight nodes (suc depth) c) n
      (λ c lt. stable depth c (omega (arith, le, lt)))) in
      ap (λ k. 1 + k) same

  -- the weight of nodes that wait
  abbrev pub to_walk : List ℕ → ℕ
  to_walk waiting = sum_of (weight nodes (length nodes)) waiting

  pub walk_falls : (n : ℕ) (rest : List ℕ) → to_walk (n ∷ rest) ≡ 1 + to_walk (rest ++ kids nodes n)
  walk_falls n rest =
      let s = stable (length nodes) n (omega arith) in
      let e : weight nodes (suc (length nodes)) n ≡ 1 + sum_of (weight nodes (length nodes)) (kids nodes n) = refl in
      let a = sum_append (weight nodes (length nodes)) rest (kids nodes n) in
      omega (arith, s, e, a)

pub walk_on : (nodes : List TreeNode) (n : ℕ) (node : TreeNode) (rest order : List ℕ) → slice_get nodes n ≡ Some node → Walks nodes (rest ++ kids nodes n) order → Walks nodes (n ∷ rest) (n ∷ order)
walk_on nodes n node rest order there w = go node.decision refl
  where
    nil : (xs : List ℕ) → xs ++ [] ≡ xs
    nil [] = refl
    nil (x ∷ xs) = ap (λ ys. x ∷ ys) (nil xs)

    go : (o : Option Decided) → node.decision ≡ o → Walks nodes (n ∷ rest) (n ∷ order)
    go None e =
        let k : kids nodes n ≡ [] = ap (λ x. kids_of (decision_at x)) there ∙ ap kids_of e in
        stays n node rest order there e (subst (λ ws. Walks nodes ws order) (ap (λ ks. rest ++ ks) k ∙ nil rest) w)
    go (Some d) e =
        let k : kids nodes n ≡ children_of d = ap (λ x. kids_of (decision_at x)) there ∙ ap kids_of e in
        goes_on n node d rest order there e (subst (λ ws. Walks nodes ws order) (ap (λ ks. rest ++ ks) k) w)
