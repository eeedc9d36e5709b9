-- The walk, turn by turn.
use Rattle.std.proofs.Common.{◌≡◌, ◌⊎◌, inl, inr, ℕ, zero, suc, ◌<◌, ◌≤◌, ◌+◌, ◌-◌, List, [], ◌∷◌, ◌++◌, length, map, drop, take, Option, Some, None, slice_get, refl, sym, ap, ◌∙◌, subst, arith}
use Rattle.std.specs.Option.{option_map}
use Rattle.std.proofs.lemmas.List.{length-append, append_assoc, append-nil, drop_all, drop-append-le, take_all, take-append-le}
use Rattle.std.proofs.lemmas.Option.{slice_get_within}
use Rattle.tree_state.specs.declared.node.Node.{Node}
use Rattle.tree_state.specs.declared.node.Decision.{Decision}
use Rattle.tree_definitions.specs.History.{HistoryEntry}
use Rattle.tree_definitions.specs.States.{TreeNode, Decided, IsChild}
use Rattle.tree_definitions.specs.Reports.{Walks, ends, numbers, decision_at}
use Rattle.tree_state.specs.Seen.{node_of, decided_of}
use Rattle.tree_state.specs.Ascending.{own_kids, IsAscending}
use Rattle.tree_definitions.proofs.Lookups.{append_cases, map_cases, take_there}
use Rattle.tree_definitions.proofs.Weights.{kids, kids_of, sum_of, weight, walk_falls, walk_on}
use Rattle.trs_defs.proofs.ListItems.{from_item, image_item}

numbers_more : (first count : ℕ) → numbers first (suc count) ≡ numbers first count ++ (first + count) ∷ []
numbers_more first zero = let e : first ≡ first + 0 = omega arith in ap (λ n. n ∷ []) e
numbers_more first (suc count) =
    let e : first + 1 + count ≡ first + suc count = omega arith in
    ap (λ ns. first ∷ ns) (numbers_more (first + 1) count) ∙ ap (λ n. first ∷ (numbers (first + 1) count ++ n ∷ [])) e

pub no_numbers : (xs : List ℕ) (first : ℕ) → xs ≡ xs ++ numbers first 0
no_numbers xs first = sym (append-nil xs)

pub numbers_next : (old now next : List ℕ) (first k : ℕ) → now ≡ old ++ numbers first k → next ≡ now ++ (first + k) ∷ [] → next ≡ old ++ numbers first (k + 1)
numbers_next old now next first k is more =
    let e : k + 1 ≡ suc k = omega arith in
    more ∙ ap (λ xs. xs ++ (first + k) ∷ []) is ∙ append_assoc old (numbers first k) ((first + k) ∷ []) ∙ ap (λ ns. old ++ ns) (sym (numbers_more first k)) ∙ ap (λ n. old ++ numbers first n) (sym e)

module _ (nodes : List Node) (h : List HistoryEntry) where
  abbrev seen : List TreeNode
  seen = map (node_of h) nodes

  kids_are : (d : Option Decision) → kids_of (option_map (decided_of h) d) ≡ own_kids d
  kids_are None = refl
  kids_are (Some d) = refl

  pub kids_seen : (n : ℕ) (node : Node) → slice_get nodes n ≡ Some node → kids seen n ≡ own_kids node.decision
  kids_seen n node there = ap (λ o. kids_of (decision_at o)) (image_item (node_of h) nodes n node there) ∙ kids_are node.decision

  number_there : (first count c : ℕ) → first ≤ c → c < first + count → (k : ℕ) × (slice_get (numbers first count) k ≡ Some c)
  number_there first zero c le lt = absurd (omega (arith, le, lt))
  number_there first (suc count) c le lt = go (c - first) refl
    where
      at : (f n k c : ℕ) → c ≡ f + k → k < n → slice_get (numbers f n) k ≡ Some c
      at f zero k c e lt = absurd (omega (arith, lt))
      at f (suc n) zero c e lt = let same : f ≡ c = omega (arith, e) in ap (λ z. Some z) same
      at f (suc n) (suc k) c e lt = at (f + 1) n k c (omega (arith, e)) (omega (arith, lt))

      go : (k : ℕ) → c - first ≡ k → (j : ℕ) × (slice_get (numbers first (suc count)) j ≡ Some c)
      go k e = (k, at first (suc count) k c (omega (arith, e, le)) (omega (arith, e, le, lt)))

  pub above : IsAscending nodes → (m : ℕ) (node : TreeNode) (d : Decided) → slice_get seen m ≡ Some node → node.decision ≡ Some d → (c : ℕ) → IsChild d c → m < c
  above asc m node d there dec c child =
      let o = map_cases (node_of h) nodes m node there in
      let d_is : option_map (decided_of h) o.0.decision ≡ Some d = sym (ap (λ (x : TreeNode). x.decision) o.2) ∙ dec in
      go o.0.decision refl d_is
    where
      go : (x : Option Decision) → (map_cases (node_of h) nodes m node there).0.decision ≡ x → option_map (decided_of h) x ≡ Some d → m < c
      go None e f = absurd cc
      go (Some own) e f =
          let o = map_cases (node_of h) nodes m node there in
          let same : decided_of h own ≡ d = cc in
          let range = subst (λ (z : Decided). IsChild z c) (sym same) child in
          let k = number_there own.first own.count c range.0 range.1 in
          (asc m o.0 o.1 k.0 c (subst (λ (x : Option Decision). slice_get (own_kids x) k.0 ≡ Some c) (sym e) k.1)).0

  -- one turn
  module _ (order next : List ℕ) (i n : ℕ) (node : Node) (at : slice_get order i ≡ Some n) (there : slice_get nodes n ≡ Some node) (is : next ≡ order ++ own_kids node.decision) where
    low : suc i ≤ length order
    low = let lt = slice_get_within order i n at in omega (arith, lt)

    rest_is : drop (suc i) next ≡ drop (suc i) order ++ kids seen n
    rest_is = ap (drop (suc i)) is ∙ drop-append-le (suc i) order (own_kids node.decision) low ∙ ap (λ ks. drop (suc i) order ++ ks) (sym (kids_seen n node there))

    pub turn_walks : (root : ℕ) → ((tail : List ℕ) → Walks seen (drop i order) tail → Walks seen (root ∷ []) (take i order ++ tail))
        → (tail : List ℕ) → Walks seen (drop (suc i) next) tail → Walks seen (root ∷ []) (take (suc i) next ++ tail)
    turn_walks root before tail w =
        let w_rest = subst (λ ws. Walks seen ws tail) rest_is w in
        let on = walk_on seen n (node_of h node) (drop (suc i) order) tail (image_item (node_of h) nodes n node there) w_rest in
        let from = subst (λ ws. Walks seen ws (n ∷ tail)) (sym (from_item order i n at)) on in
        let all = before (n ∷ tail) from in
        let taken : take i order ++ n ∷ tail ≡ take (suc i) next ++ tail =
        sym (append_assoc (take i order) (n ∷ []) tail) ∙ ap (λ xs. xs ++ tail) (sym (ap (take (suc i)) is ∙ take-append-le (suc i) order (own_kids node.decision) low ∙ take_there order i n at)) in
        subst (Walks seen (root ∷ [])) taken all

    pub turn_longer : suc i ≤ length next
    turn_longer = let n_is = ap length is ∙ length-append order (own_kids node.decision) in let l = low in omega (arith, n_is, l)

    pub turn_falls : IsAscending nodes → sum_of (weight seen (length seen)) (drop (suc i) next) < sum_of (weight seen (length seen)) (drop i order)
    turn_falls asc =
        let f = walk_falls seen (above asc) n (drop (suc i) order) in
        let a = ap (sum_of (weight seen (length seen))) rest_is in
        let b = ap (sum_of (weight seen (length seen))) (from_item order i n at) in
        omega (arith, f, a, b)

    pub turn_within : IsAscending nodes → ((k c : ℕ) → slice_get order k ≡ Some c → c < length nodes) → (k c : ℕ) → slice_get next k ≡ Some c → c < length nodes
    turn_within asc before k c t = go (append_cases order (own_kids node.decision) k c (subst (λ (xs : List ℕ). slice_get xs k ≡ Some c) is t))
      where
        go : (slice_get order k ≡ Some c) ⊎ ((j : ℕ) × (k ≡ length order + j) × (slice_get (own_kids node.decision) j ≡ Some c)) → c < length nodes
        go (inl w) = before k c w
        go (inr w) = (asc n node there w.0 c w.2).1

pub numbers_at : (first count k : ℕ) → k < count → slice_get (numbers first count) k ≡ Some (first + k)
numbers_at first zero k lt = absurd (omega (arith, lt))
numbers_at first (suc count) zero lt = let e : first ≡ first + 0 = omega arith in ap (λ n. Some n) e
numbers_at first (suc count) (suc k) lt = let e : first + 1 + k ≡ first + suc k = omega arith in numbers_at (first + 1) count k (omega (arith, lt)) ∙ ap (λ n. Some n) e

pub walk_done : (nodes : List TreeNode) (root : ℕ) (order : List ℕ) (i : ℕ) → length order ≤ i
    → ((tail : List ℕ) → Walks nodes (drop i order) tail → Walks nodes (root ∷ []) (take i order ++ tail)) → Walks nodes (root ∷ []) order
walk_done nodes root order i le h =
    let w = h [] (subst (λ ws. Walks nodes ws []) (sym (drop_all i order le)) ends) in
    subst (Walks nodes (root ∷ [])) (append-nil (take i order) ∙ take_all i order le) w
