-- Numbers that stand together belong to a node.
use Rattle.std.proofs.Common.{◌≡◌, ℕ, ◌+◌, ◌<◌, ◌≤◌, ◌⊎◌, inl, inr, min, max, List, [], ◌∷◌, ◌++◌, length, Option, Some, slice_get, ap, sym, ◌∙◌, subst, arith}
use Rattle.std.specs.Borrow.{Bor}
use Rattle.std.specs.Option.{option_copied}
use Rattle.std.specs.Slice.{IsItemAt}
use Rattle.std.proofs.lemmas.Bool.{cases_lt}
use Rattle.std.proofs.lemmas.Option.{same_Some}
use Rattle.trs_defs.specs.Tree.{Tree, Trees, cons}
use Rattle.trs_defs.proofs.ListItems.{item_of_more}
use Rattle.order_theory.specs.PathOrder.{PathGreater, by_arg, SomeAtLeast, equal_here, greater_here, further}
use Rattle.pair_order.proofs.Placing.{copied_item}
use Rattle.path_lpo.specs.declared.nodes.Node.{Node}
use Rattle.path_lpo.specs.declared.nodes.Node.TheVariants.{App, Cons}
use Rattle.path_lpo.specs.declared.parts.Span.{Span}
use Rattle.path_lpo.specs.Graph.{term, tree_at, list_at, StandsFor, AreOverEarlier}
use Rattle.path_lpo.specs.Parts.{IsIn, AreOfEither, AreBelow, AreAtMost, AreReached, BelongTo, AreSpansOf}
use Rattle.path_lpo.proofs.Readings.{node_stands, tree_stands, root_whole, node_split}

pub read_item : {E : Type 0} (es : List E) (i : ℕ) (r : Option (Bor E)) (x : Bor E) → IsItemAt es i r → r ≡ Some x → slice_get es i ≡ Some x.now
read_item es i r x item is = sym (copied_item es i r item) ∙ ap option_copied is

pub together : (a b r : Span) → a.from ≤ b.to → b.from ≤ a.to → r.from ≡ min a.from b.from → r.to ≡ max a.to b.to → AreOfEither a b r
together a b r h k from to m i =
    let i0 : r.from ≤ m = i.0 in
    let i1 : m < r.to = i.1 in
    elim (cases_lt m a.to) as (λ _. IsIn a m ⊎ IsIn b m) [
      | inl l ↦ elim (cases_lt m a.from) as (λ _. IsIn a m ⊎ IsIn b m) [
        | inl before ↦ inr (omega (arith, i0, from, before), omega (arith, before, h))
        | inr after ↦ inl (after, l)
      ]
      | inr past ↦ inr (omega (arith, k, past), omega (arith, i1, to, past))
    ]

first_of : {rank : ℕ → ℕ} {t u : Tree} {us : Trees} → (t ≡ u) ⊎ PathGreater rank t u → SomeAtLeast rank (cons t us) u
first_of {rank = rank} {t = t} {us = us} (inl e) = subst (SomeAtLeast rank (cons t us)) e equal_here
first_of (inr g) = greater_here g

module _ (ns : List Node) (below : AreOverEarlier ns) (n : ℕ) where
  list_is_no_term : (first rest : ℕ) (u : Tree) → slice_get ns n ≡ Some (Cons first rest) → StandsFor ns n (term u) → ⊥
  list_is_no_term first rest u there is = let list = node_stands ns n (Cons first rest) below there in absurd (cc (sym list ∙ is))

  pub arguments_below : (f args : ℕ) (span : Span) → slice_get ns n ≡ Some (App f args) → AreReached ns args span → AreBelow ns n span
  arguments_below f args span there h m u i s rank =
      subst (λ t. PathGreater rank t u) (root_whole ns n (App f args) below there) (by_arg (h m u i s rank))

  pub list_reached : (first rest : ℕ) (a b span : Span) → slice_get ns n ≡ Some (Cons first rest) → AreAtMost ns first a → AreReached ns rest b → AreOfEither a b span
      → AreReached ns n span
  list_reached first rest a b span there most reached either m u i s rank =
      let split = node_split ns n (Cons first rest) below there in
      subst (λ us. SomeAtLeast rank us u) (sym split.list_is) (elim (either m i) as (λ _. SomeAtLeast rank (cons (tree_at ns first) (list_at ns rest)) u) [
        | inl x ↦ first_of (most m u x s rank)
        | inr y ↦ further (reached m u y s rank)
      ])

  pub list_with_itself : (first rest : ℕ) (all span : Span) → slice_get ns n ≡ Some (Cons first rest) → AreReached ns n all → all.to ≡ n → span.from ≡ all.from → span.to ≤ n + 1
      → AreReached ns n span
  list_with_itself first rest all span there h to from last m u i s rank =
      let i0 : span.from ≤ m = i.0 in
      let i1 : m < span.to = i.1 in
      elim (cases_lt m n) as (λ _. SomeAtLeast rank (list_at ns n) u) [
        | inl less ↦ h m u (omega (arith, i0, from), omega (arith, less, to)) s rank
        | inr past ↦ let same : m ≡ n = omega (arith, past, i1, last) in absurd (list_is_no_term first rest u there (subst (λ k. StandsFor ns k (term u)) same s))
      ]

  pub list_alone : (first rest : ℕ) (span : Span) → slice_get ns n ≡ Some (Cons first rest) → ((m : ℕ) → IsIn span m → m ≡ n) → AreReached ns n span
  list_alone first rest span there alone m u i s rank = absurd (list_is_no_term first rest u there (subst (λ k. StandsFor ns k (term u)) (alone m i) s))

pub alone_at_most : (ns : List Node) (n : ℕ) (span : Span) → ((m : ℕ) → IsIn span m → m ≡ n) → AreAtMost ns n span
alone_at_most ns n span alone m u i s rank = inl (tree_stands ns n u (subst (λ k. StandsFor ns k (term u)) (alone m i) s))

pub joined_at_most : (ns : List Node) (n : ℕ) (a b span : Span) → AreBelow ns n a → ((m : ℕ) → IsIn b m → m ≡ n) → AreOfEither a b span → AreAtMost ns n span
joined_at_most ns n a b span below alone either m u i s rank = elim (either m i) as (λ _. (tree_at ns n ≡ u) ⊎ PathGreater rank (tree_at ns n) u) [
  | inl x ↦ inr (below m u x s rank)
  | inr y ↦ alone_at_most ns n b alone m u y s rank
]

-- the spans of more nodes
pub no_spans : (ns : List Node) (spans : List Span) → spans ≡ [] → AreSpansOf ns spans
no_spans ns spans none n node span there e = absurd (cc (sym (ap (λ xs. slice_get xs n) none) ∙ e))

pub more_spans : (ns : List Node) (spans : List Span) (span : Span) (n : ℕ) (node : Node) → AreSpansOf ns spans → length spans ≡ n → slice_get ns n ≡ Some node → BelongTo ns n node span
    → AreSpansOf ns (spans ++ span ∷ [])
more_spans ns spans span n node old long there belong k other sp at e =
    elim (item_of_more spans span sp k e) as (λ _. BelongTo ns k other sp) [
      | inl before ↦ old k other sp at before
      | inr last ↦
          let place : k ≡ n = last.0 ∙ long in
          let same_node : node ≡ other = same_Some node other (sym there ∙ (ap (slice_get ns) (sym place) ∙ at)) in
          subst (λ i. BelongTo ns i other sp) (sym place) (subst (λ x. BelongTo ns n x sp) same_node (subst (BelongTo ns n node) (sym last.1) belong))
    ]
