-- The components of the graph on a problem stand in one list: they are parts of the problem that share no pair, in the order of their
-- least pairs as far as edges allow.
use Rattle.std.specs.Prelude.{◌≡◌, ◌<◌, ℕ, List, [], ◌∷◌, refl}
use Rattle.std.proofs.Common.{ap, ap₂, sym, ◌∙◌, subst, inl, inr, arith}
use Rattle.trs_defs.specs.Member.{In, in_first, in_rest}
use Rattle.trs_defs.proofs.Members.{in_or, no_in, in_left, in_right, in_either}
use Rattle.trs_defs.specs.Run.{Stay, Go}
use Rattle.trs_defs.proofs.Runs.{then}
use Rattle.trs_defs.specs.System.{RewriteRule, System}
use Rattle.pair_theory.specs.DependencyPair.{DependencyPair, dependency_pairs}
use Rattle.conclusion.specs.report_text.strategies.dp_graph.GroupOrSingle.{GroupOrSingle, group, single, members_of, all_members}
use Rattle.conclusion.specs.report_text.strategies.dp_graph.Components.{AreConnected, LiesOnCycle, IsComponent, IsReady, HasLesser, StandInOrder, next, AreComponents}
use Rattle.conclusion.specs.report_text.strategies.Rows.{FindsGraph, FailsGraph}
use Rattle.conclusion.proofs.tree_definitions.strategies.dp_graph.ComponentLaws.{member_there}
use Rattle.conclusion.proofs.tree_definitions.strategies.Shrinking.{never_missing}
use Rattle.text_determinism.proofs.Items.{increasing_once}

-- ---- members

item_with : (items : List GroupOrSingle) (n : ℕ) → In n (all_members items) → (item : GroupOrSingle) × In item items × In n (members_of item)
item_with [] n i = absurd (no_in i)
item_with (item ∷ items) n i = elim (in_either (members_of item) (all_members items) i) [
  | inl here ↦ (item, in_first, here)
  | inr later ↦ (let (other, there, has) = item_with items n later in (other, in_rest there, has))
]

of_item : {item : GroupOrSingle} {items : List GroupOrSingle} {n : ℕ} → In item items → In n (members_of item) → In n (all_members items)
of_item (in_first {xs = items}) i = in_left (all_members items) i
of_item (in_rest {y = first} there) i = in_right (members_of first) (of_item there i)

-- members of two lists of items, if the items of one are items of the other
members_within : (items others : List GroupOrSingle) → ((item : GroupOrSingle) → In item items → In item others) → (n : ℕ)
    → In n (all_members items) → In n (all_members others)
members_within items others to n i = let (item, there, has) = item_with items n i in of_item (to item there) has

module _ (rules : List RewriteRule) (all : List DependencyPair) (numbers : List ℕ) where
  -- ---- components that share a pair

  on_cycle : (m k : ℕ) → LiesOnCycle rules all numbers m → AreConnected rules all numbers m k → LiesOnCycle rules all numbers k
  on_cycle m _ cycle (to, Stay) = cycle
  on_cycle m k cycle (to, Go {m = z} edge back) = (z, edge, then back to)

  through : (m x k : ℕ) → AreConnected rules all numbers m x → AreConnected rules all numbers k x → (n : ℕ)
      → AreConnected rules all numbers m n → AreConnected rules all numbers k n
  through m x k (m_x, x_m) (k_x, x_k) n (m_n, n_m) = (then k_x (then x_m m_n), then n_m (then m_x x_k))

  only : {x k : ℕ} → In x (k ∷ []) → x ≡ k
  only i = elim (in_or i) [ inl same ↦ same | inr later ↦ absurd (no_in later) ]

  shared : (item other : GroupOrSingle) → IsComponent rules all numbers item → IsComponent rules all numbers other
      → (x : ℕ) → In x (members_of item) → In x (members_of other) → item ≡ other
  shared (group ms) (group ks) (up, (m, cycle, are)) (rising, (k, loop, is)) x i j =
      let m_x = (are x).0 i in
      let k_x = (is x).0 j in
      ap group (increasing_once ms ks up rising
      (λ n h. let m_n = (are n).0 h in (is n).1 (m_n.0, through m x k m_x.1 k_x.1 n m_n.1))
      (λ n h. let k_n = (is n).0 h in (are n).1 (k_n.0, through k x m k_x.1 m_x.1 n k_n.1)))
  shared (group ms) (single k) (up, (m, cycle, are)) none x i j =
      absurd (none (subst (LiesOnCycle rules all numbers) (only j) (on_cycle m x cycle ((are x).0 i).1)))
  shared (single m) (group ks) none (rising, (k, loop, is)) x i j =
      absurd (none (subst (LiesOnCycle rules all numbers) (only i) (on_cycle k x loop ((is x).0 j).1)))
  shared (single m) (single k) none nowhere x i j = ap single (sym (only i) ∙ only j)

  has_member : (item : GroupOrSingle) → IsComponent rules all numbers item → (x : ℕ) × In x (members_of item)
  has_member (group ms) (up, (m, (n, (within, far, edge), back), are)) = (m, (are m).1 (within, (Stay, Stay)))
  has_member (single m) none = (m, in_first)

  -- each component of one list is one of the other
  also_listed : (items others : List GroupOrSingle) → AreComponents rules all numbers items → AreComponents rules all numbers others
      → (item : GroupOrSingle) → In item items → In item others
  also_listed items others h k item i =
      let (x, has) = has_member item (h.components item i) in
      let named : In x numbers = member_there numbers [] (all_members items) h.named x (of_item i has) in
      let (other, there, shares) = item_with others x (never_missing numbers (all_members others) k.whole x named) in
      let same : item ≡ other = shared item other (h.components item i) (k.components other there) x has shares in
      subst (λ (z : GroupOrSingle). In z others) (sym same) there

  -- ---- items in order

  not_lesser : (item other : GroupOrSingle) → HasLesser rules all numbers item other → HasLesser rules all numbers other item → ⊥
  not_lesser item other (m, has, below) (n, there, under) =
      let less : m < n = below n there in let more : n < m = under m has in absurd (omega (arith, less, more))

  still_ready : (items others : List GroupOrSingle) (item : GroupOrSingle) → ((z : GroupOrSingle) → In z others → In z items)
      → IsReady rules all numbers items item → IsReady rules all numbers others item
  still_ready items others item back ready m n i j edge = ready m n (members_within others items back m i) j edge

  stand_once : (items others : List GroupOrSingle) → StandInOrder rules all numbers items → StandInOrder rules all numbers others
      → ((z : GroupOrSingle) → In z items → In z others) → ((z : GroupOrSingle) → In z others → In z items) → items ≡ others
  stand_once [] [] h k to back = refl
  stand_once [] (b ∷ others) h k to back = absurd (no_in (back b in_first))
  stand_once (a ∷ items) [] h k to back = absurd (no_in (to a in_first))
  stand_once (a ∷ items) (b ∷ others) (next ready least rest) (next free first later) to back =
      let same : a ≡ b = elim (in_or (to a in_first)) [
        | inl e ↦ e
        | inr i ↦ elim (in_or (back b in_first)) [
          | inl e ↦ sym e
          | inr j ↦ absurd (not_lesser a b (least b j (still_ready (b ∷ others) (a ∷ items) b to free))
              (first a i (still_ready (a ∷ items) (b ∷ others) a back ready)))
        ]
      ] in
      ap₂ (λ (z : GroupOrSingle) (zs : List GroupOrSingle). z ∷ zs) same (stand_once items others rest later
      (λ z i. elim (in_or (to z (in_rest i))) [
        | inl e ↦ (let again : In a items = subst (λ (y : GroupOrSingle). In y items) (e ∙ sym same) i in
            absurd (not_lesser a a (least a again ready) (least a again ready)))
        | inr j ↦ j
      ])
      (λ z i. elim (in_or (back z (in_rest i))) [
        | inl e ↦ (let again : In b others = subst (λ (y : GroupOrSingle). In y others) (e ∙ same) i in
            absurd (not_lesser b b (first b again free) (first b again free)))
        | inr j ↦ j
      ]))

  pub components_once : (items others : List GroupOrSingle) → AreComponents rules all numbers items
      → AreComponents rules all numbers others → items ≡ others
  components_once items others h k =
      stand_once items others h.in_order k.in_order (also_listed items others h k) (also_listed others items k h)

pub graph_once : (system : System) (numbers : List ℕ) (items others : List GroupOrSingle) → FindsGraph system numbers items
    → FindsGraph system numbers others
    → items ≡ others
graph_once system numbers items others h k =
    components_once system.rules (dependency_pairs system.rules) numbers items others h.components k.components

pub graph_not_failed : (system : System) (numbers : List ℕ) (items : List GroupOrSingle) → FindsGraph system numbers items
    → FailsGraph system numbers → ⊥
graph_not_failed system numbers items h k =
    h.split (components_once system.rules (dependency_pairs system.rules) numbers items (group numbers ∷ []) h.components k)
