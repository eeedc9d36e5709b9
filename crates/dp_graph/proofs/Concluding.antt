-- A problem that passes the conditions of a step by the graph is finite if that of each group is: the items are groups in order.
use Rattle.std.specs.Prelude.{◌≡◌, ◌<◌, ℕ, ◌⊎◌, Bool, true, false, List, [], ◌∷◌, ◌++◌, length, get_or, Some, IsTrue, Ok, slice_get}
use Rattle.std.proofs.Common.{zero, suc, inl, inr, refl, sym, ap, subst, arith, ◌∙◌}
use Rattle.std.proofs.lemmas.Option.{slice_get_within, get_or_from_slice_get}
use native.Mathlib.Decide.{dec_lt, ℕ_discrete}
use Rattle.trs_defs.specs.Member.{In, in_first, in_rest}
use Rattle.trs_defs.proofs.Members.{in_or, no_in, in_left, in_right, in_either, in_of_get, get_of_in}
use Rattle.trs_defs.specs.System.{RewriteRule, System, IsSystem}
use Rattle.pair_theory.specs.DependencyPair.{DependencyPair, dependency_pairs}
use Rattle.pair_theory.specs.PairGraph.{GroupEnds, by_problem, by_no_edge, IsGrouped}
use Rattle.pair_theory.proofs.Groups.{groups_theorem}
use Rattle.pair_theory.proofs.PairList.{listed_are_pairs}
use Rattle.rewrite_core.specs.Check.{Needs, Forbids, holds, never, returned, goes_on, each_after}
use Rattle.rewrite_core.proofs.CheckLaws.{once}
use Rattle.dp_core.specs.Numbered.{ArePairsOf}
use Rattle.dp_core.specs.Laws.{IsFiniteOf}
use Rattle.dp_core.proofs.NumberedPairs.{pairs_of_numbers, pair_of_number}
use Rattle.dp_graph.specs.Edge.{HoldsAtEdges}
use Rattle.dp_graph.specs.GroupOrSingle.{GroupOrSingle, group, single, members_of, all_members, groups_of, singles_of}
use Rattle.dp_graph.specs.GraphConditions.{HasEdge, are_members, leads_to_none, lead_to_none, lead_onward, have_no_self_edge}
use Rattle.dp_graph.proofs.Covering.{edges_cover}
use Rattle.dp_graph.proofs.Sets.{true_is_not_false}
use Rattle.dp_graph.proofs.EachOfList.{each_passed, it_is_absent}
use Rattle.dp_graph.specs.Laws.{GraphStepsConclude, GraphStepsAnswerOnce, GroupsAreOfProblem}
use Rattle.rewrite_core.specs.declared.checks.refusals.StepRefused.TheVariants.{Member, EdgeBack, SelfEdge}

pub graph_once : GraphStepsAnswerOnce
graph_once rules all numbers items = search once depth 30

-- ---- members

members_there : (numbers before members : List ℕ) → each_after (λ before n. Needs (In n numbers × (In n before → ⊥)) (Member n)) before members (Ok tt)
    → (n : ℕ) → In n members → In n numbers
members_there numbers before [] h n i = absurd (no_in i)
members_there numbers before (m ∷ members) (goes_on _ _ (holds k) rest) n i = elim (in_or i) [
  | inl e ↦ subst (λ z. In z numbers) (sym e) k.0
  | inr j ↦ members_there numbers (before ++ m ∷ []) members rest n j
]

in_groups : (items : List GroupOrSingle) (members : List ℕ) (n : ℕ) → In members (groups_of items) → In n members → In n (all_members items)
in_groups [] members n g i = absurd (no_in g)
in_groups (group ms ∷ items) members n g i = elim (in_or g) [
  | inl e ↦ in_left (all_members items) (subst (λ z. In n z) e i)
  | inr h ↦ in_right ms (in_groups items members n h i)
]
in_groups (single m ∷ items) members n g i = in_rest (in_groups items members n g i)

pub groups_of_problem : GroupsAreOfProblem
groups_of_problem rules all numbers items _ (goes_on _ _ members (goes_on _ _ missing (goes_on _ _ onward (goes_on _ _ selves returned)))) =
    (refl, λ group n g i. members_there numbers [] (all_members items) members n (in_groups items group n g i))

-- ---- the number of the item that has a pair

dec_in : (n : ℕ) (xs : List ℕ) → Dec (In n xs)
dec_in n [] = no (λ i. no_in i)
dec_in n (x ∷ xs) = either (ℕ_discrete n x) (dec_in n xs)
  where
    either : Dec (n ≡ x) → Dec (In n xs) → Dec (In n (x ∷ xs))
    either (yes e) d = yes (subst (λ z. In n (z ∷ xs)) e in_first)
    either (no e) (yes i) = yes (in_rest i)
    either (no e) (no i) = no (λ j. elim (in_or j) [ inl same ↦ e same | inr k ↦ i k ])

abbrev past : {A : Type 0} → Dec A → ℕ → ℕ
past (yes h) k = zero
past (no h) k = suc k

past_cases : {A : Type 0} (d : Dec A) (k : ℕ) (P : ℕ → Type 0) → (A → P zero) → ((A → ⊥) → P (suc k)) → P (past d k)
past_cases (yes h) k P f g = f h
past_cases (no h) k P f g = g h

abbrev place : List GroupOrSingle → ℕ → ℕ
place [] n = zero
place (item ∷ items) n = past (dec_in n (members_of item)) (place items n)

place_cases : (item : GroupOrSingle) (items : List GroupOrSingle) (n : ℕ) (P : ℕ → Type 0) → (In n (members_of item) → P zero)
    → ((In n (members_of item) → ⊥) → P (suc (place items n))) → P (place (item ∷ items) n)
place_cases item items n P f g = past_cases (dec_in n (members_of item)) (place items n) P f g

later_member : (item : GroupOrSingle) (items : List GroupOrSingle) (n : ℕ) → In n (all_members (item ∷ items)) → (In n (members_of item) → ⊥) → In n (all_members items)
later_member item items n i not = elim (in_either (members_of item) (all_members items) i) [ inl j ↦ absurd (not j) | inr j ↦ j ]

placed_within : (items : List GroupOrSingle) (n : ℕ) → In n (all_members items) → place items n < length items
placed_within [] n i = absurd (no_in i)
placed_within (item ∷ items) n i = place_cases item items n (λ k. k < suc (length items)) (λ j. omega arith)
    (λ not. let h = placed_within items n (later_member item items n i not) in omega (arith, h))

-- ---- single pairs

abbrev alone : GroupOrSingle → Bool
alone (group members) = false
alone (single member) = true

abbrev is_single : List GroupOrSingle → ℕ → Bool
is_single [] k = false
is_single (item ∷ items) zero = alone item
is_single (item ∷ items) (suc k) = is_single items k

only_one : (item : GroupOrSingle) (items : List GroupOrSingle) (m n : ℕ) → alone item ≡ true → In m (members_of item) → In n (members_of item) → (m ≡ n) × In n (singles_of (item ∷ items))
only_one (group members) items m n e i j = absurd cc
only_one (single x) items m n e i j = elim (in_or i) [
  | inl a ↦ elim (in_or j) [ inl b ↦ (a ∙ sym b, subst (λ z. In n (z ∷ singles_of items)) b in_first) | inr k ↦ absurd (no_in k) ]
  | inr k ↦ absurd (no_in k)
]

single_later : (item : GroupOrSingle) (items : List GroupOrSingle) (n : ℕ) → In n (singles_of items) → In n (singles_of (item ∷ items))
single_later (group members) items n i = i
single_later (single x) items n i = in_rest i

next_same : (a b : ℕ) → suc a ≡ suc b → a ≡ b
next_same a b e = omega (arith, e)

-- two pairs of one single item are the same
same_single : (items : List GroupOrSingle) (m n : ℕ) → In m (all_members items) → In n (all_members items) → place items m ≡ place items n
    → is_single items (place items n) ≡ true → (m ≡ n) × In n (singles_of items)
same_single [] m n i j = absurd (no_in i)
same_single (item ∷ items) m n i j = place_cases item items n (λ k. place (item ∷ items) m ≡ k → is_single (item ∷ items) k ≡ true → (m ≡ n) × In n (singles_of (item ∷ items)))
    (λ b. place_cases item items m (λ l. l ≡ zero → alone item ≡ true → (m ≡ n) × In n (singles_of (item ∷ items)))
    (λ a e s. only_one item items m n s a b)
    (λ not e s. absurd (omega (arith, e))))
    (λ not. place_cases item items m (λ l. l ≡ suc (place items n) → is_single items (place items n) ≡ true → (m ≡ n) × In n (singles_of (item ∷ items)))
    (λ a e s. absurd (omega (arith, e)))
    (λ none e s. let h = same_single items m n (later_member item items m i none) (later_member item items n j not) (next_same (place items m) (place items n) e) s in (h.0, single_later item items n h.1)))

-- ---- groups

-- the members of the group with this number
record GroupAt (items : List GroupOrSingle) (k : ℕ) : Type 0 where
  members : List ℕ
  listed : In members (groups_of items)
  has : (n : ℕ) → In n (all_members items) → place items n ≡ k → In n members

group_later : (item : GroupOrSingle) (items : List GroupOrSingle) (members : List ℕ) → In members (groups_of items) → In members (groups_of (item ∷ items))
group_later (group ms) items members i = in_rest i
group_later (single x) items members i = i

group_first : (item : GroupOrSingle) (items : List GroupOrSingle) → alone item ≡ false → In (members_of item) (groups_of (item ∷ items))
group_first (group ms) items e = in_first
group_first (single x) items e = absurd cc

group_at : (items : List GroupOrSingle) (k : ℕ) → k < length items → is_single items k ≡ false → GroupAt items k
group_at [] k h e = absurd (omega arith)
group_at (item ∷ items) zero h e = record {
  members = members_of item;
  listed = group_first item items e;
  has = λ n i. place_cases item items n (λ l. l ≡ zero → In n (members_of item)) (λ j same. j) (λ not same. absurd (omega (arith, same)));
}
group_at (item ∷ items) (suc k) h e =
    let rest = group_at items k (omega (arith, h)) e in
    record {
      members = rest.members;
      listed = group_later item items rest.members rest.listed;
      has = λ n i. place_cases item items n (λ l. l ≡ suc k → In n rest.members) (λ j same. absurd (omega (arith, same)))
          (λ not same. rest.has n (later_member item items n i not) (next_same (place items n) k same));
    }

-- ---- edges

module _ (rules : List RewriteRule) (all : List DependencyPair) where
  none_from : (ms ns : List ℕ) → lead_to_none rules all ms ns (Ok tt) → (m n : ℕ) → In m ms → In n ns → HasEdge rules all m n → ⊥
  none_from ms ns h m n i j =
      it_is_absent (HasEdge rules all m n) (EdgeBack m n)
      (each_passed (λ n. Forbids (HasEdge rules all m n) (EdgeBack m n)) 0 ns (each_passed (λ m. leads_to_none rules all m ns) 0 ms h m i) n j)

  no_self : (ns : List ℕ) → have_no_self_edge rules all ns (Ok tt) → (n : ℕ) → In n ns → HasEdge rules all n n → ⊥
  no_self ns h n i = it_is_absent (HasEdge rules all n n) (SelfEdge n) (each_passed (λ n. Forbids (HasEdge rules all n n) (SelfEdge n)) 0 ns h n i)

  -- a member of the items before, or of this one, with one item more before
  one_before : (before : List GroupOrSingle) (item : GroupOrSingle) (m : ℕ) → In m (all_members before) ⊎ In m (members_of item) → In m (all_members (before ++ item ∷ []))
  one_before [] item m (inl i) = absurd (no_in i)
  one_before [] item m (inr i) = in_left [] i
  one_before (b ∷ before) item m (inl i) = elim (in_either (members_of b) (all_members before) i) [
    | inl j ↦ in_left (all_members (before ++ item ∷ [])) j
    | inr j ↦ in_right (members_of b) (one_before before item m (inl j))
  ]
  one_before (b ∷ before) item m (inr i) = in_right (members_of b) (one_before before item m (inr i))

  -- no edge leads to an item before, or to an earlier one of these
  none_back : (before items : List GroupOrSingle) → each_after (λ before item. lead_to_none rules all (members_of item) (all_members before)) before items (Ok tt)
      → (m n : ℕ) → In m (all_members items) → In n (all_members before) ⊎ (place items n < place items m) → HasEdge rules all m n → ⊥
  none_back before [] h m n i = absurd (no_in i)
  none_back before (item ∷ items) (goes_on _ _ here rest) m n i = place_cases item items m (λ k. In n (all_members before) ⊎ (place (item ∷ items) n < k) → HasEdge rules all m n → ⊥)
      (λ a earlier. elim earlier [ inl j ↦ none_from (members_of item) (all_members before) here m n a j | inr lt ↦ absurd (omega (arith, lt)) ])
      (λ not. place_cases item items n (λ l. In n (all_members before) ⊎ (l < suc (place items m)) → HasEdge rules all m n → ⊥)
      (λ b earlier. none_back (before ++ item ∷ []) items rest m n (later_member item items m i not) (inl (one_before before item n (inr b))))
      (λ none earlier. none_back (before ++ item ∷ []) items rest m n (later_member item items m i not) (elim earlier [
        | inl j ↦ inl (one_before before item n (inl j))
        | inr lt ↦ let less : place items n < place items m = omega (arith, lt) in inr less
      ])))

-- ---- the test: from an item to a later one, or within a group

abbrev bool_of : {A : Type 0} → Dec A → Bool
bool_of (yes h) = true
bool_of (no h) = false

true_of : {A : Type 0} (d : Dec A) → A → IsTrue (bool_of d)
true_of (yes h) a = refl
true_of (no h) a = absurd (h a)

of_true : {A : Type 0} (d : Dec A) → IsTrue (bool_of d) → A
of_true (yes h) e = h
of_true (no h) e = absurd cc

abbrev IsOnward : List GroupOrSingle → ℕ → ℕ → Type 0
IsOnward items a b = (a < b) ⊎ ((a ≡ b) × (is_single items a ≡ false))

dec_onward : (items : List GroupOrSingle) (a b : ℕ) → Dec (IsOnward items a b)
dec_onward items a b = below (dec_lt a b)
  where
    level : (f : Bool) → is_single items a ≡ f → (a < b → ⊥) → Dec (a ≡ b) → Dec (IsOnward items a b)
    level false is not (yes e) = yes (inr (e, is))
    level true is not (yes e) = no (λ h. elim h [ inl lt ↦ not lt | inr k ↦ true_is_not_false (is_single items a) is k.1 ])
    level f is not (no ne) = no (λ h. elim h [ inl lt ↦ not lt | inr k ↦ ne k.0 ])

    below : Dec (a < b) → Dec (IsOnward items a b)
    below (yes lt) = yes (inl lt)
    below (no not) = level (is_single items a) refl not (ℕ_discrete a b)

-- ---- the theorem

-- the number of a pair of the problem
record NumberOf (all : List DependencyPair) (numbers : List ℕ) (i : ℕ) (p : DependencyPair) : Type 0 where
  number : ℕ
  listed : slice_get numbers i ≡ Some number
  numbered : slice_get all number ≡ Some p

heads : {A : Type 0} (o : A) (y : A) (xs ys : List A) → o ∷ xs ≡ y ∷ ys → (o ≡ y) × (xs ≡ ys)
heads o y xs ys e = (cc, cc)

number_of : (all : List DependencyPair) (numbers : List ℕ) (pairs : List DependencyPair) → ArePairsOf all numbers pairs → (i : ℕ) (p : DependencyPair)
    → slice_get pairs i ≡ Some p → NumberOf all numbers i p
number_of all [] [] are i p e = absurd cc
number_of all [] (q ∷ pairs) are i p e = absurd cc
number_of all (n ∷ numbers) [] are i p e = absurd cc
number_of all (n ∷ numbers) (q ∷ pairs) are zero p e =
    let h = heads (slice_get all n) (Some q) _ _ are in
    record { number = n; listed = refl; numbered = h.0 ∙ e }
number_of all (n ∷ numbers) (q ∷ pairs) are (suc i) p e =
    let h = heads (slice_get all n) (Some q) _ _ are in
    let rest = number_of all numbers pairs h.1 i p e in
    record { number = rest.number; listed = rest.listed; numbered = rest.numbered }

-- a number that is listed is that of a pair
number_there : (all : List DependencyPair) (numbers : List ℕ) (pairs : List DependencyPair) → ArePairsOf all numbers pairs → (n : ℕ) → In n numbers → n < length all
number_there all [] pairs are n i = absurd (no_in i)
number_there all (m ∷ numbers) [] are n i = absurd cc
number_there all (m ∷ numbers) (q ∷ pairs) are n i =
    let h = heads (slice_get all m) (Some q) _ _ are in
    elim (in_or i) [ inl e ↦ subst (λ z. z < length all) (sym e) (slice_get_within all m q h.0) | inr j ↦ number_there all numbers pairs h.1 n j ]

module _ (system : System) (valid : IsSystem system) (numbers : List ℕ) (items : List GroupOrSingle) (pairs : List DependencyPair)
    (are : ArePairsOf (dependency_pairs system.rules) numbers pairs)
    (members : are_members numbers (all_members items) (Ok tt))
    (none_missing : (n : ℕ) → In n numbers × (In n (all_members items) → ⊥) → ⊥)
    (onward : lead_onward system.rules (dependency_pairs system.rules) items (Ok tt))
    (selves : have_no_self_edge system.rules (dependency_pairs system.rules) (singles_of items) (Ok tt))
    (finite : (group : List ℕ) → In group (groups_of items) → IsFiniteOf system group) where
  abbrev all : List DependencyPair
  all = dependency_pairs system.rules

  abbrev item : ℕ → ℕ
  item i = place items (get_or numbers i 0)

  abbrev test : ℕ → ℕ → Bool
  test i j = bool_of (dec_onward items (item i) (item j))

  named : (n : ℕ) → In n numbers → In n (all_members items)
  named n i = go (dec_in n (all_members items))
    where
      go : Dec (In n (all_members items)) → In n (all_members items)
      go (yes j) = j
      go (no not) = absurd (none_missing n (i, not))

  -- what is known of pair number i of the problem
  record Known (i : ℕ) (p : DependencyPair) : Type 0 where
    number : ℕ
    listed : slice_get numbers i ≡ Some number
    numbered : slice_get all number ≡ Some p
    placed : place items number ≡ item i
    of_items : In number (all_members items)

  known : (i : ℕ) (p : DependencyPair) → slice_get pairs i ≡ Some p → Known i p
  known i p e =
      let h = number_of all numbers pairs are i p e in
      record {
        number = h.number;
        listed = h.listed;
        numbered = h.numbered;
        placed = ap (place items) (sym (get_or_from_slice_get numbers i h.number 0 h.listed));
        of_items = named h.number (in_of_get numbers i h.number h.listed);
      }

  holds_at_edges : HoldsAtEdges system.rules pairs test
  holds_at_edges i j p q e d edge = true_of (dec_onward items (item i) (item j)) (go (dec_lt (item i) (item j)) (ℕ_discrete (item i) (item j)) (is_single items (item i)) refl)
    where
      from : Known i p
      from = known i p e

      to : Known j q
      to = known j q d

      has : HasEdge system.rules all (known i p e).number (known j q d).number
      has = record { from = p; to = q; from_numbered = (known i p e).numbered; to_numbered = (known j q d).numbered; edge = edge }

      back : item j < item i → ⊥
      back lt = none_back system.rules all [] items onward (known i p e).number (known j q d).number (known i p e).of_items
          (inr (subst (λ z. z < place items (known i p e).number) (sym (known j q d).placed) (subst (λ z. item j < z) (sym (known i p e).placed) lt))) has

      itself : item i ≡ item j → is_single items (item i) ≡ true → ⊥
      itself same is =
          let one = same_single items (known i p e).number (known j q d).number (known i p e).of_items (known j q d).of_items
          ((known i p e).placed ∙ (same ∙ sym (known j q d).placed))
          (ap (is_single items) ((known j q d).placed ∙ sym same) ∙ is) in
          no_self system.rules all (singles_of items) selves (known j q d).number one.1 (subst (λ z. HasEdge system.rules all z (known j q d).number) one.0 has)

      go : Dec (item i < item j) → Dec (item i ≡ item j) → (b : Bool) → is_single items (item i) ≡ b → IsOnward items (item i) (item j)
      go (yes lt) level b is = inl lt
      go (no not) (yes same) false is = inr (same, is)
      go (no not) (yes same) true is = absurd (itself same is)
      go (no not) (no other) b is = absurd (back (omega (arith, not, other)))

  ends : (k : ℕ) → k < length items → GroupEnds system pairs test item k
  ends k lt = go (is_single items k) refl
    where
      go : (b : Bool) → is_single items k ≡ b → GroupEnds system pairs test item k
      go true is = by_no_edge (λ i j p q e d a b edge. elim (of_true (dec_onward items (item i) (item j)) edge) [
        | inl less ↦ omega (arith, less, a, b)
        | inr level ↦ true_is_not_false (is_single items k) is (subst (λ z. is_single items z ≡ false) a level.1)
      ])
      go false is =
          let g = group_at items k lt is in
          let within : (n : ℕ) → In n g.members → n < length all = λ n i. number_there all numbers pairs are n (members_there numbers [] (all_members items) members n (in_groups items g.members n g.listed i)) in
          let taken = pairs_of_numbers all g.members (λ m n e. within n (in_of_get g.members m n e)) in
          by_problem taken.0
          (λ i p e same.
          let h = known i p e in
          let at = get_of_in (g.has h.number h.of_items (h.placed ∙ same)) in
          in_of_get taken.0 at.0 p (pair_of_number all g.members taken.0 at.0 h.number p taken.1 at.1 h.numbered))
          (finite g.members g.listed taken.0 taken.1)

  grouped : IsGrouped system pairs test item (length items)
  grouped = record {
    numbers = λ i p e. let h = known i p e in subst (λ z. z < length items) h.placed (placed_within items h.number h.of_items);
    onward = λ i j p q e d edge. elim (of_true (dec_onward items (item i) (item j)) edge) [ inl less ↦ omega (arith, less) | inr level ↦ omega (arith, level.0) ];
    done = ends;
  }

  of_all : (p : DependencyPair) → In p pairs → In p all
  of_all p i = let at = get_of_in i in let h = known at.0 p at.1 in in_of_get all h.number p h.numbered

pub graph_concludes : GraphStepsConclude
graph_concludes system numbers items _ valid (goes_on _ _ members (goes_on _ _ (never none_missing) (goes_on _ _ onward (goes_on _ _ selves returned)))) finite pairs are =
    groups_theorem system valid pairs
    (λ p i. listed_are_pairs system valid p (of_all system valid numbers items pairs are members none_missing onward selves finite p i))
    (test system valid numbers items pairs are members none_missing onward selves finite)
    (edges_cover system pairs _ valid (holds_at_edges system valid numbers items pairs are members none_missing onward selves finite))
    (item system valid numbers items pairs are members none_missing onward selves finite) (length items)
    (grouped system valid numbers items pairs are members none_missing onward selves finite)
