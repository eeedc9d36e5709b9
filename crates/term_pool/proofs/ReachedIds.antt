-- Ids that a search has reached, as the terms that they stand for.
use Rattle.std.proofs.Common.{◌≡◌, ◌≢◌, ℕ, ◌+◌, ◌-◌, ◌*◌, ◌<◌, ◌≤◌, ◌⊎◌, max, inl, inr, ◌↔◌, All, true, false, cond, List, [], ◌∷◌, ◌++◌, take, length, Some, slice_get, get_or, IsTrue, refl, ap, sym, ◌∙◌, subst, zero, suc, arith, length-append, nat_cmp}
use Rattle.std.proofs.Math.Decide.{ℕ_discrete}
use Rattle.std.proofs.Math.Nat.{suc-mul}
use Rattle.std.proofs.lemmas.List.{map-append, length-map}
use Rattle.std.proofs.lemmas.List.Elements.{All-head, All-tail, All-weaker, All-push, All-nil}
use Rattle.std.proofs.lemmas.Option.{same_Some, slice_get_within, get_or_from_slice_get}
use Rattle.std.specs.BTreeSet.{BTreeSet, contains, IsEmpty, Updates}
use Rattle.std.specs.Global.{Vec}
use Rattle.trs_defs.specs.Member.{In, in_first, in_rest}
use Rattle.trs_defs.specs.Tree.{Tree}
use Rattle.trs_defs.specs.System.{RewriteRule}
use Rattle.trs_defs.specs.Path.{PlacedRule}
use Rattle.trs_defs.proofs.Members.{in_left, in_right, in_either}
use Rattle.term_pool.specs.declared.reached.Reached.{Reached}
use Rattle.term_pool.specs.Pooled.{Extends, StandsFor, tree_at}
use Rattle.term_pool.specs.Listed.{Listed, HasTerm}
use Rattle.term_pool.specs.Reach as reach
use Rattle.term_pool.specs.Reach.{AreReducts, no_step, kept, left_out, ListsOn, no_more, passed_over, is_kept, after_step}
use Rattle.term_pool.specs.Reached.{AreBelow, IsReached, Begins, IsEntry}
use Rattle.term_pool.specs.ListedIds.{listed, listed_at, ids_of}
use Rattle.term_pool.specs.Reaching.{ListsMore, Adds, IsNewReduct, IsPassedOver}
use Rattle.term_pool.proofs.Extending.{same_tree_at}
use Rattle.term_pool.proofs.ListingLaws.{start_of, either_way, one_more_reduct}
use Rattle.trs_core.proofs.NumberKeys.{at_same, at_other}
use Rattle.term_pool.proofs.PoolTrees.{stands, stands_at}

-- entries stand for the same terms in a pool that has grown
pub same_listed : (a b : List Tree) → Extends a b → (es : List (ℕ × Vec PlacedRule)) → All (λ e. e.0 < length a) es → listed_at b es ≡ listed_at a es
same_listed a b extends [] below = refl
same_listed a b extends (e ∷ es) below =
    let here : tree_at b e.0 ≡ tree_at a e.0 = same_tree_at a b extends e.0 (All-head (λ e. e.0 < length a) e es below) in
    let rest = same_listed a b extends es (All-tail (λ e. e.0 < length a) e es below) in
    rw (here, rest) refl

pub length_listed : (pool : List Tree) (es : List (ℕ × Vec PlacedRule)) → length (listed_at pool es) ≡ length es
length_listed pool es = length-map es (listed pool)

has_term : (pool : List Tree) (es : List (ℕ × Vec PlacedRule)) (i : ℕ) (u : Tree) → In i (ids_of es) → tree_at pool i ≡ u → HasTerm u (listed_at pool es)
has_term pool [] i u h is = elim h [ ]
has_term pool (e ∷ es) i u h is = go i h is (λ j k same. has_term pool es j u k same)
  where
    go : (i : ℕ) → In i (e.0 ∷ ids_of es) → tree_at pool i ≡ u → ((j : ℕ) → In j (ids_of es) → tree_at pool j ≡ u → HasTerm u (listed_at pool es)) → HasTerm u (listed_at pool (e ∷ es))
    go i in_first same rest = (e.1.items, rw (← same) in_first)
    go i (in_rest k) same rest = let h = rest i k same in (h.0, in_rest h.1)

-- a term of the list is that of an id in it
id_of_term : (pool : List Tree) (es : List (ℕ × Vec PlacedRule)) (u : Tree) → HasTerm u (listed_at pool es) → (i : ℕ) × In i (ids_of es) × (tree_at pool i ≡ u)
id_of_term pool [] u h = elim h.1 [ ]
id_of_term pool (e ∷ es) u h = go (record { term = u; path = h.0 }) refl h.1 (λ k. id_of_term pool es u (h.0, k))
  where
    go : (x : Listed) → x.term ≡ u → In x (record { term = tree_at pool e.0; path = e.1.items } ∷ listed_at pool es)
        → (In x (listed_at pool es) → (i : ℕ) × In i (ids_of es) × (tree_at pool i ≡ u)) → (i : ℕ) × In i (e.0 ∷ ids_of es) × (tree_at pool i ≡ u)
    go x is in_first rest = (e.0, in_first, is)
    go x is (in_rest k) rest = let h = rest k in (h.0, in_rest h.1, h.2)

id_below : (pool : List Tree) (es : List (ℕ × Vec PlacedRule)) (i : ℕ) → All (λ e. e.0 < length pool) es → In i (ids_of es) → i < length pool
id_below pool [] i below h = elim h [ ]
id_below pool (x ∷ es) i below h = go i h (All-head (λ e. e.0 < length pool) x es below) (λ j k. id_below pool es j (All-tail (λ e. e.0 < length pool) x es below) k)
  where
    go : (i : ℕ) → In i (x.0 ∷ ids_of es) → x.0 < length pool → ((j : ℕ) → In j (ids_of es) → j < length pool) → i < length pool
    go i in_first first rest = first
    go i (in_rest k) first rest = rest i k

pub ids_below : (pool : List Tree) (r : Reached) → IsReached pool r → AreBelow (length pool) r.ids
ids_below pool r reached i h = id_below pool r.list.items i reached.below ((reached.known i).0 h)

-- ---- the beginning

pub begun : (id : ℕ) (r : Reached) → Begins id r → (pool : List Tree) → listed_at pool r.list.items ≡ start_of (tree_at pool id)
begun id r h pool = ap (listed_at pool) h.list ∙ ap (λ p. record { term = tree_at pool id; path = p } ∷ []) h.empty

pub begun_reached : (id : ℕ) (r : Reached) → Begins id r → (pool : List Tree) → id < length pool → IsReached pool r
begun_reached id r h pool within =
    let one : All (λ e. e.0 < length pool) ((id, h.path) ∷ []) = All-push (λ e. e.0 < length pool) [] (id, h.path) (All-nil (λ e. e.0 < length pool)) within in
    let below : All (λ e. e.0 < length pool) r.list.items = subst (All (λ e. e.0 < length pool)) (sym h.list) one in
    record { below = below; known = λ i. subst (λ ids. IsTrue (contains nat_cmp r.ids i) ↔ In i ids) (sym (ap ids_of h.list)) (h.known i) }

-- the set with one more id
more_known : (old new : BTreeSet ℕ) (ids : List ℕ) (id : ℕ) → Updates nat_cmp old new id true → ((i : ℕ) → IsTrue (contains nat_cmp old i) ↔ In i ids)
    → (i : ℕ) → IsTrue (contains nat_cmp new i) ↔ In i (ids ++ id ∷ [])
more_known old new ids id updates known i = elim (ℕ_discrete id i) as (λ _. IsTrue (contains nat_cmp new i) ↔ In i (ids ++ id ∷ [])) [
  | yes same ↦ (λ _. rw (← same) (in_right ids in_first), λ _. let e = updates.0 i in e ∙ (rw (← same) (ap (λ b. cond b true (contains nat_cmp old id)) (at_same id))))
  | no other ↦
      let stays : contains nat_cmp new i ≡ contains nat_cmp old i = updates.0 i ∙ ap (λ b. cond b true (contains nat_cmp old i)) (at_other id i other) in
      (λ h. in_left (id ∷ []) ((known i).0 (sym stays ∙ h)), λ h. stays ∙ (known i).1 (before i other (in_either ids (id ∷ []) h)))
]
  where
    none : (i : ℕ) (id : ℕ) → id ≢ i → In i (id ∷ []) → ⊥
    none i id other in_first = other refl
    none i id other (in_rest h) = elim h [ ]

    before : (i : ℕ) → id ≢ i → In i ids ⊎ In i (id ∷ []) → In i ids
    before i other (inl h) = h
    before i other (inr h) = absurd (none i id other h)

pub begins_with : (id : ℕ) (old : BTreeSet ℕ) (r : Reached) (path : Vec PlacedRule) → IsEmpty old → path.items ≡ []
    → Updates nat_cmp old r.ids id true → r.list.items ≡ (id, path) ∷ [] → Begins id r
begins_with id old r path nothing empty updates is = record {
  path = path;
  empty = empty;
  list = is;
  known = more_known old r.ids [] id updates (λ i. (λ h. absurd cc, λ h. elim h [ ]));
}

-- ---- one reduct

-- an entry of the list
pub entry_at : (r : Reached) (i : ℕ) (e : ℕ × Vec PlacedRule) → IsEntry r i e → (pool : List Tree) → slice_get (listed_at pool r.list.items) i ≡ Some (listed pool e)
entry_at r i e h pool = rw (h.id, h.path) (slice_get_listed r.list.items i h.entry h.there)
  where
    slice_get_listed : (es : List (ℕ × Vec PlacedRule)) (i : ℕ) (e : ℕ × Vec PlacedRule) → slice_get es i ≡ Some e → slice_get (listed_at pool es) i ≡ Some (listed pool e)
    slice_get_listed [] i e there = absurd cc
    slice_get_listed (x ∷ es) zero e there = let same : x ≡ e = same_Some x e there in rw same refl
    slice_get_listed (x ∷ es) (suc i) e there = slice_get_listed es i e there

pub entry_within : (r : Reached) (i : ℕ) (e : ℕ × Vec PlacedRule) → IsEntry r i e → (pool : List Tree) → IsReached pool r → e.0 < length pool
entry_within r i e h pool reached =
    let within : i < length r.list.items = slice_get_within r.list.items i h.entry h.there in
    let read : get_or r.list.items i h.entry ≡ h.entry = get_or_from_slice_get r.list.items i h.entry h.entry h.there in
    let below : (get_or r.list.items i h.entry).0 < length pool = reached.below i h.entry within in
    rw h.id (rw read at below)

module _ (rules : List RewriteRule) (limit size : ℕ) (s : PlacedRule) (e : Listed) where
  -- nothing is listed of a reduct that is too large or known
  pub passed : (pool : List Tree) (r : Reached) → IsReached pool r → IsPassedOver rules size s e.term r.ids pool → Adds limit size (AreReducts rules size e (s ∷ [])) pool pool r r
  passed pool r reached h = record {
    lists = elim (either_way (is_kept size h.result)) as (λ _. ListsMore limit (AreReducts rules size e (s ∷ [])) (listed_at pool r.list.items) (listed_at pool r.list.items)) [
      | inl small ↦ (after_step e s h.result ∷ [], kept h.steps small no_step, passed_over (inr (known h.why small)) no_more)
      | inr large ↦ ([], left_out h.steps large no_step, no_more)
    ];
    reached = reached;
    room = omega arith;
  }
    where
      known : (is_kept size h.result ≡ false) ⊎ ((i : ℕ) × IsTrue (contains nat_cmp r.ids i) × StandsFor pool i h.result) → IsTrue (is_kept size h.result) → HasTerm h.result (listed_at pool r.list.items)
      known (inl large) small = absurd cc
      known (inr k) small = has_term pool r.list.items k.0 h.result ((reached.known k.0).0 k.1) (stands_at pool k.0 h.result k.2)

  -- a new reduct is listed
  module _ (old new : List Tree) (before after : Reached) (id : ℕ) (path : Vec PlacedRule) (extends : Extends old new) (reached : IsReached old before) (space : length before.list.items < limit)
      (h : IsNewReduct rules size s e.term before.ids old new id) (is : after.list.items ≡ before.list.items ++ (id, path) ∷ []) (one_longer : path.items ≡ e.path ++ s ∷ [])
      (updates : Updates nat_cmp before.ids after.ids id true) where
    same : listed_at new before.list.items ≡ listed_at old before.list.items
    same = same_listed old new extends before.list.items reached.below

    longer : listed_at new after.list.items ≡ listed_at old before.list.items ++ after_step e s (tree_at new id) ∷ []
    longer =
        ap (listed_at new) is ∙ (map-append (listed new) before.list.items ((id, path) ∷ [])
        ∙ (ap (λ l. l ++ record { term = tree_at new id; path = path.items } ∷ []) same
        ∙ ap (λ p. listed_at old before.list.items ++ record { term = tree_at new id; path = p } ∷ []) one_longer))

    absent : HasTerm (tree_at new id) (listed_at old before.list.items) → ⊥
    absent t =
        let found = id_of_term old before.list.items (tree_at new id) t in
        let below : found.0 < length old = id_below old before.list.items found.0 reached.below found.1 in
        let within : found.0 < length new = omega (arith, below, extends.longer) in
        let term : tree_at new found.0 ≡ tree_at new id = same_tree_at old new extends found.0 below ∙ found.2 in
        let equal : found.0 ≡ id = h.distinct.same found.0 id (tree_at new id) (stands new found.0 within ∙ ap (λ t. Some t) term) (stands new id h.there) in
        let known : contains nat_cmp before.ids found.0 ≡ true = (reached.known found.0).1 found.1 in
        let unknown : contains nat_cmp before.ids found.0 ≡ false = rw equal h.unknown in
        absurd cc

    count : length after.list.items ≡ length before.list.items + 1
    count = ap length is ∙ length-append before.list.items ((id, path) ∷ [])

    room_left : (n : ℕ) → n < limit → (limit - n) * size ≡ (limit - (n + 1)) * size + size
    room_left n l =
        let one : limit - n ≡ suc (limit - (n + 1)) = omega arith in
        ap (λ k. k * size) one ∙ suc-mul (limit - (n + 1)) size

    pub one_listed : Adds limit size (AreReducts rules size e (s ∷ [])) old new before after
    one_listed =
        let list : ListsOn limit (listed_at old before.list.items) (after_step e s (tree_at new id) ∷ []) (listed_at new after.list.items) =
        rw longer (reach.listed {es = listed_at old before.list.items} (omega (arith, space, length_listed old before.list.items)) absent no_more) in
        let below : All (λ e. e.0 < length new) before.list.items = All-weaker (λ e. e.0 < length old) (λ e. e.0 < length new) (λ x k. omega (arith, k, extends.longer)) before.list.items reached.below in
        record {
          lists = (after_step e s (tree_at new id) ∷ [], kept h.steps h.small no_step, list);
          reached = record {
            below = subst (All (λ e. e.0 < length new)) (sym is) (All-push (λ e. e.0 < length new) before.list.items (id, path) below h.there);
            known = λ i. subst (λ ids. IsTrue (contains nat_cmp after.ids i) ↔ In i ids) (sym (ap ids_of is ∙ map-append (λ (x : ℕ × Vec PlacedRule). x.0) before.list.items ((id, path) ∷ [])))
                (more_known before.ids after.ids (ids_of before.list.items) id updates reached.known i);
          };
          room =
              let left : (limit - length before.list.items) * size ≡ (limit - (length before.list.items + 1)) * size + size = room_left (length before.list.items) space in
              let few = h.few in
              let same_count : (limit - length after.list.items) * size ≡ (limit - (length before.list.items + 1)) * size = ap (λ n. (limit - n) * size) count in
              omega (arith, left, few, same_count);
        }

-- ---- what was added, one after another

pub added_on : (rules : List RewriteRule) (depth size limit : ℕ) (e : Listed) (steps : List PlacedRule) (a b c : List Tree) (r q p : Reached) (j : ℕ) (s : PlacedRule)
    → j < length steps → s ≡ get_or steps j s → Adds limit size (AreReducts rules size e (take j steps)) a b r q → Adds limit size (AreReducts rules size e (s ∷ [])) b c q p
    → Adds limit size (AreReducts rules size e (take (j + 1) steps)) a c r p
added_on rules depth size limit e steps a b c r q p j s within is before more =
    let old = before.room in
    let new = more.room in
    record {
      lists = one_more_reduct rules depth size limit e steps (listed_at a r.list.items) j s (listed_at b q.list.items) (listed_at c p.list.items) within is before.lists more.lists;
      reached = more.reached;
      room = omega (arith, old, new);
    }

pub nothing_added : (limit size : ℕ) (kind : List Listed → Type 0) (pool : List Tree) (r : Reached) → IsReached pool r → kind [] → Adds limit size kind pool pool r r
nothing_added limit size kind pool r reached none = record { lists = ([], none, no_more); reached = reached; room = omega arith }

pub room_at_start : (count size : ℕ) → (max count 1 - 1) * size ≤ count * size
room_at_start zero size = omega arith
room_at_start (suc k) size =
    let left : max (suc k) 1 - 1 ≡ k = omega arith in
    let same : (max (suc k) 1 - 1) * size ≡ k * size = ap (λ n. n * size) left in
    omega (arith, same, suc-mul k size)
