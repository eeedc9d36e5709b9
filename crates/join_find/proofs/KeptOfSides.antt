-- Lists that are kept of the sides of peaks.
use Rattle.std.proofs.Common.{◌≡◌, ◌<◌, ◌≤◌, ℕ, Bool, true, false, cond, nat_eq, List, All, length, Option, Some, None, is_some, IsTrue, refl, ap, sym, ◌∙◌, subst, arith}
use Rattle.std.proofs.lemmas.Option.{same_Some}
use Rattle.std.proofs.lemmas.List.{take_all}
use Rattle.std.proofs.lemmas.List.Elements.{All-weaker}
use Rattle.std.specs.Prelude.{IfOk, OnOk, MatchOption, Result, Ok, Err}
use Rattle.trs_defs.specs.Tree.{Tree}
use Rattle.trs_defs.specs.System.{RewriteRule}
use Rattle.term_pool.specs.Pooled.{AreDistinct, Extends, StandsFor, tree_at}
use Rattle.term_pool.specs.Listed.{Listed}
use Rattle.term_pool.specs.Redexes.{IsNarrow}
use Rattle.term_pool.specs.ListedIds.{listed_at}
use Rattle.term_pool.specs.Known.{IsKnown}
use Rattle.term_pool.proofs.ReachedIds.{same_listed}
use Rattle.term_pool.proofs.Extending.{same_tree_at, cut_back}
use Rattle.term_pool.proofs.KnownLaws.{known_on}
use Rattle.term_pool.proofs.PoolTrees.{stands_at, stands_within}
use Rattle.rewrite_core.specs.PlacedPeak.{PlacedPeak}
use Rattle.rewrite_core.specs.PathsOfJoin.{PathsOfJoin}
use Rattle.join_find.specs.CommonIds.{Reached, HasNoCommonId, IsFirstCommonId}
use Rattle.join_find.specs.NewmanRow.{IsReach, IsFirstJoin, HasNoJoin}
use Rattle.join_find.specs.StrongRow.{IsFirstHalf, HasNoHalf}
use Rattle.join_find.specs.Near.{IsSiftedNear}
use Rattle.join_find.specs.Sides.{IsSide}
use Rattle.join_find.specs.KeptLists.{list_of, IsPut, AreOf}
use Rattle.join_find.specs.ReachedSides.{IsNarrowAt, IsReachOf, IsNearOf, AreReached}
use Rattle.join_find.specs.declared.kept_lists.KeptLists.{KeptLists}
use Rattle.term_pool.specs.declared.crossing.KnownIds.{KnownIds}
use Rattle.term_pool.specs.declared.known.Known.{Known}
use Rattle.join_find.specs.declared.reached_sides.ReachedSides.{ReachedSides}
use Rattle.join_find.proofs.Joining.{joined_within, halved_within}

-- ---- lists by ids

pub same_id : (i j : ℕ) → nat_eq i j ≡ true → i ≡ j
same_id i j e = grind arith

id_itself : (i : ℕ) → nat_eq i i ≡ true
id_itself i = grind arith

pub nothing_there : {X : Type 0} (o : Option X) (x : X) → o ≡ None → o ≡ Some x → ⊥
nothing_there None x none some = cc
nothing_there (Some y) x none some = cc

-- no lists are of any kind
pub none_kept : (kind : ℕ → List Reached → Type 0) (lists : KeptLists) → ((id : ℕ) → list_of lists id ≡ None) → AreOf kind lists
none_kept kind lists none id found is = absurd (nothing_there (list_of lists id) found (none id) is)

pub one_more_kept : (kind : ℕ → List Reached → Type 0) (old new : KeptLists) (id : ℕ) (list : List Reached) → AreOf kind old → IsPut id list old new → kind id list → AreOf kind new
one_more_kept kind old new id list each put here i found is = go (nat_eq id i) refl (sym (put i) ∙ is)
  where
    go : (b : Bool) → nat_eq id i ≡ b → cond b (Some list) (list_of old i) ≡ Some found → kind i found
    go true e k =
        let P : ℕ → Type 0 = λ j. kind j found in
        subst P (same_id id i e) (subst (kind id) (same_Some list found k) here)
    go false e k = each i found k

pub of_weaker_kind : (kind other : ℕ → List Reached → Type 0) (lists : KeptLists) → ((id : ℕ) (found : List Reached) → kind id found → other id found) → AreOf kind lists → AreOf other lists
of_weaker_kind kind other lists weaker each id found is = weaker id found (each id found is)

there_now : (b : Bool) (list : List Reached) (o : Option (List Reached)) → b ≡ true → is_some (cond b (Some list) o) ≡ true
there_now true list o e = refl
there_now false list o e = absurd cc

there_still : (b : Bool) (list : List Reached) (o : Option (List Reached)) → is_some o ≡ true → is_some (cond b (Some list) o) ≡ true
there_still true list o e = refl
there_still false list o e = e

pub put_is_there : (old new : KeptLists) (id : ℕ) (list : List Reached) → IsPut id list old new → IsTrue (is_some (list_of new id))
put_is_there old new id list put = ap is_some (put id) ∙ there_now (nat_eq id id) list (list_of old id) (id_itself id)

pub still_there : (old new : KeptLists) (id : ℕ) (list : List Reached) → IsPut id list old new → (i : ℕ) → IsTrue (is_some (list_of old i)) → IsTrue (is_some (list_of new i))
still_there old new id list put i there = ap is_some (put i) ∙ there_still (nat_eq id i) list (list_of old i) there

-- ---- a pool that grows

pub narrow_at : (pool : List Tree) (id : ℕ) (t : Tree) → StandsFor pool id t → IsSide t → IsNarrowAt pool id
narrow_at pool id t is side = record { there = stands_within pool id t is; narrow = subst IsNarrow (sym (stands_at pool id t is)) side.narrow }

pub narrow_too : (from pool : List Tree) (id own : ℕ) → StandsFor pool own (tree_at from id) → IsNarrowAt from id → IsNarrowAt pool own
narrow_too from pool id own is h =
    record { there = stands_within pool own (tree_at from id) is; narrow = subst IsNarrow (sym (stands_at pool own (tree_at from id) is)) h.narrow }

pub narrow_still : (a b : List Tree) (id : ℕ) → Extends a b → IsNarrowAt a id → IsNarrowAt b id
narrow_still a b id extends h = record { there = (let n = h.there in omega (arith, extends.longer, n)); narrow = subst IsNarrow (sym (same_tree_at a b extends id h.there)) h.narrow }

pub reach_still : (rules : List RewriteRule) (a b : List Tree) (id : ℕ) (found : List Reached) → Extends a b → IsReachOf rules a id found → IsReachOf rules b id found
reach_still rules a b id found extends h =
    let P : List Listed → Type 0 = λ xs. IsReach rules (tree_at b id) xs in
    let Q : Tree → Type 0 = λ t. IsReach rules t (listed_at a found) in
    record {
      there = (let n = h.there in omega (arith, extends.longer, n));
      reach = subst P (sym (same_listed a b extends found h.below)) (subst Q (sym (same_tree_at a b extends id h.there)) h.reach);
      below = All-weaker (λ e. e.0 < length a) (λ e. e.0 < length b) (λ x k. omega (arith, k, extends.longer)) found h.below;
    }

-- a pool that has no more ids is the same
pub same_pool : (a b : List Tree) (mark : ℕ) → Extends a b → mark ≡ length a → length b ≡ mark → b ≡ a
same_pool a b mark extends was is =
    let few : length b ≤ length a = omega (arith, was, is) in
    sym (take_all (length a) b few) ∙ cut_back a b extends

-- ---- sides of which more is kept

abbrev sides_of : List Tree → KnownIds → Known → KeptLists → KeptLists → ReachedSides
sides_of pool known_ids known reached near = record { pool = pool; known_ids = known_ids; known = known; reached = reached; near = near }

-- no sides
pub none_reached : (rules : List RewriteRule) (pool : List Tree) (known_ids : KnownIds) (known : Known) (reached near : KeptLists) → IsKnown rules pool known
    → ((id : ℕ) → list_of reached id ≡ None) → ((id : ℕ) → list_of near id ≡ None) → AreReached rules (sides_of pool known_ids known reached near)
none_reached rules pool known_ids known reached near is none_there none_near =
    record { reached = none_kept (IsReachOf rules pool) reached none_there; near = none_kept (IsNearOf rules pool) near none_near; known = is }

module _ (rules : List RewriteRule) (old : ReachedSides) (sides : AreReached rules old) (pool : List Tree) (known_ids : KnownIds) where
  -- the pool is as it was
  pub same_still : pool ≡ old.pool → AreReached rules (sides_of pool known_ids old.known old.reached old.near)
  same_still same =
      let R : List Tree → Type 0 = λ p. AreOf (IsReachOf rules p) old.reached in
      let N : List Tree → Type 0 = λ p. AreOf (IsNearOf rules p) old.near in
      let K : List Tree → Type 0 = λ p. IsKnown rules p old.known in
      record { reached = subst R (sym same) sides.reached; near = subst N (sym same) sides.near; known = subst K (sym same) sides.known }

  -- what is near one more side is listed
  pub one_more_near : (known : Known) (near : KeptLists) (id : ℕ) (found : List Reached) → pool ≡ old.pool → IsPut id found old.near near → IsSiftedNear rules (tree_at old.pool id) old.pool found
      → IsKnown rules old.pool known → AreReached rules (sides_of pool known_ids known old.reached near)
  one_more_near known near id found same put is right =
      let R : List Tree → Type 0 = λ p. AreOf (IsReachOf rules p) old.reached in
      let N : List Tree → Type 0 = λ p. AreOf (IsNearOf rules p) near in
      let K : List Tree → Type 0 = λ p. IsKnown rules p known in
      record {
        reached = subst R (sym same) sides.reached;
        near = subst N (sym same) (one_more_kept (IsNearOf rules old.pool) old.near near id found sides.near put (record { near = is }));
        known = subst K (sym same) right;
      }

  module _ (extends : Extends old.pool pool) where
    reaches_still : AreOf (IsReachOf rules pool) old.reached
    reaches_still =
        of_weaker_kind (IsReachOf rules old.pool) (IsReachOf rules pool) old.reached (λ id found. reach_still rules old.pool pool id found extends) sides.reached

    known_still : IsKnown rules pool old.known
    known_still = known_on rules old.pool pool old.known extends sides.known

    -- the pool has grown, and nothing near is kept
    pub grown_still : (near : KeptLists) → ((id : ℕ) → list_of near id ≡ None) → AreReached rules (sides_of pool known_ids old.known old.reached near)
    grown_still near none = record { reached = reaches_still; near = none_kept (IsNearOf rules pool) near none; known = known_still }

    -- what one more side reaches is listed
    pub one_more_reached : (known : Known) (reached near : KeptLists) (id : ℕ) (found : List Reached) → ((i : ℕ) → list_of near i ≡ None) → IsPut id found old.reached reached
        → id < length old.pool → IsReach rules (tree_at old.pool id) (listed_at pool found) → All (λ e. e.0 < length pool) found → IsKnown rules pool known → AreReached rules (sides_of pool known_ids known reached near)
    one_more_reached known reached near id found none put there reach below right =
        let Q : Tree → Type 0 = λ t. IsReach rules t (listed_at pool found) in
        let is : IsReachOf rules pool id found = record {
          there = omega (arith, extends.longer, there);
          reach = subst Q (sym (same_tree_at old.pool pool extends id there)) reach;
          below = below;
        } in
        record {
          reached = one_more_kept (IsReachOf rules pool) old.reached reached id found reaches_still put is;
          near = none_kept (IsNearOf rules pool) near none;
          known = right;
        }

-- ---- answers

pub always_ok : {X E A : Type 0} (r : Result X E) → A → OnOk r A
always_ok (Ok x) a = a
always_ok (Err e) a = tt

pub then_ok : {X E A B : Type 0} (r : Result X E) → (A → B) → OnOk r A → OnOk r B
then_ok (Ok x) f a = f a
then_ok (Err e) f a = tt

module _ {E : Type 0} (rules : List RewriteRule) (old : List Tree) (sides : ReachedSides) (reached : AreReached rules sides) (extends : Extends old sides.pool) (distinct : AreDistinct sides.pool)
    (found : Result (Option PathsOfJoin) E) (from to : ℕ) (lefts rights : List Reached) (from_list : list_of sides.reached from ≡ Some lefts)
    (h : IfOk found (λ o. MatchOption o (HasNoCommonId lefts rights) (IsFirstCommonId lefts rights))) where
  -- the term of an id that has a list
  reach_of : (id : ℕ) (t : Tree) (list : List Reached) → list_of sides.reached id ≡ Some list → StandsFor old id t → IsReach rules t (listed_at sides.pool list)
  reach_of id t list at is =
      let Q : Tree → Type 0 = λ u. IsReach rules u (listed_at sides.pool list) in
      subst Q (stands_at sides.pool id t (extends.kept id t is)) (reached.reached id list at).reach

  below_of : (id : ℕ) (list : List Reached) → list_of sides.reached id ≡ Some list → All (λ e. e.0 < length sides.pool) list
  below_of id list at = (reached.reached id list at).below

  pub first_join_of : (peak : PlacedPeak) → list_of sides.reached to ≡ Some rights → StandsFor old from peak.left → StandsFor old to peak.right
      → IfOk found (λ o. MatchOption o (HasNoJoin rules peak) (IsFirstJoin rules peak))
  first_join_of peak to_list left right =
      joined_within rules sides.pool distinct lefts rights (below_of from lefts from_list) found h peak (below_of to rights to_list)
      (reach_of from peak.left lefts from_list left) (reach_of to peak.right rights to_list right)

  pub first_half_of : (s t : Tree) → list_of sides.near to ≡ Some rights → StandsFor old from s → StandsFor old to t
      → IfOk found (λ o. MatchOption o (HasNoHalf rules s t) (IsFirstHalf rules s t))
  first_half_of s t to_list left right =
      let N : Tree → Type 0 = λ u. IsSiftedNear rules u sides.pool rights in
      halved_within rules sides.pool distinct lefts rights (below_of from lefts from_list) found h s t (reach_of from s lefts from_list left)
      (subst N (stands_at sides.pool to t (extends.kept to t right)) (reached.near to rights to_list).near)
