-- What is kept of the sides of peaks, and of the marks of what they reach.
use Rattle.std.proofs.Common.{◌≡◌, ◌<◌, ℕ, List, All, length, Some, None, get_or, sym, subst, arith}
use Rattle.std.specs.Prelude.{Result, Ok, Err, IfOk}
use Rattle.std.specs.Global.{Vec}
use Rattle.std.proofs.lemmas.List.Elements.{All-weaker}
use Rattle.std.proofs.lemmas.Option.{slice_get-get_or}
use Rattle.trs_defs.specs.Tree.{Tree}
use Rattle.trs_defs.specs.Member.{In}
use Rattle.trs_defs.specs.System.{RewriteRule}
use Rattle.trs_defs.specs.Path.{PlacedRule, Follows}
use Rattle.trs_defs.proofs.Members.{in_of_get}
use Rattle.term_pool.specs.Pooled.{Extends, StandsFor, tree_at}
use Rattle.term_pool.specs.Redexes.{IsNarrow}
use Rattle.term_pool.specs.Listed.{Listed}
use Rattle.term_pool.specs.ListedIds.{listed, listed_at}
use Rattle.term_pool.proofs.ReachedIds.{same_listed}
use Rattle.term_pool.proofs.Extending.{same_tree_at}
use Rattle.term_pool.proofs.PoolTrees.{stands_at, stands_within}
use Rattle.join_find.specs.CommonIds.{Reached}
use Rattle.join_find.specs.KeptLists.{list_of, IsPut, AreOf}
use Rattle.join_find.specs.ReachedSides.{IsNarrowAt}
use Rattle.join_find.specs.declared.kept_lists.KeptLists.{KeptLists}
use Rattle.join_find.proofs.KeptOfSides.{none_kept, one_more_kept, of_weaker_kind}
use Rattle.conf_find.specs.ForkRows.{IsShortReach}
use Rattle.conf_find.specs.Marks.{AreMarkedIds, Lasts}
use Rattle.conf_find.specs.ReachedSides.{IsShortReachOf, AreReached, AreMarksOf}
use Rattle.conf_find.specs.declared.reached_sides.ReachedSides.{ReachedSides}
use Rattle.term_pool.specs.Crossing.{AreKnownIds}
use Rattle.term_pool.specs.declared.crossing.KnownIds.{KnownIds}
use Rattle.term_pool.specs.Known.{IsKnown}
use Rattle.term_pool.specs.declared.known.Known.{Known}
use Rattle.term_pool.proofs.KnownLaws.{known_on}
use Rattle.conf_find.proofs.ForkPeaks.{listed_there}

-- what narrow terms reach is narrow
reached_narrow : (rules : List RewriteRule) (pool : List Tree) (t : Tree) (es : List Reached) → ((path : List PlacedRule) (s u : Tree) → Follows rules path s u → IsNarrow s → IsNarrow u)
    → IsNarrow t → All (λ e. e.0 < length pool) es → ((e : Listed) → In e (listed_at pool es) → Follows rules e.path t e.term) → All (λ (e : Reached). IsNarrowAt pool e.0) es
reached_narrow rules pool t es keeps narrow below follow i x h =
    let e = get_or es i x in
    let at = listed_there pool es i e (slice_get-get_or es i x h) in
    record {
      there = below i x h;
      narrow = keeps e.1.items t (tree_at pool e.0) (follow (listed pool e) (in_of_get (listed_at pool es) i (listed pool e) at)) narrow;
    }

pub all_narrow : {E : Type 0} (rules : List RewriteRule) (pool : List Tree) (t : Tree) (found : Result (Vec Reached) E) → ((path : List PlacedRule) (s u : Tree) → Follows rules path s u → IsNarrow s → IsNarrow u)
    → IsNarrow t → IfOk found (λ es. All (λ e. e.0 < length pool) es.items) → IfOk found (λ es. (e : Listed) → In e (listed_at pool es.items) → Follows rules e.path t e.term)
    → IfOk found (λ es. All (λ (e : Reached). IsNarrowAt pool e.0) es.items)
all_narrow rules pool t (Ok es) keeps narrow below follow = reached_narrow rules pool t es.items keeps narrow below follow
all_narrow rules pool t (Err e) keeps narrow below follow = below

reach_still : (rules : List RewriteRule) (a b : List Tree) (id : ℕ) (found : List Reached) → Extends a b → IsShortReachOf rules a id found → IsShortReachOf rules b id found
reach_still rules a b id found extends h =
    let P : List Listed → Type 0 = λ xs. IsShortReach rules (tree_at b id) xs in
    let Q : Tree → Type 0 = λ t. IsShortReach rules t (listed_at a found) in
    record {
      there = (let n = h.there in omega (arith, extends.longer, n));
      reach = subst P (sym (same_listed a b extends found h.below)) (subst Q (sym (same_tree_at a b extends id h.there)) h.reach);
      below = All-weaker (λ e. e.0 < length a) (λ e. e.0 < length b) (λ x k. omega (arith, k, extends.longer)) found h.below;
    }

abbrev sides_of : List Tree → KnownIds → Known → KeptLists → ReachedSides
sides_of pool known_ids known reached = record { pool = pool; known_ids = known_ids; known = known; reached = reached }

-- no sides
pub none_reached : (rules : List RewriteRule) (from : List Tree) (sides : ReachedSides) → ((id : ℕ) → list_of sides.reached id ≡ None) → AreKnownIds from sides.pool sides.known_ids → IsKnown rules sides.pool sides.known
    → AreReached rules from sides
none_reached rules from sides none ids known = record { reached = none_kept (IsShortReachOf rules sides.pool) sides.reached none; ids = ids; known = known }

module _ (rules : List RewriteRule) (from : List Tree) (old : ReachedSides) (sides : AreReached rules from old) (pool : List Tree) (known_ids : KnownIds) (are_known : AreKnownIds from pool known_ids) (extends : Extends old.pool pool) where
  -- the pool has grown
  pub reached_still : AreReached rules from (sides_of pool known_ids old.known old.reached)
  reached_still = record { reached = of_weaker_kind (IsShortReachOf rules old.pool) (IsShortReachOf rules pool) old.reached (λ id found. reach_still rules old.pool pool id found extends) sides.reached; ids = are_known; known = known_on rules old.pool pool old.known extends sides.known }

  -- what one more side reaches is listed
  pub one_more_reached : (known : Known) (reached : KeptLists) (before : List Tree) (id : ℕ) (found : List Reached) (t : Tree) → IsPut id found old.reached reached → Extends before pool → StandsFor before id t
      → IsShortReach rules (tree_at before id) (listed_at pool found) → All (λ e. e.0 < length pool) found → IsKnown rules pool known
      → AreReached rules from (sides_of pool known_ids known reached)
  one_more_reached known reached before id found t put grown is reach below right =
      let Q : Tree → Type 0 = λ u. IsShortReach rules u (listed_at pool found) in
      let one : IsShortReachOf rules pool id found = record {
        there = stands_within pool id t (grown.kept id t is);
        reach = subst Q (sym (same_tree_at before pool grown id (stands_within before id t is))) reach;
        below = below;
      } in
      record { reached = one_more_kept (IsShortReachOf rules pool) old.reached reached id found reached_still.reached put one; ids = are_known; known = right }

module _ {A : Type 0} (has_mark : A → ℕ → Type 0) (of_pool : List RewriteRule → List Tree → A → Type 0) (rules : List RewriteRule) where
  -- no sides and no marks
  pub none_marked : (sides : ReachedSides) (marks : A) → ((id : ℕ) → list_of sides.reached id ≡ None) → of_pool rules sides.pool marks → AreMarksOf has_mark of_pool rules sides marks
  none_marked sides marks none are = record { are = are; each = none_kept (λ id found. AreMarkedIds has_mark marks found) sides.reached none }

  module _ (old : ReachedSides) (marks : A) (marked : AreMarksOf has_mark of_pool rules old marks) (pool : List Tree) (known_ids : KnownIds) where
    -- the pool has grown
    pub marks_still : Lasts of_pool → Extends old.pool pool → AreMarksOf has_mark of_pool rules (sides_of pool known_ids old.known old.reached) marks
    marks_still lasts extends = record { are = lasts rules old.pool pool marks extends marked.are; each = marked.each }

    -- one more list is marked
    pub one_more_marked : (known : Known) (new : A) (reached : KeptLists) (id : ℕ) (found : List Reached) → ((i : ℕ) → has_mark marks i → has_mark new i) → of_pool rules pool new
        → IsPut id found old.reached reached → AreMarkedIds has_mark new found → AreMarksOf has_mark of_pool rules (sides_of pool known_ids known reached) new
    one_more_marked known new reached id found still are put these =
        let before : AreOf (λ i es. AreMarkedIds has_mark new es) old.reached =
        of_weaker_kind (λ i es. AreMarkedIds has_mark marks es) (λ i es. AreMarkedIds has_mark new es) old.reached
        (λ i es. All-weaker (λ (e : Reached). has_mark marks e.0) (λ (e : Reached). has_mark new e.0) (λ x k. still x.0 k) es) marked.each in
        record { are = are; each = one_more_kept (λ i es. AreMarkedIds has_mark new es) old.reached reached id found before put these }

-- what the side of an id reaches, where that is listed
module _ (rules : List RewriteRule) (from : List Tree) (sides : ReachedSides) (reached : AreReached rules from sides) (id : ℕ) (found : List Reached) (at : list_of sides.reached id ≡ Some found) where
  pub reach_from : (t u : Tree) → StandsFor sides.pool id t → t ≡ u → IsShortReach rules u (listed_at sides.pool found)
  reach_from t u is same =
      let Q : Tree → Type 0 = λ s. IsShortReach rules s (listed_at sides.pool found) in
      subst Q same (subst Q (stands_at sides.pool id t is) (reached.reached id found at).reach)

  pub ends_below : All (λ e. e.0 < length sides.pool) found
  ends_below = (reached.reached id found at).below
