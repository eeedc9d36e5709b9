-- Lists of paths that end at 256, and what is added to them.
use Rattle.std.specs.Prelude.{◌≡◌, ◌<◌, ◌≤◌, ℕ, ◌+◌, List, [], ◌∷◌, ◌++◌, All, Some, length, take, slice_get, IsTrue, refl}
use Rattle.std.specs.Global.{Vec}
use Rattle.std.proofs.Common.{zero, suc, ap, sym, ◌∙◌, subst, get_or, drop, append_assoc, append-nil, length-append, arith}
use Rattle.std.proofs.Math.Seq.{take-suc}
use Rattle.std.proofs.lemmas.List.{take_all, take-append-drop, map-append, length-take}
use Rattle.std.proofs.lemmas.List.Elements.{All-weaker, All-push, All-nil}
use Rattle.std.proofs.lemmas.Option.{get_or_from_slice_get, same_Some, slice_get_read, slice_get_within}
use Rattle.trs_defs.specs.Member.{In}
use Rattle.trs_defs.specs.Tree.{Tree}
use Rattle.trs_defs.specs.System.{RewriteRule}
use Rattle.trs_defs.specs.Size.{size_of, within_limits}
use Rattle.trs_defs.specs.Path.{PlacedRule, StepsAt, Follows}
use Rattle.trs_defs.proofs.Members.{in_of_get, in_right}
use Rattle.trs_defs.proofs.ListItems.{take_one_more}
use Rattle.term_pool.specs.Pooled.{Extends, StandsFor, tree_at}
use Rattle.term_pool.specs.Redexes.{HasRedexes, IsRedexAt}
use Rattle.term_pool.specs.Listed.{Listed}
use Rattle.term_pool.specs.ListedIds.{listed, listed_at}
use Rattle.term_pool.specs.Reach.{AreReducts, no_step, kept, left_out, AreCandidates, no_entry, expanded, too_deep, after_step}
use Rattle.term_pool.proofs.ListingLaws.{reducts_there, reducts_append, candidates_append, small_kept}
use Rattle.term_pool.proofs.ReachedIds.{same_listed, length_listed}
use Rattle.term_pool.proofs.PoolTrees.{stands_at}
use Rattle.path_lists.specs.PathList.{no_steps}
use Rattle.path_lists.specs.Adding.{Entry, IsEntryAt, AddsPaths, IsKeptEnd, IsLeftOut}
use Rattle.path_lists.proofs.PathLaws.{IsLookedAt, looked_paths_lead}

pub take_again : {A : Type 0} (n : ℕ) (xs ys : List A) → take n (take n xs ++ ys) ≡ take n (xs ++ ys)
take_again zero xs ys = refl
take_again (suc n) [] ys = refl
take_again (suc n) (x ∷ xs) ys = ap (λ zs. x ∷ zs) (take_again n xs ys)

pub take_full : {A : Type 0} (n : ℕ) (xs ys : List A) → n ≤ length (take n xs) → take n (xs ++ ys) ≡ take n xs
take_full zero xs ys full = refl
take_full (suc n) [] ys full = absurd (omega (arith, full))
take_full (suc n) (x ∷ xs) ys full = ap (λ zs. x ∷ zs) (take_full n xs ys (omega (arith, full)))

pub take_take : {A : Type 0} (n a : ℕ) (es : List A) → n ≤ a → take n (take a es) ≡ take n es
take_take zero a es le = refl
take_take (suc n) zero es le = absurd (omega (arith, le))
take_take (suc n) (suc a) [] le = refl
take_take (suc n) (suc a) (x ∷ es) le = ap (λ xs. x ∷ xs) (take_take n a es (omega (arith, le)))

-- an end that is small
pub kept_end : (rules : List RewriteRule) (s : PlacedRule) (t : Tree) (old new : List Tree) (id : ℕ) → StepsAt rules s.place s.rule t (tree_at new id) → IsTrue (within_limits (tree_at new id))
    → id < length new → length new ≤ length old + size_of (tree_at new id) → size_of (tree_at new id) ≤ 4096 → IsKeptEnd rules s t old new id
kept_end rules s t old new id steps within there few small =
    record { steps = steps; small = small_kept 4096 (tree_at new id) small within; there = there; few = omega (arith, few, small) }

-- ---- what is added one after another

pub adds_then : (K L M : List Listed → Type 0) → ((cs ds : List Listed) → K cs → L ds → M (cs ++ ds)) → (a b c : List Tree) (r q p : List Entry)
    → AddsPaths K a b r q → AddsPaths L b c q p → AddsPaths M a c r p
adds_then K L M both a b c r q p h k =
    let old = h.room in
    let new = k.room in
    record {
      candidates = h.candidates ++ k.candidates;
      are_candidates = both h.candidates k.candidates h.are_candidates k.are_candidates;
      longer = k.longer
          ∙ (ap (λ es. take 256 (es ++ k.candidates)) h.longer
          ∙ (take_again 256 (listed_at a r ++ h.candidates) k.candidates ∙ ap (take 256) (append_assoc (listed_at a r) h.candidates k.candidates)));
      below = k.below;
      few = k.few;
      room = omega (arith, old, new);
    }

pub nothing_added : (kind : List Listed → Type 0) (pool : List Tree) (paths : List Entry) → All (λ e. e.0 < length pool) paths → length paths ≤ 256 → kind []
    → AddsPaths kind pool pool paths paths
nothing_added kind pool paths below few none =
    let count = length_listed pool paths in
    record {
      candidates = [];
      are_candidates = none;
      longer = sym (ap (take 256) (append-nil (listed_at pool paths)) ∙ take_all 256 (listed_at pool paths) (omega (arith, count, few)));
      below = below;
      few = few;
      room = omega arith;
    }

-- ---- one path more

pub one_left_out : (rules : List RewriteRule) (e : Listed) (s : PlacedRule) (pool : List Tree) (paths : List Entry) → All (λ e. e.0 < length pool) paths → length paths < 256
    → IsLeftOut rules s e.term → AddsPaths (AreReducts rules 4096 e (s ∷ [])) pool pool paths paths
one_left_out rules e s pool paths below few h = nothing_added (AreReducts rules 4096 e (s ∷ [])) pool paths below (omega (arith, few)) (left_out h.steps h.large no_step)

pub one_added : (rules : List RewriteRule) (e : Listed) (s : PlacedRule) (old new : List Tree) (before after : List Entry) (id : ℕ) (path : Vec PlacedRule) → Extends old new
    → All (λ e. e.0 < length old) before → length before < 256 → IsKeptEnd rules s e.term old new id → after ≡ before ++ (id, path) ∷ [] → path.items ≡ e.path ++ s ∷ []
    → AddsPaths (AreReducts rules 4096 e (s ∷ [])) old new before after
one_added rules e s old new before after id path extends below space h is one_longer =
    let same : listed_at new before ≡ listed_at old before = same_listed old new extends before below in
    let longer : listed_at new after ≡ listed_at old before ++ after_step e s (tree_at new id) ∷ [] =
    ap (listed_at new) is ∙ (map-append (listed new) before ((id, path) ∷ [])
    ∙ (ap (λ l. l ++ record { term = tree_at new id; path = path.items } ∷ []) same
    ∙ ap (λ p. listed_at old before ++ record { term = tree_at new id; path = p } ∷ []) one_longer)) in
    let count : length after ≡ length before + 1 = ap length is ∙ length-append before ((id, path) ∷ []) in
    let all : length (listed_at old before ++ after_step e s (tree_at new id) ∷ []) ≤ 256 =
    (let added = length-append (listed_at old before) (after_step e s (tree_at new id) ∷ []) in let old_count = length_listed old before in omega (arith, added, old_count, space)) in
    let few = h.few in
    let weaker : All (λ e. e.0 < length new) before = All-weaker (λ e. e.0 < length old) (λ e. e.0 < length new) (λ x k. omega (arith, k, extends.longer)) before below in
    record {
      candidates = after_step e s (tree_at new id) ∷ [];
      are_candidates = kept h.steps h.small no_step;
      longer = longer ∙ sym (take_all 256 (listed_at old before ++ after_step e s (tree_at new id) ∷ []) all);
      below = subst (All (λ e. e.0 < length new)) (sym is) (All-push (λ e. e.0 < length new) before (id, path) weaker h.there);
      few = omega (arith, count, space);
      room = omega (arith, count, space, few);
    }

-- ---- the paths that are one step longer than one of them

module _ (rules : List RewriteRule) (e : Listed) (steps : List PlacedRule) where
  pub one_more_reduct : (a b c : List Tree) (r q p : List Entry) (j : ℕ) (s : PlacedRule) → j < length steps → s ≡ get_or steps j s
      → AddsPaths (AreReducts rules 4096 e (take j steps)) a b r q → AddsPaths (AreReducts rules 4096 e (s ∷ [])) b c q p
      → AddsPaths (AreReducts rules 4096 e (take (j + 1) steps)) a c r p
  one_more_reduct a b c r q p j s below is before more =
      let n : j + 1 ≡ suc j = omega arith in
      let both : (cs ds : List Listed) → AreReducts rules 4096 e (take j steps) cs → AreReducts rules 4096 e (s ∷ []) ds → AreReducts rules 4096 e (take (j + 1) steps) (cs ++ ds) =
      λ cs ds h k. (let P : List PlacedRule → Type 0 = λ xs. AreReducts rules 4096 e xs (cs ++ ds) in
      let S : PlacedRule → Type 0 = λ x. P (take j steps ++ x ∷ []) in
      subst P (sym (ap (λ k. take k steps) n ∙ take-suc steps j s below)) (subst S is (reducts_append rules 4096 e h k))) in
      adds_then (AreReducts rules 4096 e (take j steps)) (AreReducts rules 4096 e (s ∷ [])) (AreReducts rules 4096 e (take (j + 1) steps)) both a b c r q p before more

  module _ (near : length e.path < 4) (redexes : HasRedexes rules e.term steps) (old new : List Tree) (before after : List Entry) (j : ℕ)
      (h : AddsPaths (AreReducts rules 4096 e (take j steps)) old new before after) where
    pub all_added : length steps ≤ j → AddsPaths (AreCandidates rules 4 4096 (e ∷ [])) old new before after
    all_added all =
        let P : List PlacedRule → Type 0 = λ xs. AreReducts rules 4096 e xs h.candidates in
        record {
          candidates = h.candidates ++ [];
          are_candidates = expanded near redexes (subst P (take_all j steps all) h.are_candidates) no_entry;
          longer = h.longer ∙ ap (λ cs. take 256 (listed_at old before ++ cs)) (sym (append-nil h.candidates));
          below = h.below;
          few = h.few;
          room = h.room;
        }

    pub full_added : 256 ≤ length after → AddsPaths (AreCandidates rules 4 4096 (e ∷ [])) old new before after
    full_added full =
        let P : List PlacedRule → Type 0 = λ xs. (s : PlacedRule) → In s xs → IsRedexAt rules e.term s in
        let rest : P (drop j steps) = λ s i. (redexes.each s).0 (subst (λ (xs : List PlacedRule). In s xs) (take-append-drop j steps) (in_right (take j steps) i)) in
        let (ds, others) = reducts_there rules 4096 e (drop j steps) rest in
        let Q : List PlacedRule → Type 0 = λ xs. AreReducts rules 4096 e xs (h.candidates ++ ds) in
        let count = length_listed new after in
        let same = ap length h.longer in
        let has_all : 256 ≤ length (take 256 (listed_at old before ++ h.candidates)) = omega (arith, count, same, full) in
        let longer : take 256 (listed_at old before ++ ((h.candidates ++ ds) ++ [])) ≡ take 256 (listed_at old before ++ h.candidates) =
        ap (λ cs. take 256 (listed_at old before ++ cs)) (append-nil (h.candidates ++ ds))
        ∙ (ap (take 256) (sym (append_assoc (listed_at old before) h.candidates ds)) ∙ take_full 256 (listed_at old before ++ h.candidates) ds has_all) in
        record {
          candidates = (h.candidates ++ ds) ++ [];
          are_candidates = expanded near redexes (subst Q (take-append-drop j steps) (reducts_append rules 4096 e h.are_candidates others)) no_entry;
          longer = h.longer ∙ sym longer;
          below = h.below;
          few = h.few;
          room = h.room;
        }

-- ---- ends that no step leaves

pub none_longer : (rules : List RewriteRule) (e : Listed) (pool : List Tree) (paths : List Entry) → length e.path < 4 → HasRedexes rules e.term [] → All (λ x. x.0 < length pool) paths → length paths ≤ 256
    → AddsPaths (AreCandidates rules 4 4096 (e ∷ [])) pool pool paths paths
none_longer rules e pool paths near none below few = nothing_added (AreCandidates rules 4 4096 (e ∷ [])) pool paths below few (expanded near none no_step no_entry)

-- no path is longer than one of 4 steps
pub none_from_four : (rules : List RewriteRule) (e : Listed) (pool : List Tree) (paths : List Entry) → 4 ≤ length e.path → All (λ x. x.0 < length pool) paths → length paths ≤ 256
    → AddsPaths (AreCandidates rules 4 4096 (e ∷ [])) pool pool paths paths
none_from_four rules e pool paths far below few = nothing_added (AreCandidates rules 4 4096 (e ∷ [])) pool paths below few (too_deep far no_entry)

-- ---- what is looked at

pub looked_at_one_more : (rules : List RewriteRule) (t : Tree) (next : ℕ) (found new cs : List Listed) (e : Listed) → slice_get found next ≡ Some e → next < length found
    → length found ≤ 256 → IsLookedAt rules t next found → AreCandidates rules 4 4096 (e ∷ []) cs → new ≡ take 256 (found ++ cs) → IsLookedAt rules t (next + 1) new
looked_at_one_more rules t next found new cs e there below few h candidates is =
    let P : List Listed → Type 0 = λ xs. AreCandidates rules 4 4096 xs (h.candidates ++ cs) in
    let first : take (next + 1) new ≡ take next found ++ e ∷ [] =
    ap (take (next + 1)) is ∙ (take_take (next + 1) 256 (found ++ cs) (omega (arith, below, few)) ∙ take_one_more found cs next e below there) in
    record {
      candidates = h.candidates ++ cs;
      longer = subst P (sym first) (candidates_append rules 4 4096 h.longer candidates);
      listed = is ∙ (ap (λ es. take 256 (es ++ cs)) h.listed ∙ take_again 256 (no_steps t ∷ h.candidates) cs);
    }

-- the list does not get shorter
pub not_fewer : (kind : List Listed → Type 0) (old new : List Tree) (before after : List Entry) → AddsPaths kind old new before after → length before ≤ 256 → length before ≤ length after
not_fewer kind old new before after h few =
    let had = length_listed old before in
    let has = length_listed new after in
    let same = ap length h.longer in
    let taken = length-take 256 (listed_at old before ++ h.candidates) in
    let added = length-append (listed_at old before) h.candidates in
    omega (arith, had, has, same, taken, added, few)

-- an entry of a list of ids, as it was read
pub entry_listed : (pool : List Tree) (paths : List Entry) (i : ℕ) (e : Entry) → IsEntryAt paths i e → slice_get (listed_at pool paths) i ≡ Some (listed pool e)
entry_listed pool paths i e h = rw (h.id, h.path) (go paths i h.entry h.there)
  where
    go : (es : List Entry) (i : ℕ) (x : Entry) → slice_get es i ≡ Some x → slice_get (listed_at pool es) i ≡ Some (listed pool x)
    go [] i x there = absurd cc
    go (y ∷ es) zero x there = let same : y ≡ x = same_Some y x there in rw same refl
    go (y ∷ es) (suc i) x there = go es i x there

-- an entry of the list, as it is there
pub entry_itself : (paths : List Entry) (i : ℕ) (e : Entry) → slice_get paths i ≡ Some e → IsEntryAt paths i e
entry_itself paths i e there = record { entry = e; there = there; id = refl; path = refl }

pub entry_read : (paths : List Entry) (i : ℕ) (e : Entry) → i < length paths → e ≡ get_or paths i e → IsEntryAt paths i e
entry_read paths i e below is = entry_itself paths i e (slice_get_read paths (length paths) i e refl below is)

pub same_entry : (pool : List Tree) (paths : List Entry) (i : ℕ) (d e : Entry) → IsEntryAt paths i d → IsEntryAt paths i e → listed pool d ≡ listed pool e
same_entry pool paths i d e h k = same_Some (listed pool d) (listed pool e) (sym (entry_listed pool paths i d h) ∙ entry_listed pool paths i e k)

pub entry_there : (paths : List Entry) (i : ℕ) → i < length paths → (e : Entry) × IsEntryAt paths i e
entry_there [] i below = absurd (omega (arith, below))
entry_there (e ∷ paths) zero below = (e, entry_itself (e ∷ paths) 0 e refl)
entry_there (x ∷ paths) (suc i) below = let (e, at) = entry_there paths i (omega (arith, below)) in (e, record { entry = at.entry; there = at.there; id = at.id; path = at.path })

-- the path to it leads there
pub follows_there : (rules : List RewriteRule) (t : Tree) (pool : List Tree) (paths : List Entry) (i : ℕ) (e : Entry) → IsLookedAt rules t i (listed_at pool paths) → IsEntryAt paths i e
    → Follows rules e.1.items t (tree_at pool e.0)
follows_there rules t pool paths i e looked at =
    looked_paths_lead rules t i (listed_at pool paths) looked (listed pool e) (in_of_get (listed_at pool paths) i (listed pool e) (entry_listed pool paths i e at))

pub entry_within : (pool : List Tree) (paths : List Entry) (i : ℕ) (e : Entry) → IsEntryAt paths i e → All (λ x. x.0 < length pool) paths → e.0 < length pool
entry_within pool paths i e h below =
    let within : i < length paths = slice_get_within paths i h.entry h.there in
    let read : get_or paths i h.entry ≡ h.entry = get_or_from_slice_get paths i h.entry h.entry h.there in
    let small : (get_or paths i h.entry).0 < length pool = below i h.entry within in
    rw h.id (rw read at small)

-- ---- the beginning

pub begun : (rules : List RewriteRule) (t : Tree) (pool : List Tree) (id : ℕ) (path : Vec PlacedRule) (paths : List Entry) → paths ≡ (id, path) ∷ [] → path.items ≡ [] → StandsFor pool id t
    → IsLookedAt rules t 0 (listed_at pool paths)
begun rules t pool id path paths is empty stands = record {
  candidates = [];
  longer = no_entry;
  listed = ap (listed_at pool) is
      ∙ (ap (λ p. record { term = tree_at pool id; path = p } ∷ []) empty ∙ ap (λ u. record { term = u; path = [] } ∷ []) (stands_at pool id t stands));
}

pub begun_below : (t : Tree) (pool : List Tree) (id : ℕ) (path : Vec PlacedRule) (paths : List Entry) → paths ≡ (id, path) ∷ [] → StandsFor pool id t → All (λ e. e.0 < length pool) paths
begun_below t pool id path paths is stands =
    let one : All (λ e. e.0 < length pool) ((id, path) ∷ []) = All-push (λ e. e.0 < length pool) [] (id, path) (All-nil (λ e. e.0 < length pool)) (slice_get_within pool id t stands) in
    subst (All (λ e. e.0 < length pool)) (sym is) one
