-- Reducts of the ends of paths: as the pool grows, as paths go on to them, and as they are noted.
use Rattle.std.proofs.Common.{◌≡◌, ◌<◌, ◌≤◌, ℕ, ◌+◌, zero, suc, All, List, [], ◌∷◌, ◌++◌, Some, length, drop, slice_get, IsTrue, refl, ap, sym, ◌∙◌, subst, append-nil, length-append, arith}
use Rattle.std.proofs.lemmas.List.{take_all, length-take, length-map, length-drop, drop_at, drop-map}
use Rattle.std.proofs.lemmas.List.Elements.{All-drop, All-push, All-weaker}
use Rattle.std.proofs.lemmas.Option.{same_Some, slice_get_within}
use Rattle.trs_defs.specs.Tree.{Tree}
use Rattle.trs_defs.specs.System.{RewriteRule}
use Rattle.trs_defs.specs.Path.{PlacedRule, StepsAt}
use Rattle.trs_defs.proofs.ListItems.{image_item}
use Rattle.term_pool.specs.Pooled.{Extends, tree_at}
use Rattle.term_pool.specs.Redexes.{HasRedexes}
use Rattle.term_pool.specs.Listed.{Listed}
use Rattle.term_pool.specs.ListedIds.{listed, listed_at, ids_of}
use Rattle.term_pool.specs.Reach.{is_kept, after_step, AreReducts, no_step, kept, left_out, AreCandidates, no_entry, expanded, too_deep}
use Rattle.term_pool.proofs.Extending.{same_tree_at, extends_itself}
use Rattle.term_pool.proofs.KnownLaws.{known_on}
use Rattle.term_pool.proofs.ReachedIds.{length_listed}
use Rattle.term_pool.proofs.ReachOnce.{redexes_once}
use Rattle.path_lists.specs.Adding.{Entry, AddsPaths, IsKeptEnd}
use Rattle.path_lists.specs.KnownEnds.{AreKeptEnds, AreSmallReducts, AreReductsAt, AreKnownEnds}
use Rattle.path_lists.specs.declared.known_ends.KnownEnds.{KnownEnds}
use Rattle.path_lists.specs.declared.reducts.Reducts.{Reducts}
use Rattle.path_lists.proofs.Longer.{entry_itself, entry_within}

-- what the steps from a term lead to are the reducts of its id, if that was there before the pool grew
pub reducts_made : (rules : List RewriteRule) (old new : List Tree) (id : ℕ) (t : Tree) (reducts : Reducts) → Extends old new → id < length old → tree_at old id ≡ t
    → HasRedexes rules t reducts.steps.items → AreKeptEnds rules new t reducts.steps.items reducts.ends.items → AreReductsAt rules new id reducts
reducts_made rules old new id t reducts extends there is redexes ends =
    let R : Tree → Type 0 = λ u. AreSmallReducts rules new u reducts in
    record { there = omega (arith, there, extends.longer); are = subst R (sym (same_tree_at old new extends id there ∙ is)) (record { redexes = redexes; ends = ends }) }

-- of a term with no redex there are none
pub no_reducts : (rules : List RewriteRule) (pool : List Tree) (id : ℕ) (reducts : Reducts) → id < length pool → HasRedexes rules (tree_at pool id) reducts.steps.items → reducts.steps.items ≡ []
    → AreReductsAt rules pool id reducts
no_reducts rules pool id reducts there redexes empty =
    let none = ap length empty in
    reducts_made rules pool pool id (tree_at pool id) reducts (extends_itself pool) there refl redexes
    (λ i k s at has. (let within = slice_get_within reducts.steps.items i s has in absurd (omega (arith, within, none))))

-- ---- the pool grows

module _ (rules : List RewriteRule) (old new : List Tree) (extends : Extends old new) where
  kept_still : (s : PlacedRule) (t : Tree) (id : ℕ) → IsKeptEnd rules s t old old id → IsKeptEnd rules s t new new id
  kept_still s t id h =
      let S : Tree → Type 0 = λ u. StepsAt rules s.place s.rule t u in
      let K : Tree → Type 0 = λ u. IsTrue (is_kept 4096 u) in
      let same = sym (same_tree_at old new extends id h.there) in
      record { steps = subst S same h.steps; small = subst K same h.small; there = (let was = h.there in omega (arith, was, extends.longer)); few = omega arith }

  reducts_still : (id : ℕ) (reducts : Reducts) → AreReductsAt rules old id reducts → AreReductsAt rules new id reducts
  reducts_still id reducts h =
      let t = tree_at old id in
      let are = h.are in
      reducts_made rules old new id t reducts extends h.there refl are.redexes (λ i k s at has. kept_still s t k (are.ends i k s at has))

  pub still_known : (ends : KnownEnds) → AreKnownEnds rules old ends → AreKnownEnds rules new ends
  still_known ends h = record {
    reducts = All-weaker (λ e. AreReductsAt rules old e.0 e.1) (λ e. AreReductsAt rules new e.0 e.1) (λ e is. reducts_still e.0 e.1 is) ends.noted.items h.reducts;
    known = known_on rules old new ends.known extends h.known;
  }

-- ---- the entries that were added, if there is one for each step

module _ (rules : List RewriteRule) (e : Listed) where
  few_reducts : {ss : List PlacedRule} {cs : List Listed} → AreReducts rules 4096 e ss cs → length cs ≤ length ss
  few_reducts no_step = omega arith
  few_reducts (kept step small rest) = omega (arith, few_reducts rest)
  few_reducts (left_out step large rest) = omega (arith, few_reducts rest)

  none_left_out : {ss : List PlacedRule} {cs : List Listed} → AreReducts rules 4096 e ss cs → length ss ≤ length cs → (i : ℕ) (s : PlacedRule) (c : Listed)
      → slice_get ss i ≡ Some s → slice_get cs i ≡ Some c → StepsAt rules s.place s.rule e.term c.term × IsTrue (is_kept 4096 c.term)
  none_left_out no_step full i s c there at = absurd cc
  none_left_out (kept {s = r} {u = u} step small rest) full zero s c there at =
      let R : PlacedRule → Type 0 = λ x. StepsAt rules x.place x.rule e.term u × IsTrue (is_kept 4096 u) in
      let T : Tree → Type 0 = λ x. StepsAt rules s.place s.rule e.term x × IsTrue (is_kept 4096 x) in
      subst T (ap (λ (x : Listed). x.term) (same_Some (after_step e r u) c at)) (subst R (same_Some r s there) (step, small))
  none_left_out (kept step small rest) full (suc i) s c there at = none_left_out rest (omega (arith, full)) i s c there at
  none_left_out (left_out step large rest) full i s c there at = absurd (omega (arith, few_reducts rest, full))

  reducts_of_one : (steps : List PlacedRule) {cs : List Listed} → length e.path < 4 → HasRedexes rules e.term steps → AreCandidates rules 4 4096 (e ∷ []) cs → AreReducts rules 4096 e steps cs
  reducts_of_one steps near redexes (expanded {cs = cs} {ss = ss} close others reducts no_entry) =
      let same : ss ≡ steps = redexes_once (record { arities = []; rules = rules }) e.term ss steps others redexes in
      let S : List PlacedRule → Type 0 = λ xs. AreReducts rules 4096 e xs cs in
      subst (AreReducts rules 4096 e steps) (sym (append-nil cs)) (subst S same reducts)
  reducts_of_one steps near redexes (too_deep far others) = absurd (omega (arith, near, far))

entry_of : (entries : List Entry) (i id : ℕ) → slice_get (ids_of entries) i ≡ Some id → (x : Entry) × (slice_get entries i ≡ Some x) × (x.0 ≡ id)
entry_of [] i id at = absurd cc
entry_of (x ∷ entries) zero id at = (x, refl, same_Some x.0 id at)
entry_of (x ∷ entries) (suc i) id at = entry_of entries i id at

module _ (rules : List RewriteRule) (e : Listed) (steps : List PlacedRule) (near : length e.path < 4) (redexes : HasRedexes rules e.term steps) (old new : List Tree) (before after : List Entry)
    (adds : AddsPaths (AreCandidates rules 4 4096 (e ∷ [])) old new before after) (all : length before + length steps ≤ length after) where
  reducts : AreReducts rules 4096 e steps adds.candidates
  reducts = reducts_of_one rules e steps near redexes adds.are_candidates

  -- the counts of what was listed, of what is, and of the reducts
  one_each : (length steps ≡ length adds.candidates) × (length after ≡ length before + length steps)
  one_each =
      let had = length_listed old before in
      let has = length_listed new after in
      let same = ap length adds.longer in
      let taken = length-take 256 (listed_at old before ++ adds.candidates) in
      let added = length-append (listed_at old before) adds.candidates in
      let few = few_reducts rules e reducts in
      (omega (arith, had, has, same, taken, added, few, all), omega (arith, had, has, same, taken, added, few, all))

  added : listed_at new (drop (length before) after) ≡ adds.candidates
  added =
      let had = length_listed old before in
      let (candidates, counts) = one_each in
      let sum = length-append (listed_at old before) adds.candidates in
      let short : length (listed_at old before ++ adds.candidates) ≤ 256 = (let few = adds.few in omega (arith, had, sum, candidates, counts, few)) in
      sym (drop-map (listed new) (length before) after)
      ∙ (ap (drop (length before)) (adds.longer ∙ take_all 256 (listed_at old before ++ adds.candidates) short)
      ∙ drop_at (listed_at old before) adds.candidates (length before) had)

  pub all_noted : AreKeptEnds rules new e.term steps (ids_of (drop (length before) after))
  all_noted i id s at has =
      let (x, there, is) = entry_of (drop (length before) after) i id at in
      let c : slice_get adds.candidates i ≡ Some (listed new x) = ap (λ (xs : List Listed). slice_get xs i) (sym added) ∙ image_item (listed new) (drop (length before) after) i x there in
      let (step, small) = none_left_out rules e reducts (omega (arith, one_each.0)) i s (listed new x) has c in
      let T : ℕ → Type 0 = λ k. IsKeptEnd rules s e.term new new k in
      subst T is (record { steps = step; small = small; there = entry_within new (drop (length before) after) i x (entry_itself (drop (length before) after) i x there) (All-drop (λ y. y.0 < length new) (length before) after adds.below); few = omega arith })

  pub ids_for_steps : length (ids_of (drop (length before) after)) ≡ length steps
  ids_for_steps =
      let counts = one_each.1 in
      let ids = length-map (drop (length before) after) (λ (x : Entry). x.0) in
      let left = length-drop (length before) after in
      omega (arith, counts, ids, left)

-- ---- what is noted

pub one_noted : (rules : List RewriteRule) (pool : List Tree) (before after : KnownEnds) (id : ℕ) (new : Reducts) → AreReductsAt rules pool id new
    → after.noted.items ≡ before.noted.items ++ (id, new) ∷ [] → after.known ≡ before.known → AreKnownEnds rules pool before → AreKnownEnds rules pool after
one_noted rules pool before after id new is more same h =
    let N : ℕ × Reducts → Type 0 = λ e. AreReductsAt rules pool e.0 e.1 in
    record { reducts = subst (All N) (sym more) (All-push N before.noted.items (id, new) h.reducts is); known = rw same h.known }
