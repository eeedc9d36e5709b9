-- Tables of pairs: their lists, and the list of all peaks.
use Rattle.std.proofs.Common.{◌≡◌, ◌≤◌, ◌<◌, ◌⊎◌, inl, inr, ℕ, ◌+◌, zero, suc, Bool, true, false, List, [], ◌∷◌, ◌++◌, take, length, get_or, Some, Ok, slice_get, refl, ap, sym, ◌∙◌, subst, arith, append_assoc, append-nil}
use Rattle.std.specs.Prelude.{◌&&◌, ◌==◌}
use Rattle.std.specs.Global.{Vec}
use Rattle.std.proofs.lemmas.List.{take_more}
use Rattle.std.proofs.lemmas.Option.{same_Some}
use Rattle.std.proofs.lemmas.Grind.{flat_map-append}
use Rattle.trs_defs.specs.Member.{In, in_first, in_rest}
use Rattle.trs_defs.proofs.Members.{no_in, in_or, in_either}
use Rattle.trs_defs.proofs.ListItems.{kept_item, item_of_longer}
use Rattle.trs_defs.specs.Tree.{Tree}
use Rattle.trs_defs.specs.System.{RewriteRule}
use Rattle.term_pool.specs.Pooled.{Extends}
use Rattle.rewrite_core.specs.PlacedPeak.{PlacedPeak}
use Rattle.crit_pairs.specs.PeakList.{Spot, symbol_places, is_root, unless, spots_at, spots_of, spots_from, OverlapsAt, IsPeakAt, nodes_of_peak, Lists, at_end, no_overlap, one_peak}
use Rattle.crit_pairs.specs.Walk.{spot_unless}
use Rattle.crit_pairs.specs.Table.{Site, sites_of, sites_from, sites, PeaksAt, no_spot, no_peak, a_peak, nodes_of_peaks, IsPair, ArePairs, no_pair, one_pair, HoldPairs, no_site, one_site, pairs_of, HasPeaks, HasFirstPeaks, AreAllPairs}
use Rattle.crit_pairs.specs.declared.table.PeakPair.{PeakPair}
use Rattle.crit_pairs.proofs.GroundRights.{rights_still}
use Rattle.crit_pairs.specs.declared.table.PeakTable.{PeakTable}

-- ---- peaks

pub nodes_both : (ps qs : List PlacedPeak) → nodes_of_peaks (ps ++ qs) ≡ nodes_of_peaks ps + nodes_of_peaks qs
nodes_both [] qs = omega arith
nodes_both (p ∷ ps) qs = omega (arith, nodes_both ps qs)

pub peaks_both : {rules : List RewriteRule} {some others : List Spot} {ps qs : List PlacedPeak} → PeaksAt rules some ps → PeaksAt rules others qs
    → PeaksAt rules (some ++ others) (ps ++ qs)
peaks_both no_spot k = k
peaks_both (no_peak none h) k = no_peak none (peaks_both h k)
peaks_both (a_peak is small h) k = a_peak is small (peaks_both h k)

-- peaks within the limits are listed
pub listed_within : {rules : List RewriteRule} {left : List Spot} {ps : List PlacedPeak} (total : ℕ) → PeaksAt rules left ps → total + nodes_of_peaks ps ≤ 4194304
    → Lists rules total left (Ok ps)
listed_within total no_spot few = at_end
listed_within total (no_peak none h) few = no_overlap none (listed_within total h few)
listed_within total (a_peak {p = p} {ps = ps} is small h) few =
    one_peak is small (omega (arith, few)) (listed_within (total + nodes_of_peak p) h (omega (arith, few)))

-- ---- peaks of the first rules

module _ (first more : List RewriteRule) where
  overlap_of_first : (s : Spot) → s.inner < length first → s.outer < length first → OverlapsAt (first ++ more) s → OverlapsAt first s
  overlap_of_first s inside outside o =
      let (inner, outer, h) = o in (
        inner,
        outer,
        record {
          inner_numbered = item_of_longer first more s.inner inner inside h.inner_numbered;
          outer_numbered = item_of_longer first more s.outer outer outside h.outer_numbered;
          not_itself = h.not_itself;
          part = h.part;
          there = h.there;
          no_variable = h.no_variable;
          outer_instance = h.outer_instance;
          inner_instance = h.inner_instance;
          meet = h.meet;
        },
      )

  peak_of_more : (s : Spot) (p : PlacedPeak) → IsPeakAt first s p → IsPeakAt (first ++ more) s p
  peak_of_more s p h = record {
    is_outer = h.is_outer;
    is_place = h.is_place;
    is_inner = h.is_inner;
    inner = h.inner;
    outer = h.outer;
    inner_numbered = kept_item first more s.inner h.inner h.inner_numbered;
    outer_numbered = kept_item first more s.outer h.outer h.outer_numbered;
    critical = h.critical;
    counted = h.counted;
  }

  abbrev Within : List Spot → Type 0
  Within left = (s : Spot) → In s left → (s.inner < length first) × (s.outer < length first)

  peaks_of_more : {left : List Spot} {ps : List PlacedPeak} → Within left → PeaksAt first left ps → PeaksAt (first ++ more) left ps
  peaks_of_more within no_spot = no_spot
  peaks_of_more within (no_peak {s = s} none h) =
      let w = within s in_first in
      no_peak (λ o. none (overlap_of_first s w.0 w.1 o)) (peaks_of_more (λ t i. within t (in_rest i)) h)
  peaks_of_more within (a_peak {s = s} {p = p} is small h) = a_peak (peak_of_more s p is) small (peaks_of_more (λ t i. within t (in_rest i)) h)

  unless_in : (b : Bool) (x y : Spot) (xs : List Spot) → In y (unless b x xs) → (y ≡ x) ⊎ In y xs
  unless_in true x y xs h = inr h
  unless_in false x y xs h = in_or h

  within_spots : (j : ℕ) (p : List ℕ) (k : ℕ) (rules : List RewriteRule) → j < length first → k + length rules ≤ length first → Within (spots_at j p k rules)
  within_spots j p k [] low few s h = absurd (no_in h)
  within_spots j p k (rule ∷ rules) low few s h = elim (unless_in (is_root p && k == j) (record { outer = j; place = p; inner = k }) s (spots_at j p (k + 1) rules) h) as (λ _. (s.inner < length first) × (s.outer < length first)) [
    | inl e ↦ (let inner : s.inner ≡ k = ap (λ (t : Spot). t.inner) e in let outer : s.outer ≡ j = ap (λ (t : Spot). t.outer) e in (omega (arith, inner, few), omega (arith, outer, low)))
    | inr l ↦ within_spots j p (k + 1) rules low (omega (arith, few)) s l
  ]

  abbrev Below : List Site → Type 0
  Below left = (s : Site) → In s left → s.outer < length first

  pub hold_of_more : {pool : List Tree} {left : List Site} {lists : List (Vec PeakPair)} {ps : List PlacedPeak} → Below left → HoldPairs first pool first left lists ps
      → HoldPairs (first ++ more) pool first left lists ps
  hold_of_more below no_site = no_site
  hold_of_more below (one_site {s = s} at pairs h) =
      one_site (peaks_of_more (within_spots s.outer s.place 0 first (below s in_first) (omega arith)) at) pairs (hold_of_more (λ t i. below t (in_rest i)) h)

  outer_of : (j : ℕ) (places : List (List ℕ)) (s : Site) → In s (sites_of j places) → s.outer ≡ j
  outer_of j [] s h = absurd (no_in h)
  outer_of j (p ∷ places) s h = elim (in_or h) as (λ _. s.outer ≡ j) [
    | inl e ↦ ap (λ (t : Site). t.outer) e
    | inr i ↦ outer_of j places s i
  ]

  below_from : (j : ℕ) (rules : List RewriteRule) → j + length rules ≤ length first → Below (sites_from j rules)
  below_from j [] few s h = absurd (no_in h)
  below_from j (rule ∷ rest) few s h = elim (in_either (sites_of j (symbol_places rule.left)) (sites_from (j + 1) rest) h) as (λ _. s.outer < length first) [
    | inl l ↦ omega (arith, outer_of j (symbol_places rule.left) s l, few)
    | inr l ↦ below_from (j + 1) rest (omega (arith, few)) s l
  ]

  pub sites_below : Below (sites first)
  sites_below = below_from 0 first (omega arith)

-- ---- pairs

pub pairs_still : {pool next : List Tree} {xs : List PeakPair} {ps : List PlacedPeak} → Extends pool next → ArePairs pool xs ps → ArePairs next xs ps
pairs_still more no_pair = no_pair
pairs_still more (one_pair {x = x} {p = p} is h) = one_pair (more.kept x.left p.left is.0, more.kept x.right p.right is.1) (pairs_still more h)

pub pairs_both : {pool : List Tree} {xs ys : List PeakPair} {ps qs : List PlacedPeak} → ArePairs pool xs ps → ArePairs pool ys qs → ArePairs pool (xs ++ ys) (ps ++ qs)
pairs_both no_pair k = k
pairs_both (one_pair is h) k = one_pair is (pairs_both h k)

-- one pair more, in a pool that has grown
pub one_pair_more : {pool next : List Tree} {xs : List PeakPair} {ps : List PlacedPeak} (x : PeakPair) (p : PlacedPeak) → Extends pool next → ArePairs pool xs ps → IsPair next x p
    → ArePairs next (xs ++ x ∷ []) (ps ++ p ∷ [])
one_pair_more x p more h is = pairs_both (pairs_still more h) (one_pair is no_pair)

-- the pair of the next peak
pub pair_next : (peaks : List PlacedPeak) (i : ℕ) (p : PlacedPeak) (pool next : List Tree) (xs ys : List PeakPair) (x : PeakPair) → i < length peaks → p ≡ get_or peaks i p → ys ≡ xs ++ x ∷ [] → Extends pool next
    → IsPair next x p → ArePairs pool xs (take i peaks) → ArePairs next ys (take (i + 1) peaks)
pair_next peaks i p pool next xs ys x less read put more is h =
    let taken : take (i + 1) peaks ≡ take i peaks ++ p ∷ [] = take_more peaks i p less ∙ ap (λ q. take i peaks ++ q ∷ []) (sym read) in
    let Q : List PeakPair → Type 0 = λ zs. ArePairs next zs (take i peaks ++ p ∷ []) in
    let P : List PlacedPeak → Type 0 = ArePairs next ys in
    subst P (sym taken) (subst Q (sym put) (one_pair_more x p more h is))

-- as many pairs as peaks
pub pairs_count : {pool : List Tree} {xs : List PeakPair} {ps : List PlacedPeak} → ArePairs pool xs ps → length xs ≡ length ps
pairs_count no_pair = refl
pairs_count (one_pair is h) = ap suc (pairs_count h)

-- the peak of a pair
pub peak_of_pair : {pool : List Tree} {xs : List PeakPair} {ps : List PlacedPeak} → ArePairs pool xs ps → (k : ℕ) (x : PeakPair) → slice_get xs k ≡ Some x
    → (p : PlacedPeak) × (slice_get ps k ≡ Some p) × IsPair pool x p
peak_of_pair no_pair k x e = absurd cc
peak_of_pair {pool = pool} (one_pair {p = p} is h) zero x e = (p, refl, subst (λ z. IsPair pool z p) (cc (e)) is)
peak_of_pair (one_pair is h) (suc k) x e = peak_of_pair h k x e

-- the pair of a peak
pub pair_of_peak : {pool : List Tree} {xs : List PeakPair} {ps : List PlacedPeak} → ArePairs pool xs ps → (k : ℕ) (x : PeakPair) (p : PlacedPeak) → slice_get xs k ≡ Some x → slice_get ps k ≡ Some p
    → IsPair pool x p
pair_of_peak {pool = pool} h k x p there is =
    let found = peak_of_pair h k x there in
    subst (IsPair pool x) (same_Some found.0 p (sym found.1 ∙ is)) found.2

pub hold_still : {rules : List RewriteRule} {pool next : List Tree} {inner : List RewriteRule} {left : List Site} {lists : List (Vec PeakPair)} {ps : List PlacedPeak}
    → Extends pool next → HoldPairs rules pool inner left lists ps → HoldPairs rules next inner left lists ps
hold_still more no_site = no_site
hold_still more (one_site at pairs h) = one_site at (pairs_still more pairs) (hold_still more h)

-- one site more
pub hold_one_more : {rules : List RewriteRule} {pool : List Tree} {inner : List RewriteRule} {done : List Site} {lists : List (Vec PeakPair)} {ps : List PlacedPeak}
    (s : Site) (list : Vec PeakPair) (here : List PlacedPeak) → HoldPairs rules pool inner done lists ps → PeaksAt rules (spots_at s.outer s.place 0 inner) here → ArePairs pool list.items here
    → HoldPairs rules pool inner (done ++ s ∷ []) (lists ++ list ∷ []) (ps ++ here)
hold_one_more {rules = rules} {pool = pool} {inner = inner} s list here no_site at pairs =
    let H : List PlacedPeak → Type 0 = HoldPairs rules pool inner (s ∷ []) (list ∷ []) in
    subst H (append-nil here) (one_site at pairs no_site)
hold_one_more {rules = rules} {pool = pool} {inner = inner} s list here (one_site {s = t} {rest = rest} {list = first} {lists = lists} {ps = ps} {qs = qs} at' pairs' h) at pairs =
    let H : List PlacedPeak → Type 0 = HoldPairs rules pool inner (t ∷ (rest ++ s ∷ [])) (first ∷ (lists ++ list ∷ [])) in
    subst H (sym (append_assoc ps qs here)) (one_site at' pairs' (hold_one_more s list here h at pairs))

-- ---- spots

unless_both : (b : Bool) (s : Spot) (xs ys : List Spot) → unless b s xs ++ ys ≡ unless b s (xs ++ ys)
unless_both true s xs ys = refl
unless_both false s xs ys = refl

-- with one more inner rule a site has one more spot
pub spots_more : (j : ℕ) (p : List ℕ) (k : ℕ) (rules : List RewriteRule) (r : RewriteRule) (n : ℕ) → n ≡ k + length rules → spots_at j p k (rules ++ r ∷ []) ≡ spots_at j p k rules ++ spot_unless j p n
spots_more j p k [] r n e = let same : k ≡ n = omega (arith, e) in ap (spot_unless j p) same
spots_more j p k (rule ∷ rules) r n e =
    ap (unless (is_root p && k == j) (record { outer = j; place = p; inner = k })) (spots_more j p (k + 1) rules r n (omega (arith, e)))
    ∙ sym (unless_both (is_root p && k == j) (record { outer = j; place = p; inner = k }) (spots_at j p (k + 1) rules) (spot_unless j p n))

-- the peaks of all sites are those of all spots
abbrev spots_on : List RewriteRule → List Site → List Spot
spots_on rules [] = []
spots_on rules (s ∷ left) = spots_at s.outer s.place 0 rules ++ spots_on rules left

on_sites_of : (rules : List RewriteRule) (j : ℕ) (places : List (List ℕ)) (others : List Site) → spots_on rules (sites_of j places ++ others) ≡ spots_of rules j places ++ spots_on rules others
on_sites_of rules j [] others = refl
on_sites_of rules j (p ∷ places) others =
    ap (λ z. spots_at j p 0 rules ++ z) (on_sites_of rules j places others) ∙ sym (append_assoc (spots_at j p 0 rules) (spots_of rules j places) (spots_on rules others))

on_sites_from : (rules : List RewriteRule) (j : ℕ) (rest : List RewriteRule) → spots_on rules (sites_from j rest) ≡ spots_from rules j rest
on_sites_from rules j [] = refl
on_sites_from rules j (rule ∷ rest) =
    on_sites_of rules j (symbol_places rule.left) (sites_from (j + 1) rest) ∙ ap (λ z. spots_of rules j (symbol_places rule.left) ++ z) (on_sites_from rules (j + 1) rest)

held_peaks : {rules : List RewriteRule} {pool : List Tree} {left : List Site} {lists : List (Vec PeakPair)} {ps : List PlacedPeak} → HoldPairs rules pool rules left lists ps
    → PeaksAt rules (spots_on rules left) ps
held_peaks no_site = no_spot
held_peaks (one_site at pairs h) = peaks_both at (held_peaks h)

held_pairs : {rules : List RewriteRule} {pool : List Tree} {inner : List RewriteRule} {left : List Site} {lists : List (Vec PeakPair)} {ps : List PlacedPeak} → HoldPairs rules pool inner left lists ps
    → ArePairs pool (pairs_of lists) ps
held_pairs no_site = no_pair
held_pairs (one_site at pairs h) = pairs_both pairs (held_pairs h)

-- a table has the pairs of all critical peaks
pub all_pairs : (rules : List RewriteRule) (pool : List Tree) (table : PeakTable) → HasPeaks rules pool table → AreAllPairs rules pool (pairs_of table.lists.items)
all_pairs rules pool table h =
    let P : List Spot → Type 0 = λ left. PeaksAt rules left h.peaks in
    record {
      peaks = h.peaks;
      lists = listed_within 0 (subst P (on_sites_from rules 0 rules) (held_peaks h.held)) (omega (arith, h.nodes, h.few));
      stand = held_pairs h.held;
    }

-- and still has them in a pool that has grown
pub has_still : (rules : List RewriteRule) (pool next : List Tree) (table : PeakTable) → Extends pool next → HasPeaks rules pool table → HasPeaks rules next table
has_still rules pool next table more h = record { prepared = h.prepared; rights = rights_still rules pool next table.rights.items more h.rights; peaks = h.peaks; held = hold_still more h.held; nodes = h.nodes; few = h.few }

-- one list more
pub pairs_more : (lists : List (Vec PeakPair)) (i : ℕ) (list : Vec PeakPair) → i < length lists → list ≡ get_or lists i list → pairs_of (take (i + 1) lists) ≡ pairs_of (take i lists) ++ list.items
pairs_more lists i list less is =
    ap pairs_of (take_more lists i list less) ∙ (flat_map-append (λ (l : Vec PeakPair). l.items) (take i lists) (get_or lists i list ∷ [])
    ∙ ap (λ xs. pairs_of (take i lists) ++ xs) (append-nil (get_or lists i list).items ∙ ap (λ (l : Vec PeakPair). l.items) (sym is)))

-- no peaks are there so far
pub no_peaks_yet : (rules : List RewriteRule) (pool : List Tree) (table : PeakTable) → ((pool : List Tree) → HasPeaks [] pool table) → HasFirstPeaks rules pool table
no_peaks_yet rules pool table h = record { first = []; more = rules; are = refl; has = h pool }
