-- Lists of pairs that grow: at a site inner rule by inner rule, and then site by site.
use Rattle.std.proofs.Common.{◌≡◌, ◌≤◌, ◌<◌, inl, inr, ℕ, ◌+◌, zero, suc, List, [], ◌∷◌, ◌++◌, map, take, drop, length, get_or, Option, Some, Result, Ok, Err, OnOk, slice_get, slice_set, refl, ap, sym, ◌∙◌, subst, arith, append_assoc, append-nil, length-append}
use Rattle.std.specs.Global.{Vec}
use Rattle.std.proofs.lemmas.List.{take_all, drop_all, take_more, map-append, length-map, get_or-map}
use Rattle.std.proofs.lemmas.Option.{same_Some, slice_get_read}
use Rattle.trs_defs.specs.Tree.{Tree, Trees, app}
use Rattle.trs_defs.specs.System.{RewriteRule}
use Rattle.trs_defs.proofs.ArgumentLists.{cell}
use Rattle.trs_defs.proofs.ListItems.{last_item, item_there, image_item, next_item}
use Rattle.trs_core.specs.declared.terms.Term.{Term}
use Rattle.trs_core.specs.View.{tree, forest}
use Rattle.term_pool.specs.Pooled.{Extends}
use Rattle.rewrite_core.specs.PlacedPeak.{PlacedPeak}
use Rattle.crit_pairs.specs.PeakList.{Spot, symbol_places, symbol_places_of_all, spots_at}
use Rattle.crit_pairs.specs.Walk.{spot_unless}
use Rattle.crit_pairs.specs.Table.{Site, site, sites_of, sites_from, sites, PeaksAt, no_spot, nodes_of_peaks, ArePairs, no_pair, one_pair, HoldPairs, no_site, one_site, HasPeaks, HasFirstPeaks}
use Rattle.crit_pairs.specs.Growing.{Await, IsGrown, IsAtSite, AddsOne, AddsNone, AddsPeaks, sites_in}
use Rattle.crit_pairs.specs.declared.table.PeakPair.{PeakPair}
use Rattle.trs_caps.specs.HoledTree.{HoledTree}
use Rattle.crit_pairs.specs.Apart.{renamed_apart, HaveSkeletons}
use Rattle.crit_pairs.specs.Skeletons.{opened}
use Rattle.crit_pairs.specs.SkeletonView.{skeleton_view}
use Rattle.crit_pairs.specs.declared.skeleton.Skeleton.{Skeleton}
use Rattle.crit_pairs.specs.Prepared.{ArePrepared, PreparesFirst}
use Rattle.crit_pairs.specs.GroundSides.{AreGroundRights}
use Rattle.crit_pairs.specs.declared.ground_sides.GroundSide.{GroundSide}
use Rattle.crit_pairs.specs.declared.table.PeakTable.{PeakTable}
use Rattle.crit_pairs.specs.declared.prepared.PreparedRules.{PreparedRules}
use Rattle.crit_pairs.specs.declared.growing.Growth.{Growth}
use Rattle.crit_pairs.proofs.SpotWalk.{below_below, below_root}
use Rattle.crit_pairs.proofs.TableLaws.{nodes_both, peaks_both, pairs_still, pairs_both, hold_still, hold_one_more, hold_of_more, sites_below, spots_more}

-- ---- a site begins

-- what is awaited at the first site
record AwaitsFirst (rules : List RewriteRule) (pool : List Tree) (inner : List RewriteRule) (s : Site) (left : List Site) (lists : List (Vec PeakPair)) (peaks : List PlacedPeak) : Type 0 where
  list : Vec PeakPair
  behind : List (Vec PeakPair)
  here : List PlacedPeak
  later : List PlacedPeak
  lists_are : lists ≡ list ∷ behind
  peaks_are : peaks ≡ here ++ later
  at : PeaksAt rules (spots_at s.outer s.place 0 inner) here
  pairs : ArePairs pool list.items here
  held : HoldPairs rules pool inner left behind later

first_held : (rules : List RewriteRule) (pool : List Tree) (inner : List RewriteRule) (s : Site) (left all : List Site) (lists : List (Vec PeakPair)) (peaks : List PlacedPeak) → all ≡ s ∷ left
    → HoldPairs rules pool inner all lists peaks → AwaitsFirst rules pool inner s left lists peaks
first_held rules pool inner s left all lists peaks e no_site = absurd cc
first_held rules pool inner s left all lists peaks e (one_site {s = t} {rest = rest} {list = list} {lists = behind} {ps = ps} {qs = qs} at pairs h) =
    let same : t ≡ s = cc (e) in
    let others : rest ≡ left = cc (e) in
    let A : Site → Type 0 = λ z. PeaksAt rules (spots_at z.outer z.place 0 inner) ps in
    let H : List Site → Type 0 = λ z. HoldPairs rules pool inner z behind qs in
    record { list = list; behind = behind; here = ps; later = qs; lists_are = refl; peaks_are = refl; at = subst A same at; pairs = pairs; held = subst H others h }

module _ (rules : List RewriteRule) (from : ℕ) (pool : List Tree) (growth : Growth) (s : Site) (left after : List Site) (h : IsGrown rules from pool growth (s ∷ left) after) where
  -- it has a list already
  pub site_begun : growth.done < length growth.lists.items → IsAtSite rules from from pool growth s left after
  site_begun less = elim h.awaited as (λ _. IsAtSite rules from from pool growth s left after) [
    | inl held ↦
        let f = first_held rules pool (take from rules) s left (s ∷ left) h.behind h.later refl held in
        record {
          done = h.done;
          before = h.before;
          list = f.list;
          behind = f.behind;
          made = h.made;
          here = f.here;
          later = f.later;
          whole = h.whole;
          lists = h.lists ∙ ap (λ ls. h.before ++ ls) f.lists_are;
          held = h.held;
          peaks = f.at;
          pairs = f.pairs;
          awaited = inl f.held;
          count = h.count;
          nodes = omega (arith, h.nodes, ap nodes_of_peaks f.peaks_are, nodes_both f.here f.later);
          few = h.few;
        }
    | inr none ↦
        let all : growth.lists.items ≡ h.before = h.lists ∙ (ap (λ ls. h.before ++ ls) none.1 ∙ append-nil h.before) in
        absurd (omega (arith, less, h.count, ap length all))
  ]

  -- it gets one
  pub site_begins : (grown : Growth) (list : Vec PeakPair) → length growth.lists.items ≡ growth.done → grown.lists.items ≡ growth.lists.items ++ list ∷ [] → list.items ≡ [] → grown.done ≡ growth.done
      → grown.nodes ≡ growth.nodes → IsAtSite rules from from pool grown s left after
  site_begins grown list full put empty same_done same_nodes = elim h.awaited as (λ _. IsAtSite rules from from pool grown s left after) [
    | inl held ↦
        let f = first_held rules pool (take from rules) s left (s ∷ left) h.behind h.later refl held in
        absurd (omega (arith, full, h.count, ap length h.lists, length-append h.before h.behind, ap length f.lists_are))
    | inr none ↦
        let all : growth.lists.items ≡ h.before = h.lists ∙ (ap (λ ls. h.before ++ ls) none.1 ∙ append-nil h.before) in
        let N : List RewriteRule → Type 0 = λ inner. PeaksAt rules (spots_at s.outer s.place 0 inner) [] in
        let E : List PeakPair → Type 0 = λ xs. ArePairs pool xs [] in
        record {
          done = h.done;
          before = h.before;
          list = list;
          behind = [];
          made = h.made;
          here = [];
          later = [];
          whole = h.whole;
          lists = put ∙ ap (λ ls. ls ++ list ∷ []) all;
          held = h.held;
          peaks = subst N (sym none.0) no_spot;
          pairs = subst E (sym empty) no_pair;
          awaited = inr (none.0, refl, refl);
          count = same_done ∙ h.count;
          nodes = omega (arith, same_nodes, h.nodes, ap nodes_of_peaks none.2);
          few = omega (arith, same_nodes, h.few);
        }
  ]

-- ---- one inner rule more

set_seam : (before : List (Vec PeakPair)) (list new : Vec PeakPair) (behind : List (Vec PeakPair)) → slice_set (before ++ list ∷ behind) (length before) new ≡ before ++ new ∷ behind
set_seam [] list new behind = refl
set_seam (x ∷ before) list new behind = ap (λ ls. x ∷ ls) (set_seam before list new behind)

pub await_still : {rules : List RewriteRule} {pool next : List Tree} {inner : List RewriteRule} {left : List Site} {lists : List (Vec PeakPair)} {ps : List PlacedPeak} → Extends pool next
    → Await rules pool inner left lists ps → Await rules next inner left lists ps
await_still more (inl h) = inl (hold_still more h)
await_still more (inr none) = inr none

taken_more : (rules : List RewriteRule) (i : ℕ) → i < length rules → (r : RewriteRule) × (take (i + 1) rules ≡ take i rules ++ r ∷ []) × (i ≡ 0 + length (take i rules))
taken_more rules i less =
    let (r, there) = item_there rules i less in
    (get_or rules i r, take_more rules i r less, omega (arith, length_taken i rules less))
  where
    length_taken : (n : ℕ) (xs : List RewriteRule) → n < length xs → length (take n xs) ≡ n
    length_taken zero xs h = refl
    length_taken (suc n) [] h = absurd (omega (arith, h))
    length_taken (suc n) (x ∷ xs) h = omega (arith, length_taken n xs (omega (arith, h)))

module _ (rules : List RewriteRule) (j i from : ℕ) (p : List ℕ) (pool next : List Tree) (growth grown : Growth) (left after : List Site) (less : i < length rules)
    (h : IsAtSite rules i from pool growth (site j p) left after) where
  more_peaks : (new : List PlacedPeak) → PeaksAt rules (spot_unless j p i) new → PeaksAt rules (spots_at j p 0 (take (i + 1) rules)) (h.here ++ new)
  more_peaks new at =
      let (r, taken, count) = taken_more rules i less in
      let P : List Spot → Type 0 = λ ss. PeaksAt rules ss (h.here ++ new) in
      let is : spots_at j p 0 (take (i + 1) rules) ≡ spots_at j p 0 (take i rules) ++ spot_unless j p i = ap (spots_at j p 0) taken ∙ spots_more j p 0 (take i rules) r i count in
      subst P (sym is) (peaks_both h.peaks at)

  at_next_one : growth.done ≡ grown.done → Extends pool next → AddsOne rules (spot_unless j p i) pool growth next grown → IsAtSite rules (i + 1) from next grown (site j p) left after
  at_next_one same more one =
      let list : h.list ≡ one.old =
      same_Some h.list one.old (sym (last_item h.before h.list h.behind) ∙ (sym (ap (λ ls. slice_get ls (length h.before)) h.lists) ∙ (ap (slice_get growth.lists.items) (sym h.count) ∙ one.there))) in
      let Q : List PeakPair → Type 0 = λ xs. ArePairs next xs (h.here ++ one.peak ∷ []) in
      let put : one.new.items ≡ h.list.items ++ one.pair ∷ [] = one.put ∙ ap (λ (l : Vec PeakPair). l.items ++ one.pair ∷ []) (sym list) in
      record {
        done = h.done;
        before = h.before;
        list = one.new;
        behind = h.behind;
        made = h.made;
        here = h.here ++ one.peak ∷ [];
        later = h.later;
        whole = h.whole;
        lists = one.lists ∙ (ap (λ n. slice_set growth.lists.items n one.new) h.count ∙ (ap (λ ls. slice_set ls (length h.before) one.new) h.lists ∙ set_seam h.before h.list one.new h.behind));
        held = hold_still more h.held;
        peaks = more_peaks (one.peak ∷ []) one.at;
        pairs = subst Q (sym put) (pairs_both (pairs_still more h.pairs) (one_pair one.stands no_pair));
        awaited = await_still more h.awaited;
        count = sym same ∙ h.count;
        nodes = omega (arith, one.nodes, h.nodes, nodes_both h.here (one.peak ∷ []));
        few = one.few;
      }

  at_next_none : grown.done ≡ growth.done → AddsNone rules (spot_unless j p i) pool growth next grown → IsAtSite rules (i + 1) from next grown (site j p) left after
  at_next_none same none =
      let S : List Tree → Type 0 = λ ts. IsAtSite rules (i + 1) from ts grown (site j p) left after in
      let P : List PlacedPeak → Type 0 = PeaksAt rules (spots_at j p 0 (take (i + 1) rules)) in
      subst S (sym none.1) (record {
        done = h.done;
        before = h.before;
        list = h.list;
        behind = h.behind;
        made = h.made;
        here = h.here;
        later = h.later;
        whole = h.whole;
        lists = none.2 ∙ h.lists;
        held = h.held;
        peaks = subst P (append-nil h.here) (more_peaks [] none.0);
        pairs = h.pairs;
        awaited = h.awaited;
        count = same ∙ h.count;
        nodes = none.3 ∙ h.nodes;
        few = omega (arith, none.3, h.few);
      })

  pub at_next : grown.done ≡ growth.done → Extends pool next → AddsPeaks rules (spot_unless j p i) pool growth next grown → IsAtSite rules (i + 1) from next grown (site j p) left after
  at_next same more (inl none) = at_next_none same none
  at_next same more (inr one) = at_next_one (sym same) more one

-- the site is done
pub at_end : (rules : List RewriteRule) (inner from : ℕ) (pool : List Tree) (growth grown : Growth) (s : Site) (left after : List Site) → length rules ≤ inner
    → grown.lists.items ≡ growth.lists.items → grown.done ≡ growth.done + 1 → grown.nodes ≡ growth.nodes → IsAtSite rules inner from pool growth s left after → IsGrown rules from pool grown left after
at_end rules inner from pool growth grown s left after all same_lists one_more same_nodes h =
    let P : List RewriteRule → Type 0 = λ rs. PeaksAt rules (spots_at s.outer s.place 0 rs) h.here in
    record {
      done = h.done ++ s ∷ [];
      before = h.before ++ h.list ∷ [];
      behind = h.behind;
      made = h.made ++ h.here;
      later = h.later;
      whole = append_assoc h.done (s ∷ []) (left ++ after) ∙ h.whole;
      lists = same_lists ∙ (h.lists ∙ sym (append_assoc h.before (h.list ∷ []) h.behind));
      held = hold_one_more s h.list h.here h.held (subst P (take_all inner rules all) h.peaks) h.pairs;
      awaited = h.awaited;
      count = omega (arith, one_more, h.count, length-append h.before (h.list ∷ []));
      nodes = omega (arith, same_nodes, h.nodes, nodes_both h.made h.here);
      few = omega (arith, same_nodes, h.few);
    }

-- ---- sites below a position

sites_of_both : (j : ℕ) (ps qs : List (List ℕ)) → sites_of j (ps ++ qs) ≡ sites_of j ps ++ sites_of j qs
sites_of_both j [] qs = refl
sites_of_both j (p ∷ ps) qs = ap (λ ss. site j p ∷ ss) (sites_of_both j ps qs)

abbrev pub sites_under : ℕ → List ℕ → ℕ → Trees → List Site
sites_under j p k ts = sites_of j (map (λ q. p ++ q) (symbol_places_of_all k ts))

pub root_site : (j : ℕ) (p : List ℕ) (f : ℕ) (ts : Trees) (t : Tree) → t ≡ app f ts → sites_in j p t ≡ site j p ∷ sites_under j p 1 ts
root_site j p f ts t is = ap (λ u. sites_in j p u) is ∙ ap (λ q. site j q ∷ sites_under j p 1 ts) (append-nil p)

pub next_site : (j : ℕ) (p q : List ℕ) (ts : List Term) (i : ℕ) (t : Term) → i < length ts → t ≡ get_or ts i t → q ≡ p ++ (i + 1) ∷ []
    → sites_under j p (i + 1) (forest (drop i ts)) ≡ sites_in j q (tree t) ++ sites_under j p (i + 1 + 1) (forest (drop (i + 1) ts))
next_site j p q ts i t h e is =
    let first : List (List ℕ) = map (λ u. (i + 1) ∷ u) (symbol_places (tree t)) in
    let rest : List (List ℕ) = symbol_places_of_all (i + 1 + 1) (forest (drop (i + 1) ts)) in
    ap (λ us. sites_under j p (i + 1) (forest us)) (cell ts i t h e)
    ∙ (ap (sites_of j) (map-append (λ u. p ++ u) first rest)
    ∙ (sites_of_both j (map (λ u. p ++ u) first) (map (λ u. p ++ u) rest)
    ∙ ap (λ ps. sites_of j ps ++ sites_of j (map (λ u. p ++ u) rest)) (below_below p (i + 1) (symbol_places (tree t)) ∙ ap (λ z. map (λ u. z ++ u) (symbol_places (tree t))) (sym is))))

pub no_site_left : (j : ℕ) (p : List ℕ) (ts : List Term) (i : ℕ) → length ts ≤ i → sites_under j p (i + 1) (forest (drop i ts)) ≡ []
no_site_left j p ts i h = ap (λ us. sites_under j p (i + 1) (forest us)) (drop_all i ts h)

-- what is left may be written in another way
pub grown_at : (rules : List RewriteRule) (from : ℕ) (pool : List Tree) (growth : Growth) (left others after : List Site) → left ≡ others → IsGrown rules from pool growth left after
    → IsGrown rules from pool growth others after
grown_at rules from pool growth left others after e h = subst (λ ss. IsGrown rules from pool growth ss after) e h

-- ---- outer rules

pub next_rule : (j : ℕ) (known : List RewriteRule) (rule : RewriteRule) (place : List ℕ) (t : Tree) → place ≡ [] → t ≡ rule.left → slice_get known j ≡ Some rule
    → sites_from j (drop j known) ≡ sites_in j place t ++ sites_from (j + 1) (drop (j + 1) known)
next_rule j known rule place t none is there =
    let same : map (λ q. place ++ q) (symbol_places t) ≡ symbol_places rule.left =
    ap (λ z. map (λ q. z ++ q) (symbol_places t)) none ∙ (below_root (symbol_places t) ∙ ap symbol_places is) in
    ap (sites_from j) (next_item known j rule there) ∙ ap (λ ps. sites_of j ps ++ sites_from (j + 1) (drop (j + 1) known)) (sym same)

pub no_rule_left : (j : ℕ) (known : List RewriteRule) → length known ≤ j → sites_from j (drop j known) ≡ []
no_rule_left j known h = ap (sites_from j) (drop_all j known h)

sites_from_both : (j n : ℕ) (first more : List RewriteRule) → n ≡ j + length first → sites_from j (first ++ more) ≡ sites_from j first ++ sites_from n more
sites_from_both j n [] more e = let same : j ≡ n = omega (arith, e) in ap (λ k. sites_from k more) same
sites_from_both j n (rule ∷ first) more e =
    ap (λ ss. sites_of j (symbol_places rule.left) ++ ss) (sites_from_both (j + 1) n first more (omega (arith, e)))
    ∙ sym (append_assoc (sites_of j (symbol_places rule.left)) (sites_from (j + 1) first) (sites_from n more))

pub sites_both : (first more : List RewriteRule) (n : ℕ) → n ≡ length first → sites (first ++ more) ≡ sites first ++ sites_from n more
sites_both first more n e = sites_from_both 0 n first more (omega (arith, e))

-- nothing is awaited where no site is left
nothing_awaited : (rules : List RewriteRule) (pool : List Tree) (inner : List RewriteRule) (left : List Site) (lists : List (Vec PeakPair)) (ps : List PlacedPeak) → left ≡ [] → Await rules pool inner left lists ps
    → (lists ≡ []) × (ps ≡ [])
nothing_awaited rules pool inner left lists ps e (inl no_site) = (refl, refl)
nothing_awaited rules pool inner left lists ps e (inl (one_site at pairs k)) = absurd cc
nothing_awaited rules pool inner left lists ps e (inr none) = (none.1, none.2)

-- the new rules are the outer ones now: there is nothing for them yet
pub others_begin : (rules : List RewriteRule) (from : ℕ) (pool : List Tree) (growth : Growth) (after : List Site) → IsGrown rules from pool growth [] after → IsGrown rules 0 pool growth (after ++ []) []
others_begin rules from pool growth after h =
    let none = nothing_awaited rules pool (take from rules) [] h.behind h.later refl h.awaited in
    record {
      done = h.done;
      before = h.before;
      behind = [];
      made = h.made;
      later = [];
      whole = ap (λ ss. h.done ++ ss) (append-nil (after ++ []) ∙ append-nil after) ∙ h.whole;
      lists = h.lists ∙ ap (λ ls. h.before ++ ls) none.0;
      held = h.held;
      awaited = inr (refl, refl, refl);
      count = h.count;
      nodes = omega (arith, h.nodes, ap nodes_of_peaks none.1);
      few = h.few;
    }

-- ---- tables

drop_first : (first more : List RewriteRule) → drop (length first) (first ++ more) ≡ more
drop_first [] more = refl
drop_first (r ∷ first) more = drop_first first more

take_first : (first more : List RewriteRule) → take (length first) (first ++ more) ≡ first
take_first [] more = refl
take_first (r ∷ first) more = ap (λ rs. r ∷ rs) (take_first first more)

pub others_left : (rules first more : List RewriteRule) (known : ℕ) → rules ≡ first ++ more → known ≡ length first → drop known rules ≡ more
others_left rules first more known are count = ap (λ n. drop n rules) count ∙ (ap (drop (length first)) are ∙ drop_first first more)

-- a table of the first rules, to which others come
pub table_begins : (rules first more : List RewriteRule) (known : ℕ) (pool : List Tree) (table : PeakTable) (growth : Growth) → rules ≡ first ++ more → known ≡ length first → HasPeaks first pool table
    → growth.lists.items ≡ table.lists.items → growth.done ≡ 0 → growth.nodes ≡ table.nodes → IsGrown rules known pool growth (sites first) (sites_from known more)
table_begins rules first more known pool table growth are count h same_lists no_done same_nodes =
    let taken : take known rules ≡ first = ap (λ n. take n rules) count ∙ (ap (take (length first)) are ∙ take_first first more) in
    let H : List RewriteRule → Type 0 = λ rs. HoldPairs rs pool first (sites first) table.lists.items h.peaks in
    let I : List RewriteRule → Type 0 = λ rs. HoldPairs rules pool rs (sites first) table.lists.items h.peaks in
    record {
      done = [];
      before = [];
      behind = table.lists.items;
      made = [];
      later = h.peaks;
      whole = sym (sites_both first more known count) ∙ ap sites (sym are);
      lists = same_lists;
      held = no_site;
      awaited = inl (subst I (sym taken) (subst H (sym are) (hold_of_more first more (sites_below first more) h.held)));
      count = no_done;
      nodes = omega (arith, same_nodes, h.nodes);
      few = omega (arith, same_nodes, h.few);
    }

-- all sites are done
pub whole_table : (rules : List RewriteRule) (pool : List Tree) (growth : Growth) (table : PeakTable) → ArePrepared rules table.prepared → AreGroundRights rules pool table.rights.items
    → table.lists.items ≡ growth.lists.items
    → table.nodes ≡ growth.nodes → IsGrown rules 0 pool growth [] [] → HasPeaks rules pool table
whole_table rules pool growth table prepared rights same_lists same_nodes h =
    let none = nothing_awaited rules pool (take 0 rules) [] h.behind h.later refl h.awaited in
    let all : h.done ≡ sites rules = sym (append-nil h.done) ∙ h.whole in
    let lists : table.lists.items ≡ h.before = same_lists ∙ (h.lists ∙ (ap (λ ls. h.before ++ ls) none.0 ∙ append-nil h.before)) in
    let S : List Site → Type 0 = λ ss. HoldPairs rules pool rules ss h.before h.made in
    let L : List (Vec PeakPair) → Type 0 = λ ls. HoldPairs rules pool rules (sites rules) ls h.made in
    record {
      prepared = prepared;
      rights = rights;
      peaks = h.made;
      held = subst L (sym lists) (subst S all h.held);
      nodes = omega (arith, same_nodes, h.nodes, ap nodes_of_peaks none.1);
      few = omega (arith, same_nodes, h.few);
    }

pub no_table : (pool : List Tree) (table : PeakTable) → ArePrepared [] table.prepared → table.rights.items ≡ [] → table.lists.items ≡ [] → table.nodes ≡ 0 → HasPeaks [] pool table
no_table pool table prepared no_rights empty none =
    let L : List (Vec PeakPair) → Type 0 = λ ls. HoldPairs [] pool [] [] ls [] in
    let R : List (Option GroundSide) → Type 0 = AreGroundRights [] pool in
    let rights : AreGroundRights [] pool [] = record { count = refl; each = λ k side r at there. absurd cc } in
    record { prepared = prepared; rights = subst R (sym no_rights) rights; peaks = []; held = subst L (sym empty) no_site; nodes = none; few = omega (arith, none) }

pub first_rights : (rules : List RewriteRule) (pool : List Tree) (table : PeakTable) → HasFirstPeaks rules pool table → AreGroundRights (take (length table.rights.items) rules) pool table.rights.items
first_rights rules pool table h =
    let taken : take (length table.rights.items) rules ≡ h.first =
    ap (λ n. take n rules) h.has.rights.count ∙ (ap (take (length h.first)) h.are ∙ take_first h.first h.more) in
    let R : List RewriteRule → Type 0 = λ rs. AreGroundRights rs pool table.rights.items in
    subst R (sym taken) h.has.rights

pub first_prepared : (rules : List RewriteRule) (pool : List Tree) (table : PeakTable) → HasFirstPeaks rules pool table → PreparesFirst rules table.prepared
first_prepared rules pool table h = record { first = h.first; more = h.more; are = h.are; prepared_first = h.has.prepared }

-- as many copies as there are rules
pub known_rules : (first : List RewriteRule) (prepared : PreparedRules) → ArePrepared first prepared → length prepared.apart_lefts.items ≡ length first
known_rules first prepared h =
    sym (length-map prepared.apart_lefts.items tree) ∙ (ap length h.apart_lefts ∙ length-map first (λ (r : RewriteRule). (renamed_apart r).left))

pub first_taken : (rules first more : List RewriteRule) (prepared : PreparedRules) (known : ℕ) → rules ≡ first ++ more → ArePrepared first prepared → known ≡ length prepared.apart_lefts.items
    → take known rules ≡ first
first_taken rules first more prepared known are h count =
    ap (λ n. take n rules) (count ∙ known_rules first prepared h) ∙ (ap (take (length first)) are ∙ take_first first more)

-- one rule more is prepared
pub one_image_more : {T : Type 0} (f : RewriteRule → T) (rules : List RewriteRule) (k : ℕ) (rule : RewriteRule) (old new : List T) (x : T) → k < length rules → rule ≡ get_or rules k rule → x ≡ f rule
    → new ≡ old ++ x ∷ [] → old ≡ map f (take k rules) → new ≡ map f (take (k + 1) rules)
one_image_more f rules k rule old new x less read is put h =
    let taken : take (k + 1) rules ≡ take k rules ++ rule ∷ [] = take_more rules k rule less ∙ ap (λ r. take k rules ++ r ∷ []) (sym read) in
    put ∙ (ap (λ xs. xs ++ x ∷ []) h ∙ (ap (λ y. map f (take k rules) ++ y ∷ []) is ∙ (sym (map-append f (take k rules) (rule ∷ [])) ∙ ap (map f) (sym taken))))

pub one_skeleton_more : (rules : List RewriteRule) (k : ℕ) (rule : RewriteRule) (old new : List Skeleton) (c : Skeleton) → k < length rules → rule ≡ get_or rules k rule
    → skeleton_view c ≡ opened rule.left → new ≡ old ++ c ∷ [] → HaveSkeletons (take k rules) old → HaveSkeletons (take (k + 1) rules) new
one_skeleton_more rules k rule old new c less read is put h =
    let F : RewriteRule → HoledTree = λ r. opened r.left in
    let taken : take (k + 1) rules ≡ take k rules ++ rule ∷ [] = take_more rules k rule less ∙ ap (λ x. take k rules ++ x ∷ []) (sym read) in
    ap (map skeleton_view) put ∙ (map-append skeleton_view old (c ∷ []) ∙ (ap (λ xs. xs ++ skeleton_view c ∷ []) h
    ∙ (ap (λ x. map F (take k rules) ++ x ∷ []) is ∙ (sym (map-append F (take k rules) (rule ∷ [])) ∙ ap (map F) (sym taken)))))

pub ok_then : {A E : Type 0} {P Q : Type 0} (answer : Result A E) → (P → Q) → OnOk answer P → OnOk answer Q
ok_then (Ok x) f h = f h
ok_then (Err e) f h = tt

-- what a rule has in a list of such
pub image_read : {T : Type 0} (f : RewriteRule → T) (rules : List RewriteRule) (xs : List T) (i : ℕ) (r : RewriteRule) (x : T) → xs ≡ map f rules → i < length xs → x ≡ get_or xs i x
    → slice_get rules i ≡ Some r → x ≡ f r
image_read f rules xs i r x h below is there = same_Some x (f r) (sym (slice_get_read xs (length xs) i x refl below is) ∙ (ap (λ ys. slice_get ys i) h ∙ image_item f rules i r there))

-- the copy of a left side
pub apart_there : (rules : List RewriteRule) (prepared : PreparedRules) (i : ℕ) → ArePrepared rules prepared → i < length rules
    → (i < length prepared.apart_lefts.items)
    × ((r : RewriteRule) (left : Term) → slice_get rules i ≡ Some r → left ≡ get_or prepared.apart_lefts.items i left → tree left ≡ (renamed_apart r).left)
apart_there rules prepared i h less =
    let lefts = prepared.apart_lefts.items in
    let below : i < length lefts = omega (arith, less, known_rules rules prepared h) in (
      below,
      λ r left there is.
          image_read (λ (z : RewriteRule). (renamed_apart z).left) rules (map tree lefts) i r (tree left) h.apart_lefts
          (omega (arith, below, length-map lefts tree)) (ap tree is ∙ sym (get_or-map tree lefts i left (tree left) below)) there,
    )
