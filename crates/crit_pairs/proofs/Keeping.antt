-- What is kept of the peaks, as spots are done.
use Rattle.std.specs.Prelude.{min}
use Rattle.std.specs.Global.{Vec}
use Rattle.std.proofs.Common.{◌≡◌, ℕ, ◌+◌, ◌<◌, ◌≤◌, List, [], ◌∷◌, ◌++◌, length, take, drop, refl, sym, subst, ◌∙◌, ap, arith, IsTrue, Result, Ok, Err, IfOk, length-append}
use Rattle.std.proofs.Math.Decide.{dec_lt, dec_le}
use Rattle.std.proofs.Math.Nat.{min-eq_left, min-eq_right}
use Rattle.std.proofs.lemmas.List.{take_all, take-append-le, length-take}
use Rattle.trs_defs.specs.Tree.{Tree, var, app}
use Rattle.trs_defs.specs.Size.{size_of}
use Rattle.trs_defs.specs.System.{RewriteRule, System, IsSystem, has_root}
use Rattle.trs_core.specs.SystemLimits.{HaveSmallVariables}
use Rattle.term_pool.specs.Roots.{with_root}
use Rattle.rewrite_core.specs.PlacedPeak.{PlacedPeak}
use Rattle.crit_pairs.specs.PeakList.{Spot, spots_at, spots, spots_from, ListsPeaks}
use Rattle.crit_pairs.specs.Sides.{KeepsLimits, nodes_of_three}
use Rattle.crit_pairs.specs.Walk.{Moves, Stops, Keeps, Reaches, Adds, StopsWith, HasFirst, IsPartOf}
use Rattle.crit_pairs.specs.declared.listing.Peaks.{Peaks}
use Rattle.crit_pairs.specs.declared.faults.PeakFault.{PeakFault}
use Rattle.crit_pairs.proofs.SpotWalk.{OverlapsUnify, stays, goes_on, stops_here, spots_by, moves_to_root, listed_all}

-- nothing is done
pub still_kept : {T M S : Type 0} (rules : List RewriteRule) (peaks : Peaks T M S) (spots : List Spot) (before : List PlacedPeak) → Keeps peaks before → Reaches rules peaks.most before peaks.nodes spots peaks spots
still_kept rules peaks spots before h = record { all = before; keeps = h; same_most = refl; moves = stays rules before peaks.nodes spots }

-- some more spots are done
module _ {T M S : Type 0} (rules : List RewriteRule) (most : ℕ) (before : List PlacedPeak) (total : ℕ) (from left first rest : List Spot) (mid : Peaks T M S) (is : left ≡ first ++ rest)
    (was : Reaches rules most before total from mid left) where
  pub kept_on : (new : Peaks T M S) → Adds rules mid first new → Reaches rules most before total from new rest
  kept_on new adds =
      let h = adds was.all was.keeps in
      record {
        all = h.all;
        keeps = h.keeps;
        same_most = h.same_most ∙ was.same_most;
        moves = goes_on rules before was.all total mid.nodes from left first rest is was.moves h.all new.nodes h.moves;
      }

  pub kept_stops : (fault : PeakFault) → StopsWith rules mid first fault → Stops rules before total from fault
  kept_stops fault stop = stops_here rules before was.all total mid.nodes from left first rest is was.moves fault (stop was.all was.keeps)

-- only the rules with the part's root are left
pub kept_to_root : {T M S : Type 0} → OverlapsUnify → (system : System) → IsSystem system → HaveSmallVariables system.rules → (j : ℕ) (p : List ℕ) (part : Tree) → IsPartOf system.rules j p part → (f : ℕ) → IsTrue (has_root f part)
    → (peaks : Peaks T M S) (before : List PlacedPeak) → Keeps peaks before → Reaches system.rules peaks.most before peaks.nodes (spots_at j p 0 system.rules) peaks (spots_by j p (with_root f system.rules))
kept_to_root unified system valid small j p part at f root peaks before h =
    record { all = before; keeps = h; same_most = refl; moves = moves_to_root unified system valid small j p part at f root before peaks.nodes }

pub nothing_kept : {T M S : Type 0} (rules : List RewriteRule) (spots : List Spot) (peaks : Peaks T M S) → peaks.list.items ≡ [] → peaks.count ≡ 0 → peaks.nodes ≡ 0 → Reaches rules peaks.most [] 0 spots peaks spots
nothing_kept rules spots peaks none no_count no_nodes = record {
  all = [];
  keeps = record { kept = none ∙ sym (take_all peaks.most [] (omega arith)); counted = no_count; few = omega (arith, no_count); within = omega (arith, no_nodes) };
  same_most = refl;
  moves = subst (λ n. Moves rules [] 0 spots [] n spots) (sym no_nodes) (stays rules [] 0 spots);
}

-- one peak more
no_room : (most : ℕ) (all : List PlacedPeak) (p : PlacedPeak) (list : List PlacedPeak) → list ≡ take most all → most ≤ length list → list ≡ take most (all ++ p ∷ [])
no_room most all p list is full =
    let h : length list ≡ min most (length all) = ap length is ∙ length-take most all in
    let within : most ≤ length all = elim (dec_le most (length all)) [ yes k ↦ k | no k ↦ absurd (too_few k h) ] in
    is ∙ sym (take-append-le most all (p ∷ []) within)
  where
    too_few : (most ≤ length all → ⊥) → length list ≡ min most (length all) → ⊥
    too_few k h =
        let same : length list ≡ length all = h ∙ min-eq_right (omega (arith, k)) in
        omega (arith, k, same, full)

room : (most : ℕ) (all : List PlacedPeak) (p : PlacedPeak) (list : List PlacedPeak) → list ≡ take most all → length list < most → list ++ p ∷ [] ≡ take most (all ++ p ∷ [])
room most all p list is free =
    let h : length list ≡ min most (length all) = ap length is ∙ length-take most all in
    let within : length all < most = elim (dec_lt (length all) most) [ yes k ↦ k | no k ↦ absurd (too_many k h) ] in
    let whole : list ≡ all = is ∙ take_all most all (omega (arith, within)) in
    let longer : length (all ++ p ∷ []) ≤ most = omega (arith, within, length-append all (p ∷ [])) in
    ap (λ xs. xs ++ p ∷ []) whole ∙ sym (take_all most (all ++ p ∷ []) longer)
  where
    too_many : (length all < most → ⊥) → length list ≡ min most (length all) → ⊥
    too_many k h =
        let same : length list ≡ most = h ∙ min-eq_left (omega (arith, k)) in
        omega (arith, same, free)

one_node : (t : Tree) → 1 ≤ size_of t
one_node (var v) = omega arith
one_node (app f ts) = omega arith

module _ {T M S : Type 0} (rules : List RewriteRule) (peaks new : Peaks T M S) (before : List PlacedPeak) (h : Keeps peaks before) (spots : List Spot) (p : PlacedPeak)
    (same : new.most ≡ peaks.most) (count : new.count ≡ min (peaks.count + 1) 18446744073709551615) (limits : KeepsLimits peaks.nodes new.nodes p.top p.left p.right)
    (moves : Moves rules before peaks.nodes spots (before ++ p ∷ []) new.nodes []) where
  more_count : new.count ≡ peaks.count + 1
  more_count = count ∙ min-eq_left (omega (arith, h.few, h.within))

  one_kept : new.list.items ≡ take peaks.most (before ++ p ∷ []) → Reaches rules peaks.most before peaks.nodes spots new []
  one_kept is =
      let nodes : new.nodes ≡ peaks.nodes + nodes_of_three p.top p.left p.right = limits.counted in
      let some : 1 ≤ size_of p.top = one_node p.top in
      record {
        all = before ++ p ∷ [];
        keeps = record {
          kept = is ∙ ap (λ n. take n (before ++ p ∷ [])) (sym same);
          counted = omega (arith, more_count, h.counted, length-append before (p ∷ []));
          few = omega (arith, more_count, h.few, nodes, some);
          within = omega (arith, nodes, limits.few);
        };
        same_most = same;
        moves = moves;
      }

  -- the list is full
  pub only_counted : new.list.items ≡ peaks.list.items → peaks.most ≤ length peaks.list.items → Reaches rules peaks.most before peaks.nodes spots new []
  only_counted is full = one_kept (is ∙ no_room peaks.most before p peaks.list.items h.kept full)

  -- the list has room
  pub one_listed : new.list.items ≡ peaks.list.items ++ p ∷ [] → length peaks.list.items < peaks.most → Reaches rules peaks.most before peaks.nodes spots new []
  one_listed is free = one_kept (is ∙ room peaks.most before p peaks.list.items h.kept free)

-- no peak is here
pub none_kept : {T M S : Type 0} (rules : List RewriteRule) (peaks : Peaks T M S) (places : Vec ℕ) (spots : List Spot) (before : List PlacedPeak) → Keeps peaks before
    → Moves rules before peaks.nodes spots before peaks.nodes []
    → Reaches {T = T} {M = M} {S = S} rules peaks.most before peaks.nodes spots (record { list = peaks.list; most = peaks.most; count = peaks.count; nodes = peaks.nodes; places = places; names = peaks.names; terms = peaks.terms }) []
none_kept rules peaks places spots before h moves = record {
  all = before;
  keeps = record { kept = h.kept; counted = h.counted; few = h.few; within = h.within };
  same_most = refl;
  moves = moves;
}

-- terms that hold the sides of peaks are the same
pub held_still : {M : Type 0} (holds : M → List RewriteRule → List PlacedPeak → Type 0) (rules : List RewriteRule) (old new : M) (list longer : List PlacedPeak) → new ≡ old → longer ≡ list
    → holds old rules list → holds new rules longer
held_still holds rules old new list longer same_terms same_list h = rw (same_terms, same_list) h

-- no outer rule is left
pub kept_all : {T M S : Type 0} (rules : List RewriteRule) (most : ℕ) (found : Peaks T M S) (j : ℕ) → length rules ≤ j → Reaches rules most [] 0 (spots rules) found (spots_from rules j (drop j rules)) → HasFirst rules most found
kept_all rules most found j h r = record { all = r.all; lists = listed_all rules r.all found.nodes j h r.moves; keeps = r.keeps; same_most = r.same_most }

-- all are kept where they are no more than asked for
pub all_kept : {T M S : Type 0} (rules : List RewriteRule) (most : ℕ) (found : Peaks T M S) → HasFirst rules most found → found.count ≤ most → ListsPeaks rules (Ok found.list.items)
all_kept rules most found h within =
    let same : found.list.items ≡ h.all = h.keeps.kept ∙ take_all found.most h.all (omega (arith, h.same_most, h.keeps.counted, within)) in
    subst (λ list. ListsPeaks rules (Ok list)) (sym same) h.lists

pub few_found : {T M S : Type 0} (rules : List RewriteRule) (most : ℕ) (found : Peaks T M S) → HasFirst rules most found → found.count ≤ 4194304
few_found rules most found h = omega (arith, h.keeps.few, h.keeps.within)

-- a list with room for as many peaks as there can be has all of them
pub all_found : {T M S : Type 0} (rules : List RewriteRule) (most : ℕ) (found : Result (Peaks T M S) PeakFault) → 4194304 ≤ most → IfOk found (HasFirst rules most)
    → IfOk found (λ peaks. ListsPeaks rules (Ok peaks.list.items))
all_found rules most (Ok found) room h = all_kept rules most found h (let few = few_found rules most found h in omega (arith, few, room))
all_found rules most (Err fault) room h = tt
