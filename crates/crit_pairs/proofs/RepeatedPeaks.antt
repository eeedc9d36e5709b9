-- Peaks that are added, and those that equal inner rules have again.
use Rattle.std.specs.Prelude.{◌↔◌, min, IfSome}
use Rattle.std.specs.Global.{Vec}
use Rattle.std.proofs.Common.{◌≡◌, ◌<◌, ◌≤◌, inl, inr, ℕ, ◌+◌, ◌-◌, Bool, true, false, Option, List, [], ◌∷◌, ◌++◌, Some, None, IsTrue, Err, length, slice_get, refl, sym, ◌∙◌, ap, subst, arith, append-nil}
use Rattle.std.proofs.Math.Decide.{dec_lt}
use Rattle.std.proofs.lemmas.Option.{same_Some, IfSome_then}
use Rattle.trs_defs.specs.Tree.{Tree}
use Rattle.trs_defs.specs.System.{RewriteRule}
use Rattle.trs_defs.proofs.ListItems.{item_of_more, kept_item, last_item}
use Rattle.rewrite_core.specs.PlacedPeak.{PlacedPeak}
use Rattle.crit_pairs.specs.PeakList.{Spot, IsPeakAt, is_small, nodes_of_peak, too_many}
use Rattle.crit_pairs.specs.MadePairs.{spot}
use Rattle.crit_pairs.specs.Repeated.{moved_to, IsAdded, IsRepeated, AreRepeated, IsLonger}
use Rattle.crit_pairs.specs.Sides.{KeepsLimits, nodes_of_three}
use Rattle.crit_pairs.specs.Walk.{Moves, Stops, Adds, StopsAt, CountsOne, one_spot}
use Rattle.crit_pairs.specs.declared.listing.Peaks.{Peaks}
use Rattle.crit_pairs.specs.declared.repeated.AddedPeak.{AddedPeak}
use Rattle.crit_pairs.specs.declared.repeated.RepeatedPeak.{RepeatedPeak}
use Rattle.crit_pairs.specs.declared.faults.PeakFault.{PeakFault}
use Rattle.crit_pairs.specs.declared.faults.PeakFault.TheVariants as limit
use Rattle.crit_pairs.proofs.SpotWalk.{moves_one}
use Rattle.crit_pairs.proofs.Keeping.{only_counted, one_listed}
use Rattle.crit_pairs.proofs.EqualRules.{peak_moved}

-- ---- one peak more

module _ {T M S : Type 0} (rules : List RewriteRule) (s : Spot) (peaks new : Peaks T M S) (p : PlacedPeak) (at : IsPeakAt rules s p) (same : new.most ≡ peaks.most)
    (count : new.count ≡ min (peaks.count + 1) 18446744073709551615) (limits : KeepsLimits peaks.nodes new.nodes p.top p.left p.right) where
  moves : (before : List PlacedPeak) → Moves rules before peaks.nodes (s ∷ []) (before ++ p ∷ []) new.nodes []
  moves before = moves_one rules s p at before peaks.nodes limits.small limits.few new.nodes limits.counted

  pub adds_counted : new.list.items ≡ peaks.list.items → peaks.most ≤ length peaks.list.items → Adds rules peaks (s ∷ []) new
  adds_counted list full = λ before h. only_counted rules peaks new before h (s ∷ []) p same count limits (moves before) list full

  pub adds_listed : new.list.items ≡ peaks.list.items ++ p ∷ [] → length peaks.list.items < peaks.most → Adds rules peaks (s ∷ []) new
  adds_listed list room = λ before h. one_listed rules peaks new before h (s ∷ []) p same count limits (moves before) list room

-- what is known of it
module _ (rules : List RewriteRule) (s : Spot) (p : PlacedPeak) (at : IsPeakAt rules s p) (before after nodes : ℕ) (limits : KeepsLimits before after p.top p.left p.right) (more : nodes ≡ after - before) where
  pub is_counted : (list : List PlacedPeak) → IsAdded rules s list (record { nodes = nodes; number = None })
  is_counted list = record {
    peak = p;
    at = at;
    small = limits.small;
    counted = omega (arith, more, limits.counted);
    listed = λ n e. absurd cc;
  }

  pub is_listed : (list : List PlacedPeak) (n : ℕ) → n ≡ length list → IsAdded rules s (list ++ p ∷ []) (record { nodes = nodes; number = Some n })
  is_listed list n last = record {
    peak = p;
    at = at;
    small = limits.small;
    counted = omega (arith, more, limits.counted);
    listed = λ m e. subst (λ k. slice_get (list ++ p ∷ []) k ≡ Some p) (sym last ∙ same_Some n m e) (last_item list p []);
  }

counted_limits : {T M S : Type 0} (mid new : Peaks T M S) (nodes : ℕ) (p : PlacedPeak) → IsTrue (is_small p) → nodes ≡ nodes_of_peak p → CountsOne mid nodes new → KeepsLimits mid.nodes new.nodes p.top p.left p.right
counted_limits mid new nodes p small counted one =
    let three : nodes ≡ nodes_of_three p.top p.left p.right = counted in
    record { small = small; few = omega (arith, one.total, one.few, three); counted = omega (arith, one.total, three) }

-- where bindings stand says nothing of the peaks
pub adds_too : {T M S : Type 0} (rules : List RewriteRule) (peaks new : Peaks T M S) (places : Vec ℕ) (spots : List Spot)
    → Adds {T = T} {M = M} {S = S} rules (record { list = peaks.list; most = peaks.most; count = peaks.count; nodes = peaks.nodes; places = places; names = peaks.names; terms = peaks.terms }) spots new → Adds rules peaks spots new
adds_too rules peaks new places spots adds = λ before h. adds before (record { kept = h.kept; counted = h.counted; few = h.few; within = h.within })

pub adds_still : {T M S : Type 0} (rules : List RewriteRule) (peaks new : Peaks T M S) (places : Vec ℕ) (spots : List Spot)
    → Adds rules peaks spots new → Adds {T = T} {M = M} {S = S} rules peaks spots (record { list = new.list; most = new.most; count = new.count; nodes = new.nodes; places = places; names = new.names; terms = new.terms })
adds_still rules peaks new places spots adds = λ before h.
    let r = adds before h in
    record { all = r.all; keeps = record { kept = r.keeps.kept; counted = r.keeps.counted; few = r.keeps.few; within = r.keeps.within }; same_most = r.same_most; moves = r.moves }

not_both : (b : Bool) → b ≡ false → IsTrue b → ⊥
not_both true e h = absurd cc
not_both false e h = absurd cc

-- a list without room
pub is_full : (has_room : Bool) (n most : ℕ) → IsTrue has_room ↔ (n < most) → has_room ≡ false → most ≤ n
is_full has_room n most room none = elim (dec_lt n most) [ yes k ↦ absurd (not_both has_room none (room.1 k)) | no k ↦ omega (arith, k) ]

-- ---- a peak that is known to be at a spot

module _ {T M S : Type 0} (rules : List RewriteRule) (s : Spot) (peaks : Peaks T M S) (p : PlacedPeak) (at : IsPeakAt rules s p) (small : IsTrue (is_small p)) (nodes : ℕ) (counted : nodes ≡ nodes_of_peak p) where
  pub counts_known : (new : Peaks T M S) → CountsOne peaks nodes new → peaks.most ≤ length peaks.list.items → Adds rules peaks (s ∷ []) new
  counts_known new one full = adds_counted rules s peaks new p at one.same_most one.count (counted_limits peaks new nodes p small counted one) (ap (λ v. v.items) one.same_list) full

  pub lists_known : (copy : PlacedPeak) → copy ≡ p → (list : Vec PlacedPeak) (terms : M) (new : Peaks T M S) → list.items ≡ peaks.list.items ++ copy ∷ []
      → CountsOne {T = T} {M = M} {S = S} (record { list = list; most = peaks.most; count = peaks.count; nodes = peaks.nodes; places = peaks.places; names = peaks.names; terms = terms }) nodes new → length peaks.list.items < peaks.most
      → Adds rules peaks (s ∷ []) new
  lists_known copy same list terms new put one room =
      let mid : Peaks T M S = record { list = list; most = peaks.most; count = peaks.count; nodes = peaks.nodes; places = peaks.places; names = peaks.names; terms = terms } in
      let items : new.list.items ≡ peaks.list.items ++ p ∷ [] = ap (λ v. v.items) one.same_list ∙ put ∙ ap (λ y. peaks.list.items ++ y ∷ []) same in
      adds_listed rules s peaks new p at one.same_most one.count (counted_limits mid new nodes p small counted one) items room

  pub too_many_known : (fault : PeakFault) → fault ≡ limit.TooMany → 4194304 < peaks.nodes + nodes → StopsAt rules peaks (s ∷ []) fault
  too_many_known fault e many = λ ne before kept.
      let stop : Stops rules before peaks.nodes (s ∷ []) limit.TooMany =
      record { stops = λ rest. record { tail = Err limit.TooMany; lists = too_many at small (omega (arith, many, counted)); is = refl } } in
      subst (Stops rules before peaks.nodes (s ∷ [])) (sym e) stop

-- ---- the peak of a rule that equals another one

-- a list that grew has the same peaks
pub still_added : (rules : List RewriteRule) (s : Spot) (list new : List PlacedPeak) (added : AddedPeak) → IsLonger list new → IsAdded rules s list added → IsAdded rules s new added
still_added rules s list new added longer h = record {
  peak = h.peak;
  at = h.at;
  small = h.small;
  counted = h.counted;
  listed = λ n e. subst (λ xs. slice_get xs n ≡ Some h.peak) (sym longer.1) (kept_item list longer.0 n h.peak (h.listed n e));
}

pub still_repeated : (rules : List RewriteRule) (j : ℕ) (p : List ℕ) (list new : List PlacedPeak) (noted : List RepeatedPeak) → IsLonger list new → AreRepeated rules j p list noted → AreRepeated rules j p new noted
still_repeated rules j p list new noted longer h = λ k found there.
    let r = h k found there in
    record { inner = r.inner; equal = r.equal; added = still_added rules (spot j p r.inner) list new found.added longer r.added }

pub same_longer : (list : List PlacedPeak) → IsLonger list list
same_longer list = ([], sym (append-nil list))

module _ {T M S : Type 0} (rules : List RewriteRule) (i j : ℕ) (p : List ℕ) (peaks : Peaks T M S) (known : AddedPeak) (h : IsRepeated rules j p (slice_get rules i) peaks.list.items known) where
  abbrev again : PlacedPeak
  again = moved_to i h.added.peak

  at_again : IsPeakAt rules (spot j p i) again
  at_again = peak_moved rules j h.inner i p h.added.peak (sym h.equal) h.added.at

  pub counts_again : (new : Peaks T M S) → CountsOne peaks known.nodes new → peaks.most ≤ length peaks.list.items → Adds rules peaks (one_spot j p i) new
  counts_again = counts_known rules (spot j p i) peaks again at_again h.added.small known.nodes h.added.counted

  -- what is copied from the list is the peak
  module _ (n : ℕ) (x : PlacedPeak) (q : List ℕ) (t l r : Tree) (number : known.number ≡ Some n) (there : slice_get peaks.list.items n ≡ Some x)
      (place : q ≡ p) (top : t ≡ x.top) (left : l ≡ x.left) (right : r ≡ x.right) where
    abbrev copy : PlacedPeak
    copy = record { outer = x.outer; place = q; inner = i; top = t; left = l; right = r }

    copied_again : copy ≡ again
    copied_again =
        let same : x ≡ h.added.peak = same_Some x h.added.peak (sym there ∙ h.added.listed n number) in
        let outer : x.outer ≡ h.added.peak.outer = ap (λ (y : PlacedPeak). y.outer) same in
        let placed : q ≡ h.added.peak.place = place ∙ sym h.added.at.is_place in
        let is_top : t ≡ h.added.peak.top = top ∙ ap (λ (y : PlacedPeak). y.top) same in
        let is_left : l ≡ h.added.peak.left = left ∙ ap (λ (y : PlacedPeak). y.left) same in
        let is_right : r ≡ h.added.peak.right = right ∙ ap (λ (y : PlacedPeak). y.right) same in
        cc

    pub lists_again : (list : Vec PlacedPeak) (terms : M) (new : Peaks T M S) → list.items ≡ peaks.list.items ++ copy ∷ []
        → CountsOne {T = T} {M = M} {S = S} (record { list = list; most = peaks.most; count = peaks.count; nodes = peaks.nodes; places = peaks.places; names = peaks.names; terms = terms }) known.nodes new → length peaks.list.items < peaks.most
        → Adds rules peaks (one_spot j p i) new
    lists_again = lists_known rules (spot j p i) peaks again at_again h.added.small known.nodes h.added.counted copy copied_again

  pub too_many_again : (fault : PeakFault) → fault ≡ limit.TooMany → 4194304 < peaks.nodes + known.nodes → StopsAt rules peaks (one_spot j p i) fault
  too_many_again = too_many_known rules (spot j p i) peaks again at_again h.added.small known.nodes h.added.counted

-- what is known of a rule is known of one that equals it
pub known_again : (rules : List RewriteRule) (i j : ℕ) (p : List ℕ) (list : List PlacedPeak) (noted : List RepeatedPeak) (first : Option ℕ) (known : Option AddedPeak)
    → AreRepeated rules j p list noted → IfSome first (λ k. slice_get rules k ≡ slice_get rules i)
    → IfSome known (λ added. (rules : List RewriteRule) (i j : ℕ) (p : List ℕ) (list : List PlacedPeak) → AreRepeated rules j p list noted → IfSome first (λ k. slice_get rules k ≡ slice_get rules i)
    → IsRepeated rules j p (slice_get rules i) list added)
    → IfSome known (IsRepeated rules j p (slice_get rules i) list)
known_again rules i j p list noted first known repeated equal is = IfSome_then known is (λ added f. f rules i j p list repeated equal)

module _ (noted : List RepeatedPeak) (rules : List RewriteRule) (i j : ℕ) (p : List ℕ) (list : List PlacedPeak) (repeated : AreRepeated rules j p list noted) (k : ℕ) (equal : slice_get rules k ≡ slice_get rules i) where
  -- a noted peak of a rule that equals this one
  pub noted_peak : (n : ℕ) (found : RepeatedPeak) → slice_get noted n ≡ Some found → found.first ≡ k → IsRepeated rules j p (slice_get rules i) list found.added
  noted_peak n found there first =
      let r = repeated n found there in
      record { inner = r.inner; equal = r.equal ∙ ap (λ m. slice_get rules m) first ∙ equal; added = r.added }

  -- one peak more is noted
  pub one_noted : (added : AddedPeak) (new : List RepeatedPeak) → new ≡ noted ++ record { first = k; added = added } ∷ [] → IsAdded rules (spot j p i) list added → AreRepeated rules j p list new
  one_noted added new put is = λ n x there.
      let N : List RepeatedPeak → Type 0 = λ xs. slice_get xs n ≡ Some x in
      let last : RepeatedPeak = record { first = k; added = added } in
      elim (item_of_more noted last x n (subst N put there)) [
        | inl old ↦ repeated n x old
        | inr e ↦
            let R : RepeatedPeak → Type 0 = λ y. IsRepeated rules j p (slice_get rules y.first) list y.added in
            subst R (sym e.1) (record { inner = i; equal = sym equal; added = is })
      ]
