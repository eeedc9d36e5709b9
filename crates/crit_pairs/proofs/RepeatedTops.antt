-- Peaks at the root that inner rules with equal left sides have: they differ in their left results.
use Rattle.std.specs.Prelude.{min, IfSome}
use Rattle.std.specs.Global.{Vec}
use Rattle.std.proofs.Common.{◌≡◌, ◌<◌, ◌≤◌, inl, inr, ℕ, ◌+◌, ◌-◌, Bool, true, false, ◌&&◌, ◌||◌, Option, List, [], ◌∷◌, ◌++◌, Some, None, IsTrue, length, slice_get, refl, sym, ◌∙◌, ap, subst, arith}
use Rattle.std.proofs.Math.Nat.{min-eq_left}
use Rattle.std.proofs.lemmas.Option.{same_Some, IfSome_then}
use Rattle.std.proofs.lemmas.Bool.{and_parts}
use Rattle.trs_defs.specs.Tree.{Tree, var}
use Rattle.trs_defs.specs.Size.{size_of, within_limits}
use Rattle.trs_defs.specs.Variable.{has_var}
use Rattle.trs_defs.specs.Position.{replaced_at}
use Rattle.trs_defs.specs.Renaming.{shifted}
use Rattle.trs_defs.specs.Substitution.{apply}
use Rattle.trs_defs.specs.System.{RewriteRule}
use Rattle.trs_defs.specs.Unifier.{IsMostGeneralUnifier}
use Rattle.trs_defs.proofs.Limits.{limits_size}
use Rattle.trs_defs.proofs.ListItems.{item_of_more, kept_item}
use Rattle.trs_defs.proofs.NamedTerms.{size_named}
use Rattle.trs_core.specs.View.{tree}
use Rattle.confluence_theory.specs.CriticalPeak.{IsCriticalPeak}
use Rattle.term_pool.specs.LeftSides.{IsGround}
use Rattle.term_pool.proofs.LeftSideLaws.{ground_stays}
use Rattle.rewrite_core.specs.PlacedPeak.{PlacedPeak}
use Rattle.crit_pairs.specs.PeakList.{IsPeakAt, is_small, nodes_of_peak}
use Rattle.crit_pairs.specs.PlainPeak.{plain}
use Rattle.crit_pairs.specs.EqualLefts.{left_side}
use Rattle.crit_pairs.specs.MadePairs.{spot}
use Rattle.crit_pairs.specs.Repeated.{IsAdded, IsLonger}
use Rattle.crit_pairs.specs.RepeatedTops.{beside, IsTopAt, AreTops}
use Rattle.crit_pairs.specs.Walk.{Adds, StopsAt, CountsOne, one_spot}
use Rattle.crit_pairs.specs.WholeSides.{IsWholeSide, IsRightOf}
use Rattle.crit_pairs.specs.declared.faults.PeakFault.{PeakFault}
use Rattle.crit_pairs.specs.declared.faults.PeakFault.TheVariants as limit
use Rattle.crit_pairs.specs.declared.listing.Peaks.{Peaks}
use Rattle.crit_pairs.specs.declared.repeated.AddedPeak.{AddedPeak}
use Rattle.crit_pairs.specs.declared.repeated_tops.RepeatedTop.{RepeatedTop}
use Rattle.crit_pairs.specs.declared.whole_sides.WholeSide.{WholeSide}
use Rattle.crit_pairs.proofs.RepeatedPeaks.{counts_known, lists_known, too_many_known}

-- ---- one peak of two rules with one left side

rule_with_left : (rule : Option RewriteRule) (left : Tree) → left_side rule ≡ Some left → (r : RewriteRule) × (rule ≡ Some r) × (r.left ≡ left)
rule_with_left None left e = absurd cc
rule_with_left (Some r) left e = (r, refl, same_Some r.left left e)

-- a term with no variable in the place of another one
fewer_occur : (top left right new : Bool) → new ≡ false → IsTrue (top || (new || right)) → IsTrue (top || (left || right))
fewer_occur true left right new none h = refl
fewer_occur false true right new none h = refl
fewer_occur false false right false none h = h
fewer_occur false false right true none h = absurd cc

module _ (rules : List RewriteRule) (j i : ℕ) (p : List ℕ) (root : p ≡ []) (side : WholeSide) (right_of : IsRightOf rules i side) where
  -- another rule with the left side has the peak, but for the left result
  pub peak_beside : (k : ℕ) (peak : PlacedPeak) → left_side (slice_get rules k) ≡ left_side (slice_get rules i) → IsPeakAt rules (spot j p k) peak → IsPeakAt rules (spot j p i) (beside i (tree side.term.now) peak)
  peak_beside k peak same h =
      let (rule, there, left_same) = rule_with_left (slice_get rules i) h.inner.left (sym same ∙ ap left_side h.inner_numbered) in
      let whole : IsWholeSide rule.right side = right_of rule there in
      let t : Tree = tree side.term.now in
      let ground : IsGround t = subst IsGround (sym whole.is) whole.ground in
      let c = h.critical in
      let M : Tree → Type 0 = λ l. IsMostGeneralUnifier c.part (shifted c.offset l) c.unifier in
      let critical : IsCriticalPeak rule h.outer p (plain (beside i t peak)) =
      record {
        part = c.part;
        there = c.there;
        offset = c.offset;
        apart = c.apart;
        unifier = c.unifier;
        most_general = subst M (sym left_same) c.most_general;
        reduct = t;
        replaced = ap (λ q. replaced_at q h.outer.left (shifted c.offset rule.right)) root ∙ ap (λ z. Some z) (ground_stays (λ v. var (c.offset + v)) rule.right whole.ground ∙ sym whole.is);
        names = c.names;
        different = λ v w a b. c.different v w
            (fewer_occur (has_var v peak.top) (has_var v peak.left) (has_var v peak.right) (has_var v t) (ground v) a)
            (fewer_occur (has_var w peak.top) (has_var w peak.left) (has_var w peak.right) (has_var w t) (ground w) b);
        top = c.top;
        left = ground_stays c.unifier t ground ∙ sym (ground_stays (λ v. var (c.names v)) t ground);
        right = c.right;
      } in
      record {
        is_outer = h.is_outer;
        is_place = h.is_place;
        is_inner = refl;
        inner = rule;
        outer = h.outer;
        inner_numbered = there;
        outer_numbered = h.outer_numbered;
        critical = critical;
        counted = h.counted;
      }

  -- its left result has as many nodes as the right side
  left_size : (peak : PlacedPeak) → IsPeakAt rules (spot j p i) peak → side.size ≡ size_of peak.left
  left_size peak h =
      let whole : IsWholeSide h.inner.right side = right_of h.inner h.inner_numbered in
      let c = h.critical in
      let replaced : Some (shifted c.offset h.inner.right) ≡ Some c.reduct = ap (λ q. replaced_at q h.outer.left (shifted c.offset h.inner.right)) (sym root) ∙ c.replaced in
      let reduct : h.inner.right ≡ c.reduct = sym (ground_stays (λ v. var (c.offset + v)) h.inner.right whole.ground) ∙ same_Some _ _ replaced in
      let instance : h.inner.right ≡ apply (λ v. var (c.names v)) peak.left = sym (ground_stays c.unifier h.inner.right whole.ground) ∙ (ap (apply c.unifier) reduct ∙ c.left) in
      whole.size ∙ (ap size_of instance ∙ size_named c.names peak.left)

  -- what is noted of a peak that was added
  pub top_of_added : (list : List PlacedPeak) (added : AddedPeak) (top : RepeatedTop) → top.nodes ≡ added.nodes - side.size → top.number ≡ added.number → IsAdded rules (spot j p i) list added
      → IsTopAt rules j p (left_side (slice_get rules i)) list top
  top_of_added list added top nodes number h = record {
    inner = i;
    equal = refl;
    peak = h.peak;
    at = h.at;
    small = h.small;
    counted = omega (arith, nodes, h.counted, left_size h.peak h.at);
    listed = λ n e. h.listed n (sym number ∙ e);
  }

-- ---- the peak beside a known one

module _ {T M S : Type 0} (rules : List RewriteRule) (i j : ℕ) (p : List ℕ) (root : p ≡ []) (side : WholeSide) (right_of : IsRightOf rules i side) (peaks : Peaks T M S) (known : RepeatedTop)
    (h : IsTopAt rules j p (left_side (slice_get rules i)) peaks.list.items known) (nodes : ℕ) (sum : nodes ≡ min (known.nodes + side.size) 18446744073709551615) where
  abbrev next : PlacedPeak
  next = beside i (tree side.term.now) h.peak

  at_next : IsPeakAt rules (spot j p i) next
  at_next = peak_beside rules j i p root side right_of h.inner h.peak h.equal h.at

  whole : (r : RewriteRule) × IsWholeSide r.right side
  whole = (at_next.inner, right_of at_next.inner at_next.inner_numbered)

  small_next : IsTrue (is_small next)
  small_next =
      let top = and_parts (within_limits h.peak.top) (within_limits h.peak.left && within_limits h.peak.right) h.small in
      let right = (and_parts (within_limits h.peak.left) (within_limits h.peak.right) top.1).1 in
      let w = whole.1 in
      let left : IsTrue (within_limits (tree side.term.now)) = subst (λ t. IsTrue (within_limits t)) (sym w.is) w.small in
      rw (top.0, left, right) refl

  counted_next : nodes ≡ nodes_of_peak next
  counted_next =
      let top = and_parts (within_limits h.peak.top) (within_limits h.peak.left && within_limits h.peak.right) h.small in
      let right = (and_parts (within_limits h.peak.left) (within_limits h.peak.right) top.1).1 in
      let w = whole.1 in
      let size : side.size ≡ size_of (tree side.term.now) = w.size ∙ ap size_of (sym w.is) in
      let few : known.nodes + side.size ≤ 18446744073709551615 =
      omega (arith, h.counted, w.size, limits_size h.peak.top top.0, limits_size h.peak.right right, limits_size whole.0.right w.small) in
      omega (arith, sum, min-eq_left few, h.counted, size)

  pub counts_beside : (new : Peaks T M S) → CountsOne peaks nodes new → peaks.most ≤ length peaks.list.items → Adds rules peaks (one_spot j p i) new
  counts_beside = counts_known rules (spot j p i) peaks next at_next small_next nodes counted_next

  -- what is copied from the list, with the side
  module _ (n : ℕ) (x : PlacedPeak) (q : List ℕ) (t l r : Tree) (number : known.number ≡ Some n) (there : slice_get peaks.list.items n ≡ Some x)
      (place : q ≡ p) (top : t ≡ x.top) (left : l ≡ tree side.term.now) (right : r ≡ x.right) where
    abbrev copy : PlacedPeak
    copy = record { outer = x.outer; place = q; inner = i; top = t; left = l; right = r }

    copied_next : copy ≡ next
    copied_next =
        let same : x ≡ h.peak = same_Some x h.peak (sym there ∙ h.listed n number) in
        let outer : x.outer ≡ h.peak.outer = ap (λ (y : PlacedPeak). y.outer) same in
        let placed : q ≡ h.peak.place = place ∙ sym h.at.is_place in
        let is_top : t ≡ h.peak.top = top ∙ ap (λ (y : PlacedPeak). y.top) same in
        let is_right : r ≡ h.peak.right = right ∙ ap (λ (y : PlacedPeak). y.right) same in
        cc

    pub lists_beside : (list : Vec PlacedPeak) (terms : M) (new : Peaks T M S) → list.items ≡ peaks.list.items ++ copy ∷ []
        → CountsOne {T = T} {M = M} {S = S} (record { list = list; most = peaks.most; count = peaks.count; nodes = peaks.nodes; places = peaks.places; names = peaks.names; terms = terms }) nodes new → length peaks.list.items < peaks.most
        → Adds rules peaks (one_spot j p i) new
    lists_beside = lists_known rules (spot j p i) peaks next at_next small_next nodes counted_next copy copied_next

  pub too_many_beside : (fault : PeakFault) → fault ≡ limit.TooMany → 4194304 < peaks.nodes + nodes → StopsAt rules peaks (one_spot j p i) fault
  too_many_beside = too_many_known rules (spot j p i) peaks next at_next small_next nodes counted_next

-- ---- what is noted

-- a list that grew has the same peaks
pub still_tops : (rules : List RewriteRule) (j : ℕ) (p : List ℕ) (list new : List PlacedPeak) (noted : List RepeatedTop) → IsLonger list new → AreTops rules j p list noted → AreTops rules j p new noted
still_tops rules j p list new noted longer h = λ k found there.
    let r = h k found there in
    record {
      inner = r.inner;
      equal = r.equal;
      peak = r.peak;
      at = r.at;
      small = r.small;
      counted = r.counted;
      listed = λ n e. subst (λ xs. slice_get xs n ≡ Some r.peak) (sym longer.1) (kept_item list longer.0 n r.peak (r.listed n e));
    }

-- what is known of a left side is known of a rule that has it
pub known_top : (rules : List RewriteRule) (i j : ℕ) (p : List ℕ) (list : List PlacedPeak) (noted : List RepeatedTop) (first : Option ℕ) (known : Option RepeatedTop)
    → AreTops rules j p list noted → IfSome first (λ k. left_side (slice_get rules k) ≡ left_side (slice_get rules i))
    → IfSome known (λ top. (rules : List RewriteRule) (i j : ℕ) (p : List ℕ) (list : List PlacedPeak) → AreTops rules j p list noted
    → IfSome first (λ k. left_side (slice_get rules k) ≡ left_side (slice_get rules i)) → IsTopAt rules j p (left_side (slice_get rules i)) list top)
    → IfSome known (IsTopAt rules j p (left_side (slice_get rules i)) list)
known_top rules i j p list noted first known tops equal is = IfSome_then known is (λ top f. f rules i j p list tops equal)

-- of another left side that is the same
top_of_equal : (rules : List RewriteRule) (j : ℕ) (p : List ℕ) (list : List PlacedPeak) (top : RepeatedTop) (left other : Option Tree) → left ≡ other → IsTopAt rules j p left list top → IsTopAt rules j p other list top
top_of_equal rules j p list top left other same h = subst (λ l. IsTopAt rules j p l list top) same h

module _ (noted : List RepeatedTop) (rules : List RewriteRule) (i j : ℕ) (p : List ℕ) (list : List PlacedPeak) (tops : AreTops rules j p list noted) (k : ℕ) (equal : left_side (slice_get rules k) ≡ left_side (slice_get rules i)) where
  pub noted_top : (n : ℕ) (found : RepeatedTop) → slice_get noted n ≡ Some found → found.first ≡ k → IsTopAt rules j p (left_side (slice_get rules i)) list found
  noted_top n found there first = top_of_equal rules j p list found _ _ (ap (λ m. left_side (slice_get rules m)) first ∙ equal) (tops n found there)

  pub one_top_noted : (top : RepeatedTop) (new : List RepeatedTop) → new ≡ noted ++ top ∷ [] → top.first ≡ k → IsTopAt rules j p (left_side (slice_get rules i)) list top → AreTops rules j p list new
  one_top_noted top new put first is = λ n x there.
      let N : List RepeatedTop → Type 0 = λ xs. slice_get xs n ≡ Some x in
      elim (item_of_more noted top x n (subst N put there)) [
        | inl old ↦ tops n x old
        | inr e ↦
            let R : RepeatedTop → Type 0 = λ y. IsTopAt rules j p (left_side (slice_get rules y.first)) list y in
            subst R (sym e.1) (top_of_equal rules j p list top _ _ (sym (ap (λ m. left_side (slice_get rules m)) first ∙ equal)) is)
      ]
