-- Equal rules have equal peaks at a position.
use Rattle.std.specs.Prelude.{min}
use Rattle.std.proofs.Common.{◌≡◌, ◌≤◌, ◌⊎◌, inl, inr, ℕ, zero, suc, ◌+◌, List, [], ◌∷◌, ◌++◌, Option, Some, length, slice_get, slice_set, refl, sym, ◌∙◌, subst, arith}
use Rattle.std.proofs.Math.Decide.{dec_le}
use Rattle.std.proofs.Math.Nat.{min-eq_left, min-eq_right}
use Rattle.std.proofs.lemmas.Option.{same_Some, slice_get_within}
use Rattle.trs_defs.specs.Tree.{Tree}
use Rattle.trs_defs.specs.System.{RewriteRule}
use Rattle.trs_defs.proofs.ListItems.{item_there, item_of_more, kept_item}
use Rattle.trs_core.specs.SystemLimits.{HasSmallVariables, HaveSmallVariables}
use Rattle.confluence_theory.specs.CriticalPeak.{IsCriticalPeak}
use Rattle.term_pool.specs.Pooled.{Extends}
use Rattle.rewrite_core.specs.PlacedPeak.{PlacedPeak}
use Rattle.crit_pairs.specs.Apart.{renamed_apart}
use Rattle.crit_pairs.specs.PlainPeak.{plain}
use Rattle.crit_pairs.specs.PeakList.{Spot, OverlapsAt, IsPeakAt}
use Rattle.crit_pairs.specs.Walk.{IsPartOf}
use Rattle.crit_pairs.specs.Sides.{DoNotMeet}
use Rattle.crit_pairs.specs.EqualRules.{NameEqual}
use Rattle.crit_pairs.specs.Repeated.{moved_to}
use Rattle.crit_pairs.specs.MadePairs.{spot, IsMade}
use Rattle.crit_pairs.specs.KnownPeaks.{HasPair, Knows, KnowsEach}
use Rattle.crit_pairs.specs.declared.known_peak.KnownPeak.{KnownPeak}
use Rattle.crit_pairs.specs.declared.known_peak.KnownPeak.TheVariants as found
use Rattle.crit_pairs.specs.declared.table.PeakPair.{PeakPair}
use Rattle.crit_pairs.specs.declared.making.MadePair.{MadePair}
use Rattle.crit_pairs.proofs.SpotWalk.{OverlapsUnify, small_of, none_there}

-- ---- peaks

pub peak_moved : (rules : List RewriteRule) (j i k : ℕ) (p : List ℕ) (peak : PlacedPeak) → slice_get rules k ≡ slice_get rules i → IsPeakAt rules (spot j p i) peak → IsPeakAt rules (spot j p k) (moved_to k peak)
peak_moved rules j i k p peak same h =
    let c = h.critical in
    let critical : IsCriticalPeak h.inner h.outer p (plain (moved_to k peak)) =
    record {
      part = c.part;
      there = c.there;
      offset = c.offset;
      apart = c.apart;
      unifier = c.unifier;
      most_general = c.most_general;
      reduct = c.reduct;
      replaced = c.replaced;
      names = c.names;
      different = c.different;
      top = c.top;
      left = c.left;
      right = c.right;
    } in
    record {
      is_outer = h.is_outer;
      is_place = h.is_place;
      is_inner = refl;
      inner = h.inner;
      outer = h.outer;
      inner_numbered = same ∙ h.inner_numbered;
      outer_numbered = h.outer_numbered;
      critical = critical;
      counted = h.counted;
    }

-- what is made for a rule is there for each equal one
pub pair_of_equal : (rules : List RewriteRule) (j i k : ℕ) (p : List ℕ) (pool : List Tree) (before size : ℕ) (made : MadePair) → slice_get rules k ≡ slice_get rules i → made.nodes ≡ before + size
    → IsMade rules (spot j p i) pool before made → HasPair rules (spot j p k) pool made.pair size
pair_of_equal rules j i k p pool before size made same counted h = record {
  peak = moved_to k h.peak;
  at = peak_moved rules j i k p h.peak same h.at;
  small = h.small;
  stands = h.stands;
  counted = omega (arith, counted, h.counted);
}

-- a sum that keeps the limit is the whole sum
pub whole_sum : (total sum : ℕ) → total ≡ min sum 18446744073709551615 → total ≤ 4194304 → total ≡ sum
whole_sum total sum e few = elim (dec_le sum 18446744073709551615) [
  | yes k ↦ e ∙ min-eq_left k
  | no k ↦
      let most : total ≡ 18446744073709551615 = e ∙ min-eq_right (omega (arith, k)) in
      absurd (omega (arith, most, few))
]

-- the pair of a peak that is there, with the nodes of all peaks
pub made_again : (rules : List RewriteRule) (s : Spot) (pool : List Tree) (before nodes : ℕ) (made : MadePair) → made.nodes ≡ min (before + nodes) 18446744073709551615 → made.nodes ≤ 4194304
    → HasPair rules s pool made.pair nodes → IsMade rules s pool before made
made_again rules s pool before nodes made total few h = record {
  peak = h.peak;
  at = h.at;
  small = h.small;
  stands = h.stands;
  counted = omega (arith, whole_sum made.nodes (before + nodes) total few, h.counted);
  few = few;
}

-- rules that equal one that does not meet the part overlap neither
pub none_of_equal : OverlapsUnify → (rules : List RewriteRule) → HaveSmallVariables rules → (j : ℕ) (p : List ℕ) (part : Tree) → IsPartOf rules j p part → (i : ℕ) (inner apart : RewriteRule)
    → slice_get rules i ≡ Some inner → apart ≡ renamed_apart inner → DoNotMeet part apart.left → (k : ℕ) → slice_get rules k ≡ slice_get rules i → OverlapsAt rules (spot j p k) → ⊥
none_of_equal unified rules small j p part at i inner apart numbered renamed none k same =
    let outer_small : HasSmallVariables at.outer.left = (small_of rules j at.outer small at.numbered).0 in
    none_there rules j k p part inner apart at.outer renamed (same ∙ numbered) at.numbered at.there outer_small unified none

-- ---- what is known

no_item : {T : Type 0} (k : ℕ) (x : T) → slice_get [] k ≡ Some x → ⊥
no_item k x e = absurd cc

-- of pools that grow
pair_still : (rules : List RewriteRule) (s : Spot) (pool next : List Tree) (pair : PeakPair) (nodes : ℕ) → Extends pool next → HasPair rules s pool pair nodes → HasPair rules s next pair nodes
pair_still rules s pool next pair nodes more h = record {
  peak = h.peak;
  at = h.at;
  small = h.small;
  stands = (more.kept pair.left h.peak.left h.stands.0, more.kept pair.right h.peak.right h.stands.1);
  counted = h.counted;
}

known_still : (rules : List RewriteRule) (j : ℕ) (p : List ℕ) (inner : Option RewriteRule) (pool next : List Tree) (x : KnownPeak) → Extends pool next → Knows rules j p inner pool x → Knows rules j p inner next x
known_still rules j p inner pool next found.Unknown more h = tt
known_still rules j p inner pool next found.Absent more h = h
known_still rules j p inner pool next (found.Made pair nodes) more h = λ i same. pair_still rules (spot j p i) pool next pair nodes more (h i same)

pub each_still : (rules : List RewriteRule) (j : ℕ) (p : List ℕ) (pool next : List Tree) (known : List KnownPeak) → Extends pool next → KnowsEach rules j p pool known → KnowsEach rules j p next known
each_still rules j p pool next known more h = λ k x there. known_still rules j p (slice_get rules k) pool next x more (h k x there)

-- of rules that equal each other
pub known_of_equal : (rules : List RewriteRule) (j : ℕ) (p : List ℕ) (pool : List Tree) (inner other : Option RewriteRule) (x : KnownPeak) → inner ≡ other → Knows rules j p inner pool x → Knows rules j p other pool x
known_of_equal rules j p pool inner other x same h =
    let K : Option RewriteRule → Type 0 = λ r. Knows rules j p r pool x in
    subst K same h

pub none_known : (rules : List RewriteRule) (j : ℕ) (p : List ℕ) (pool : List Tree) (known : List KnownPeak) → known ≡ [] → KnowsEach rules j p pool known
none_known rules j p pool known none = λ k x there.
    let N : List KnownPeak → Type 0 = λ xs. slice_get xs k ≡ Some x in
    absurd (no_item k x (subst N none there))

pub unknown_behind : (rules : List RewriteRule) (j : ℕ) (p : List ℕ) (pool : List Tree) (known new : List KnownPeak) → new ≡ known ++ found.Unknown ∷ [] → KnowsEach rules j p pool known → KnowsEach rules j p pool new
unknown_behind rules j p pool known new put h = λ k x there.
    let N : List KnownPeak → Type 0 = λ xs. slice_get xs k ≡ Some x in
    elim (item_of_more known found.Unknown x k (subst N put there)) [
      | inl old ↦ h k x old
      | inr e ↦
          let K : KnownPeak → Type 0 = λ y. Knows rules j p (slice_get rules k) pool y in
          subst K (sym e.1) tt
    ]

pub item_of_set : {T : Type 0} (xs : List T) (n : ℕ) (x : T) (k : ℕ) (y : T) → slice_get (slice_set xs n x) k ≡ Some y → ((k ≡ n) × (y ≡ x)) ⊎ (slice_get xs k ≡ Some y)
item_of_set [] n x k y e = inr e
item_of_set (z ∷ xs) zero x zero y e = inl (refl, same_Some y x (sym e))
item_of_set (z ∷ xs) zero x (suc k) y e = inr e
item_of_set (z ∷ xs) (suc n) x zero y e = inr e
item_of_set (z ∷ xs) (suc n) x (suc k) y e = elim (item_of_set xs n x k y e) as (λ _. ((suc k ≡ suc n) × (y ≡ x)) ⊎ (slice_get (z ∷ xs) (suc k) ≡ Some y)) [
  | inl h ↦ inl (omega (arith, h.0), h.1)
  | inr h ↦ inr h
]

pub one_known : (rules : List RewriteRule) (j : ℕ) (p : List ℕ) (pool : List Tree) (known new : List KnownPeak) (n : ℕ) (x : KnownPeak) → new ≡ slice_set known n x → KnowsEach rules j p pool known
    → Knows rules j p (slice_get rules n) pool x → KnowsEach rules j p pool new
one_known rules j p pool known new n x put h here = λ k y there.
    let N : List KnownPeak → Type 0 = λ xs. slice_get xs k ≡ Some y in
    elim (item_of_set known n x k y (subst N put there)) [
      | inl e ↦
          let K : ℕ → Type 0 = λ i. Knows rules j p (slice_get rules i) pool y in
          let Y : KnownPeak → Type 0 = λ z. Knows rules j p (slice_get rules n) pool z in
          subst K (sym e.0) (subst Y (sym e.1) here)
      | inr old ↦ h k y old
    ]

-- ---- numbers of equal rules

-- rules with the same sides are the same, as the code reads them
pub same_rule : (rule other : RewriteRule) (left right left2 right2 : Tree) → record { left = left; right = right } ≡ rule → record { left = left2; right = right2 } ≡ other → left ≡ left2 → right ≡ right2 → rule ≡ other
same_rule rule other left right left2 right2 is are same both = cc (is, are, same, both)

pub no_numbers : (rules : List RewriteRule) (firsts : List ℕ) → firsts ≡ [] → NameEqual rules firsts
no_numbers rules firsts none =
    let N : List ℕ → Type 0 = NameEqual rules in
    let empty : NameEqual rules [] = λ k first there. absurd cc in
    subst N (sym none) empty

-- those of the first rules
pub equal_of_more : (rules first more : List RewriteRule) (firsts : List ℕ) → rules ≡ first ++ more → length firsts ≡ length first → NameEqual first firsts → NameEqual rules firsts
equal_of_more rules first more firsts are count h = λ k n named.
    let (x, there) = item_there first k (omega (arith, slice_get_within firsts k n named, count)) in
    let E : List RewriteRule → Type 0 = λ rs. slice_get rs n ≡ slice_get rs k in
    subst E (sym are) (kept_item first more n x (h k n named ∙ there) ∙ sym (kept_item first more k x there))

pub one_number_more : (rules : List RewriteRule) (firsts new : List ℕ) (k first : ℕ) → k ≡ length firsts → slice_get rules first ≡ slice_get rules k → new ≡ firsts ++ first ∷ [] → NameEqual rules firsts → NameEqual rules new
one_number_more rules firsts new k first count is put h = λ i n there.
    let N : List ℕ → Type 0 = λ ns. slice_get ns i ≡ Some n in
    elim (item_of_more firsts first n i (subst N put there)) [
      | inl old ↦ h i n old
      | inr e ↦
          let here : k ≡ i = count ∙ sym e.0 in
          let E : ℕ → Type 0 = λ m. slice_get rules n ≡ slice_get rules m in
          let F : ℕ → Type 0 = λ m. slice_get rules m ≡ slice_get rules k in
          subst E here (subst F (sym e.1) is)
    ]
