-- The sides of critical peaks are small: no symbol has more than 255 arguments.
use Rattle.std.specs.Prelude.{◌≡◌, ◌<◌, ◌≤◌, ℕ, ◌+◌, Bool, true, false, ◌&&◌, leb, List, [], ◌∷◌, Some, Ok, IsTrue, slice_get, refl}
use Rattle.std.proofs.Common.{zero, suc, ap, subst, sym, ◌∙◌, arith, inl, inr}
use Rattle.std.proofs.lemmas.Bool.{and_parts}
use Rattle.std.proofs.lemmas.Bool.Decides.{nat_tests}
use Rattle.std.proofs.lemmas.Option.{same_Some, option_and_then_some}
use Rattle.trs_defs.specs.Tree.{Tree, Trees, var, app, nil, cons, count, items}
use Rattle.trs_defs.specs.Size.{within_limits}
use Rattle.trs_defs.specs.Substitution.{apply, apply_all}
use Rattle.trs_defs.specs.Renaming.{shifted}
use Rattle.trs_defs.specs.Unifier.{IsMostGeneralUnifier}
use Rattle.trs_defs.specs.System.{System, IsSystem, RewriteRule}
use Rattle.trs_defs.specs.Step.{here}
use Rattle.trs_defs.specs.Position.{subterm_at, replaced_at}
use Rattle.trs_defs.proofs.Contexts.{inside_at}
use Rattle.trs_defs.proofs.Members.{in_or}
use Rattle.trs_defs.proofs.Substitutions.{apply_apply, same_instance}
use Rattle.trs_defs.proofs.ArgumentLists.{count_apply_all}
use Rattle.term_pool.specs.Redexes.{IsNarrow, AreNarrow}
use Rattle.term_pool.proofs.NarrowLaws.{narrow_of_well_formed, narrow_inside}
use Rattle.rewrite_core.specs.PlacedPeak.{PlacedPeak}
use Rattle.closed_pairs.specs.crit_pairs.PlainPeak.{plain}
use Rattle.closed_pairs.specs.crit_pairs.PeakList.{Spot, Lists, at_end, no_overlap, one_peak, IsPeakAt, is_small, ListsPeaks}
use Rattle.confluence_theory.specs.CriticalPeak.{IsCriticalPeak}
use Rattle.join_find.specs.Sides.{HasSides, HaveSides}

-- ---- instances

mutual
  narrow_image : (σ : ℕ → Tree) → ((v : ℕ) → IsNarrow (σ v)) → (t : Tree) → IsNarrow t → IsNarrow (apply σ t)
  narrow_image σ images (var n) narrow = images n
  narrow_image σ images (app f ts) narrow =
      let same = count_apply_all σ ts in
      let few = narrow.0 in
      (omega (arith, same, few), narrow_images σ images ts narrow.1)

  narrow_images : (σ : ℕ → Tree) → ((v : ℕ) → IsNarrow (σ v)) → (ts : Trees) → AreNarrow ts → AreNarrow (apply_all σ ts)
  narrow_images σ images nil narrow = tt
  narrow_images σ images (cons t ts) narrow = (narrow_image σ images t narrow.0, narrow_images σ images ts narrow.1)

-- a term with a narrow instance is narrow
mutual
  narrow_pattern : (σ : ℕ → Tree) (t : Tree) → IsNarrow (apply σ t) → IsNarrow t
  narrow_pattern σ (var n) narrow = tt
  narrow_pattern σ (app f ts) narrow =
      let same = count_apply_all σ ts in
      let few = narrow.0 in
      (omega (arith, same, few), narrow_patterns σ ts narrow.1)

  narrow_patterns : (σ : ℕ → Tree) (ts : Trees) → AreNarrow (apply_all σ ts) → AreNarrow ts
  narrow_patterns σ nil narrow = tt
  narrow_patterns σ (cons t ts) narrow = (narrow_pattern σ t narrow.0, narrow_patterns σ ts narrow.1)

-- ---- wide symbols cut away

abbrev cut : Bool → Tree → Tree
cut true t = t
cut false t = var 0

abbrev mutual
  pruned : Tree → Tree
  pruned (var v) = var v
  pruned (app f ts) = cut (leb (count ts) 255) (app f (all_pruned ts))

  all_pruned : Trees → Trees
  all_pruned nil = nil
  all_pruned (cons t ts) = cons (pruned t) (all_pruned ts)

count_pruned : (ts : Trees) → count (all_pruned ts) ≡ count ts
count_pruned nil = refl
count_pruned (cons t ts) = ap (λ n. 1 + n) (count_pruned ts)

few_of : (n : ℕ) → IsTrue (leb n 255) → n ≤ 255
few_of n h = grind (arith, nat_tests)

test_of : (n : ℕ) → n ≤ 255 → leb n 255 ≡ true
test_of n h = grind (arith, nat_tests)

narrow_cut : (b : Bool) (t : Tree) → (IsTrue b → IsNarrow t) → IsNarrow (cut b t)
narrow_cut true t narrow = narrow refl
narrow_cut false t narrow = tt

mutual
  narrow_pruned : (t : Tree) → IsNarrow (pruned t)
  narrow_pruned (var v) = tt
  narrow_pruned (app f ts) = narrow_cut (leb (count ts) 255) (app f (all_pruned ts))
      (λ h. (let few : count ts ≤ 255 = few_of (count ts) h in let same : count (all_pruned ts) ≡ count ts = count_pruned ts in (omega (arith, few, same), all_narrow_pruned ts)))

  all_narrow_pruned : (ts : Trees) → AreNarrow (all_pruned ts)
  all_narrow_pruned nil = tt
  all_narrow_pruned (cons t ts) = (narrow_pruned t, all_narrow_pruned ts)

mutual
  pruned_instance : (σ : ℕ → Tree) (t : Tree) → IsNarrow t → pruned (apply σ t) ≡ apply (λ v. pruned (σ v)) t
  pruned_instance σ (var n) narrow = refl
  pruned_instance σ (app f ts) narrow =
      let same : count (apply_all σ ts) ≡ count ts = count_apply_all σ ts in
      let few : count ts ≤ 255 = narrow.0 in
      let kept : leb (count (apply_all σ ts)) 255 ≡ true = test_of (count (apply_all σ ts)) (omega (arith, same, few)) in
      ap (λ b. cut b (app f (all_pruned (apply_all σ ts)))) kept ∙ ap (app f) (all_pruned_instances σ ts narrow.1)

  all_pruned_instances : (σ : ℕ → Tree) (ts : Trees) → AreNarrow ts → all_pruned (apply_all σ ts) ≡ apply_all (λ v. pruned (σ v)) ts
  all_pruned_instances σ nil narrow = refl
  all_pruned_instances σ (cons t ts) narrow =
      ap (λ u. cons u (all_pruned (apply_all σ ts))) (pruned_instance σ t narrow.0) ∙ ap (cons (apply (λ v. pruned (σ v)) t)) (all_pruned_instances σ ts narrow.1)

-- a most general unifier of narrow terms makes narrow terms of narrow ones
narrow_unifier : (s t u : Tree) (m : ℕ → Tree) → IsMostGeneralUnifier s t m → IsNarrow s → IsNarrow t → IsNarrow u → IsNarrow (apply m u)
narrow_unifier s t u m most narrow_s narrow_t narrow_u =
    let σ : ℕ → Tree = λ v. pruned (m v) in
    let unifies : apply σ s ≡ apply σ t = sym (pruned_instance m s narrow_s) ∙ (ap pruned most.unifies ∙ pruned_instance m t narrow_t) in
    let (τ, from) = most.most_general σ unifies in
    let same : apply σ u ≡ apply τ (apply m u) = same_instance σ (λ v. apply τ (m v)) u (λ v h. from v) ∙ sym (apply_apply τ m u) in
    narrow_pattern τ (apply m u) (subst IsNarrow same (narrow_image σ (λ v. narrow_pruned (m v)) u narrow_u))

-- ---- peaks

narrow_shifted : (k : ℕ) (t : Tree) → IsNarrow t → IsNarrow (shifted k t)
narrow_shifted k t narrow = narrow_image (λ v. var (k + v)) (λ v. tt) t narrow

abbrev ToNarrow : Tree → Tree → Type 0
ToNarrow t u = IsNarrow u

narrow_replaced : (p : List ℕ) (t part by u : Tree) → subterm_at p t ≡ Some part → replaced_at p t by ≡ Some u → IsNarrow t → IsNarrow by → IsNarrow u
narrow_replaced p t part by u there put narrow narrow_by =
    narrow_inside ToNarrow (λ a b step old. step) (inside_at ToNarrow p t part by u there put (here narrow_by)) narrow

narrow_item : (ts : Trees) (i : ℕ) (a : Tree) → AreNarrow ts → slice_get (items ts) i ≡ Some a → IsNarrow a
narrow_item nil i a narrow there = absurd cc
narrow_item (cons t ts) zero a narrow there = subst IsNarrow (same_Some t a there) narrow.0
narrow_item (cons t ts) (suc i) a narrow there = narrow_item ts i a narrow.1 there

pub narrow_part : (p : List ℕ) (t part : Tree) → IsNarrow t → subterm_at p t ≡ Some part → IsNarrow part
narrow_part [] t part narrow there = subst IsNarrow (same_Some t part there) narrow
narrow_part (place ∷ p) (var n) part narrow there = absurd cc
narrow_part (zero ∷ p) (app f ts) part narrow there = absurd cc
narrow_part (suc i ∷ p) (app f ts) part narrow there =
    let found : (a : Tree) × (slice_get (items ts) i ≡ Some a) × (subterm_at p a ≡ Some part) =
    option_and_then_some (subterm_at p) (slice_get (items ts) i) part there (λ a at below. (a, at, below)) in
    let (a, at, below) = found in
    narrow_part p a part (narrow_item ts i a narrow.1 at) below

module _ (system : System) (is : IsSystem system) (small : (f n : ℕ) → slice_get system.arities f ≡ Some n → n < 256) where
  narrow_sides : (inner outer : RewriteRule) (p : List ℕ) (peak : PlacedPeak) → IsNarrow inner.left → IsNarrow inner.right → IsNarrow outer.left → IsNarrow outer.right
      → IsCriticalPeak inner outer p (plain peak) → IsNarrow peak.left × IsNarrow peak.right
  narrow_sides inner outer p peak inner_left inner_right outer_left outer_right h =
      let part = narrow_part p outer.left h.part outer_left h.there in
      let other = narrow_shifted h.offset inner.left inner_left in
      let reduct = narrow_replaced p outer.left h.part (shifted h.offset inner.right) h.reduct h.there h.replaced outer_left (narrow_shifted h.offset inner.right inner_right) in
      let left : IsNarrow (apply h.unifier h.reduct) = narrow_unifier h.part (shifted h.offset inner.left) h.reduct h.unifier h.most_general part other reduct in
      let right : IsNarrow (apply h.unifier outer.right) = narrow_unifier h.part (shifted h.offset inner.left) outer.right h.unifier h.most_general part other outer_right in
      (narrow_pattern (λ v. var (h.names v)) peak.left (subst IsNarrow h.left left), narrow_pattern (λ v. var (h.names v)) peak.right (subst IsNarrow h.right right))

  narrow_rule : (k : ℕ) (rule : RewriteRule) → slice_get system.rules k ≡ Some rule → IsNarrow rule.left × IsNarrow rule.right
  narrow_rule k rule numbered =
      let r = is.each k rule numbered in
      (narrow_of_well_formed system.arities small rule.left r.left_well_formed, narrow_of_well_formed system.arities small rule.right r.right_well_formed)

  sides_of_peak : (s : Spot) (peak : PlacedPeak) → IsPeakAt system.rules s peak → IsTrue (is_small peak) → HasSides peak
  sides_of_peak s peak h limits =
      let inner = narrow_rule s.inner h.inner h.inner_numbered in
      let outer = narrow_rule s.outer h.outer h.outer_numbered in
      let sides = narrow_sides h.inner h.outer s.place peak inner.0 inner.1 outer.0 outer.1 h.critical in
      let two = and_parts (within_limits peak.left) (within_limits peak.right) (and_parts (within_limits peak.top) (within_limits peak.left && within_limits peak.right) limits).1 in
      record { left = record { small = two.0; narrow = sides.0 }; right = record { small = two.1; narrow = sides.1 } }

  sides_of_listed : (total : ℕ) (spots : List Spot) (peaks : List PlacedPeak) → Lists system.rules total spots (Ok peaks) → HaveSides peaks
  sides_of_listed total spots peaks at_end peak i = elim i [ ]
  sides_of_listed total spots peaks (no_overlap {rest = rest} none later) peak i = sides_of_listed total rest peaks later peak i
  sides_of_listed total spots peaks (one_peak {s = s} {p = p} {rest = rest} {ps = ps} is_peak limits few later) peak i = elim (in_or i) [
    | inl same ↦ subst HasSides (sym same) (sides_of_peak s p is_peak limits)
    | inr j ↦ sides_of_listed _ rest ps later peak j
  ]

  pub critical_sides : (peaks : List PlacedPeak) → ListsPeaks system.rules (Ok peaks) → HaveSides peaks
  critical_sides peaks h = sides_of_listed 0 _ peaks h
