-- Two rules have one critical peak at a place.
use Rattle.std.specs.Prelude.{◌≡◌, ℕ, ◌+◌, ◌||◌, List, IsTrue}
use Rattle.std.proofs.Common.{inl, inr, sym, ◌∙◌, ap, subst}
use Rattle.std.proofs.lemmas.Option.{same_Some}
use Rattle.std.proofs.lemmas.Bool.{or_left, or_right, or_cases}
use Rattle.trs_defs.specs.Tree.{Tree, var}
use Rattle.trs_defs.specs.Variable.{has_var, variables_of}
use Rattle.trs_defs.specs.Substitution.{apply}
use Rattle.trs_defs.specs.Renaming.{shifted}
use Rattle.trs_defs.specs.System.{RewriteRule, System, IsSystem}
use Rattle.trs_defs.proofs.Substitutions.{apply_apply, same_instance}
use Rattle.trs_defs.proofs.VariableLaws.{has_var_same, has_var_self}
use Rattle.confluence_theory.specs.Peak.{Peak}
use Rattle.confluence_theory.specs.CriticalPeak.{occurs_in_peak, IsCriticalPeak}
use Rattle.confluence_theory.proofs.Apart.{glue, glue_low, apply_high, part_variable, renumbered}
use Rattle.rewrite_core.specs.PlacedPeak.{PlacedPeak}
use Rattle.crit_pairs.specs.PlainPeak.{plain}
use Rattle.crit_pairs.specs.PeakList.{Spot, IsCount, IsPeakAt}
use Rattle.crit_pairs.proofs.InstanceVariables.{into_instance, of_instance, replaced_variable, replaced_instance}
use Rattle.crit_pairs.proofs.Variants.{Paired, Swaps, pair, paired_equal, numbered_alike, among_variables}

-- the right sides of both rules have variables of the left ones alone
module _ (inner outer : RewriteRule) (p : List ℕ) (inner_variables : (v : ℕ) → IsTrue (has_var v inner.right) → IsTrue (has_var v inner.left))
    (outer_variables : (v : ℕ) → IsTrue (has_var v outer.right) → IsTrue (has_var v outer.left)) where
  shifted_variable : (k y : ℕ) → IsTrue (has_var y (shifted k inner.right)) → IsTrue (has_var y (shifted k inner.left))
  shifted_variable k y h =
      let (v, there, at) = of_instance (λ v. var (k + v)) y inner.right h in
      into_instance (λ v. var (k + v)) y inner.left v (inner_variables v there) at

  -- the left and the right of a critical peak have no variable that the top lacks
  module _ (a : Peak) (c : IsCriticalPeak inner outer p a) where
    in_inner_left : (x : ℕ) → IsTrue (has_var x (apply c.unifier (shifted c.offset inner.left))) → IsTrue (has_var x (apply c.unifier outer.left))
    in_inner_left x h =
        let (v, there, k) = of_instance c.unifier x c.part (subst (λ z. IsTrue (has_var x z)) (sym c.most_general.unifies) h) in
        into_instance c.unifier x outer.left v (part_variable p outer.left c.part v c.there there) k

    in_reduct : (x : ℕ) → IsTrue (has_var x (apply c.unifier c.reduct)) → IsTrue (has_var x (apply c.unifier outer.left))
    in_reduct x h =
        let (v, there, k) = of_instance c.unifier x c.reduct h in
        elim (replaced_variable p outer.left (shifted c.offset inner.right) c.reduct v c.replaced there) [
          | inl l ↦ into_instance c.unifier x outer.left v l k
          | inr l ↦ in_inner_left x (into_instance c.unifier x (shifted c.offset inner.left) v (shifted_variable c.offset v l) k)
        ]

    in_contractum : (x : ℕ) → IsTrue (has_var x (apply c.unifier outer.right)) → IsTrue (has_var x (apply c.unifier outer.left))
    in_contractum x h =
        let (v, there, k) = of_instance c.unifier x outer.right h in
        into_instance c.unifier x outer.left v (outer_variables v there) k

    -- the name of a variable of the peak, among those of the top
    named_in_top : (v : ℕ) → IsTrue (occurs_in_peak v a) → IsTrue (has_var (c.names v) (apply c.unifier outer.left)) → IsTrue (has_var v a.top)
    named_in_top v occurs h =
        let (w, there, k) = of_instance (λ u. var (c.names u)) (c.names v) a.top (subst (λ z. IsTrue (has_var (c.names v) z)) c.top h) in
        let name : c.names w ≡ c.names v = has_var_same (c.names v) (c.names w) k in
        let same : w ≡ v = c.different w v (or_left (has_var w a.top) (has_var w a.left || has_var w a.right) there) occurs name in
        subst (λ z. IsTrue (has_var z a.top)) same there

    name_of : (v : ℕ) (t u : Tree) → apply c.unifier t ≡ apply (λ w. var (c.names w)) u → IsTrue (has_var v u) → IsTrue (has_var (c.names v) (apply c.unifier t))
    name_of v t u e h =
        let self : IsTrue (has_var (c.names v) (var (c.names v))) = has_var_self (c.names v) in
        subst (λ z. IsTrue (has_var (c.names v) z)) (sym e) (into_instance (λ w. var (c.names w)) (c.names v) u v h self)

    in_top : (v : ℕ) → IsTrue (occurs_in_peak v a) → IsTrue (has_var v a.top)
    in_top v h = elim (or_cases (has_var v a.top) (has_var v a.left || has_var v a.right) h) [
      | inl k ↦ k
      | inr k ↦ elim (or_cases (has_var v a.left) (has_var v a.right) k) [
        | inl l ↦ named_in_top v h (in_reduct (c.names v) (name_of v c.reduct a.left c.left l))
        | inr l ↦ named_in_top v h (in_contractum (c.names v) (name_of v outer.right a.right c.right l))
      ]
    ]

  -- one substitution leads from the terms of a to those of b, up to their names
  record Leads (a b : Peak) (names : ℕ → ℕ) : Type 0 where
    by : ℕ → Tree
    top : apply by a.top ≡ apply (λ v. var (names v)) b.top
    left : apply by a.left ≡ apply (λ v. var (names v)) b.left
    right : apply by a.right ≡ apply (λ v. var (names v)) b.right

  module _ (a b : Peak) (c : IsCriticalPeak inner outer p a) (d : IsCriticalPeak inner outer p b) where
    -- b's unifier, with a's offset
    abbrev moved : ℕ → Tree
    moved = glue c.offset d.unifier (λ x. d.unifier (d.offset + x))

    agrees : (v : ℕ) → IsTrue (has_var v outer.left) → moved v ≡ d.unifier v
    agrees v h = glue_low c.offset d.unifier (λ x. d.unifier (d.offset + x)) v (c.apart v h)

    moved_inner : (t : Tree) → apply moved (shifted c.offset t) ≡ apply d.unifier (shifted d.offset t)
    moved_inner t = apply_high c.offset d.unifier (λ x. d.unifier (d.offset + x)) t ∙ sym (apply_apply d.unifier (λ v. var (d.offset + v)) t)

    moved_outer : apply moved outer.left ≡ apply d.unifier outer.left
    moved_outer = same_instance moved d.unifier outer.left agrees

    moved_unifies : apply moved c.part ≡ apply moved (shifted c.offset inner.left)
    moved_unifies =
        let same : c.part ≡ d.part = same_Some c.part d.part (sym c.there ∙ d.there) in
        same_instance moved d.unifier c.part (λ v h. agrees v (part_variable p outer.left c.part v c.there h))
        ∙ (ap (apply d.unifier) same ∙ (d.most_general.unifies ∙ sym (moved_inner inner.left)))

    leads : Leads a b d.names
    leads =
        let (τ, is) = c.most_general.most_general moved moved_unifies in
        record {
          by = λ v. τ (c.names v);
          top = sym (renumbered moved τ c.unifier c.names outer.left a.top is c.top) ∙ (moved_outer ∙ d.top);
          left = sym (renumbered moved τ c.unifier c.names c.reduct a.left is c.left)
              ∙ (replaced_instance moved d.unifier p outer.left (shifted c.offset inner.right) (shifted d.offset inner.right) c.reduct d.reduct c.replaced d.replaced moved_outer (moved_inner inner.right)
              ∙ d.left);
          right = sym (renumbered moved τ c.unifier c.names outer.right a.right is c.right)
              ∙ (same_instance moved d.unifier outer.right (λ v h. agrees v (outer_variables v h)) ∙ d.right);
        }

  pub record AreEqual (a b : Peak) : Type 0 where
    pub top : a.top ≡ b.top
    pub left : a.left ≡ b.left
    pub right : a.right ≡ b.right

  module _ (a b : Peak) (c : IsCriticalPeak inner outer p a) (d : IsCriticalPeak inner outer p b) (there : Leads a b d.names) (back : Leads b a c.names) where
    abbrev Related : ℕ → ℕ → Type 0
    Related = Swaps there.by back.by c.names d.names (λ v. IsTrue (occurs_in_peak v a)) (λ w. IsTrue (occurs_in_peak w b))

    paired : (t u : Tree) → ((v : ℕ) → IsTrue (has_var v t) → IsTrue (occurs_in_peak v a)) → ((w : ℕ) → IsTrue (has_var w u) → IsTrue (occurs_in_peak w b))
        → apply there.by t ≡ apply (λ w. var (d.names w)) u → apply back.by u ≡ apply (λ v. var (c.names v)) t → Paired Related t u
    paired t u h k e f = pair there.by back.by c.names d.names (λ v. IsTrue (occurs_in_peak v a)) (λ w. IsTrue (occurs_in_peak w b)) t u h k e f

    one : (v w x : ℕ) → Related v w → Related v x → w ≡ x
    one v w x h k =
        let e : var (d.names w) ≡ var (d.names x) = sym h.2 ∙ k.2 in
        d.different w x h.1 k.1 (cc (e))

    other : (v x w : ℕ) → Related v w → Related x w → v ≡ x
    other v x w h k =
        let e : var (c.names v) ≡ var (c.names x) = sym h.3 ∙ k.3 in
        c.different v x h.0 k.0 (cc (e))

    module _ (first : IsCount 0 (variables_of a.top)) (second : IsCount 0 (variables_of b.top)) where
      tops : Paired Related a.top b.top
      tops = paired a.top b.top (λ v h. or_left (has_var v a.top) (has_var v a.left || has_var v a.right) h) (λ v h. or_left (has_var v b.top) (has_var v b.left || has_var v b.right) h) there.top back.top

      itself : (v : ℕ) → IsTrue (occurs_in_peak v a) → Related v v
      itself v h =
          let (i, at) = among_variables v a.top (in_top a c v h) in
          numbered_alike Related one other a.top b.top tops first second i v at

      equal : (v w : ℕ) → Related v w → v ≡ w
      equal v w r = one v v w (itself v r.0) r

      same_terms : AreEqual a b
      same_terms = record {
        top = paired_equal Related equal tops;
        left = paired_equal Related equal
            (paired a.left b.left (λ v h. or_right (has_var v a.top) (has_var v a.left || has_var v a.right) (or_left (has_var v a.left) (has_var v a.right) h))
            (λ v h. or_right (has_var v b.top) (has_var v b.left || has_var v b.right) (or_left (has_var v b.left) (has_var v b.right) h)) there.left back.left);
        right = paired_equal Related equal
            (paired a.right b.right (λ v h. or_right (has_var v a.top) (has_var v a.left || has_var v a.right) (or_right (has_var v a.left) (has_var v a.right) h))
            (λ v h. or_right (has_var v b.top) (has_var v b.left || has_var v b.right) (or_right (has_var v b.left) (has_var v b.right) h)) there.right back.right);
      }

  pub critical_once : (a b : Peak) → IsCriticalPeak inner outer p a → IsCriticalPeak inner outer p b → IsCount 0 (variables_of a.top) → IsCount 0 (variables_of b.top) → AreEqual a b
  critical_once a b c d first second = same_terms a b c d (leads a b c d) (leads b a d c) first second

same_fields : {o o' i i' : ℕ} {p p' : List ℕ} {t t' l l' r r' : Tree} → o ≡ o' → p ≡ p' → i ≡ i' → t ≡ t' → l ≡ l' → r ≡ r'
    → ◌≡◌ {A = PlacedPeak} (record { outer = o; place = p; inner = i; top = t; left = l; right = r }) (record { outer = o'; place = p'; inner = i'; top = t'; left = l'; right = r' })
same_fields a b c d e f = cc (a, b, c, d, e, f)

-- a spot has one critical peak
pub peak_once : (system : System) → IsSystem system → (s : Spot) (a b : PlacedPeak) → IsPeakAt system.rules s a → IsPeakAt system.rules s b → a ≡ b
peak_once system valid s a b x y =
    let inner_same : y.inner ≡ x.inner = same_Some y.inner x.inner (sym y.inner_numbered ∙ x.inner_numbered) in
    let outer_same : y.outer ≡ x.outer = same_Some y.outer x.outer (sym y.outer_numbered ∙ x.outer_numbered) in
    let first : IsCriticalPeak x.inner y.outer s.place (plain b) = subst (λ z. IsCriticalPeak z y.outer s.place (plain b)) inner_same y.critical in
    let second : IsCriticalPeak x.inner x.outer s.place (plain b) = subst (λ z. IsCriticalPeak x.inner z s.place (plain b)) outer_same first in
    let terms = critical_once x.inner x.outer s.place (valid.each s.inner x.inner x.inner_numbered).variables (valid.each s.outer x.outer x.outer_numbered).variables (plain a) (plain b) x.critical second x.counted y.counted in
    same_fields (x.is_outer ∙ sym y.is_outer) (x.is_place ∙ sym y.is_place) (x.is_inner ∙ sym y.is_inner) terms.top terms.left terms.right
