-- Narrowings of variants by one step are variants.
use Rattle.std.specs.Prelude.{◌≡◌, ◌<◌, ℕ, ◌+◌, max, Bool, ◌||◌, List, [], ◌∷◌, ◌++◌, IsTrue, refl}
use Rattle.std.proofs.Common.{ap, sym, ◌∙◌, subst, inl, inr, arith}
use Rattle.std.proofs.lemmas.Option.{same_Some}
use Rattle.std.proofs.lemmas.Bool.{or_left, or_right, or_cases}
use Rattle.trs_defs.specs.Tree.{Tree, var}
use Rattle.trs_defs.specs.Variable.{has_var}
use Rattle.trs_defs.specs.Substitution.{apply}
use Rattle.trs_defs.specs.Renaming.{shifted}
use Rattle.trs_defs.specs.System.{RewriteRule}
use Rattle.trs_defs.specs.Path.{PlacedRule}
use Rattle.trs_defs.proofs.Substitutions.{apply_apply, same_instance}
use Rattle.confluence_theory.proofs.Apart.{part_variable, renumbered}
use Rattle.loop_find.proofs.crit_pairs.InstanceVariables.{replaced_instance}
use Rattle.loop_find.specs.Closures.{Closure, IsNarrowing, IsNarrowed}
use Rattle.text_determinism.proofs.Renamed.{named, not_moved}
use Rattle.text_determinism.proofs.Bounds.{above, is_below, joined, joined_low, joined_high, number_of, number_back}
use Rattle.text_determinism.proofs.Variants.{AreVariants, variants_by}
use Rattle.text_determinism.proofs.VariantNarrowings.{variant_narrows}

-- one substitution leads from two terms to two others
record Leads (l r l' r' : Tree) : Type 0 where
  by : ℕ → Tree
  left : apply by l ≡ l'
  right : apply by r ≡ r'

module _ (rule : RewriteRule) (place : List ℕ) (left right l r l' r' : Tree) (h : IsNarrowing rule place left right l r)
    (k : IsNarrowing rule place left right l' r') where
  -- the unifier of k, for the offset of h
  abbrev moved : ℕ → Tree
  moved = joined h.offset k.unifier (λ x. k.unifier (k.offset + x))

  at_high : (x : ℕ) → moved (h.offset + x) ≡ k.unifier (k.offset + x)
  at_high x = joined_high h.offset k.unifier (λ y. k.unifier (k.offset + y)) x

  moved_low : (t : Tree) → ((v : ℕ) → IsTrue (has_var v t) → v < h.offset) → apply moved t ≡ apply k.unifier t
  moved_low t low = same_instance moved k.unifier t (λ v i. joined_low h.offset k.unifier (λ x. k.unifier (k.offset + x)) v (low v i))

  moved_rule : (t : Tree) → apply moved (shifted h.offset t) ≡ apply k.unifier (shifted k.offset t)
  moved_rule t =
      apply_apply moved (λ v. var (h.offset + v)) t
      ∙ (same_instance (λ v. moved (h.offset + v)) (λ v. k.unifier (k.offset + v)) t (λ v i. at_high v)
      ∙ sym (apply_apply k.unifier (λ v. var (k.offset + v)) t))

  moved_unifies : apply moved h.part ≡ apply moved (shifted h.offset rule.left)
  moved_unifies =
      let same : h.part ≡ k.part = same_Some h.part k.part (sym h.there ∙ k.there) in
      moved_low h.part (λ v i. h.right_apart v (part_variable place right h.part v h.there i))
      ∙ (ap (apply k.unifier) same ∙ (k.most_general.unifies ∙ sym (moved_rule rule.left)))

  moved_result : apply moved h.result ≡ apply k.unifier k.result
  moved_result =
      replaced_instance moved k.unifier place right (shifted h.offset rule.right) (shifted k.offset rule.right) h.result k.result
      h.replaced k.replaced (moved_low right h.right_apart) (moved_rule rule.right)

  -- the numbers that the variables of the new sides had are undone
  abbrev among : ℕ → Bool
  among v = has_var v l' || has_var v r'

  abbrev number : ℕ → ℕ
  number x = number_of k.names among (max (above l') (above r')) x

  among_low : (v : ℕ) → IsTrue (among v) → v < max (above l') (above r')
  among_low v i = elim (or_cases (has_var v l') (has_var v r') i) [
    | inl j ↦ omega (arith, is_below v l' j)
    | inr j ↦ omega (arith, is_below v r' j)
  ]

  undone : (v : ℕ) → IsTrue (among v) → number (k.names v) ≡ v
  undone v i = number_back k.names among k.different (max (above l') (above r')) v (among_low v i) i

  back : (t : Tree) → ((v : ℕ) → IsTrue (has_var v t) → IsTrue (among v)) → named number (named k.names t) ≡ t
  back t all =
      apply_apply (λ v. var (number v)) (λ v. var (k.names v)) t
      ∙ not_moved (λ v. var (number (k.names v))) t (λ v i. ap var (undone v (all v i)))

  numbered : (δ : ℕ → Tree) (t u : Tree) → apply (λ v. δ (h.names v)) t ≡ named k.names u → ((v : ℕ) → IsTrue (has_var v u) → IsTrue (among v))
      → apply (λ v. named number (δ (h.names v))) t ≡ u
  numbered δ t u e all = sym (apply_apply (λ v. var (number v)) (λ v. δ (h.names v)) t) ∙ (ap (named number) e ∙ back u all)

  narrowing_leads : Leads l r l' r'
  narrowing_leads =
      let (δ, is) = h.most_general.most_general moved moved_unifies in
      let l_is : apply (λ v. δ (h.names v)) l ≡ named k.names l' =
      sym (renumbered moved δ h.unifier h.names left l is h.left_is) ∙ (moved_low left h.left_apart ∙ k.left_is) in
      let r_is : apply (λ v. δ (h.names v)) r ≡ named k.names r' =
      sym (renumbered moved δ h.unifier h.names h.result r is h.right_is) ∙ (moved_result ∙ k.right_is) in
      record {
        by = λ v. named number (δ (h.names v));
        left = numbered δ l l' l_is (λ v i. or_left (has_var v l') (has_var v r') i);
        right = numbered δ r r' r_is (λ v i. or_right (has_var v l') (has_var v r') i);
      }

module _ (rules : List RewriteRule) (c d : Closure) (v : AreVariants c d) (at : PlacedRule) where
  -- a variant is narrowed to the same sides
  pub narrowed_too : (e : Closure) → IsNarrowed rules c at e
      → IsNarrowed rules d at (record { left = e.left; right = e.right; path = d.path ++ at ∷ [] })
  narrowed_too e h = record {
    rule = h.rule;
    numbered = h.numbered;
    narrowing = variant_narrows h.rule at.place c d v e.left e.right h.narrowing;
    path = refl;
  }

  pub narrowed_variants : (e f : Closure) → IsNarrowed rules c at e → IsNarrowed rules d at f → AreVariants e f
  narrowed_variants e f h k =
      let same : k.rule ≡ h.rule = same_Some k.rule h.rule (sym k.numbered ∙ h.numbered) in
      let first : IsNarrowing h.rule at.place d.left d.right e.left e.right = variant_narrows h.rule at.place c d v e.left e.right h.narrowing in
      let second : IsNarrowing h.rule at.place d.left d.right f.left f.right =
      subst (λ z. IsNarrowing z at.place d.left d.right f.left f.right) same k.narrowing in
      let there = narrowing_leads h.rule at.place d.left d.right e.left e.right f.left f.right first second in
      let back = narrowing_leads h.rule at.place d.left d.right f.left f.right e.left e.right second first in
      variants_by e f there.by back.by there.left there.right back.left back.right (h.path ∙ (ap (λ p. p ++ at ∷ []) v.path ∙ sym k.path))
