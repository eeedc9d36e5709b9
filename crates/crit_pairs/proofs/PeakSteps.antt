-- The two steps of a critical peak, from its top.
use Rattle.std.specs.Prelude.{◌≡◌, ◌<◌, ℕ, ◌+◌, Bool, true, false, cond, ◌&&◌, ◌||◌, ◌==◌, max, List, [], Some, IsTrue, slice_get, refl}
use Rattle.std.proofs.Common.{zero, suc, ap, sym, ◌∙◌, subst, arith, inl, inr}
use Rattle.std.proofs.lemmas.Bool.Decides.{nat_tests}
use Rattle.std.proofs.lemmas.Bool.{or_left, or_right, or_cases, eqb-true}
use Rattle.trs_defs.specs.Tree.{Tree, var}
use Rattle.trs_defs.specs.Variable.{has_var}
use Rattle.trs_defs.specs.Renaming.{shifted}
use Rattle.trs_defs.specs.Substitution.{apply}
use Rattle.trs_defs.specs.Position.{subterm_at, replaced_at}
use Rattle.trs_defs.specs.Path.{StepsAt}
use Rattle.trs_defs.specs.System.{RewriteRule}
use Rattle.trs_defs.proofs.Substitutions.{apply_apply, same_instance}
use Rattle.trs_caps.proofs.CapLaws.{variable_bound, below_bound}
use Rattle.confluence_theory.specs.Peak.{Peak}
use Rattle.confluence_theory.specs.CriticalPeak.{occurs_in_peak, IsCriticalPeak}
use Rattle.trs_defs.proofs.NamedTerms.{unchanged}
use Rattle.trs_defs.proofs.InstancePlaces.{subterm_image, replaced_image}

-- the variable that had a name
module _ (peak : Peak) (names : ℕ → ℕ)
    (different : (v w : ℕ) → IsTrue (occurs_in_peak v peak) → IsTrue (occurs_in_peak w peak) → names v ≡ names w → v ≡ w) where
  abbrev has_name : ℕ → ℕ → Bool
  has_name v n = occurs_in_peak v peak && names v == n

  abbrev named_below : ℕ → ℕ → ℕ
  named_below zero n = 0
  named_below (suc k) n = cond (has_name k n) k (named_below k n)

  both : (a b : Bool) → (a && b) ≡ true → (a ≡ true) × (b ≡ true)
  both true b h = (refl, h)
  both false b h = absurd cc

  equal_itself : (n : ℕ) → (n == n) ≡ true
  equal_itself n = grind (arith, nat_tests)

  finds_case : (k v : ℕ) (b : Bool) → has_name k (names v) ≡ b → IsTrue (occurs_in_peak v peak) → v < suc k → (v < k → named_below k (names v) ≡ v)
      → cond b k (named_below k (names v)) ≡ v
  finds_case k v true test occurs l later =
      let h = both (occurs_in_peak k peak) (names k == names v) test in
      different k v h.0 occurs (eqb-true (names k) (names v) h.1)
  finds_case k v false test occurs l later = later (other_case (v == k) refl)
    where
      other_case : (b : Bool) → (v == k) ≡ b → v < k
      other_case true e =
          let same : v ≡ k = eqb-true v k e in
          let here : has_name k (names v) ≡ true = subst (λ w. has_name w (names v) ≡ true) same (rw (occurs, equal_itself (names v)) refl) in
          absurd cc
      other_case false e = grind (arith, nat_tests)

  finds : (k v : ℕ) → IsTrue (occurs_in_peak v peak) → v < k → named_below k (names v) ≡ v
  finds zero v occurs l = absurd (omega (arith, l))
  finds (suc k) v occurs l = finds_case k v (has_name k (names v)) refl occurs l (finds k v occurs)

  abbrev bound : ℕ
  bound = max (variable_bound peak.top) (max (variable_bound peak.left) (variable_bound peak.right))

  occurs_below : (v : ℕ) → IsTrue (occurs_in_peak v peak) → v < bound
  occurs_below v h = elim (or_cases (has_var v peak.top) (has_var v peak.left || has_var v peak.right) h) as (λ _. v < bound) [
    | inl t ↦ (let b = below_bound peak.top v t in omega (arith, b))
    | inr k ↦ elim (or_cases (has_var v peak.left) (has_var v peak.right) k) as (λ _. v < bound) [
      | inl l ↦ (let b = below_bound peak.left v l in omega (arith, b))
      | inr r ↦ (let b = below_bound peak.right v r in omega (arith, b))
    ]
  ]

  abbrev back : ℕ → Tree
  back n = var (named_below bound n)

  named_back : (t : Tree) → ((v : ℕ) → IsTrue (has_var v t) → IsTrue (occurs_in_peak v peak)) → apply back (apply (λ v. var (names v)) t) ≡ t
  named_back t inside =
      apply_apply back (λ v. var (names v)) t
      ∙ (same_instance (λ v. back (names v)) (λ v. var v) t (λ v h. ap var (finds bound v (inside v h) (occurs_below v (inside v h)))) ∙ unchanged t)

-- the inner rule leads from the top to the left at the place, and the outer one to the right at the root
pub record HasSteps (rules : List RewriteRule) (inner outer : ℕ) (p : List ℕ) (peak : Peak) : Type 0 where
  pub to_left : StepsAt rules p inner peak.top peak.left
  pub to_right : StepsAt rules [] outer peak.top peak.right

module _ (rules : List RewriteRule) (inner outer : RewriteRule) (i j : ℕ) (p : List ℕ) (peak : Peak)
    (inner_numbered : slice_get rules i ≡ Some inner) (outer_numbered : slice_get rules j ≡ Some outer) (h : IsCriticalPeak inner outer p peak) where
  in_top : (v : ℕ) → IsTrue (has_var v peak.top) → IsTrue (occurs_in_peak v peak)
  in_top v t = or_left (has_var v peak.top) (has_var v peak.left || has_var v peak.right) t

  in_left : (v : ℕ) → IsTrue (has_var v peak.left) → IsTrue (occurs_in_peak v peak)
  in_left v l = or_right (has_var v peak.top) (has_var v peak.left || has_var v peak.right) (or_left (has_var v peak.left) (has_var v peak.right) l)

  in_right : (v : ℕ) → IsTrue (has_var v peak.right) → IsTrue (occurs_in_peak v peak)
  in_right v r = or_right (has_var v peak.top) (has_var v peak.left || has_var v peak.right) (or_right (has_var v peak.left) (has_var v peak.right) r)

  abbrev undo : ℕ → Tree
  undo = back peak h.names h.different

  -- the unifier, and the variables renumbered as in the peak
  abbrev renumbered : ℕ → Tree
  renumbered v = apply undo (h.unifier v)

  -- an instance by the unifier that is a renamed term of the peak
  is_term : (t u : Tree) → apply h.unifier t ≡ apply (λ v. var (h.names v)) u → ((v : ℕ) → IsTrue (has_var v u) → IsTrue (occurs_in_peak v peak)) → apply renumbered t ≡ u
  is_term t u e inside = sym (apply_apply undo h.unifier t) ∙ (ap (apply undo) e ∙ named_back peak h.names h.different u inside)

  abbrev inner_instance : ℕ → Tree
  inner_instance v = renumbered (h.offset + v)

  shifted_instance : (t : Tree) → apply renumbered (shifted h.offset t) ≡ apply inner_instance t
  shifted_instance t = apply_apply renumbered (λ v. var (h.offset + v)) t

  part_is : apply renumbered h.part ≡ apply inner_instance inner.left
  part_is =
      sym (apply_apply undo h.unifier h.part)
      ∙ (ap (apply undo) h.most_general.unifies ∙ (apply_apply undo h.unifier (shifted h.offset inner.left) ∙ shifted_instance inner.left))

  pub peak_steps : HasSteps rules i j p peak
  peak_steps =
      let top : apply renumbered outer.left ≡ peak.top = is_term outer.left peak.top h.top in_top in
      let left : apply renumbered h.reduct ≡ peak.left = is_term h.reduct peak.left h.left in_left in
      let right : apply renumbered outer.right ≡ peak.right = is_term outer.right peak.right h.right in_right in
      let F : Tree → Type 0 = λ t. subterm_at p t ≡ Some (apply inner_instance inner.left) in
      let T : Tree → Tree → Type 0 = λ t u. replaced_at p t (apply inner_instance inner.right) ≡ Some u in
      let there : subterm_at p (apply renumbered outer.left) ≡ Some (apply inner_instance inner.left) =
      subterm_image renumbered p outer.left h.part h.there ∙ ap (λ z. Some z) part_is in
      let put : replaced_at p (apply renumbered outer.left) (apply inner_instance inner.right) ≡ Some (apply renumbered h.reduct) =
      ap (replaced_at p (apply renumbered outer.left)) (sym (shifted_instance inner.right)) ∙ replaced_image renumbered p outer.left (shifted h.offset inner.right) h.reduct h.replaced in
      record {
        to_left = record {
          rule = inner;
          numbered = inner_numbered;
          substitution = inner_instance;
          from = subst F top there;
          to = subst (λ u. T peak.top u) left (subst (λ t. T t (apply renumbered h.reduct)) top put);
        };
        to_right = record {
          rule = outer;
          numbered = outer_numbered;
          substitution = renumbered;
          from = ap (λ z. Some z) (sym top);
          to = ap (λ z. Some z) right;
        };
      }
