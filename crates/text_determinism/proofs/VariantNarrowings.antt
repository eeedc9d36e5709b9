-- A narrowing of a closure is one of its variants too.
use Rattle.std.specs.Prelude.{◌≡◌, ◌<◌, ◌⊎◌, ℕ, ◌+◌, ◌-◌, max, Bool, ◌||◌, List, Some, IsTrue}
use Rattle.std.proofs.Common.{ap, sym, ◌∙◌, subst, inl, inr, arith}
use Rattle.std.proofs.lemmas.Option.{same_Some}
use Rattle.std.proofs.lemmas.Bool.{or_left, or_right, or_cases}
use native.Mathlib.Decide.{dec_lt}
use Rattle.trs_defs.specs.Tree.{Tree, var}
use Rattle.trs_defs.specs.Variable.{has_var}
use Rattle.trs_defs.specs.Substitution.{apply}
use Rattle.trs_defs.specs.Position.{subterm_at, replaced_at}
use Rattle.trs_defs.specs.Renaming.{shifted}
use Rattle.trs_defs.specs.Unifier.{IsMostGeneralUnifier}
use Rattle.trs_defs.specs.System.{RewriteRule}
use Rattle.trs_defs.proofs.Substitutions.{apply_apply, same_instance}
use Rattle.trs_defs.proofs.VariableLaws.{has_var_same, has_var_self}
use Rattle.trs_defs.proofs.Contexts.{replaced_somehow}
use Rattle.confluence_theory.proofs.Apart.{part_variable}
use Rattle.loop_find.proofs.crit_pairs.InstanceVariables.{into_instance, of_instance, replaced_variable}
use Rattle.loop_find.specs.Closures.{Closure, IsNarrowing}
use Rattle.trs_defs.proofs.InstancePlaces.{subterm_image, replaced_image}
use Rattle.text_determinism.proofs.Renamed.{named}
use Rattle.text_determinism.proofs.Bounds.{above, is_below, joined, joined_low, joined_high}
use Rattle.text_determinism.proofs.Unifiers.{moved, moved_instance, moved_most_general}
use Rattle.text_determinism.proofs.Variants.{AreVariants, occurs_in, there_again}

module _ (rule : RewriteRule) (place : List ℕ) (c d : Closure) (v : AreVariants c d) (l r : Tree)
    (h : IsNarrowing rule place c.left c.right l r) where
  abbrev offset : ℕ
  offset = max (above d.left) (above d.right)

  occurs_low : (x : ℕ) → IsTrue (occurs_in d x) → x < offset
  occurs_low x k = elim (or_cases (has_var x d.left) (has_var x d.right) k) [
    | inl i ↦ omega (arith, is_below x d.left i)
    | inr i ↦ omega (arith, is_below x d.right i)
  ]

  abbrev of_rule : ℕ → Bool
  of_rule x = has_var x rule.left || has_var x rule.right

  -- the variables of d, and from the offset on those of the rule, with their old and their new numbers
  abbrev among : ℕ → Bool
  among = joined offset (occurs_in d) of_rule

  abbrev old : ℕ → ℕ
  old = joined offset v.back (λ x. h.offset + x)

  abbrev new : ℕ → ℕ
  new = joined h.offset v.to (λ x. offset + x)

  abbrev bound : ℕ
  bound = offset + max (above rule.left) (above rule.right)

  among_low : (x : ℕ) → IsTrue (occurs_in d x) → IsTrue (among x)
  among_low x k = joined_low offset (occurs_in d) of_rule x (occurs_low x k) ∙ k

  among_high : (x : ℕ) → IsTrue (of_rule x) → IsTrue (among (offset + x))
  among_high x k = joined_high offset (occurs_in d) of_rule x ∙ k

  among_cases : (x : ℕ) → IsTrue (among x) → IsTrue (occurs_in d x) ⊎ ((y : ℕ) × (x ≡ offset + y) × IsTrue (of_rule y))
  among_cases x k = elim (dec_lt x offset) [
    | yes low ↦ inl (sym (joined_low offset (occurs_in d) of_rule x low) ∙ k)
    | no high ↦
        let e : x ≡ offset + (x - offset) = omega (arith, high) in
        inr (x - offset, e, sym (joined_high offset (occurs_in d) of_rule (x - offset)) ∙ subst (λ z. IsTrue (among z)) e k)
  ]

  below_bound : (x : ℕ) → IsTrue (among x) → x < bound
  below_bound x k = elim (among_cases x k) [
    | inl i ↦ omega (arith, occurs_low x i)
    | inr i ↦ elim (or_cases (has_var i.0 rule.left) (has_var i.0 rule.right) i.2) [
      | inl j ↦ omega (arith, i.1, is_below i.0 rule.left j)
      | inr j ↦ omega (arith, i.1, is_below i.0 rule.right j)
    ]
  ]

  -- a variable of d has a name that occurs in c
  name_low : (x : ℕ) → IsTrue (occurs_in d x) → v.back x < h.offset
  name_low x k = elim (or_cases (has_var x d.left) (has_var x d.right) k) [
    | inl i ↦ h.left_apart (v.back x) (subst (λ t. IsTrue (has_var (v.back x) t)) v.left_back
        (into_instance (λ y. var (v.back y)) (v.back x) d.left x i (has_var_self (v.back x))))
    | inr i ↦ h.right_apart (v.back x) (subst (λ t. IsTrue (has_var (v.back x) t)) v.right_back
        (into_instance (λ y. var (v.back y)) (v.back x) d.right x i (has_var_self (v.back x))))
  ]

  old_low : (x : ℕ) → IsTrue (occurs_in d x) → old x ≡ v.back x
  old_low x k = joined_low offset v.back (λ y. h.offset + y) x (occurs_low x k)

  old_high : (x : ℕ) → old (offset + x) ≡ h.offset + x
  old_high x = joined_high offset v.back (λ y. h.offset + y) x

  undone : (x : ℕ) → IsTrue (among x) → new (old x) ≡ x
  undone x k = elim (among_cases x k) [
    | inl i ↦ ap new (old_low x i) ∙ (joined_low h.offset v.to (λ y. offset + y) (v.back x) (name_low x i) ∙ there_again c d v x i)
    | inr i ↦ ap (λ z. new (old z)) i.1 ∙ (ap new (old_high i.0) ∙ (joined_high h.offset v.to (λ y. offset + y) i.0 ∙ sym i.1))
  ]

  -- ---- terms with their old names

  old_side : (t : Tree) → ((x : ℕ) → IsTrue (has_var x t) → IsTrue (occurs_in d x)) → named old t ≡ named v.back t
  old_side t all = same_instance (λ x. var (old x)) (λ x. var (v.back x)) t (λ x k. ap var (old_low x (all x k)))

  old_rule : (t : Tree) → named old (shifted offset t) ≡ shifted h.offset t
  old_rule t =
      apply_apply (λ x. var (old x)) (λ x. var (offset + x)) t
      ∙ same_instance (λ x. var (old (offset + x))) (λ x. var (h.offset + x)) t (λ x k. ap var (old_high x))

  rule_among : (t : Tree) → ((x : ℕ) → IsTrue (has_var x t) → IsTrue (of_rule x))
      → (x : ℕ) → IsTrue (has_var x (shifted offset t)) → IsTrue (among x)
  rule_among t all x k =
      let (y, there, at) = of_instance (λ z. var (offset + z)) x t k in
      subst (λ z. IsTrue (among z)) (has_var_same x (offset + y) at) (among_high y (all y there))

  in_left : (x : ℕ) → IsTrue (has_var x d.left) → IsTrue (occurs_in d x)
  in_left x k = or_left (has_var x d.left) (has_var x d.right) k

  in_right : (x : ℕ) → IsTrue (has_var x d.right) → IsTrue (occurs_in d x)
  in_right x k = or_right (has_var x d.left) (has_var x d.right) k

  -- ---- the narrowing

  abbrev new_part : Tree
  new_part = named v.to h.part

  part_there : subterm_at place d.right ≡ Some new_part
  part_there = ap (subterm_at place) (sym v.right_to) ∙ subterm_image (λ x. var (v.to x)) place c.right h.part h.there

  in_part : (x : ℕ) → IsTrue (has_var x new_part) → IsTrue (occurs_in d x)
  in_part x k = in_right x (part_variable place d.right new_part x part_there k)

  old_part : named old new_part ≡ h.part
  old_part =
      let at : subterm_at place c.right ≡ Some (named v.back new_part) =
      ap (subterm_at place) (sym v.right_back) ∙ subterm_image (λ x. var (v.back x)) place d.right new_part part_there in
      old_side new_part in_part ∙ same_Some (named v.back new_part) h.part (sym at ∙ h.there)

  abbrev unifier : ℕ → Tree
  unifier = moved h.unifier old new among bound below_bound undone

  part_among : (x : ℕ) → IsTrue (has_var x new_part) → IsTrue (among x)
  part_among x k = among_low x (in_part x k)

  left_among : (x : ℕ) → IsTrue (has_var x (shifted offset rule.left)) → IsTrue (among x)
  left_among = rule_among rule.left (λ x k. or_left (has_var x rule.left) (has_var x rule.right) k)

  most_general : IsMostGeneralUnifier new_part (shifted offset rule.left) unifier
  most_general =
      let first : IsMostGeneralUnifier (named old new_part) (shifted h.offset rule.left) h.unifier =
      subst (λ t. IsMostGeneralUnifier t (shifted h.offset rule.left) h.unifier) (sym old_part) h.most_general in
      let both : IsMostGeneralUnifier (named old new_part) (named old (shifted offset rule.left)) h.unifier =
      subst (λ t. IsMostGeneralUnifier (named old new_part) t h.unifier) (sym (old_rule rule.left)) first in
      moved_most_general h.unifier old new among bound below_bound undone new_part (shifted offset rule.left) part_among left_among both

  new_result : (u : Tree) × (replaced_at place d.right (shifted offset rule.right) ≡ Some u)
  new_result = replaced_somehow place d.right new_part (shifted offset rule.right) part_there

  result_among : (x : ℕ) → IsTrue (has_var x new_result.0) → IsTrue (among x)
  result_among x k = elim (replaced_variable place d.right (shifted offset rule.right) new_result.0 x new_result.1 k) [
    | inl i ↦ among_low x (in_right x i)
    | inr i ↦ rule_among rule.right (λ y j. or_right (has_var y rule.left) (has_var y rule.right) j) x i
  ]

  old_right : named old d.right ≡ c.right
  old_right = old_side d.right in_right ∙ v.right_back

  old_result : named old new_result.0 ≡ h.result
  old_result =
      let put : replaced_at place (named old d.right) (named old (shifted offset rule.right)) ≡ Some (named old new_result.0) =
      replaced_image (λ x. var (old x)) place d.right (shifted offset rule.right) new_result.0 new_result.1 in
      let first : replaced_at place c.right (named old (shifted offset rule.right)) ≡ Some (named old new_result.0) =
      subst (λ t. replaced_at place t (named old (shifted offset rule.right)) ≡ Some (named old new_result.0)) old_right put in
      let both : replaced_at place c.right (shifted h.offset rule.right) ≡ Some (named old new_result.0) =
      subst (λ t. replaced_at place c.right t ≡ Some (named old new_result.0)) (old_rule rule.right) first in
      same_Some (named old new_result.0) h.result (sym both ∙ h.replaced)

  instance_is : (t u : Tree) → ((x : ℕ) → IsTrue (has_var x t) → IsTrue (among x)) → named old t ≡ u → apply unifier t ≡ apply h.unifier u
  instance_is t u all e = moved_instance h.unifier old new among bound below_bound undone t all ∙ ap (apply h.unifier) e

  pub variant_narrows : IsNarrowing rule place d.left d.right l r
  variant_narrows = record {
    part = new_part;
    there = part_there;
    offset = offset;
    left_apart = λ x k. occurs_low x (in_left x k);
    right_apart = λ x k. occurs_low x (in_right x k);
    unifier = unifier;
    most_general = most_general;
    result = new_result.0;
    replaced = new_result.1;
    names = h.names;
    left_is = instance_is d.left c.left (λ x k. among_low x (in_left x k)) (old_side d.left in_left ∙ v.left_back) ∙ h.left_is;
    right_is = instance_is new_result.0 h.result result_among old_result ∙ h.right_is;
    different = h.different;
  }
