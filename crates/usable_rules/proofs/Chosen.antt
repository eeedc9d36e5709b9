-- The usable rules, as they are chosen by their numbers.
use Rattle.std.proofs.Common.{◌≡◌, ◌<◌, ℕ, List, [], ◌∷◌, length, map, zip, All, get_or, Some, Result, slice_get, true, IsTrue, inl, inr, refl, sym, ap, subst, ◌∙◌, arith}
use Rattle.std.proofs.lemmas.Option.{slice_get-get_or, slice_get_within, same_Some}
use Rattle.trs_defs.specs.Member.{In, in_first, in_rest}
use Rattle.trs_defs.proofs.Members.{in_or, no_in, in_of_get, get_of_in}
use Rattle.trs_defs.specs.Tree.{Tree, Trees, var, app}
use Rattle.trs_defs.specs.System.{RewriteRule, Among, IsDefined, is_defined}
use Rattle.trs_defs.proofs.ListItems.{cons_parts}
use Rattle.pair_theory.specs.DependencyPair.{DependencyPair}
use Rattle.pair_theory.proofs.PairList.{defined_true, true_defined}
use Rattle.order_theory.specs.UsableRules.{IsUsable, in_pair, in_rule, HasUsable, root_in}
use Rattle.rewrite_core.specs.declared.checks.refusals.StepRefused.{StepRefused}
use Rattle.rewrite_core.specs.Check.{HasOneAnswer}
use Rattle.dp_core.specs.Numbered.{AreItemsOf}
use Rattle.dp_core.proofs.Conclusions.{same_pairs}
use Rattle.usable_rules.specs.AreUsable.{IsUsableRule, Ascends, number, AreUsableRules}
use Rattle.usable_rules.specs.UsableConditions.{TakesUsableRules, usable_taken}

-- ---- items by their numbers

module _ {A : Type 0} (all : List A) where
  item_chosen : (numbers : List ℕ) (chosen : List A) → AreItemsOf all numbers chosen → (k : ℕ) (x : A) → In k numbers → slice_get all k ≡ Some x → In (k, x) (zip numbers chosen)
  item_chosen [] chosen are k x i e = absurd (no_in i)
  item_chosen (n ∷ numbers) [] are k x i e = absurd cc
  item_chosen (n ∷ numbers) (y ∷ chosen) are k x i e =
      let h = cons_parts (slice_get all n) (Some y) (map (slice_get all) numbers) (map (λ z. Some z) chosen) are in
      elim (in_or i) [
        | inl same ↦
            let item : y ≡ x = same_Some y x (sym h.0 ∙ (ap (slice_get all) (sym same) ∙ e)) in
            let pair : (n, y) ≡ (k, x) = cc in
            subst (λ z. In (k, x) (z ∷ zip numbers chosen)) (sym pair) in_first
        | inr later ↦ in_rest (item_chosen numbers chosen h.1 k x later e)
      ]

  number_of_chosen : (numbers : List ℕ) (chosen : List A) → AreItemsOf all numbers chosen → (x : A) → In x chosen → (k : ℕ) × In k numbers × (slice_get all k ≡ Some x)
  number_of_chosen [] [] are x i = absurd (no_in i)
  number_of_chosen [] (y ∷ chosen) are x i = absurd cc
  number_of_chosen (n ∷ numbers) [] are x i = absurd (no_in i)
  number_of_chosen (n ∷ numbers) (y ∷ chosen) are x i =
      let h = cons_parts (slice_get all n) (Some y) (map (slice_get all) numbers) (map (λ z. Some z) chosen) are in
      elim (in_or i) [
        | inl same ↦ (n, in_first, h.0 ∙ ap (λ z. Some z) (sym same))
        | inr later ↦ let r = number_of_chosen numbers chosen h.1 x later in (r.0, in_rest r.1, r.2)
      ]

second_in : {A B : Type 0} (xs : List A) (ys : List B) (x : A) (y : B) → In (x, y) (zip xs ys) → In y ys
second_in [] ys x y i = absurd (no_in i)
second_in (u ∷ xs) [] x y i = absurd (no_in i)
second_in {A = A} {B = B} (u ∷ xs) (v ∷ ys) x y i = elim (in_or i) [
  | inl same ↦ subst (λ z. In y (z ∷ ys)) (ap (λ (p : A × B). p.1) same) in_first
  | inr later ↦ in_rest (second_in xs ys x y later)
]

root_same : (f g : ℕ) (ts us : Trees) → app f ts ≡ app g us → f ≡ g
root_same f g ts us e = cc

-- ---- the usable rules

module _ (rules : List RewriteRule) (pairs : List DependencyPair) (numbers : List ℕ) (chosen : List RewriteRule) (usable : AreUsableRules rules pairs numbers)
    (are : AreItemsOf rules numbers chosen) where
  usable_chosen : (f : ℕ) (ls : Trees) (r : Tree) → IsUsable rules pairs f → Among rules (app f ls) r
      → (k : ℕ) × In (k, record { left = app f ls; right = r }) (zip numbers chosen)
  usable_chosen f ls r u i =
      let n = get_of_in i in
      let is : IsUsableRule rules pairs n.0 = record { root = f; args = ls; right = r; numbered = n.1; usable = u } in
      (n.0, item_chosen rules numbers chosen are n.0 (record { left = app f ls; right = r }) ((usable.exact n.0).1 is) n.1)

  used_defined : (g : ℕ) → IsUsable rules pairs g → IsDefined (Among rules) g → is_defined chosen g ≡ true
  used_defined g u d =
      let n = usable_chosen g d.0 d.1 u d.2 in
      defined_true chosen g (d.0, d.1, second_in numbers chosen n.0 (record { left = app g d.0; right = d.1 }) n.1)

  defined_used : (g : ℕ) → is_defined chosen g ≡ true → IsUsable rules pairs g
  defined_used g e =
      let d = true_defined chosen g e in
      let n = number_of_chosen rules numbers chosen are (record { left = app g d.0; right = d.1 }) d.2 in
      let u = (usable.exact n.0).0 n.1 in
      let same = same_Some (record { left = app u.root u.args; right = u.right }) (record { left = app g d.0; right = d.1 }) (sym u.numbered ∙ n.2) in
      let sides : app u.root u.args ≡ app g d.0 = ap (λ (r : RewriteRule). r.left) same in
      subst (IsUsable rules pairs) (root_same u.root g u.args d.0 sides) u.usable

  pub chosen_has_usable : HasUsable rules pairs (is_defined chosen)
  chosen_has_usable = record {
    of_pairs = λ p g us i s d. used_defined g (in_pair p g us i s d) d;
    of_rules = λ f g ls us r u a s d. used_defined g (in_rule f g ls us r (defined_used f u) a s d) d;
  }

  pub rooted_chosen : (l r : Tree) → Among rules l r → IsTrue (root_in (is_defined chosen) l) → (k : ℕ) × In (k, record { left = l; right = r }) (zip numbers chosen)
  rooted_chosen (var x) r i u = absurd cc
  rooted_chosen (app f ls) r i u = usable_chosen f ls r (defined_used f u) i

-- the numbers are numbers of rules
pub usable_within : (rules : List RewriteRule) (pairs : List DependencyPair) (numbers : List ℕ) → AreUsableRules rules pairs numbers → All (λ k. k < length rules) numbers
usable_within rules pairs numbers usable i d within =
    let k = get_or numbers i d in
    let u = (usable.exact k).0 (in_of_get numbers i k (slice_get-get_or numbers i d within)) in
    slice_get_within rules k (record { left = app u.root u.args; right = u.right }) u.numbered

-- ---- there is one list of them

same_ascending : (xs ys : List ℕ) → Ascends xs → Ascends ys → ((k : ℕ) → In k xs → In k ys) → ((k : ℕ) → In k ys → In k xs) → xs ≡ ys
same_ascending [] [] a b to back = refl
same_ascending [] (y ∷ ys) a b to back = absurd (no_in (back y in_first))
same_ascending (x ∷ xs) [] a b to back = absurd (no_in (to x in_first))
same_ascending (x ∷ xs) (y ∷ ys) (number _ _ below a) (number _ _ under b) to back =
    let first : x ≡ y = elim (in_or (to x in_first)) [
      | inl same ↦ same
      | inr later ↦ elim (in_or (back y in_first)) [ inl same ↦ sym same | inr behind ↦ absurd (omega (arith, under x later, below y behind)) ]
    ] in
    let rest : xs ≡ ys = same_ascending xs ys a b
    (λ k i. elim (in_or (to k (in_rest i))) [ inl same ↦ absurd (omega (arith, below k i, first, same)) | inr later ↦ later ])
    (λ k i. elim (in_or (back k (in_rest i))) [ inl same ↦ absurd (omega (arith, under k i, first, same)) | inr later ↦ later ]) in
    cc

taken_same : (rules : List RewriteRule) (pairs : List DependencyPair) (a b : Result (List ℕ × List RewriteRule) StepRefused)
    → TakesUsableRules rules pairs a → TakesUsableRules rules pairs b → a ≡ b
taken_same rules pairs _ _ (usable_taken ns xs h are) (usable_taken ms ys k others) =
    let numbers : ns ≡ ms = same_ascending ns ms h.ascending k.ascending (λ n i. (k.exact n).1 ((h.exact n).0 i)) (λ n i. (h.exact n).1 ((k.exact n).0 i)) in
    let items : xs ≡ ys = same_pairs xs ys (sym are ∙ (ap (map (slice_get rules)) numbers ∙ others)) in
    cc

pub takes_usable_once : (rules : List RewriteRule) (pairs : List DependencyPair) → HasOneAnswer (TakesUsableRules rules pairs)
takes_usable_once rules pairs = record { once = taken_same rules pairs }
