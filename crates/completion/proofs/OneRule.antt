-- What becomes of a pair is one thing: its normal forms make one new rule, or are one pair with no order.
use Rattle.std.proofs.Common.{◌≡◌, ℕ, zero, suc, inl, inr, sym, ap, subst, ◌∙◌, List, [], ◌∷◌, IsTrue}
use Rattle.trs_defs.specs.Tree.{Tree, var, app, nil, cons}
use Rattle.trs_defs.specs.Variable.{has_var, variables_of, with_variables}
use Rattle.trs_defs.specs.Substitution.{apply}
use Rattle.trs_defs.specs.Member.{In, in_first, in_rest}
use Rattle.trs_defs.specs.System.{RewriteRule, System}
use Rattle.trs_defs.specs.Step.{Step, here}
use Rattle.trs_defs.specs.Bounded.{IsBoundedBy}
use Rattle.trs_defs.proofs.Members.{in_or, no_in}
use Rattle.trs_defs.proofs.Substitutions.{apply_apply}
use Rattle.trs_unify.proofs.ListedVariables.{listed_get, nothing_new}
use Rattle.crit_pairs.specs.PeakList.{IsCount}
use Rattle.trs_defs.proofs.NamedTerms.{unchanged}
use Rattle.crit_pairs.proofs.Variants.{Paired, Swaps, pair, paired_equal, numbered_alike, among_variables}
use Rattle.completion.specs.ReductionOrder.{GoesDown, IsReductionOrder}
use Rattle.completion.specs.Orienting.{AreVariants, IsNewRule, IsOriented}
use Rattle.completion.specs.Conversion.{backwards}
use Rattle.completion.proofs.SoundRules.{IsSoundPair, new_rule_sound}

-- ---- variants that are numbered in order

-- two terms as one
abbrev as_one : Tree → Tree → Tree
as_one l r = app 0 (cons l (cons r nil))

one_to_other : (names back : ℕ → ℕ) (s l k : Tree) → apply (λ v. var (names v)) l ≡ s → apply (λ v. var (back v)) s ≡ k → apply (λ v. var (back (names v))) l ≡ k
one_to_other names back s l k from to =
    sym (apply_apply (λ v. var (back v)) (λ v. var (names v)) l) ∙ (ap (apply (λ v. var (back v))) from ∙ to)

module _ (s t l r k q : Tree) (a : AreVariants s t l r) (b : AreVariants s t k q) where
  abbrev there : ℕ → Tree
  there v = var (b.back (a.names v))

  abbrev again : ℕ → Tree
  again v = var (a.back (b.names v))

  moved : apply there (as_one l r) ≡ apply (λ v. var v) (as_one k q)
  moved =
      let first : apply there l ≡ k = one_to_other a.names b.back s l k a.left_from b.left_to in
      let second : apply there r ≡ q = one_to_other a.names b.back t r q a.right_from b.right_to in
      let both : apply there (as_one l r) ≡ as_one k q = cc (first, second) in
      both ∙ sym (unchanged (as_one k q))

  moved_back : apply again (as_one k q) ≡ apply (λ v. var v) (as_one l r)
  moved_back =
      let first : apply again k ≡ l = one_to_other b.names a.back s k l b.left_from a.left_to in
      let second : apply again q ≡ r = one_to_other b.names a.back t q r b.right_from a.right_to in
      let both : apply again (as_one k q) ≡ as_one l r = cc (first, second) in
      both ∙ sym (unchanged (as_one l r))

  abbrev Related : ℕ → ℕ → Type 0
  Related = Swaps there again (λ v. v) (λ v. v) (λ v. IsTrue (has_var v (as_one l r))) (λ v. IsTrue (has_var v (as_one k q)))

  paired : Paired Related (as_one l r) (as_one k q)
  paired = pair there again (λ v. v) (λ v. v) (λ v. IsTrue (has_var v (as_one l r))) (λ v. IsTrue (has_var v (as_one k q))) (as_one l r) (as_one k q)
      (λ v h. h) (λ v h. h) moved moved_back

  one : (v w x : ℕ) → Related v w → Related v x → w ≡ x
  one v w x h m = let e : var w ≡ var x = sym h.2 ∙ m.2 in cc (e)

  other : (v x w : ℕ) → Related v w → Related x w → v ≡ x
  other v x w h m = let e : var v ≡ var x = sym h.3 ∙ m.3 in cc (e)

  module _ (first : IsCount 0 (variables_of (as_one l r))) (second : IsCount 0 (variables_of (as_one k q))) where
    itself : (v : ℕ) → IsTrue (has_var v (as_one l r)) → Related v v
    itself v h =
        let (i, at) = among_variables v (as_one l r) h in
        numbered_alike Related one other (as_one l r) (as_one k q) paired first second i v at

    equal : (v w : ℕ) → Related v w → v ≡ w
    equal v w h = one v v w (itself v h.0) h

    pub one_variant : (l ≡ k) × (r ≡ q)
    one_variant = let e : as_one l r ≡ as_one k q = paired_equal Related equal paired in (cc (e), cc (e))

-- ---- a right side has no new variable

pub right_has_none : (l r : Tree) → ((v : ℕ) → IsTrue (has_var v r) → IsTrue (has_var v l)) → with_variables (variables_of l) r ≡ variables_of l
right_has_none l r h = nothing_new (variables_of l) r (λ v k. (let (i, at) = among_variables v l (h v k) in listed_get (variables_of l) i v at))

-- ---- the order goes one way

endless : {T : Type 0} (R : T → T → Type 0) (n : ℕ) (s t : T) → R s t → R t s → IsBoundedBy R n s → ⊥
endless R zero s t d e b = b t d
endless R (suc n) s t d e b = endless R n t s e d (b t d)

module _ (equations : System) (greater : Tree → Tree → Type 0) (order : IsReductionOrder equations.arities greater) where
  one_way : (s t : Tree) → IsSoundPair equations (record { left = s; right = t }) → greater s t → greater t s → ⊥
  one_way s t h g k =
      let to : RewriteRule = record { left = s; right = t } in
      let from : RewriteRule = record { left = t; right = s } in
      let rules : List RewriteRule = to ∷ from ∷ [] in
      let down : (r : RewriteRule) → In r rules → GoesDown equations.arities greater r = λ r i. elim (in_or i) as (λ _. GoesDown equations.arities greater r) [
        | inl e ↦ subst (GoesDown equations.arities greater) (sym e)
            (record { left_well_formed = h.left_well_formed; right_well_formed = h.right_well_formed; greater_side = g })
        | inr j ↦ elim (in_or j) as (λ _. GoesDown equations.arities greater r) [
          | inl e ↦ subst (GoesDown equations.arities greater) (sym e)
              (record { left_well_formed = h.right_well_formed; right_well_formed = h.left_well_formed; greater_side = k })
          | inr m ↦ absurd (no_in m)
        ]
      ] in
      let (n, b) = order.terminating rules down s h.left_well_formed in
      endless (Step rules) n s t (here (s, t, (λ v. var v), in_first, sym (unchanged s), sym (unchanged t)))
      (here (t, s, (λ v. var v), in_rest in_first, sym (unchanged t), sym (unchanged s))) b

  pub new_rule_once : (s t : Tree) (r q : RewriteRule) → IsSoundPair equations (record { left = s; right = t }) → greater s t → IsNewRule s t r → IsNewRule s t q → r ≡ q
  new_rule_once s t r q h g a b =
      let first = counted r (order.variables r (new_rule_sound equations greater order s t r h g a).goes_down) a.counted in
      let second = counted q (order.variables q (new_rule_sound equations greater order s t q h g b).goes_down) b.counted in
      let (left, right) = one_variant s t r.left r.right q.left q.right a.variants b.variants first second in
      same_sides r q left right
    where
      counted : (x : RewriteRule) → ((v : ℕ) → IsTrue (has_var v x.right) → IsTrue (has_var v x.left)) → IsCount 0 (variables_of x.left)
          → IsCount 0 (with_variables (variables_of x.left) x.right)
      counted x inside c = subst (IsCount 0) (sym (right_has_none x.left x.right inside)) c

      of_sides : {l r k q : Tree} → l ≡ k → r ≡ q → ◌≡◌ {A = RewriteRule} (record { left = l; right = r }) (record { left = k; right = q })
      of_sides e k = cc (e, k)

      same_sides : (x y : RewriteRule) → x.left ≡ y.left → x.right ≡ y.right → x ≡ y
      same_sides x y e k = of_sides e k

  turned : (s t : Tree) → IsSoundPair equations (record { left = s; right = t }) → IsSoundPair equations (record { left = t; right = s })
  turned s t h = record { left_well_formed = h.right_well_formed; right_well_formed = h.left_well_formed; converted = backwards h.converted }

  pub oriented_once : (s t : Tree) (r q : RewriteRule) → IsSoundPair equations (record { left = s; right = t }) → IsOriented greater s t r → IsOriented greater s t q → r ≡ q
  oriented_once s t r q h (inl a) (inl b) = new_rule_once s t r q h a.0 a.1 b.1
  oriented_once s t r q h (inl a) (inr b) = absurd (one_way s t h a.0 b.0)
  oriented_once s t r q h (inr a) (inl b) = absurd (one_way s t h b.0 a.0)
  oriented_once s t r q h (inr a) (inr b) = new_rule_once t s r q (turned s t h) a.0 a.1 b.1
