-- The least symbol without an entry, with one symbol more.
use Rattle.std.specs.Prelude.{◌≡◌, ◌<◌, ◌≤◌, ℕ, ◌+◌, List, [], ◌∷◌, take, Option, Some, None, slice_get}
use Rattle.std.proofs.Common.{inl, inr, ◌⊎◌, suc, zero, sym, subst, arith, ◌∙◌, add-one}
use Rattle.std.proofs.lemmas.Option.{none-some}
use Rattle.trs_defs.specs.Member.{In, in_first, in_rest}
use Rattle.trs_defs.proofs.Members.{in_or}
use Rattle.pair_theory.specs.DependencyPair.{DependencyPair}
use Rattle.dp_core.specs.SubtermConditions.{place_for, roots_of}
use Rattle.dp_core.specs.LeastMissing.{IsMissing, IsLeastMissing}

module _ (projection : List (ℕ × ℕ)) (f : ℕ) (symbols : List ℕ) where
  either : (g : ℕ) → IsMissing projection (f ∷ symbols) g → (g ≡ f) ⊎ IsMissing projection symbols g
  either g m = elim (in_or m.0) [ inl e ↦ inl e | inr i ↦ inr (i, m.1) ]

  pub has_place : (k : ℕ) (o : Option ℕ) → place_for projection f ≡ Some k → IsLeastMissing projection symbols o → IsLeastMissing projection (f ∷ symbols) o
  has_place k None e h = λ g m. elim (either g m) [ inl same ↦ none-some k (sym (subst (λ z. place_for projection z ≡ None) same m.1) ∙ e) | inr i ↦ h g i ]
  has_place k (Some n) e h = (
    (in_rest (h.0).0, (h.0).1),
    λ g lt m. elim (either g m) [
      | inl same ↦ none-some k (sym (subst (λ z. place_for projection z ≡ None) same m.1) ∙ e)
      | inr i ↦ h.1 g lt i
    ],
  )

  pub first_missing : place_for projection f ≡ None → IsLeastMissing projection symbols None → IsLeastMissing projection (f ∷ symbols) (Some f)
  first_missing e h = ((in_first, e), λ g lt m. elim (either g m) [ inl same ↦ absurd (omega (arith, same, lt)) | inr i ↦ h g i ])

  pub lower_missing : (n : ℕ) → place_for projection f ≡ None → f < n → IsLeastMissing projection symbols (Some n) → IsLeastMissing projection (f ∷ symbols) (Some f)
  lower_missing n e below h = ((in_first, e), λ g lt m. elim (either g m) [ inl same ↦ absurd (omega (arith, same, lt)) | inr i ↦ h.1 g (omega (arith, lt, below)) i ])

  pub upper_missing : (n : ℕ) → n ≤ f → IsLeastMissing projection symbols (Some n) → IsLeastMissing projection (f ∷ symbols) (Some n)
  upper_missing n above h = ((in_rest (h.0).0, (h.0).1), λ g lt m. elim (either g m) [ inl same ↦ absurd (omega (arith, same, lt, above)) | inr i ↦ h.1 g lt i ])

-- the same symbols in another order
pub same_missing : (projection : List (ℕ × ℕ)) (xs ys : List ℕ) (o : Option ℕ) → ((g : ℕ) → In g xs → In g ys) → ((g : ℕ) → In g ys → In g xs)
    → IsLeastMissing projection xs o → IsLeastMissing projection ys o
same_missing projection xs ys None to back h = λ g m. h g (back g m.0, m.1)
same_missing projection xs ys (Some n) to back h = ((to n (h.0).0, (h.0).1), λ g lt m. h.1 g lt (back g m.0, m.1))

-- one pair more
pub one_pair_to : (pairs : List DependencyPair) (i : ℕ) (p : DependencyPair) → slice_get pairs i ≡ Some p → (g : ℕ)
    → In g (p.to.symbol ∷ p.from.symbol ∷ roots_of (take i pairs)) → In g (roots_of (take (i + 1) pairs))
one_pair_to pairs i p e g h = rw add-one (go pairs i e h)
  where
    go : (qs : List DependencyPair) (k : ℕ) → slice_get qs k ≡ Some p → In g (p.to.symbol ∷ p.from.symbol ∷ roots_of (take k qs)) → In g (roots_of (take (suc k) qs))
    go [] k d m = absurd cc
    go (q ∷ qs) zero d m =
        let same : q ≡ p = cc in
        rw same (elim (in_or m) [ inl a ↦ rw a (in_rest in_first) | inr n ↦ elim (in_or n) [ inl b ↦ rw b in_first | inr o ↦ elim o [ ] ] ])
    go (q ∷ qs) (suc k) d m = elim (in_or m) [
      | inl a ↦ in_rest (in_rest (go qs k d (rw a in_first)))
      | inr n ↦ elim (in_or n) [
        | inl b ↦ in_rest (in_rest (go qs k d (rw b (in_rest in_first))))
        | inr o ↦ elim (in_or o) [ inl x ↦ rw x in_first | inr u ↦ elim (in_or u) [ inl y ↦ rw y (in_rest in_first) | inr v ↦ in_rest (in_rest (go qs k d (in_rest (in_rest v)))) ] ]
      ]
    ]

pub one_pair_back : (pairs : List DependencyPair) (i : ℕ) (p : DependencyPair) → slice_get pairs i ≡ Some p → (g : ℕ)
    → In g (roots_of (take (i + 1) pairs)) → In g (p.to.symbol ∷ p.from.symbol ∷ roots_of (take i pairs))
one_pair_back pairs i p e g h = go pairs i e (rw (← add-one) h)
  where
    further : (x y a b : ℕ) (zs : List ℕ) → In g (a ∷ b ∷ zs) → In g (a ∷ b ∷ x ∷ y ∷ zs)
    further x y a b zs m = elim (in_or m) [ inl u ↦ rw u in_first | inr n ↦ elim (in_or n) [ inl v ↦ rw v (in_rest in_first) | inr o ↦ in_rest (in_rest (in_rest (in_rest o))) ] ]

    go : (qs : List DependencyPair) (k : ℕ) → slice_get qs k ≡ Some p → In g (roots_of (take (suc k) qs)) → In g (p.to.symbol ∷ p.from.symbol ∷ roots_of (take k qs))
    go [] k d m = absurd cc
    go (q ∷ qs) zero d m =
        let same : q ≡ p = cc in
        elim (in_or m) [ inl a ↦ rw (a, same) (in_rest in_first) | inr n ↦ elim (in_or n) [ inl b ↦ rw (b, same) in_first | inr o ↦ elim o [ ] ] ]
    go (q ∷ qs) (suc k) d m = elim (in_or m) [
      | inl a ↦ rw a (in_rest (in_rest in_first))
      | inr n ↦ elim (in_or n) [
        | inl b ↦ rw b (in_rest (in_rest (in_rest in_first)))
        | inr o ↦ further q.from.symbol q.to.symbol p.to.symbol p.from.symbol (roots_of (take k qs)) (go qs k d o)
      ]
    ]
