-- A most general unifier of two terms gives one of the terms with other variables.
use Rattle.std.specs.Prelude.{◌≡◌, ◌<◌, ℕ, ◌+◌, Bool, true, false, if◌then◌else◌, IsTrue, refl}
use Rattle.std.proofs.Common.{ap, sym, ◌∙◌, arith}
use Rattle.trs_defs.specs.Tree.{Tree, var}
use Rattle.trs_defs.specs.Variable.{has_var}
use Rattle.trs_defs.specs.Substitution.{apply}
use Rattle.trs_defs.specs.Unifier.{IsMostGeneralUnifier}
use Rattle.trs_defs.proofs.Substitutions.{apply_apply, same_instance}
use Rattle.text_determinism.proofs.Renamed.{named}
use Rattle.text_determinism.proofs.Bounds.{is_below, above_images, image_below, joined, joined_low, joined_high}

-- m through the names f on these variables; the others go out of the way
abbrev pub through : (ℕ → Tree) → (ℕ → ℕ) → (ℕ → Bool) → ℕ → ℕ → Tree
through m f among k v = if among v then m (f v) else var (k + v)

pub through_at : (m : ℕ → Tree) (f : ℕ → ℕ) (among : ℕ → Bool) (k v : ℕ) → IsTrue (among v) → through m f among k v ≡ m (f v)
through_at m f among k v h = go (among v) h
  where
    go : (b : Bool) → IsTrue b → (if b then m (f v) else var (k + v)) ≡ m (f v)
    go true h = refl
    go false h = absurd cc

-- the new terms s and t have these variables alone, which are below `bound`; f gives them their old names, and g undoes it
module _ (m : ℕ → Tree) (f g : ℕ → ℕ) (among : ℕ → Bool) (bound : ℕ) (low : (v : ℕ) → IsTrue (among v) → v < bound)
    (back : (v : ℕ) → IsTrue (among v) → g (f v) ≡ v) where
  pub moved : ℕ → Tree
  moved = through m f among (above_images (λ v. m (f v)) bound)

  pub moved_instance : (t : Tree) → ((v : ℕ) → IsTrue (has_var v t) → IsTrue (among v)) → apply moved t ≡ apply m (named f t)
  unfolding moved
  moved_instance t all =
      same_instance moved (λ v. m (f v)) t (λ v h. through_at m f among (above_images (λ v. m (f v)) bound) v (all v h))
      ∙ sym (apply_apply m (λ v. var (f v)) t)

  named_back : (θ : ℕ → Tree) (t : Tree) → ((v : ℕ) → IsTrue (has_var v t) → IsTrue (among v)) → apply (λ v. θ (g v)) (named f t) ≡ apply θ t
  named_back θ t all = apply_apply (λ v. θ (g v)) (λ v. var (f v)) t ∙ same_instance (λ v. θ (g (f v))) θ t (λ v h. ap θ (back v (all v h)))

  module _ (s t : Tree) (s_all : (v : ℕ) → IsTrue (has_var v s) → IsTrue (among v)) (t_all : (v : ℕ) → IsTrue (has_var v t) → IsTrue (among v))
      (most : IsMostGeneralUnifier (named f s) (named f t) m) where
    image_is : (θ δ : ℕ → Tree) → ((v : ℕ) → θ (g v) ≡ apply δ (m v)) → (v : ℕ)
        → θ v ≡ apply (joined (above_images (λ w. m (f w)) bound) δ θ) (moved v)
    unfolding moved
    image_is θ δ is v = go (among v) refl
      where
        go : (b : Bool) → among v ≡ b
            → θ v ≡ apply (joined (above_images (λ w. m (f w)) bound) δ θ) (if b then m (f v) else var (above_images (λ w. m (f w)) bound + v))
        go true e =
            sym (ap θ (back v e)) ∙ (is (f v)
            ∙ same_instance δ (joined (above_images (λ w. m (f w)) bound) δ θ) (m (f v))
            (λ x h. sym (joined_low (above_images (λ w. m (f w)) bound) δ θ x
            (omega (arith, is_below x (m (f v)) h, image_below (λ w. m (f w)) bound v (low v e))))))
        go false e = sym (joined_high (above_images (λ w. m (f w)) bound) δ θ v)

    pub moved_most_general : IsMostGeneralUnifier s t moved
    moved_most_general = record {
      unifies = moved_instance s s_all ∙ (most.unifies ∙ sym (moved_instance t t_all));
      most_general = λ θ e.
          let (δ, is) = most.most_general (λ v. θ (g v)) (named_back θ s s_all ∙ (e ∙ sym (named_back θ t t_all))) in
          (joined (above_images (λ w. m (f w)) bound) δ θ, λ v. image_is θ δ is v);
    }
