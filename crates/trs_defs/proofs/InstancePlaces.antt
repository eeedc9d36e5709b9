-- Positions in instances of terms.
use Rattle.std.specs.Prelude.{◌≡◌, ℕ, List, [], ◌∷◌, Some, slice_get, slice_set, refl}
use Rattle.std.specs.Option.{option_and_then, option_map}
use Rattle.std.proofs.Common.{zero, suc, ap, sym, ◌∙◌}
use Rattle.std.proofs.lemmas.Option.{same_Some, option_and_then_some}
use Rattle.trs_defs.specs.Tree.{Tree, Trees, var, app, nil, cons, trees, items, trees_items}
use Rattle.trs_defs.specs.Substitution.{apply, apply_all}
use Rattle.trs_defs.specs.Position.{subterm_at, with_argument, replaced_at}
use Rattle.trs_defs.proofs.Positions.{IsReplacedInside, replaced_inside}

module _ (σ : ℕ → Tree) where
  item_image : (ts : Trees) (i : ℕ) (a : Tree) → slice_get (items ts) i ≡ Some a → slice_get (items (apply_all σ ts)) i ≡ Some (apply σ a)
  item_image nil i a e = absurd cc
  item_image (cons t ts) zero a e = ap (λ z. Some (apply σ z)) (same_Some t a e)
  item_image (cons t ts) (suc i) a e = item_image ts i a e

  pub subterm_image : (p : List ℕ) (t part : Tree) → subterm_at p t ≡ Some part → subterm_at p (apply σ t) ≡ Some (apply σ part)
  subterm_image [] t part e = ap (λ z. Some (apply σ z)) (same_Some t part e)
  subterm_image (place ∷ p) (var n) part e = absurd cc
  subterm_image (zero ∷ p) (app f ts) part e = absurd cc
  subterm_image (suc i ∷ p) (app f ts) part e =
      let found : (a : Tree) × (slice_get (items ts) i ≡ Some a) × (subterm_at p a ≡ Some part) =
      option_and_then_some (subterm_at p) (slice_get (items ts) i) part e (λ a at below. (a, at, below)) in
      let (a, at, below) = found in
      ap (option_and_then (subterm_at p)) (item_image ts i a at) ∙ subterm_image p a part below

  set_image : (ts : Trees) (i : ℕ) (b : Tree) → trees (slice_set (items (apply_all σ ts)) i (apply σ b)) ≡ apply_all σ (trees (slice_set (items ts) i b))
  set_image nil i b = refl
  set_image (cons t ts) zero b = ap (cons (apply σ b)) (trees_items (apply_all σ ts) ∙ sym (ap (apply_all σ) (trees_items ts)))
  set_image (cons t ts) (suc i) b = ap (cons (apply σ t)) (set_image ts i b)

  pub replaced_image : (p : List ℕ) (t new u : Tree) → replaced_at p t new ≡ Some u → replaced_at p (apply σ t) (apply σ new) ≡ Some (apply σ u)
  replaced_image [] t new u e = ap (λ z. Some (apply σ z)) (same_Some new u e)
  replaced_image (place ∷ p) (var n) new u e = absurd cc
  replaced_image (zero ∷ p) (app f ts) new u e = absurd cc
  replaced_image (suc i ∷ p) (app f ts) new u e =
      let r : IsReplacedInside (suc i) p (app f ts) new u = replaced_inside (suc i) p (app f ts) new u e in
      let whole : Tree → Tree = with_argument (app f (apply_all σ ts)) (suc i) in
      let there : slice_get (items (apply_all σ ts)) i ≡ Some (apply σ r.argument) = item_image ts i r.argument r.there in
      let below : replaced_at p (apply σ r.argument) (apply σ new) ≡ Some (apply σ r.changed) = replaced_image p r.argument new r.changed r.below in
      let set : app f (trees (slice_set (items (apply_all σ ts)) i (apply σ r.changed))) ≡ apply σ (with_argument (app f ts) (suc i) r.changed) = ap (app f) (set_image ts i r.changed) in
      ap (option_and_then (λ a. option_map whole (replaced_at p a (apply σ new)))) there
      ∙ (ap (option_map whole) below ∙ ap (λ z. Some z) (set ∙ ap (apply σ) r.whole))
