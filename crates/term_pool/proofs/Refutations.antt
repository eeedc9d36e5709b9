-- Terms that are no instances, since they differ from the pattern at a place that is no variable.
use Rattle.std.proofs.lemmas.List.{length-map}
use Rattle.std.proofs.Common.{◌≡◌, ℕ, ◌<◌, List, [], ◌∷◌, length, map, Some, get_or, slice_get, refl, sym, ◌∙◌, zero, suc, arith}
use Rattle.trs_defs.specs.Tree.{Tree, Trees, var, app, cons, trees}
use Rattle.trs_defs.specs.Substitution.{apply, apply_all, IsInstance}
use Rattle.trs_defs.proofs.ListItems.{read_image}

same_cells : (t u : Tree) (ts us : Trees) → cons t ts ≡ cons u us → (t ≡ u) × (ts ≡ us)
same_cells t u ts us e = (cc, cc)

same_nodes : (f g : ℕ) (ts us : Trees) → app f ts ≡ app g us → (f ≡ g) × (ts ≡ us)
same_nodes f g ts us e = (cc, cc)

as_long : (σ : ℕ → Tree) (ps ts : List Tree) → apply_all σ (trees ps) ≡ trees ts → length ps ≡ length ts
as_long σ [] [] e = refl
as_long σ [] (t ∷ ts) e = absurd cc
as_long σ (p ∷ ps) [] e = absurd cc
as_long σ (p ∷ ps) (t ∷ ts) e =
    let rest = as_long σ ps ts (same_cells (apply σ p) t (apply_all σ (trees ps)) (trees ts) e).1 in
    omega (arith, rest)

argument_instance : (σ : ℕ → Tree) (ps ts : List Tree) (i : ℕ) (p t : Tree) → slice_get ps i ≡ Some p → slice_get ts i ≡ Some t → apply_all σ (trees ps) ≡ trees ts → apply σ p ≡ t
argument_instance σ [] ts i p t at there e = absurd cc
argument_instance σ (q ∷ ps) [] i p t at there e = absurd cc
argument_instance σ (q ∷ ps) (u ∷ ts) zero p t at there e =
    let first = (same_cells (apply σ q) u (apply_all σ (trees ps)) (trees ts) e).0 in
    cc (first, at, there)
argument_instance σ (q ∷ ps) (u ∷ ts) (suc i) p t at there e =
    argument_instance σ ps ts i p t at there (same_cells (apply σ q) u (apply_all σ (trees ps)) (trees ts) e).1

pub no_instance_of_other : (f g : ℕ) (ps ts : List Tree) → (f ≡ g → length ps ≡ length ts → ⊥) → IsInstance (app f (trees ps)) (app g (trees ts)) → ⊥
no_instance_of_other f g ps ts differ (σ, is) =
    let same = same_nodes f g (apply_all σ (trees ps)) (trees ts) is in
    differ same.0 (as_long σ ps ts same.1)

pub no_instance_at : (f g : ℕ) (ps ts : List Tree) (i : ℕ) (p t : Tree) → slice_get ps i ≡ Some p → slice_get ts i ≡ Some t → (IsInstance p t → ⊥) → IsInstance (app f (trees ps)) (app g (trees ts)) → ⊥
no_instance_at f g ps ts i p t at there none (σ, is) =
    none (σ, argument_instance σ ps ts i p t at there (same_nodes f g (apply_all σ (trees ps)) (trees ts) is).1)

pub no_instance_in_variable : (f n : ℕ) (ps : Trees) → IsInstance (app f ps) (var n) → ⊥
no_instance_in_variable f n ps (σ, is) = absurd cc

-- where two arguments that are read are such
pub no_instance_read : {A B : Type 0} (u : A → Tree) (v : B → Tree) (f g : ℕ) (ps : List A) (ts : List B) (i : ℕ) (p : A) (t : B) → length ps ≡ length ts → i < length ps → p ≡ get_or ps i p
    → t ≡ get_or ts i t → (IsInstance (u p) (v t) → ⊥) → IsInstance (app f (trees (map u ps))) (app g (trees (map v ts))) → ⊥
no_instance_read u v f g ps ts i p t same within at there none =
    no_instance_at f g (map u ps) (map v ts) i (u p) (v t) (read_image u ps i p within at) (read_image v ts i t (omega (arith, same, within)) there) none

pub no_instance_of_other_read : {A B : Type 0} (u : A → Tree) (v : B → Tree) (f g : ℕ) (ps : List A) (ts : List B) → (f ≡ g → length ps ≡ length ts → ⊥)
    → IsInstance (app f (trees (map u ps))) (app g (trees (map v ts))) → ⊥
no_instance_of_other_read u v f g ps ts differ =
    no_instance_of_other f g (map u ps) (map v ts) (λ same long. differ same (sym (length-map ps u) ∙ (long ∙ length-map ts v)))
