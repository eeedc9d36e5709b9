-- Bindings that lead from a variable back to it.
use Rattle.std.proofs.Common.{◌≡◌, ◌<◌, ◌≤◌, ℕ, List, [], ◌∷◌, length, get_or, Option, Some, None, zero, suc, ap, ◌∙◌, arith}
use Rattle.std.specs.Prelude.{IfSome}
use Rattle.trs_defs.specs.Tree.{Tree, Trees, var, app}
use Rattle.trs_defs.specs.Size.{size_of, size_of_all}
use Rattle.trs_defs.specs.Substitution.{apply, apply_all}
use Rattle.trs_core.specs.declared.terms.Term.{Term}
use Rattle.trs_core.specs.View.{tree, forest}
use Rattle.crit_pairs.specs.declared.binding_table.Binding.{Binding}
use Rattle.crit_pairs.specs.Meeting.{bound_term, Solves, SameUnder}
use Rattle.crit_pairs.specs.Cycles.{HaveNoSolution, StandsIn}

-- the instance of an argument is smaller
argument_instance : (σ : ℕ → Tree) (ts : List Term) (i : ℕ) (t : Term) → i < length ts → t ≡ get_or ts i t → size_of (apply σ (tree t)) ≤ size_of_all (apply_all σ (forest ts))
argument_instance σ [] i t h e = absurd (omega arith)
argument_instance σ (u ∷ ts) zero t h e = rw e (omega arith)
argument_instance σ (u ∷ ts) (suc i) t h e = omega (arith, argument_instance σ ts i t (omega arith) e)

pub smaller_instance : (σ : ℕ → Tree) (ts : List Term) (i f : ℕ) (t : Tree) (arg : Term) → t ≡ app f (forest ts) → i < length ts → arg ≡ get_or ts i arg → size_of (apply σ (tree arg)) < size_of (apply σ t)
smaller_instance σ ts i f t arg is h e = let k = argument_instance σ ts i arg h e in rw is (omega arith)

pub stands_itself : (bs : List Binding) (v : ℕ) (t : Tree) → t ≡ var v → StandsIn bs v t
stands_itself bs v t is = record {
  within = λ θ h. rw is (omega arith);
  below = λ f ts e θ h. absurd (cc (is, e));
}

pub stands_below : (bs : List Binding) (v f : ℕ) (t : Tree) (ts : List Term) (i : ℕ) (x : Term) → t ≡ app f (forest ts) → i < length ts → x ≡ get_or ts i x → StandsIn bs v (tree x) → StandsIn bs v t
stands_below bs v f t ts i x is h e s =
    let less : (θ : ℕ → Tree) → Solves bs θ → size_of (θ v) < size_of (apply θ t) =
    λ θ k. let a = s.within θ k in let b = smaller_instance θ ts i f t x is h e in omega (arith, a, b) in
    record {
      within = λ θ k. let l = less θ k in omega (arith, l);
      below = λ g us same θ k. less θ k;
    }

pub some_below : (bs : List Binding) (o : Option ℕ) (f : ℕ) (t : Tree) (ts : List Term) (i : ℕ) (x : Term) → t ≡ app f (forest ts) → i < length ts → x ≡ get_or ts i x
    → IfSome o (λ w. StandsIn bs w (tree x)) → IfSome o (λ w. StandsIn bs w t)
some_below bs None f t ts i x is h e s = s
some_below bs (Some w) f t ts i x is h e s = stands_below bs w f t ts i x is h e s

below_bound : (bs : List Binding) (v w : ℕ) (b t : Tree) (f : ℕ) (ts : Trees) → bound_term bs v ≡ Some b → SameUnder bs b t → t ≡ app f ts → StandsIn bs w t
    → (θ : ℕ → Tree) → Solves bs θ → size_of (θ w) < size_of (θ v)
below_bound bs v w b t f ts bound same is s θ h =
    let e : size_of (θ v) ≡ size_of (apply θ t) = ap size_of (h.solves v b bound ∙ same θ h) in
    let k = s.below f ts is θ h in
    omega (arith, e, k)

pub some_bound : (bs : List Binding) (o : Option ℕ) (v : ℕ) (b t : Tree) (f : ℕ) (ts : Trees) → bound_term bs v ≡ Some b → SameUnder bs b t → t ≡ app f ts → IfSome o (λ w. StandsIn bs w t)
    → IfSome o (λ w. (θ : ℕ → Tree) → Solves bs θ → size_of (θ w) < size_of (θ v))
some_bound bs None v b t f ts bound same is s = s
some_bound bs (Some w) v b t f ts bound same is s = below_bound bs v w b t f ts bound same is s

-- the first variable's instance is no larger than the second's
abbrev pub IsAtMost : List Binding → ℕ → ℕ → Type 0
IsAtMost bs v p = (θ : ℕ → Tree) → Solves bs θ → size_of (θ v) ≤ size_of (θ p)

pub at_most_itself : (bs : List Binding) (v p : ℕ) → v ≡ p → IsAtMost bs v p
at_most_itself bs v p e θ h = omega (arith, ap (λ z. size_of (θ z)) e)

pub next_at_most : (bs : List Binding) (v w p : ℕ) → IsAtMost bs v p → ((θ : ℕ → Tree) → Solves bs θ → size_of (θ w) < size_of (θ v)) → IsAtMost bs w p
next_at_most bs v w p most less θ h = let a = most θ h in let b = less θ h in omega (arith, a, b)

-- the variable would have a smaller instance than itself
pub never_below : (bs : List Binding) (v w p : ℕ) → IsAtMost bs v p → ((θ : ℕ → Tree) → Solves bs θ → size_of (θ w) < size_of (θ v)) → w ≡ p → HaveNoSolution bs
never_below bs v w p most less e θ h =
    let a = most θ h in let b = less θ h in let same : size_of (θ w) ≡ size_of (θ p) = ap (λ z. size_of (θ z)) e in absurd (omega (arith, a, b, same))
