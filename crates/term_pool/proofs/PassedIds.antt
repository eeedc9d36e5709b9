-- What is left of a term on the way through it.
use Rattle.std.proofs.Common.{◌≡◌, ℕ, ◌≤◌, List, map, drop, length, inl, inr, ◌↔◌}
use Rattle.std.proofs.lemmas.List.{drop_all}
use Rattle.trs_defs.specs.Tree.{Tree, Trees, var, app, trees}
use Rattle.trs_defs.specs.System.{RewriteRule}
use Rattle.term_pool.specs.Pooled.{tree_at}
use Rattle.term_pool.specs.Redex.{IsRedex, HasRedex, SomeHasRedex}

-- what is left of a term after its root
pub root_then_arguments : (rules : List RewriteRule) (t : Tree) (f : ℕ) (ts : Trees) → t ≡ app f ts → (IsRedex rules t → ⊥) → SomeHasRedex rules ts ↔ HasRedex rules t
root_then_arguments rules t f ts is none = rw is (λ h. inr h, later)
  where
    later : HasRedex rules (app f ts) → SomeHasRedex rules ts
    later (inl h) = absurd (none (rw is h))
    later (inr h) = h

pub no_redex_in_variable : (rules : List RewriteRule) (t : Tree) (n : ℕ) → t ≡ var n → (IsRedex rules t → ⊥) → HasRedex rules t → ⊥
no_redex_in_variable rules t n is none h = none (rw is (rw is at h))

pub no_arguments : (rules : List RewriteRule) (pool : List Tree) (ids : List ℕ) (k : ℕ) → length ids ≤ k → SomeHasRedex rules (trees (map (tree_at pool) (drop k ids))) → ⊥
no_arguments rules pool ids k all h = rw (drop_all k ids all) at h
