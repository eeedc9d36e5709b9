-- Terms with other variables in the place of theirs.
use Rattle.std.specs.Prelude.{◌≡◌, ℕ, ◌+◌, refl}
use Rattle.std.proofs.Common.{ap, arith}
use Rattle.trs_defs.specs.Tree.{Tree, Trees, var, app, nil, cons}
use Rattle.trs_defs.specs.Size.{size_of, size_of_all, depth_of, depth_of_all}
use Rattle.trs_defs.specs.Substitution.{apply, apply_all}

-- new numbers for variables leave sizes and depths
mutual
  pub size_named : (f : ℕ → ℕ) (t : Tree) → size_of (apply (λ v. var (f v)) t) ≡ size_of t
  size_named f (var v) = refl
  size_named f (app g ts) = omega (arith, size_named_all f ts)

  size_named_all : (f : ℕ → ℕ) (ts : Trees) → size_of_all (apply_all (λ v. var (f v)) ts) ≡ size_of_all ts
  size_named_all f nil = refl
  size_named_all f (cons t ts) = omega (arith, size_named f t, size_named_all f ts)

mutual
  pub depth_named : (f : ℕ → ℕ) (t : Tree) → depth_of (apply (λ v. var (f v)) t) ≡ depth_of t
  depth_named f (var v) = refl
  depth_named f (app g ts) = ap (λ n. 1 + n) (depth_named_all f ts)

  depth_named_all : (f : ℕ → ℕ) (ts : Trees) → depth_of_all (apply_all (λ v. var (f v)) ts) ≡ depth_of_all ts
  depth_named_all f nil = refl
  depth_named_all f (cons t ts) = cc (depth_named f t, depth_named_all f ts)

-- variables that stay leave the term as it is
mutual
  pub unchanged : (t : Tree) → apply (λ v. var v) t ≡ t
  unchanged (var v) = refl
  unchanged (app f ts) = ap (app f) (all_unchanged ts)

  all_unchanged : (ts : Trees) → apply_all (λ v. var v) ts ≡ ts
  all_unchanged nil = refl
  all_unchanged (cons t ts) = cc (unchanged t, all_unchanged ts)
