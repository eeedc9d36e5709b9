-- A symbol is defined if some rule has it as its root.
use Rattle.std.specs.Prelude.{◌≡◌, ◌==◌, ℕ, ◌+◌, Bool, true, false, not, ◌||◌, List, [], ◌∷◌, length}
use Rattle.std.proofs.Common.{cond, refl, arith}
use Rattle.std.proofs.lemmas.Bool.Decides.{nat_tests}
use Rattle.trs_defs.specs.System.{RewriteRule, has_root, is_defined}
use Rattle.term_pool.specs.Numbers.{numbers_where}
use Rattle.term_pool.specs.Roots.{with_root}

some_from : (f m : ℕ) (rules : List RewriteRule) → not (length (numbers_where (λ (r : RewriteRule). has_root f r.left) m rules) == 0) ≡ is_defined rules f
some_from f m [] = refl
some_from f m (rule ∷ rules) = go (has_root f rule.left) (some_from f (m + 1) rules)
  where
    rest : List ℕ
    rest = numbers_where (λ (r : RewriteRule). has_root f r.left) (m + 1) rules

    go : (b : Bool) → not (length rest == 0) ≡ is_defined rules f → not (length (cond b (m ∷ rest) rest) == 0) ≡ (b || is_defined rules f)
    go true later = grind (arith, nat_tests)
    go false later = later

pub defined_by : (f : ℕ) (rules : List RewriteRule) → not (length (with_root f rules) == 0) ≡ is_defined rules f
defined_by f rules = some_from f 0 rules
