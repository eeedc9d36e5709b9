-- Terms with one root.
use Rattle.std.specs.Prelude.{◌≡◌, ℕ, length}
use Rattle.trs_defs.specs.Tree.{Tree, Trees, app, items}

-- both are one symbol over n arguments
pub record AreAlike (s t : Tree) (n : ℕ) : Type 0 where
  pub root : ℕ
  pub lefts : Trees
  pub rights : Trees
  pub left : s ≡ app root lefts
  pub right : t ≡ app root rights
  pub left_count : length (items lefts) ≡ n
  pub right_count : length (items rights) ≡ n
