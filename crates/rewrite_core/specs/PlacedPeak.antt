-- Peaks of two rules, with the position at which the inner one was applied.
use Rattle.std.specs.Prelude.{ℕ, List, refl}
use Rattle.std.specs.Coded.{Coded, code_by, coded×, coded_list, coded_ℕ}
use Rattle.trs_defs.specs.Tree.{Tree, tree_code}

-- rule number `inner` leads from the top to the left, at the place, and rule number `outer` at the root to the right
pub record PlacedPeak : Type 0 where
  pub outer : ℕ
  pub place : List ℕ
  pub inner : ℕ
  pub top : Tree
  pub left : Tree
  pub right : Tree

-- it is stored as the list of its fields
abbrev pub peak_code : Coded PlacedPeak
peak_code =
    code_by ((ℕ × (List ℕ × ℕ)) × (Tree × (Tree × Tree))) (coded× (coded× coded_ℕ (coded× (coded_list coded_ℕ) coded_ℕ)) (coded× tree_code (coded× tree_code tree_code)))
    (λ p. ((p.outer, (p.place, p.inner)), (p.top, (p.left, p.right))))
    (λ c. record { outer = c.0.0; place = c.0.1.0; inner = c.0.1.1; top = c.1.0; left = c.1.1.0; right = c.1.1.1 }) (λ _. refl)
