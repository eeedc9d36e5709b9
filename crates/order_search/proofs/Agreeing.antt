-- Facts of the symbols of a term, and tests of terms whose symbols have them.
use Rattle.std.specs.Prelude.{ℕ, Bool, true, false, ◌==◌, if◌then◌else◌, List, [], ◌∷◌, ◌≡◌}
use Rattle.trs_defs.specs.Tree.{Tree, Trees, app, cons}
use Rattle.assign_search.proofs.Refuting.{or_left, or_right}
use Rattle.order_search.specs.OrderSpace.{occurs_in, occurs_in_some}
use Rattle.order_search.proofs.Tests.{self_test}

pub if_same : {A : Type 0} (b : Bool) (x y u v : A) → x ≡ u → y ≡ v → (if b then x else y) ≡ (if b then u else v)
if_same true x y u v e d = e
if_same false x y u v e d = d

module _ (fact : ℕ → Type 0) where
  -- each symbol of the term has the fact
  abbrev pub Agree : Tree → Type 0
  Agree t = (f : ℕ) → occurs_in f t ≡ true → fact f

  abbrev pub AgreeAll : Trees → Type 0
  AgreeAll ts = (f : ℕ) → occurs_in_some f ts ≡ true → fact f

  pub root_agrees : (f : ℕ) (ts : Trees) → Agree (app f ts) → fact f
  root_agrees f ts same = same f (or_left (f == f) (occurs_in_some f ts) (self_test f))

  pub args_agree : (f : ℕ) (ts : Trees) → Agree (app f ts) → AgreeAll ts
  args_agree f ts same g i = same g (or_right (f == g) (occurs_in_some g ts) i)

  pub first_agrees : (t : Tree) (ts : Trees) → AgreeAll (cons t ts) → Agree t
  first_agrees t ts same g i = same g (or_left (occurs_in g t) (occurs_in_some g ts) i)

  pub rest_agree : (t : Tree) (ts : Trees) → AgreeAll (cons t ts) → AgreeAll ts
  rest_agree t ts same g i = same g (or_right (occurs_in g t) (occurs_in_some g ts) i)

  -- tests side by side that answer alike
  abbrev pub SameTests : List (Tree → Bool) → List (Tree → Bool) → Type 0
  SameTests [] [] = Unit {0}
  SameTests [] (b ∷ bs) = ⊥
  SameTests (a ∷ as_) [] = ⊥
  SameTests (a ∷ as_) (b ∷ bs) = ((t : Tree) → Agree t → a t ≡ b t) × SameTests as_ bs
