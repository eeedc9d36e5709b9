-- The first two items of two lists between which a relation holds.
use Rattle.std.specs.Prelude.{◌≡◌, ◌<◌, ℕ, List, Some, slice_get}
use Rattle.join_find.specs.First.{Some_in, None_in}

-- the number of the first item of which the fact holds
pub record IsFirstAt {A : Type 0} (fact : A → Type 0) (xs : List A) (i : ℕ) : Type 0 where
  pub item : A
  pub there : slice_get xs i ≡ Some item
  pub holds : fact item
  pub before : (k : ℕ) (other : A) → k < i → slice_get xs k ≡ Some other → fact other → ⊥

-- the numbers of the first left item that is related to some right one, and of the first right one that it is related to
pub record IsFirstPair {A : Type 0} (related : A → A → Type 0) (lefts rights : List A) (pair : ℕ × ℕ) : Type 0 where
  pub first_left : IsFirstAt (λ (a : A). Some_in (related a) rights) lefts pair.0
  pub first_right : IsFirstAt (related first_left.item) rights pair.1

-- no left item is related to a right one
pub record HasNoPair {A : Type 0} (related : A → A → Type 0) (lefts rights : List A) : Type 0 where
  pub none : None_in (λ (a : A). Some_in (related a) rights) lefts
