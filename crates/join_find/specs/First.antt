-- The first item of a list of which a fact holds, and facts of the items of two lists side by side.
use Rattle.std.specs.Prelude.{List, [], ◌∷◌}
use Rattle.trs_defs.specs.Member.{In}

pub data First {A : Type 0} (fact : A → Type 0) : List A → A → Type 0 where
  first_here : {a : A} {xs : List A} → fact a → First fact (a ∷ xs) a
  first_later : {a b : A} {xs : List A} → (fact a → ⊥) → First fact xs b → First fact (a ∷ xs) b

-- it holds of some item
abbrev pub Some_in : {A : Type 0} → (A → Type 0) → List A → Type 0
Some_in {A} fact xs = (a : A) × In a xs × fact a

-- it holds of none
abbrev pub None_in : {A : Type 0} → (A → Type 0) → List A → Type 0
None_in {A} fact xs = (a : A) → In a xs → fact a → ⊥

-- the lists have one length, and it holds of each two items at one place
pub data Along {A B : Type 0} (related : A → B → Type 0) : List A → List B → Type 0 where
  along_end : Along related [] []
  along_item : {a : A} {b : B} {xs : List A} {ys : List B} → related a b → Along related xs ys → Along related (a ∷ xs) (b ∷ ys)
