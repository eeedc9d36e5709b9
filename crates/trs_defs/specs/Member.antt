-- Members of a list.
use Rattle.std.specs.Prelude.{List, ◌∷◌}

pub data In {T : Type 0} : T → List T → Type 0 where
  in_first : {x : T} {xs : List T} → In x (x ∷ xs)
  in_rest : {x y : T} {xs : List T} → In x xs → In x (y ∷ xs)
