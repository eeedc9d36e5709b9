-- Whether a path has a step.
use Rattle.std.specs.Prelude.{◌==◌}
use Rattle.std.proofs.Common.{◌≡◌, ◌≢◌, Bool, true, false, List, [], ◌∷◌, length, refl, sym, ◌∙◌}
use Rattle.std.proofs.lemmas.Bool.{eqb-true}
use Rattle.trs_defs.specs.Path.{PlacedRule}

pub not_empty : (path : List PlacedRule) (b : Bool) → b ≡ (length path == 0) → b ≡ false → path ≢ []
not_empty [] b e f = λ is. absurd cc
not_empty (s ∷ path) b e f = λ is. cc

pub is_empty : {A : Type 0} (path : List A) (b : Bool) → b ≡ (length path == 0) → b ≡ true → path ≡ []
is_empty [] b e f = refl
is_empty (s ∷ path) b e f = let none : length (s ∷ path) ≡ 0 = eqb-true (length (s ∷ path)) 0 (sym e ∙ f) in absurd cc
