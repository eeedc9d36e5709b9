-- Steps in a row with their labels, which are ranks or the numbers of rules.
use Rattle.std.specs.Prelude.{◌≡◌, ℕ, List, [], ◌∷◌}

-- steps with these labels, in this order, lead from s to t
abbrev pub LabelledPath : {T : Type 0} → (ℕ → T → T → Type 0) → List ℕ → T → T → Type 0
LabelledPath step [] s t = s ≡ t
LabelledPath {T} step (a ∷ labels) s t = (m : T) × step a s m × LabelledPath step labels m t
