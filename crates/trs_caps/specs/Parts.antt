-- The parts of a cap that stand where a left side has its variables.
use Rattle.std.specs.Prelude.{◌≡◌, ◌≤◌, ◌<◌, ℕ, Bool, true, false, List, [], ◌∷◌}
use Rattle.trs_defs.specs.Tree.{Tree}
use Rattle.trs_defs.specs.Substitution.{apply}
use Rattle.trs_caps.specs.HoledTree.{HoledTree, Fits}

-- the term fits each of them
abbrev pub FitsEach : List HoledTree → Tree → Type 0
FitsEach [] t = Unit {0}
FitsEach (c ∷ cs) t = Fits c t × FitsEach cs t

-- some term fits each of them
abbrev pub HaveInstance : List HoledTree → Type 0
HaveInstance cs = (t : Tree) × FitsEach cs t

-- the parts at the variables have these terms
abbrev pub Holds : (ℕ → List HoledTree) → (ℕ → Tree) → Type 0
Holds parts τ = (v : ℕ) → FitsEach (parts v) (τ v)

-- some terms fit the parts at the variables
abbrev pub HaveInstances : (ℕ → List HoledTree) → Type 0
HaveInstances parts = (τ : ℕ → Tree) × Holds parts τ

-- The parts of a cap have been added: an instance of the left side fits it exactly where its terms fit what was added.
pub record Adds (c : HoledTree) (l : Tree) (old new : ℕ → List HoledTree) : Type 0 where
  pub sound : (τ : ℕ → Tree) → Holds new τ → Holds old τ × Fits c (apply τ l)
  pub complete : (τ : ℕ → Tree) → Holds old τ → Fits c (apply τ l) → Holds new τ

-- no instance of the left side fits the cap, with terms that fit the parts so far
pub record Refutes (c : HoledTree) (l : Tree) (old : ℕ → List HoledTree) : Type 0 where
  pub none : (τ : ℕ → Tree) → Holds old τ → Fits c (apply τ l) → ⊥

abbrev pub Walks : HoledTree → Tree → (ℕ → List HoledTree) → (ℕ → List HoledTree) → Bool → Type 0
Walks c l old new true = Adds c l old new
Walks c l old new false = Refutes c l old

-- with some terms at the variables from a on, below b, the instance of the left side fits the cap, whatever others have
pub record FitsBetween (c : HoledTree) (l : Tree) (a b : ℕ) : Type 0 where
  pub rises : a ≤ b
  pub terms : ℕ → Tree
  pub fits : (τ : ℕ → Tree) → ((v : ℕ) → a ≤ v → v < b → τ v ≡ terms v) → Fits c (apply τ l)
