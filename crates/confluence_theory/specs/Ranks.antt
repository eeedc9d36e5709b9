-- Steps with ranks, which are numbers, and peaks that close by smaller ones. (Van Oostrom, Confluence by decreasing
-- diagrams, 1994 and 2008.) `step a s t` is a step of rank a.
use Rattle.std.specs.Prelude.{ℕ, ◌<◌, ◌⊎◌}
use Rattle.trs_defs.specs.Run.{Run, AtMostOne}

-- a step of some rank
abbrev pub AnyRank : {T : Type 0} → (ℕ → T → T → Type 0) → T → T → Type 0
AnyRank step s t = (a : ℕ) × step a s t

-- a step of a rank below n
abbrev pub Below : {T : Type 0} → (ℕ → T → T → Type 0) → ℕ → T → T → Type 0
Below step n s t = (a : ℕ) × (a < n) × step a s t

-- a step of a rank below a or below b
abbrev pub BelowOne : {T : Type 0} → (ℕ → T → T → Type 0) → ℕ → ℕ → T → T → Type 0
BelowOne step a b s t = (c : ℕ) × ((c < a) ⊎ (c < b)) × step c s t

-- one side of a peak, from the end t of its step of rank a, when its other step has rank b: steps of ranks below a, at
-- most one step of rank b, and steps of ranks below a or below b
abbrev pub Side : {T : Type 0} → (ℕ → T → T → Type 0) → ℕ → ℕ → T → T → Type 0
Side {T} step a b t v =
    (x : T) × (y : T) × Run (Below step a) t x × AtMostOne (step b) x y × Run (BelowOne step a b) y v

-- the two steps of each peak lead on to one v by such sides
abbrev pub IsLocallyDecreasing : {T : Type 0} → (ℕ → T → T → Type 0) → Type 0
IsLocallyDecreasing {T} step =
    (a b : ℕ) (s t u : T) → step a s t → step b s u → (v : T) × Side step a b t v × Side step b a u v
