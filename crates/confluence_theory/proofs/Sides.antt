-- Sides: along a map that keeps the steps, and from a path whose ranks fit.
use Rattle.std.proofs.Common.{ℕ, List, [], ◌∷◌, inl, inr, subst}
use Rattle.trs_defs.specs.Run.{Run, Stay, Go, Same, Once}
use Rattle.confluence_theory.specs.Ranks.{BelowOne, Side}
use Rattle.confluence_theory.specs.LabelledPath.{LabelledPath}
use Rattle.confluence_theory.specs.RanksFit.{AreBelowOne, RanksFit}
use Rattle.trs_defs.proofs.Runs.{run_along, once_along}

pub side_along : {T U : Type 0} (R : ℕ → T → T → Type 0) (Q : ℕ → U → U → Type 0) (F : T → U) → ((a : ℕ) (s t : T) → R a s t → Q a (F s) (F t)) → (a b : ℕ) {t v : T} → Side R a b t v → Side Q a b (F t) (F v)
side_along R Q F f a b (x, y, tx, xy, yv) =
    (F x, F y, run_along F (λ s t (c, l, r). (c, l, f c s t r)) tx, once_along F (f b) xy, run_along F (λ s t (c, l, r). (c, l, f c s t r)) yv)

low_path : {T : Type 0} (step : ℕ → T → T → Type 0) (a b : ℕ) (ranks : List ℕ) (t v : T) → AreBelowOne a b ranks → LabelledPath step ranks t v → Run (BelowOne step a b) t v
low_path {T} step a b [] t v h e = let P : T → Type 0 = λ z. Run (BelowOne step a b) t z in subst P e Stay
low_path step a b (c ∷ ranks) t v h (m, r, p) = Go (c, h.0, r) (low_path step a b ranks m v h.1 p)

pub side_of_path : {T : Type 0} (step : ℕ → T → T → Type 0) (a b : ℕ) (ranks : List ℕ) (t v : T) → RanksFit a b ranks → LabelledPath step ranks t v → Side step a b t v
side_of_path {T} step a b [] t v h e = let P : T → Type 0 = λ z. Side step a b t z in subst P e (t, t, Stay, Same, Stay)
side_of_path {T} step a b (c ∷ ranks) t v h (m, r, p) =
    elim h [
      | inl k ↦
          let (x, y, mx, xy, yv) = side_of_path step a b ranks m v k.1 p in
          (x, y, Go (c, k.0, r) mx, xy, yv)
      | inr (inl k) ↦
          let P : ℕ → Type 0 = λ z. step z t m in
          (t, m, Stay, Once (subst P k.0 r), low_path step a b ranks m v k.1 p)
      | inr (inr k) ↦ (t, t, Stay, Same, Go (c, k.0, r) (low_path step a b ranks m v k.1 p))
    ]
