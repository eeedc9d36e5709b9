-- Caps clash where no term fits both, and only there.
use Rattle.std.specs.Prelude.{◌≡◌, ℕ, Bool, true, false, not, ◌||◌, ◌==◌, IsTrue}
use Rattle.std.proofs.Common.{refl, inl, inr, arith, subst}
use Rattle.std.proofs.lemmas.Bool.Decides.{nat_tests}
use Rattle.std.proofs.lemmas.Bool.{or_cases}
use Rattle.trs_defs.specs.Tree.{Tree, Trees, var, app, nil, cons}
use Rattle.trs_defs.specs.Cap.{Fits, EachFits, fits_variable, fits_symbol, fits_nil, fits_cons}
use Rattle.confluence_theory.specs.Clash.{clash, some_clash}

differ : (f : ℕ) → IsTrue (not (f == f)) → ⊥
differ f h = grind (arith, nat_tests)

mutual
  pub clash_apart : (c d v : Tree) → IsTrue (clash c d) → Fits c v → Fits d v → ⊥
  clash_apart (var n) d v h p q = absurd cc
  clash_apart (app f cs) (var n) v h p q = absurd cc
  clash_apart (app f cs) (app g ds) (var n) h p q = elim p [ ]
  clash_apart (app f cs) (app g ds) (app k vs) h (fits_symbol p) (fits_symbol q) =
      elim (or_cases (not (f == f)) (some_clash cs ds) h) [ inl e ↦ differ f e | inr e ↦ some_clash_apart cs ds vs e p q ]

  some_clash_apart : (cs ds vs : Trees) → IsTrue (some_clash cs ds) → EachFits cs vs → EachFits ds vs → ⊥
  some_clash_apart nil nil vs h p q = absurd cc
  some_clash_apart nil (cons d ds) nil h p q = elim q [ ]
  some_clash_apart nil (cons d ds) (cons v vs) h p q = elim p [ ]
  some_clash_apart (cons c cs) nil nil h p q = elim p [ ]
  some_clash_apart (cons c cs) nil (cons v vs) h p q = elim q [ ]
  some_clash_apart (cons c cs) (cons d ds) nil h p q = elim p [ ]
  some_clash_apart (cons c cs) (cons d ds) (cons v vs) h (fits_cons p ps) (fits_cons q qs) =
      elim (or_cases (clash c d) (some_clash cs ds) h) [ inl e ↦ clash_apart c d v e p q | inr e ↦ some_clash_apart cs ds vs e ps qs ]

neither : (a b : Bool) → (IsTrue (a || b) → ⊥) → (IsTrue a → ⊥) × (IsTrue b → ⊥)
neither true b h = (λ e. h refl, λ e. h refl)
neither false b h = (λ e. absurd cc, h)

same_symbol : (f g : ℕ) → (IsTrue (not (f == g)) → ⊥) → f ≡ g
same_symbol f g h = grind (arith, nat_tests)

-- each cap fits itself
mutual
  itself : (c : Tree) → Fits c c
  itself (var n) = fits_variable
  itself (app f cs) = fits_symbol (themselves cs)

  themselves : (cs : Trees) → EachFits cs cs
  themselves nil = fits_nil
  themselves (cons c cs) = fits_cons (itself c) (themselves cs)

mutual
  pub together : (c d : Tree) → (IsTrue (clash c d) → ⊥) → (v : Tree) × Fits c v × Fits d v
  together (var n) d h = (d, fits_variable, itself d)
  together (app f cs) (var n) h = (app f cs, itself (app f cs), fits_variable)
  together (app f cs) (app g ds) h =
      let (same, rest) = neither (not (f == g)) (some_clash cs ds) h in
      let (vs, ps, qs) = all_together cs ds rest in
      (app f vs, fits_symbol ps, subst (λ k. Fits (app k ds) (app f vs)) (same_symbol f g same) (fits_symbol qs))

  all_together : (cs ds : Trees) → (IsTrue (some_clash cs ds) → ⊥) → (vs : Trees) × EachFits cs vs × EachFits ds vs
  all_together nil nil h = (nil, fits_nil, fits_nil)
  all_together nil (cons d ds) h = absurd (h refl)
  all_together (cons c cs) nil h = absurd (h refl)
  all_together (cons c cs) (cons d ds) h =
      let (one, more) = neither (clash c d) (some_clash cs ds) h in
      let (v, p, q) = together c d one in
      let (vs, ps, qs) = all_together cs ds more in
      (cons v vs, fits_cons p ps, fits_cons q qs)
