-- Each theorem used once on a small system, so that its premises can be met.
use Rattle.std.specs.Prelude.{◌≡◌, ◌≤◌, ◌<◌, ℕ, List, [], ◌∷◌, Some, slice_get}
use Rattle.std.proofs.Common.{zero, suc, refl, sym, subst, inl, arith}
use Rattle.trs_defs.specs.Member.{in_first, in_rest}
use Rattle.trs_defs.specs.Tree.{var, app, nil, cons, count}
use Rattle.trs_defs.specs.System.{RewriteRule}
use Rattle.confluence_theory.specs.Peak.{Peak}
use Rattle.trs_defs.specs.Step.{Step}
use Rattle.confluence_theory.specs.RuleRanks.{IsDecreasing}
use Rattle.trs_defs.specs.Run.{Same}
use Rattle.trs_defs.specs.Bounded.{IsBoundedBy}
use Rattle.trs_defs.specs.Joinable.{IsJoinable}
use Rattle.confluence_theory.specs.Confluence.{JoinsStrongly}
use Rattle.trs_defs.specs.Claims.{IsConfluent, IsTerminating}
use Rattle.confluence_theory.proofs.Claims.{joined, strongly_closed, decreasing}
use Rattle.confluence_theory.proofs.Constants.{constant, rewrites, peak_of, nullary, AreConstant, constant_system, constant_left, constant_right, symbols_of, HasConstantPeaks, listed_at, constant_covers, each_of_two, constant_step, constant_reaches, constant_next, nullary_arity, variable_normal}

-- Decreasing ranks: a -> b, a -> c, b -> d, c -> d with the ranks 1, 1, 0, 0.

abbrev four : List RewriteRule
four = rewrites 0 1 ∷ rewrites 0 2 ∷ rewrites 1 3 ∷ rewrites 2 3 ∷ []

abbrev four_peaks : List Peak
four_peaks = peak_of 0 1 0 1 2 ∷ peak_of 1 0 0 2 1 ∷ []

four_constant : AreConstant four
four_constant zero r e = (0, 1, cc e, refl, refl)
four_constant (suc zero) r e = (0, 2, cc e, refl, refl)
four_constant (suc (suc zero)) r e = (1, 3, cc e, refl, refl)
four_constant (suc (suc (suc zero))) r e = (2, 3, cc e, refl, refl)
four_constant (suc (suc (suc (suc k)))) r e = absurd cc

four_listed : HasConstantPeaks four four_peaks
four_listed zero zero f g h e e' n = absurd (n refl)
four_listed zero (suc zero) f g h e e' n = listed_at 0 1 0 1 2 f g h four_peaks e e' in_first
four_listed (suc zero) zero f g h e e' n = listed_at 1 0 0 2 1 f g h four_peaks e e' (in_rest in_first)
four_listed (suc zero) (suc zero) f g h e e' n = absurd (n refl)
four_listed (suc (suc zero)) (suc (suc zero)) f g h e e' n = absurd (n refl)
four_listed (suc (suc (suc zero))) (suc (suc (suc zero))) f g h e e' n = absurd (n refl)
four_listed (suc (suc (suc (suc i)))) j f g h e e' n = absurd cc
four_listed i (suc (suc (suc (suc j)))) f g h e e' n = absurd cc
four_listed i j f g h e e' n = let (p, q) = symbols_of _ _ _ _ e in let (p', q') = symbols_of _ _ _ _ e' in absurd (omega arith)

b_c_decreasing : IsDecreasing four (1 ∷ 1 ∷ 0 ∷ 0 ∷ []) (peak_of 0 1 0 1 2)
b_c_decreasing =
    record {
      end = constant 3;
      left_path = 2 ∷ [];
      left_steps = (constant 3, constant_step four 2 1 3 refl, refl);
      left_fits = inl (omega arith, tt);
      right_path = 3 ∷ [];
      right_steps = (constant 3, constant_step four 3 2 3 refl, refl);
      right_fits = inl (omega arith, tt);
    }

c_b_decreasing : IsDecreasing four (1 ∷ 1 ∷ 0 ∷ 0 ∷ []) (peak_of 1 0 0 2 1)
c_b_decreasing =
    record {
      end = constant 3;
      left_path = 3 ∷ [];
      left_steps = (constant 3, constant_step four 3 2 3 refl, refl);
      left_fits = inl (omega arith, tt);
      right_path = 2 ∷ [];
      right_steps = (constant 3, constant_step four 2 1 3 refl, refl);
      right_fits = inl (omega arith, tt);
    }

four_confluent : IsConfluent (record { arities = nullary; rules = four })
four_confluent =
    decreasing (record { arities = nullary; rules = four }) (1 ∷ 1 ∷ 0 ∷ 0 ∷ []) four_peaks (constant_system four four_constant)
    (constant_left four four_constant) (constant_right four four_constant) (constant_covers four four_peaks four_constant four_listed)
    (each_of_two (IsDecreasing four (1 ∷ 1 ∷ 0 ∷ 0 ∷ [])) (peak_of 0 1 0 1 2) (peak_of 1 0 0 2 1) b_c_decreasing c_b_decreasing)

-- Joined peaks: the same system, which terminates.

-- how many steps may follow
abbrev height : ℕ → ℕ
height zero = 2
height (suc zero) = 1
height (suc (suc zero)) = 1
height (suc (suc (suc k))) = 0

four_lower : (k f g : ℕ) → slice_get four k ≡ Some (rewrites f g) → height g < height f
four_lower zero f g e = let (p, q) = symbols_of _ _ _ _ e in rw (← p, ← q) (omega arith)
four_lower (suc zero) f g e = let (p, q) = symbols_of _ _ _ _ e in rw (← p, ← q) (omega arith)
four_lower (suc (suc zero)) f g e = let (p, q) = symbols_of _ _ _ _ e in rw (← p, ← q) (omega arith)
four_lower (suc (suc (suc zero))) f g e = let (p, q) = symbols_of _ _ _ _ e in rw (← p, ← q) (omega arith)
four_lower (suc (suc (suc (suc k)))) f g e = absurd cc

four_bounded : (n f : ℕ) → height f ≤ n → IsBoundedBy (Step four) n (constant f)
four_bounded zero f h = λ u s.
    let (k, g, e, same) = constant_next four four_constant f u s in
    let lower = four_lower k f g e in absurd (omega arith)
four_bounded (suc n) f h = λ u s.
    let (k, g, e, same) = constant_next four four_constant f u s in
    let lower = four_lower k f g e in
    subst (IsBoundedBy (Step four) n) (sym same) (four_bounded n g (omega arith))

four_terminating : IsTerminating (record { arities = nullary; rules = four })
four_terminating (var v) well = (0, variable_normal four four_constant v)
four_terminating (app f nil) well = (height f, four_bounded (height f) f (omega arith))
four_terminating (app f (cons t ts)) well = let no = nullary_arity f (count (cons t ts)) well.0 in absurd (omega arith)

b_c_join : IsJoinable (Step four) (constant 1) (constant 2)
b_c_join =
    (constant 3, (1, (constant 3, constant_reaches four 2 1 3 refl, refl)), (1, (constant 3, constant_reaches four 3 2 3 refl, refl)))

c_b_join : IsJoinable (Step four) (constant 2) (constant 1)
c_b_join =
    (constant 3, (1, (constant 3, constant_reaches four 3 2 3 refl, refl)), (1, (constant 3, constant_reaches four 2 1 3 refl, refl)))

four_joined : IsConfluent (record { arities = nullary; rules = four })
four_joined =
    joined (record { arities = nullary; rules = four }) four_peaks (constant_system four four_constant)
    (constant_covers four four_peaks four_constant four_listed)
    (each_of_two (λ p. IsJoinable (Step four) p.left p.right) (peak_of 0 1 0 1 2) (peak_of 1 0 0 2 1) b_c_join c_b_join) four_terminating

-- Strongly closed: a -> b, a -> c, b -> c, c -> b, which does not terminate.

abbrev turning : List RewriteRule
turning = rewrites 0 1 ∷ rewrites 0 2 ∷ rewrites 1 2 ∷ rewrites 2 1 ∷ []

turning_constant : AreConstant turning
turning_constant zero r e = (0, 1, cc e, refl, refl)
turning_constant (suc zero) r e = (0, 2, cc e, refl, refl)
turning_constant (suc (suc zero)) r e = (1, 2, cc e, refl, refl)
turning_constant (suc (suc (suc zero))) r e = (2, 1, cc e, refl, refl)
turning_constant (suc (suc (suc (suc k)))) r e = absurd cc

turning_listed : HasConstantPeaks turning four_peaks
turning_listed zero zero f g h e e' n = absurd (n refl)
turning_listed zero (suc zero) f g h e e' n = listed_at 0 1 0 1 2 f g h four_peaks e e' in_first
turning_listed (suc zero) zero f g h e e' n = listed_at 1 0 0 2 1 f g h four_peaks e e' (in_rest in_first)
turning_listed (suc zero) (suc zero) f g h e e' n = absurd (n refl)
turning_listed (suc (suc zero)) (suc (suc zero)) f g h e e' n = absurd (n refl)
turning_listed (suc (suc (suc zero))) (suc (suc (suc zero))) f g h e e' n = absurd (n refl)
turning_listed (suc (suc (suc (suc i)))) j f g h e e' n = absurd cc
turning_listed i (suc (suc (suc (suc j)))) f g h e e' n = absurd cc
turning_listed i j f g h e e' n = let (p, q) = symbols_of _ _ _ _ e in let (p', q') = symbols_of _ _ _ _ e' in absurd (omega arith)

b_to_c : JoinsStrongly (Step turning) (constant 1) (constant 2)
b_to_c = (constant 2, (1, (constant 2, constant_reaches turning 2 1 2 refl, refl)), Same)

c_to_b : JoinsStrongly (Step turning) (constant 2) (constant 1)
c_to_b = (constant 1, (1, (constant 1, constant_reaches turning 3 2 1 refl, refl)), Same)

turning_confluent : IsConfluent (record { arities = nullary; rules = turning })
turning_confluent =
    strongly_closed (record { arities = nullary; rules = turning }) four_peaks (constant_system turning turning_constant)
    (constant_left turning turning_constant) (constant_right turning turning_constant)
    (constant_covers turning four_peaks turning_constant turning_listed)
    (each_of_two (λ p. JoinsStrongly (Step turning) p.left p.right × JoinsStrongly (Step turning) p.right p.left) (peak_of 0 1 0 1 2) (peak_of 1 0 0 2 1)
    (b_to_c, c_to_b) (c_to_b, b_to_c))
