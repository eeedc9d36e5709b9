-- Systems that are not confluent, and meet all premises of a theorem but one.
use Rattle.std.specs.Prelude.{◌≡◌, ◌≢◌, ℕ, List, [], ◌∷◌, Some, map, slice_get}
use Rattle.std.proofs.Common.{zero, suc, refl, inl, inr, arith}
use Rattle.trs_defs.specs.Member.{In, in_first, in_rest}
use Rattle.trs_defs.specs.Tree.{Tree}
use Rattle.trs_defs.specs.System.{RewriteRule, System, IsSystem}
use Rattle.trs_defs.specs.Joinable.{IsJoinable}
use Rattle.trs_defs.specs.NormalForm.{IsNormalForm}
use Rattle.confluence_theory.specs.Linear.{AreLeftLinear, AreRightLinear}
use Rattle.confluence_theory.specs.Peak.{Peak, Covers}
use Rattle.confluence_theory.specs.LabelledPath.{LabelledPath}
use Rattle.confluence_theory.specs.RanksFit.{RanksFit}
use Rattle.confluence_theory.specs.RuleRanks.{NumberedStep, rank_of}
use Rattle.trs_defs.specs.Step.{Step}
use Rattle.trs_defs.specs.Claims.{IsForked}
use Rattle.trs_defs.proofs.NormalForms.{forked_by_normal_forms}
use Rattle.confluence_theory.proofs.Constants.{constant, rewrites, peak_of, nullary, AreConstant, constant_system, constant_left, constant_right, symbols_of, HasConstantPeaks, listed_at, constant_covers, constant_step, constant_reaches, constant_next}

-- Without termination: b -> a, b -> c, c -> b, c -> d (Kleene's example).

abbrev kleene : List RewriteRule
kleene = rewrites 1 0 ∷ rewrites 1 2 ∷ rewrites 2 1 ∷ rewrites 2 3 ∷ []

abbrev kleene_system : System
kleene_system = record { arities = nullary; rules = kleene }

abbrev kleene_peaks : List Peak
kleene_peaks = peak_of 0 1 1 0 2 ∷ peak_of 1 0 1 2 0 ∷ peak_of 2 3 2 1 3 ∷ peak_of 3 2 2 3 1 ∷ []

each_peak : (P : Peak → Type 0) → P (peak_of 0 1 1 0 2) → P (peak_of 1 0 1 2 0) → P (peak_of 2 3 2 1 3) → P (peak_of 3 2 2 3 1)
    → (peak : Peak) → In peak kleene_peaks → P peak
each_peak P a b c d peak in_first = a
each_peak P a b c d peak (in_rest in_first) = b
each_peak P a b c d peak (in_rest (in_rest in_first)) = c
each_peak P a b c d peak (in_rest (in_rest (in_rest in_first))) = d
each_peak P a b c d peak (in_rest (in_rest (in_rest (in_rest h)))) = elim h [ ]

kleene_constant : AreConstant kleene
kleene_constant zero r e = (1, 0, cc e, refl, refl)
kleene_constant (suc zero) r e = (1, 2, cc e, refl, refl)
kleene_constant (suc (suc zero)) r e = (2, 1, cc e, refl, refl)
kleene_constant (suc (suc (suc zero))) r e = (2, 3, cc e, refl, refl)
kleene_constant (suc (suc (suc (suc k)))) r e = absurd cc

kleene_listed : HasConstantPeaks kleene kleene_peaks
kleene_listed zero zero f g h e e' n = absurd (n refl)
kleene_listed zero (suc zero) f g h e e' n = listed_at 0 1 1 0 2 f g h kleene_peaks e e' in_first
kleene_listed (suc zero) zero f g h e e' n = listed_at 1 0 1 2 0 f g h kleene_peaks e e' (in_rest in_first)
kleene_listed (suc zero) (suc zero) f g h e e' n = absurd (n refl)
kleene_listed (suc (suc zero)) (suc (suc zero)) f g h e e' n = absurd (n refl)
kleene_listed (suc (suc zero)) (suc (suc (suc zero))) f g h e e' n = listed_at 2 3 2 1 3 f g h kleene_peaks e e' (in_rest (in_rest in_first))
kleene_listed (suc (suc (suc zero))) (suc (suc zero)) f g h e e' n = listed_at 3 2 2 3 1 f g h kleene_peaks e e' (in_rest (in_rest (in_rest in_first)))
kleene_listed (suc (suc (suc zero))) (suc (suc (suc zero))) f g h e e' n = absurd (n refl)
kleene_listed (suc (suc (suc (suc i)))) j f g h e e' n = absurd cc
kleene_listed i (suc (suc (suc (suc j)))) f g h e e' n = absurd cc
kleene_listed i j f g h e e' n = let (p, q) = symbols_of _ _ _ _ e in let (p', q') = symbols_of _ _ _ _ e' in absurd (omega arith)

kleene_covers : Covers kleene kleene_peaks
kleene_covers = constant_covers kleene kleene_peaks kleene_constant kleene_listed

b_a : Step kleene (constant 1) (constant 0)
b_a = constant_reaches kleene 0 1 0 refl

b_c : Step kleene (constant 1) (constant 2)
b_c = constant_reaches kleene 1 1 2 refl

c_b : Step kleene (constant 2) (constant 1)
c_b = constant_reaches kleene 2 2 1 refl

c_d : Step kleene (constant 2) (constant 3)
c_d = constant_reaches kleene 3 2 3 refl

-- each listed peak joins
kleene_joins : (peak : Peak) → In peak kleene_peaks → IsJoinable (Step kleene) peak.left peak.right
kleene_joins =
    each_peak (λ p. IsJoinable (Step kleene) p.left p.right)
    (constant 0, (0, refl), (2, (constant 1, c_b, (constant 0, b_a, refl))))
    (constant 0, (2, (constant 1, c_b, (constant 0, b_a, refl))), (0, refl))
    (constant 3, (2, (constant 2, b_c, (constant 3, c_d, refl))), (0, refl))
    (constant 3, (0, refl), (2, (constant 2, b_c, (constant 3, c_d, refl))))

never_left : (k f g : ℕ) → slice_get kleene k ≡ Some (rewrites f g) → f ≢ 0 × (f ≢ 3)
never_left zero f g e = let (p, q) = symbols_of _ _ _ _ e in (λ k. absurd (omega arith), λ k. absurd (omega arith))
never_left (suc zero) f g e = let (p, q) = symbols_of _ _ _ _ e in (λ k. absurd (omega arith), λ k. absurd (omega arith))
never_left (suc (suc zero)) f g e = let (p, q) = symbols_of _ _ _ _ e in (λ k. absurd (omega arith), λ k. absurd (omega arith))
never_left (suc (suc (suc zero))) f g e = let (p, q) = symbols_of _ _ _ _ e in (λ k. absurd (omega arith), λ k. absurd (omega arith))
never_left (suc (suc (suc (suc k)))) f g e = absurd cc

a_normal : IsNormalForm (Step kleene) (constant 0)
a_normal u s = let (k, g, e, same) = constant_next kleene kleene_constant 0 u s in (never_left k 0 g e).0 refl

d_normal : IsNormalForm (Step kleene) (constant 3)
d_normal u s = let (k, g, e, same) = constant_next kleene kleene_constant 3 u s in (never_left k 3 g e).1 refl

kleene_forked : IsForked kleene_system
kleene_forked =
    forked_by_normal_forms kleene_system (constant 1) (constant 0) (constant 3) (refl, tt) (1, (constant 0, b_a, refl))
    (2, (constant 2, b_c, (constant 3, c_d, refl))) a_normal d_normal (λ e. absurd (cc e))

-- Joined peaks want a terminating system.
joined_needs_termination : IsSystem kleene_system × Covers kleene kleene_peaks × ((peak : Peak) → In peak kleene_peaks → IsJoinable (Step kleene) peak.left peak.right) × IsForked kleene_system
joined_needs_termination = (constant_system kleene kleene_constant, kleene_covers, kleene_joins, kleene_forked)

-- With the ranks exchanged: b -> a and c -> d have rank 0, b -> c and c -> b rank 1.

abbrev exchanged_ranks : List ℕ
exchanged_ranks = 0 ∷ 1 ∷ 1 ∷ 0 ∷ []

-- a decreasing peak with inner and outer exchanged
record IsExchanged (peak : Peak) : Type 0 where
  end : Tree
  left_path : List ℕ
  left_steps : LabelledPath (NumberedStep kleene) left_path peak.left end
  left_fits : RanksFit (rank_of exchanged_ranks peak.outer) (rank_of exchanged_ranks peak.inner) (map (rank_of exchanged_ranks) left_path)
  right_path : List ℕ
  right_steps : LabelledPath (NumberedStep kleene) right_path peak.right end
  right_fits : RanksFit (rank_of exchanged_ranks peak.inner) (rank_of exchanged_ranks peak.outer) (map (rank_of exchanged_ranks) right_path)

c_to_a : LabelledPath (NumberedStep kleene) (2 ∷ 0 ∷ []) (constant 2) (constant 0)
c_to_a = (constant 1, constant_step kleene 2 2 1 refl, (constant 0, constant_step kleene 0 1 0 refl, refl))

b_to_d : LabelledPath (NumberedStep kleene) (1 ∷ 3 ∷ []) (constant 1) (constant 3)
b_to_d = (constant 2, constant_step kleene 1 1 2 refl, (constant 3, constant_step kleene 3 2 3 refl, refl))

kleene_exchanged : (peak : Peak) → In peak kleene_peaks → IsExchanged peak
kleene_exchanged =
    each_peak IsExchanged
    (record { end = constant 0; left_path = []; left_steps = refl; left_fits = tt; right_path = 2 ∷ 0 ∷ []; right_steps = c_to_a; right_fits = inr (inl (refl, (inr (omega arith), tt))) })
    (record { end = constant 0; left_path = 2 ∷ 0 ∷ []; left_steps = c_to_a; left_fits = inr (inl (refl, (inr (omega arith), tt))); right_path = []; right_steps = refl; right_fits = tt })
    (record { end = constant 3; left_path = 1 ∷ 3 ∷ []; left_steps = b_to_d; left_fits = inr (inl (refl, (inr (omega arith), tt))); right_path = []; right_steps = refl; right_fits = tt })
    (record { end = constant 3; left_path = []; left_steps = refl; left_fits = tt; right_path = 1 ∷ 3 ∷ []; right_steps = b_to_d; right_fits = inr (inl (refl, (inr (omega arith), tt))) })

-- The system is linear, its peaks close with the ranks exchanged, and it is forked.
ranks_must_not_be_exchanged : AreLeftLinear kleene × AreRightLinear kleene × Covers kleene kleene_peaks × ((peak : Peak) → In peak kleene_peaks → IsExchanged peak) × IsForked kleene_system
ranks_must_not_be_exchanged =
    (constant_left kleene kleene_constant, constant_right kleene kleene_constant, kleene_covers, kleene_exchanged, kleene_forked)
