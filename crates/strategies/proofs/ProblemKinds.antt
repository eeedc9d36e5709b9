-- Which problem each strategy is for.
use Rattle.std.specs.Prelude.{◌≡◌, ◌⊎◌, ℕ, List, [], ◌∷◌, IsTrue, Result, Ok, Err, IfOk}
use Rattle.std.specs.List.{AllByRecursion}
use Rattle.std.proofs.Common.{refl, sym, subst, inl, inr}
use Rattle.trs_defs.specs.Member.{In, in_first, in_rest}
use Rattle.trs_defs.proofs.Members.{in_or, no_in}
use Rattle.cert_step.specs.ProofProblem as problem
use Rattle.cert_step.specs.ProofProblem.{ProofProblem}
use Rattle.cert_step.specs.OnPairs.{for_pairs}
use Rattle.strategies.specs.declared.strategy.Strategy.{Strategy}
use Rattle.strategies.specs.declared.strategy.Strategy.TheVariants.{Dp, Graph, Subterm, Poly, Lpo, Kbo, Usable, Loop, Parallel, Strong, Label, Newman, Fork, Confluence, Split}
use Rattle.trs_defs.specs.System.{System}
use Rattle.trs_core.specs.declared.memory.OutOfMemory.{OutOfMemory}
use Rattle.strategies.specs.declared.outcome.Findings.{Findings}
use Rattle.strategies.specs.declared.searched.Searched.{Searched}
use Rattle.strategies.specs.Kinds.{strategies_for, IsOnPeaks}
use Rattle.strategies.specs.Truth.{AreTrueFindings}
use Rattle.strategies.specs.Endings.{IsAnswer, EndsAs}

abbrev pub IsFor : Strategy → ProofProblem → Type 0
IsFor Dp p = p ≡ problem.sn
IsFor Graph p = IsTrue (for_pairs p)
IsFor Subterm p = IsTrue (for_pairs p)
IsFor Poly p = IsTrue (for_pairs p)
IsFor Lpo p = IsTrue (for_pairs p)
IsFor Kbo p = IsTrue (for_pairs p)
IsFor Usable p = IsTrue (for_pairs p)
IsFor Loop p = p ≡ problem.loop
IsFor Parallel p = p ≡ problem.cr
IsFor Strong p = p ≡ problem.cr
IsFor Label p = p ≡ problem.cr
IsFor Newman p = p ≡ problem.cr_newman
IsFor Fork p = p ≡ problem.fork
IsFor Confluence p = (p ≡ problem.unr) ⊎ (p ≡ problem.unr_newman)
IsFor Split p = p ≡ problem.split

each_of : (P : Strategy → Type 0) (xs : List Strategy) → AllByRecursion P xs → (s : Strategy) → In s xs → P s
each_of P [] all s i = absurd (no_in i)
each_of P (x ∷ xs) all s i = elim (in_or i) [ inl same ↦ subst P (sym same) all.0 | inr later ↦ each_of P xs all.1 s later ]

pub is_for : (p : ProofProblem) (s : Strategy) → In s (strategies_for p) → IsFor s p
is_for problem.sn s i = each_of (λ t. IsFor t problem.sn) (strategies_for problem.sn) (refl, tt) s i
is_for (problem.dp numbers) s i =
    each_of (λ t. IsFor t (problem.dp numbers)) (strategies_for (problem.dp numbers)) (refl, (refl, (refl, (refl, (refl, (refl, tt)))))) s i
is_for problem.loop s i = each_of (λ t. IsFor t problem.loop) (strategies_for problem.loop) (refl, tt) s i
is_for problem.cr s i = each_of (λ t. IsFor t problem.cr) (strategies_for problem.cr) (refl, (refl, (refl, tt))) s i
is_for problem.cr_newman s i = each_of (λ t. IsFor t problem.cr_newman) (strategies_for problem.cr_newman) (refl, tt) s i
is_for problem.fork s i = each_of (λ t. IsFor t problem.fork) (strategies_for problem.fork) (refl, tt) s i
is_for problem.unr s i = each_of (λ t. IsFor t problem.unr) (strategies_for problem.unr) (inl refl, tt) s i
is_for problem.unr_newman s i = each_of (λ t. IsFor t problem.unr_newman) (strategies_for problem.unr_newman) (inr refl, tt) s i
is_for problem.split s i = each_of (λ t. IsFor t problem.split) (strategies_for problem.split) (refl, tt) s i

-- the problem of a strategy whose name is known
pub is_for_this : (p : ProofProblem) (s t : Strategy) → In s (strategies_for p) → s ≡ t → IsFor t p
is_for_this p s t i e = subst (λ x. IsFor x p) e (is_for p s i)

-- what a strategy answers of the one problem that it is for
pub answers_for : (system : System) (budget : ℕ) (s t : Strategy) (p q : ProofProblem) (rose : Type 0) (result : Result Searched OutOfMemory) → s ≡ t → p ≡ q
    → IfOk result (IsAnswer system budget t q rose) → IfOk result (IsAnswer system budget s p rose)
answers_for system budget s t p q rose result same is h =
    subst (λ x. IfOk result (IsAnswer system budget x p rose)) (sym same) (subst (λ x. IfOk result (IsAnswer system budget t x rose)) (sym is) h)

-- what a strategy answers whose search is never stopped
pub answers_always : (system : System) (budget : ℕ) (s t : Strategy) (p : ProofProblem) (rose : Type 0) (found : Result Findings OutOfMemory) (result : Result Searched OutOfMemory)
    → s ≡ t → EndsAs found result → IfOk found (λ findings. (b : ℕ) → AreTrueFindings system b t p findings) → IfOk result (IsAnswer system budget s p rose)
answers_always system budget s t p rose (Ok findings) result same ends h =
    subst (λ x. IfOk result (IsAnswer system budget x p rose)) (sym same) (subst (λ r. IfOk r (IsAnswer system budget t p rose)) (sym ends) (h budget))
answers_always system budget s t p rose (Err fault) (Ok searched) same ends h = absurd cc
answers_always system budget s t p rose (Err fault) (Err other) same ends h = tt

pub none_else : (s : Strategy) → IsOnPeaks s → (s ≡ Parallel → ⊥) → (s ≡ Strong → ⊥) → (s ≡ Label → ⊥) → (s ≡ Newman → ⊥) → (s ≡ Fork → ⊥) → (s ≡ Split → ⊥) → ⊥
none_else s i a b c d e f = one (Parallel ∷ Strong ∷ Label ∷ Newman ∷ Fork ∷ Split ∷ []) i (a, (b, (c, (d, (e, (f, tt))))))
  where
    one : (xs : List Strategy) → In s xs → AllByRecursion (λ t. s ≡ t → ⊥) xs → ⊥
    one [] j all = no_in j
    one (x ∷ xs) j all = elim (in_or j) [ inl same ↦ all.0 same | inr later ↦ one xs later all.1 ]

-- each other strategy is on peaks
pub on_peaks : (s : Strategy) → (s ≡ Dp → ⊥) → (s ≡ Graph → ⊥) → (s ≡ Subterm → ⊥) → (s ≡ Poly → ⊥) → (s ≡ Lpo → ⊥) → (s ≡ Kbo → ⊥) → (s ≡ Usable → ⊥) → (s ≡ Loop → ⊥) → (s ≡ Confluence → ⊥) → IsOnPeaks s
on_peaks Dp a b c d e f g h i = absurd (a refl)
on_peaks Graph a b c d e f g h i = absurd (b refl)
on_peaks Subterm a b c d e f g h i = absurd (c refl)
on_peaks Poly a b c d e f g h i = absurd (d refl)
on_peaks Lpo a b c d e f g h i = absurd (e refl)
on_peaks Kbo a b c d e f g h i = absurd (f refl)
on_peaks Usable a b c d e f g h i = absurd (g refl)
on_peaks Loop a b c d e f g h i = absurd (h refl)
on_peaks Confluence a b c d e f g h i = absurd (i refl)
on_peaks Parallel a b c d e f g h i = in_first
on_peaks Strong a b c d e f g h i = in_rest in_first
on_peaks Label a b c d e f g h i = in_rest (in_rest in_first)
on_peaks Newman a b c d e f g h i = in_rest (in_rest (in_rest in_first))
on_peaks Fork a b c d e f g h i = in_rest (in_rest (in_rest (in_rest in_first)))
on_peaks Split a b c d e f g h i = in_rest (in_rest (in_rest (in_rest (in_rest in_first))))
