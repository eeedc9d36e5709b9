-- The line of a sample system.
use Rattle.std.specs.Prelude.{ℕ, List, ◌++◌, codes, decimal, length}
use Rattle.trs_defs.specs.System.{System}
use Rattle.pair_theory.specs.DependencyPair.{dependency_pairs}
use Rattle.sampling.specs.Family.{sample}
use Rattle.sampling.specs.declared.judgement.Judgement.{Judgement}
use Rattle.sampling.specs.declared.judgement.Judgement.TheVariants.{Proved, Refuted, Open}
use Rattle.sampling.specs.Judged.{IsTrueJudgement, IsSerialJudgement}

abbrev pub judgement_word : Judgement → List ℕ
judgement_word Proved = codes " proved\n"
judgement_word Refuted = codes " refuted\n"
judgement_word Open = codes " open\n"

-- how many rules and dependency pairs a system has, and what is judged of it
abbrev pub line_of : System → Judgement → List ℕ
line_of system judgement =
    codes "rules " ++ (decimal (length system.rules) ++ (codes " pairs " ++ (decimal (length (dependency_pairs system.rules)) ++ judgement_word judgement)))

-- the line of the sample system of a number, which is judged truly
pub data IsSampleLine (size budget : ℕ) : List ℕ → Type 0 where
  judged : (judgement : Judgement) → IsTrueJudgement (sample size).system budget judgement
      → IsSampleLine size budget (line_of (sample size).system judgement)

-- the line of the sample system of a number, as one worker judges it
pub data IsSerialLine (size budget : ℕ) : List ℕ → Type 0 where
  judged_alone : (judgement : Judgement) → IsSerialJudgement (sample size).system budget judgement
      → IsSerialLine size budget (line_of (sample size).system judgement)
