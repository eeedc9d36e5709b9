-- Which strategies a problem has, in the order in which they are tried, and their names.
use Rattle.std.specs.Prelude.{ℕ, List, [], ◌∷◌, codes}
use Rattle.trs_defs.specs.Member.{In}
use Rattle.cert_step.specs.ProofProblem as problem
use Rattle.cert_step.specs.ProofProblem.{ProofProblem}
use Rattle.strategies.specs.declared.strategy.Strategy.{Strategy}
use Rattle.strategies.specs.declared.strategy.Strategy.TheVariants.{Dp, Graph, Subterm, Poly, Lpo, Kbo, Usable, Loop, Parallel, Strong, Label, Newman, Fork, Confluence, Split}

abbrev pub strategies_for : ProofProblem → List Strategy
strategies_for problem.sn = Dp ∷ []
strategies_for (problem.dp pairs) = Graph ∷ Subterm ∷ Poly ∷ Lpo ∷ Kbo ∷ Usable ∷ []
strategies_for problem.loop = Loop ∷ []
strategies_for problem.cr = Parallel ∷ Strong ∷ Label ∷ []
strategies_for problem.cr_newman = Newman ∷ []
strategies_for problem.fork = Fork ∷ []
strategies_for problem.unr = Confluence ∷ []
strategies_for problem.unr_newman = Confluence ∷ []
strategies_for problem.split = Split ∷ []

abbrev pub word_of : Strategy → List ℕ
word_of Dp = codes "dp"
word_of Graph = codes "graph"
word_of Subterm = codes "subterm"
word_of Poly = codes "poly"
word_of Lpo = codes "lpo"
word_of Kbo = codes "kbo"
word_of Usable = codes "usable"
word_of Loop = codes "loop"
word_of Parallel = codes "parallel"
word_of Strong = codes "strong"
word_of Label = codes "label"
word_of Newman = codes "newman"
word_of Fork = codes "fork"
word_of Confluence = codes "confluence"
word_of Split = codes "split"

-- the strategies that look at critical peaks
abbrev pub IsOnPeaks : Strategy → Type 0
IsOnPeaks s = In s (Parallel ∷ Strong ∷ Label ∷ Newman ∷ Fork ∷ Split ∷ [])
