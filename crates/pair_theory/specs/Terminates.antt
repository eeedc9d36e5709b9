-- Terminating terms, said by accessibility: all that the term goes to terminates.
use Rattle.pair_theory.specs.Accessible.{Acc}
use Rattle.trs_defs.specs.Tree.{Tree, Trees}
use Rattle.trs_defs.specs.Step.{RootStep, InsideOne, StepBy}

abbrev pub Terminates : (Tree → Tree → Type 0) → Tree → Type 0
Terminates rule t = Acc (StepBy rule) t

-- a step in one item of an argument list
abbrev pub ArgumentStep : (Tree → Tree → Type 0) → Trees → Trees → Type 0
ArgumentStep rule = InsideOne (RootStep rule)
