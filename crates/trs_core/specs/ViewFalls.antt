-- Each argument is smaller than the term.
use Rattle.std.specs.Prelude.{◌≤◌, List, [], ◌∷◌, map}
use Rattle.std.proofs.Common.{arith}
use Rattle.trs_defs.specs.Tree.{trees}
use Rattle.trs_defs.specs.Size.{size_of, size_of_all}
use Rattle.trs_core.specs.declared.terms.Term.{Term}
use Rattle.trs_core.specs.declared.terms.Term.TheVariants.{Var, App}
use Rattle.trs_core.specs.declared.terms.Args.TheDeep.{deep-Term}
use Rattle.trs_core.specs.View.{tree}
use denote.Param.Weighed.{most}

deep_le_size_of : (t : Term) → deep-Term t ≤ size_of (tree t)
deep_le_size_of (Var n) = omega arith
deep_le_size_of (App f args) = omega arith

pub most_le_size_of_all : (ts : List Term) → most deep-Term ts ≤ size_of_all (trees (map tree ts))
most_le_size_of_all [] = omega arith
most_le_size_of_all (t ∷ ts) = omega (arith, deep_le_size_of t, most_le_size_of_all ts)
