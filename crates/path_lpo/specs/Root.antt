-- A filtered term at its root.
use Rattle.std.specs.Prelude.{ℕ, ◌<◌}
use Rattle.trs_defs.specs.Tree.{Tree, Trees, var, app}
use Rattle.path_lpo.specs.declared.root.Root.{Root}
use Rattle.path_lpo.specs.declared.root.Root.TheVariants.{Variable, Symbol}

-- the term with the root, where the lists of arguments stand for these
abbrev pub root_tree : {L : Type 0} → (L → Trees) → Root L → Tree
root_tree trees (Variable x) = var x
root_tree trees (Symbol f args) = app f (trees args)

-- the arguments, if there are any, have a smaller bound
abbrev pub IsRootWithin : {L : Type 0} → (L → ℕ) → ℕ → Root L → Type 0
IsRootWithin bound n (Variable x) = Unit {0}
IsRootWithin bound n (Symbol f args) = bound args < n
