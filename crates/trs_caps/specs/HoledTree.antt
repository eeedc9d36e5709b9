-- Terms with holes: caps whose fresh variables have no names, since each occurs once. (Thiemann and Sternagel, Certification
-- of termination proofs using CeTA, 2009.)
use Rattle.std.specs.Prelude.{◌≡◌, ℕ, ◌+◌, List, [], ◌∷◌, refl}
use Rattle.std.specs.Coded.{Coded, code_by}
use Rattle.std.proofs.Common.{zero, suc, ap}
use Rattle.trs_defs.specs.Tree.{Tree, Trees, var, app, nil, cons, tree_code}

mutual
  -- a hole, a variable that counts as a constant, or a symbol with a list of these
  pub data HoledTree : Type 0 where
    hole : HoledTree
    own : ℕ → HoledTree
    symbol : ℕ → HoledTrees → HoledTree

  pub data HoledTrees : Type 0 where
    none : HoledTrees
    more : HoledTree → HoledTrees → HoledTrees

-- the argument list with these items
abbrev pub holed_trees : List HoledTree → HoledTrees
holed_trees [] = none
holed_trees (c ∷ cs) = more c (holed_trees cs)

-- the term stands where the cap does: a hole stands for any term, an own variable for itself
mutual
  pub data Fits : HoledTree → Tree → Type 0 where
    fits_hole : {t : Tree} → Fits hole t
    fits_own : {v : ℕ} → Fits (own v) (var v)
    fits_symbol : {f : ℕ} {cs : HoledTrees} {ts : Trees} → EachFits cs ts → Fits (symbol f cs) (app f ts)

  pub data EachFits : HoledTrees → Trees → Type 0 where
    fits_none : EachFits none nil
    fits_more : {c : HoledTree} {t : Tree} {cs : HoledTrees} {ts : Trees} → Fits c t → EachFits cs ts → EachFits (more c cs) (cons t ts)

-- A term with holes is stored as a tree: variable 0 is a hole, and v + 1 the own variable v.
abbrev mutual
  stored : HoledTree → Tree
  stored hole = var 0
  stored (own v) = var (suc v)
  stored (symbol f cs) = app f (all_stored cs)

  all_stored : HoledTrees → Trees
  all_stored none = nil
  all_stored (more c cs) = cons (stored c) (all_stored cs)

abbrev mutual
  restored : Tree → HoledTree
  restored (var zero) = hole
  restored (var (suc v)) = own v
  restored (app f ts) = symbol f (all_restored ts)

  all_restored : Trees → HoledTrees
  all_restored nil = none
  all_restored (cons t ts) = more (restored t) (all_restored ts)

mutual
  pub stored_restored : (c : HoledTree) → restored (stored c) ≡ c
  stored_restored hole = refl
  stored_restored (own v) = refl
  stored_restored (symbol f cs) = ap (symbol f) (all_stored_restored cs)

  pub all_stored_restored : (cs : HoledTrees) → all_restored (all_stored cs) ≡ cs
  all_stored_restored none = refl
  all_stored_restored (more c cs) = cc (stored_restored c, all_stored_restored cs)

abbrev pub holed_code : Coded HoledTree
holed_code = code_by Tree tree_code stored restored stored_restored

-- the number of nodes
abbrev mutual
  pub holed_size : HoledTree → ℕ
  holed_size hole = 1
  holed_size (own v) = 1
  holed_size (symbol f cs) = 1 + holed_sizes cs

  pub holed_sizes : HoledTrees → ℕ
  holed_sizes none = 0
  holed_sizes (more c cs) = holed_size c + holed_sizes cs
