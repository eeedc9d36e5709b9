-- Dependency pairs. (Arts and Giesl, 2000. Pairs whose right side is a proper subterm of the left side
-- stay.)
use Rattle.std.specs.Prelude.{List, [], ◌∷◌, ◌++◌, Bool, true, false}
use Rattle.trs_defs.specs.Tree.{Tree, Trees, var, app, nil, cons}
use Rattle.trs_defs.specs.System.{RewriteRule, IsDefined, is_defined}
use Rattle.pair_theory.specs.Subterm.{Sub}
use Rattle.pair_theory.specs.Marked.{Marked, marked, plain}

-- l is a left side, and t a subterm of its right side with a defined root
pub data IsDependencyPair (rule : Tree → Tree → Type 0) (l t : Marked) : Type 0 where
  from_rule : (r : Tree) → rule (plain l) r → Sub (plain t) r → IsDefined rule t.symbol → IsDependencyPair rule l t

-- from -> to, two marked terms
pub record DependencyPair : Type 0 where
  pub from : Marked
  pub to : Marked

-- the subterms in preorder
abbrev mutual
  pub subterms : Tree → List Tree
  subterms (var x) = var x ∷ []
  subterms (app f ts) = app f ts ∷ subterms_of_all ts

  pub subterms_of_all : Trees → List Tree
  subterms_of_all nil = []
  subterms_of_all (cons t ts) = subterms t ++ subterms_of_all ts

abbrev pub keep_if : {A : Type 0} → Bool → A → List A → List A
keep_if true x xs = x ∷ xs
keep_if false x xs = xs

-- the pairs from l to those of the terms that have a defined root
abbrev pub pairs_to : List RewriteRule → Marked → List Tree → List DependencyPair
pairs_to rules l [] = []
pairs_to rules l (var x ∷ ts) = pairs_to rules l ts
pairs_to rules l (app g us ∷ ts) = keep_if (is_defined rules g) (record { from = l; to = marked g us }) (pairs_to rules l ts)

-- the pairs of one rule l -> r
abbrev pub pairs_of : List RewriteRule → Tree → Tree → List DependencyPair
pairs_of rules (var x) r = []
pairs_of rules (app f ls) r = pairs_to rules (marked f ls) (subterms r)

abbrev pub pairs_of_each : List RewriteRule → List RewriteRule → List DependencyPair
pairs_of_each rules [] = []
pairs_of_each rules (rule ∷ rest) = pairs_of rules rule.left rule.right ++ pairs_of_each rules rest

-- rules in order, and within a rule the right side's subterms with a defined root, in preorder
abbrev pub dependency_pairs : List RewriteRule → List DependencyPair
dependency_pairs rules = pairs_of_each rules rules
