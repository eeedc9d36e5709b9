-- The kept arguments of a term, and a filtered term at its root.
use Rattle.std.specs.Prelude.{◌≡◌, ◌≤◌, ◌<◌, ℕ, ◌+◌, Option, Some, None, length}
use Rattle.std.specs.Borrow.{Bor}
use Rattle.trs_defs.specs.Tree.{Tree, Trees, nil, cons}
use Rattle.trs_defs.specs.Size.{size_of, size_of_all}
use Rattle.trs_core.specs.declared.terms.Term.{Term}
use Rattle.trs_core.specs.View.{tree, forest}
use Rattle.order_theory.specs.ArgumentFilter.{ArgumentFilter, select, filtered, filtered_all}
use Rattle.path_lpo.specs.declared.kept.Kept.{Kept}
use Rattle.path_lpo.specs.declared.root.Root.{Root}
use Rattle.path_lpo.specs.declared.root.Root.TheVariants.{Variable, Symbol}
use Rattle.path_lpo.specs.Root.{root_tree}
use Rattle.path_lpo.specs.Walked.{Walked}

abbrev pub kept_of : Kept → Trees
kept_of k = select k.places.now (forest k.args.now)

-- the first kept argument, which is one of the arguments, and the others
pub record IsFirstOf (k : Kept) (first : Term) (others : Kept) : Type 0 where
  pub kept_are : kept_of k ≡ cons (tree first) (kept_of others)
  pub size : size_of (tree first) ≤ size_of_all (forest k.args.now)
  pub same_args : others.args.now ≡ k.args.now
  pub fewer_places : length others.places.now < length k.places.now

abbrev pub IsSplit : Kept → Option (Bor Term × Kept) → Type 0
IsSplit k None = kept_of k ≡ nil
IsSplit k (Some p) = IsFirstOf k p.0.now p.1

-- the kept arguments, filtered
abbrev pub filtered_of : (ℕ → ArgumentFilter) → Kept → Trees
filtered_of filter k = filtered_all filter (kept_of k)

-- the filtered term
abbrev pub whole_of : (ℕ → ArgumentFilter) → Root Kept → Tree
whole_of filter r = root_tree (filtered_of filter) r

-- the number of its nodes before its arguments are filtered
abbrev pub size_of_root : Root Kept → ℕ
size_of_root (Variable x) = 1
size_of_root (Symbol f k) = 1 + size_of_all (forest k.args.now)

-- terms and lists of kept arguments, as they are
abbrev pub unshared_terms : (ℕ → ArgumentFilter) → Walked (Bor Term) Kept
unshared_terms filter = record {
  tree = λ t. filtered filter (tree t.now);
  trees = filtered_of filter;
  size = λ t. size_of (tree t.now);
  bound = λ k. size_of_all (forest k.args.now);
  most = λ k. length k.places.now;
}
