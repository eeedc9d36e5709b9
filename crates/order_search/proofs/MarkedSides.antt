-- A term against a side with its root marked.
use Rattle.std.specs.Prelude.{◌≡◌, ℕ, ◌+◌, List}
use Rattle.std.proofs.Common.{ap, sym, ◌∙◌}
use Rattle.trs_defs.specs.Tree.{Tree, Trees, var, app, nil, trees, items, items_trees}
use Rattle.pair_theory.specs.Marked.{Marked, marked, mark}

abbrev args_of : Tree → Trees
args_of (var x) = nil
args_of (app f ts) = ts

module _ (f : ℕ) (ts us : List Tree) (side : Marked) (is : marked f (trees us) ≡ side) where
  pub is_marked : ts ≡ us → app (f + 4096) (trees ts) ≡ mark side
  is_marked e = ap (λ l. app (f + 4096) (trees l)) e ∙ ap mark is

  pub same_args : app (f + 4096) (trees ts) ≡ mark side → ts ≡ us
  same_args e = sym (items_trees ts) ∙ (ap (λ t. items (args_of t)) (e ∙ sym (ap mark is)) ∙ items_trees us)
