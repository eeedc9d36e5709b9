-- The terms of ids, as they are read.
use Rattle.std.specs.Prelude.{◌≡◌, ℕ, List, [], ◌∷◌, ◌++◌}
use Rattle.std.proofs.Common.{ap, sym, ◌∙◌}
use Rattle.std.specs.Global.{Vec}
use Rattle.std.proofs.lemmas.List.{map-append}
use Rattle.trs_defs.specs.Tree.{Tree}
use Rattle.trs_defs.specs.Path.{PlacedRule}
use Rattle.term_pool.specs.Pooled.{StandsFor}
use Rattle.term_pool.specs.Listed.{Listed}
use Rattle.term_pool.specs.ListedIds.{listed, listed_at}
use Rattle.term_pool.proofs.PoolTrees.{stands_at}

-- the terms of one id more
pub one_more_read : (pool : List Tree) (es : List (ℕ × Vec PlacedRule)) (id : ℕ) (path : Vec PlacedRule) (t : Tree) (old new : List Listed) → old ≡ listed_at pool es
    → StandsFor pool id t → new ≡ old ++ record { term = t; path = path.items } ∷ [] → new ≡ listed_at pool (es ++ (id, path) ∷ [])
one_more_read pool es id path t old new made stands is =
    is ∙ (ap (λ xs. xs ++ record { term = t; path = path.items } ∷ []) made
    ∙ (ap (λ u. listed_at pool es ++ record { term = u; path = path.items } ∷ []) (sym (stands_at pool id t stands)) ∙ sym (map-append (listed pool) es ((id, path) ∷ []))))
