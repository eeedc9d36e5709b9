use Rattle.std.proofs.Common.{◌<◌, List, ℕ, All, subst, sym}
use Rattle.order_search.proofs.Covered.{all_small}
use Rattle.order_search.proofs.symbols.order_symbols.Goals as goal

pub add_marked-requires : goal.add_marked-requires
add_marked-requires c =
    subst (λ (l : List ℕ). All (λ f. f < 4096) l) (sym c.deref.ensures.value)
    (all_small c.in_ok-roots.roots.items 4096 (λ f i. c.requires f ((c.in_ok-roots.ensures.each f).0 i)))
