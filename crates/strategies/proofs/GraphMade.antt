-- The components of a problem are items of a well-made step.
use Rattle.std.specs.Prelude.{◌≡◌, ℕ, Bool, true, false, List, [], ◌∷◌, IsTrue}
use Rattle.std.specs.List.{AllByRecursion}
use Rattle.std.proofs.Common.{subst}
use Rattle.trs_defs.specs.Member.{In, in_first, in_rest}
use Rattle.trs_defs.proofs.Members.{no_in}
use Rattle.trs_defs.specs.Run.{Stay}
use Rattle.trs_defs.specs.System.{RewriteRule}
use Rattle.pair_theory.specs.DependencyPair.{DependencyPair}
use Rattle.cert_step.specs.dp_graph.GroupOrSingle.{GroupOrSingle, group, single}
use Rattle.cert_step.specs.dp_graph.Components.{IsComponent}
use Rattle.cert_step.specs.GraphKind.{IsGraphItem}

module _ (rules : List RewriteRule) (all : List DependencyPair) (numbers : List ℕ) where
  item_made : (item : GroupOrSingle) → IsComponent rules all numbers item → IsGraphItem item
  item_made (group members) h =
      let (m, cycle, each) = h.1 in (
        λ none. no_in (subst (λ (l : List ℕ). In m l) none ((each m).1 (cycle.1.0, (Stay, Stay)))),
        h.0,
      )
  item_made (single member) h = tt

  pub items_made : (items : List GroupOrSingle) → ((item : GroupOrSingle) → In item items → IsComponent rules all numbers item) → AllByRecursion IsGraphItem items
  items_made [] each = tt
  items_made (item ∷ items) each = (item_made item (each item in_first), items_made items (λ other i. each other (in_rest i)))

pub split_by : (b : Bool) → b ≡ false → IsTrue b → ⊥
split_by true e h = absurd cc
split_by false e h = absurd cc
