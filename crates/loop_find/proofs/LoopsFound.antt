-- Whether a closure loops, from what is found of its link.
use Rattle.std.proofs.Common.{◌≡◌, ℕ, List, [], ◌++◌, ap, sym, ◌∙◌, subst}
use Rattle.trs_defs.specs.Tree.{Tree}
use Rattle.trs_defs.specs.System.{RewriteRule}
use Rattle.trs_defs.specs.Path.{PlacedRule, Follows}
use Rattle.loop_find.specs.Closures.{Closure}
use Rattle.loop_find.specs.LoopRow.{Recurs, RecursFirst, LoopsNot, IsLoopOf}
use Rattle.loop_find.specs.Instances.{LeadsFirst}

same_recurs_first : (pattern t : Tree) (p q : List ℕ) → p ≡ q → RecursFirst pattern t p → RecursFirst pattern t q
same_recurs_first pattern t p q e h = subst (RecursFirst pattern t) e h

-- no place of the right side holds an instance of the left side
pub not_returning : (rules : List RewriteRule) (c : Closure) (t u : Tree) → t ≡ c.left → u ≡ c.right → ((q : List ℕ) → Recurs t u q → ⊥) → LoopsNot rules c
not_returning rules c t u a b none p h =
    let there : Recurs t c.right p = subst (λ z. Recurs z c.right p) (sym a) h.returns.recurs in
    none p (subst (λ z. Recurs t z p) (sym b) there)

module _ (rules : List RewriteRule) (c : Closure) (t u : Tree) (is_t : t ≡ c.left) (is_u : u ≡ c.right) (path : List PlacedRule) (path_is : path ≡ c.path) where
  into_sides : Follows rules c.path c.left c.right → Follows rules path t u
  into_sides h = subst (λ q. Follows rules q t u) (sym path_is) (subst (λ z. Follows rules c.path z u) (sym is_t) (subst (λ z. Follows rules c.path c.left z) (sym is_u) h))

  of_sides : Follows rules path t u → Follows rules c.path c.left c.right
  of_sides h = subst (λ z. Follows rules c.path c.left z) is_u (subst (λ z. Follows rules c.path z u) is_t (subst (λ q. Follows rules q t u) path_is h))

  pub not_running : (Follows rules path t u → ⊥) → LoopsNot rules c
  not_running none p h = none (into_sides h.runs)

  pub loop_found : (start : Tree) (place old new : List ℕ) → start ≡ t → place ≡ new → old ≡ [] → LeadsFirst t u old new → Follows rules path t u → IsLoopOf rules c start path place
  loop_found start place old new copied at_end none leads runs =
      let below : leads.below ≡ place = sym (at_end ∙ (leads.longer ∙ ap (λ q. q ++ leads.below) none)) in
      let first : RecursFirst t u place = same_recurs_first t u leads.below place below leads.first in
      record {
        loops = record { runs = of_sides runs; returns = subst (λ z. RecursFirst z c.right place) is_t (subst (λ z. RecursFirst t z place) is_u first) };
        start_is = copied ∙ is_t;
        path_is = path_is;
      }

-- the left side does not recur
pub no_return : (rules : List RewriteRule) (c : Closure) → ((q : List ℕ) → Recurs c.left c.right q → ⊥) → LoopsNot rules c
no_return rules c none p h = none p h.returns.recurs
