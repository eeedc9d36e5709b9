-- Steps of a subterm, as steps of the whole term.
use Rattle.std.proofs.Common.{◌≡◌, ℕ, List, [], ◌∷◌, ◌++◌, Option, Some, None, refl, ap, ◌∙◌}
use Rattle.std.specs.Option.{option_and_then, option_map}
use Rattle.trs_defs.specs.Tree.{Tree}
use Rattle.trs_defs.specs.Position.{argument_at, subterm_at, with_argument, replaced_at}
use Rattle.trs_defs.specs.System.{RewriteRule}
use Rattle.trs_defs.specs.Path.{PlacedRule, StepsAt}
use Rattle.rewrite_core.specs.ShiftedPath.{shifted_step}

found_below : (by p : List ℕ) (x : Tree) (part : Tree) → ((a : Tree) → subterm_at by a ≡ Some part → subterm_at (by ++ p) a ≡ Some x)
    → (o : Option Tree) → option_and_then (subterm_at by) o ≡ Some part → option_and_then (subterm_at (by ++ p)) o ≡ Some x
found_below by p x part again (Some a) e = again a e
found_below by p x part again None e = absurd cc

-- the subterm of a subterm
pub part_of_part : (by p : List ℕ) (whole part x : Tree) → subterm_at by whole ≡ Some part → subterm_at p part ≡ Some x → subterm_at (by ++ p) whole ≡ Some x
part_of_part [] p whole part x e f = let same : whole ≡ part = cc in ap (subterm_at p) same ∙ f
part_of_part (n ∷ by) p whole part x e f = found_below by p x part (λ a h. part_of_part by p a part x h f) (argument_at whole n) e

module _ (by p : List ℕ) (n : ℕ) (whole part u r v : Tree)
    (again : (a w : Tree) → subterm_at by a ≡ Some part → replaced_at by a u ≡ Some w → replaced_at (by ++ p) a r ≡ Some w) where
  put_in_argument : (a : Tree) → subterm_at by a ≡ Some part → (q : Option Tree) → replaced_at by a u ≡ q → option_map (with_argument whole n) q ≡ Some v
      → option_map (with_argument whole n) (replaced_at (by ++ p) a r) ≡ Some v
  put_in_argument a e (Some w) is f = ap (option_map (with_argument whole n)) (again a w e is) ∙ f
  put_in_argument a e None is f = absurd cc

  put_below : (o : Option Tree) → option_and_then (subterm_at by) o ≡ Some part
      → option_and_then (λ a. option_map (with_argument whole n) (replaced_at by a u)) o ≡ Some v
      → option_and_then (λ a. option_map (with_argument whole n) (replaced_at (by ++ p) a r)) o ≡ Some v
  put_below (Some a) e f = put_in_argument a e (replaced_at by a u) refl f
  put_below None e f = absurd cc

-- another subterm put into a subterm
pub replaced_in_part : (by p : List ℕ) (whole part u r v : Tree) → subterm_at by whole ≡ Some part → replaced_at by whole u ≡ Some v → replaced_at p part r ≡ Some u
    → replaced_at (by ++ p) whole r ≡ Some v
replaced_in_part [] p whole part u r v e f g =
    let same : whole ≡ part = cc in
    let last : u ≡ v = cc in
    ap (λ (t : Tree). replaced_at p t r) same ∙ g ∙ ap Some last
replaced_in_part (n ∷ by) p whole part u r v e f g =
    put_below by p n whole part u r v (λ a w h k. replaced_in_part by p a part u r w h k g) (argument_at whole n) e f

pub shifted_steps : (rules : List RewriteRule) (by : List ℕ) (s : PlacedRule) (whole part u v : Tree) → subterm_at by whole ≡ Some part → replaced_at by whole u ≡ Some v
    → StepsAt rules s.place s.rule part u → StepsAt rules (shifted_step by s).place (shifted_step by s).rule whole v
shifted_steps rules by s whole part u v e f step = record {
  rule = step.rule;
  numbered = step.numbered;
  substitution = step.substitution;
  from = part_of_part by s.place whole part _ e step.from;
  to = replaced_in_part by s.place whole part u _ v e f step.to;
}
