-- Narrowing keeps terms well-formed.
use Rattle.std.proofs.Common.{◌≡◌, ℕ, ◌+◌, List, Some, refl, ap, sym, ◌∙◌, subst}
use Rattle.trs_defs.specs.Tree.{Tree, Trees, var, count}
use Rattle.trs_defs.specs.WellFormed.{IsWellFormed, AreWellFormed}
use Rattle.trs_defs.specs.Substitution.{apply}
use Rattle.trs_defs.specs.Renaming.{shifted}
use Rattle.trs_defs.specs.System.{RewriteRule}
use Rattle.trs_defs.specs.Step.{Inside, InsideOne, here, deep, first, later}
use Rattle.trs_defs.specs.Position.{subterm_at, replaced_at}
use Rattle.trs_defs.proofs.Contexts.{inside_at}
use Rattle.trs_defs.proofs.WellFormedness.{subterm_there}
use Rattle.trs_defs.proofs.WellFormedInstances.{well_formed_image, well_formed_pattern, well_formed_unifier}
use Rattle.loop_find.specs.Closures.{IsNarrowing}

module _ (arities : List ℕ) where
  abbrev ToWellFormed : Tree → Tree → Type 0
  ToWellFormed t u = IsWellFormed arities u

  mutual
    inside_kept : {s t : Tree} → Inside ToWellFormed s t → IsWellFormed arities s → IsWellFormed arities t
    inside_kept (here step) h = step
    inside_kept (deep one) h =
        let (same, rest) = inside_one_kept one h.1 in
        (h.0 ∙ ap (λ n. Some n) (sym same), rest)

    inside_one_kept : {ss ts : Trees} → InsideOne ToWellFormed ss ts → AreWellFormed arities ss → (count ts ≡ count ss) × AreWellFormed arities ts
    inside_one_kept (first step) h = (refl, (inside_kept step h.0, h.1))
    inside_one_kept (later one) h =
        let (same, rest) = inside_one_kept one h.1 in
        (ap (λ n. 1 + n) same, (h.0, rest))

  shifted_well_formed : (k : ℕ) (t : Tree) → IsWellFormed arities t → IsWellFormed arities (shifted k t)
  shifted_well_formed k t h = well_formed_image arities (λ v. var (k + v)) (λ v. tt) t h

  replaced_well_formed : (p : List ℕ) (t part by u : Tree) → subterm_at p t ≡ Some part → replaced_at p t by ≡ Some u → IsWellFormed arities t → IsWellFormed arities by → IsWellFormed arities u
  replaced_well_formed p t part by u there put h k = inside_kept (inside_at ToWellFormed p t part by u there put (here k)) h

  -- ---- narrowing

  pub narrowing_well_formed : (rule : RewriteRule) (p : List ℕ) (left right l r : Tree) → IsNarrowing rule p left right l r → IsWellFormed arities rule.left → IsWellFormed arities rule.right
      → IsWellFormed arities left → IsWellFormed arities right → IsWellFormed arities l × IsWellFormed arities r
  narrowing_well_formed rule p left right l r h rule_left rule_right wl wr =
      let part = (subterm_there arities p right h.part wr h.there).well_formed in
      let other = shifted_well_formed h.offset rule.left rule_left in
      let result = replaced_well_formed p right h.part (shifted h.offset rule.right) h.result h.there h.replaced wr (shifted_well_formed h.offset rule.right rule_right) in
      let a : IsWellFormed arities (apply h.unifier left) = well_formed_unifier arities h.part (shifted h.offset rule.left) left h.unifier h.most_general part other wl in
      let b : IsWellFormed arities (apply h.unifier h.result) = well_formed_unifier arities h.part (shifted h.offset rule.left) h.result h.unifier h.most_general part other result in
      (well_formed_pattern arities (λ v. var (h.names v)) l (subst (IsWellFormed arities) h.left_is a), well_formed_pattern arities (λ v. var (h.names v)) r (subst (IsWellFormed arities) h.right_is b))
