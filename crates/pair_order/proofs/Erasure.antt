-- An order that speaks of the terms whose symbols have entries speaks of erased terms.
use Rattle.std.proofs.Common.{◌≡◌, ℕ, ◌+◌, Some, slice_get, List, Bool, true, false, refl, ap, ◌∙◌}
use Rattle.trs_defs.specs.Member.{In}
use Rattle.trs_defs.specs.Tree.{Tree, Trees, var, app, nil, cons, count}
use Rattle.trs_defs.specs.WellFormed.{IsWellFormed, AreWellFormed}
use Rattle.trs_defs.specs.System.{RewriteRule, System, IsSystem}
use Rattle.pair_theory.specs.Erased.{HasEntries, HaveEntries, by_root, erased, erased_all}
use Rattle.pair_theory.specs.Marked.{marked}
use Rattle.pair_theory.specs.DependencyPair.{DependencyPair}
use Rattle.pair_theory.specs.PairProblem.{IsPair}
use Rattle.pair_theory.specs.ReductionPair.{marked_rule, SpeaksErased, SpeaksOfSides}
use Rattle.pair_theory.proofs.Systems.{rule_among}
use Rattle.pair_order.specs.Spoken.{SpeaksWithEntries, HasSideEntries}

module _ (entry : ℕ → Bool) where
  erased_count : (ts : Trees) → count (erased_all entry ts) ≡ count ts
  erased_count nil = refl
  erased_count (cons t ts) = ap (λ n. 1 + n) (erased_count ts)

  module _ (arities : List ℕ) where
    root_well_formed : (b : Bool) (f : ℕ) (ts : Trees) → slice_get arities f ≡ Some (count ts) → AreWellFormed arities (erased_all entry ts)
        → IsWellFormed arities (by_root b (app f (erased_all entry ts)))
    root_well_formed true f ts e h = (e ∙ ap Some (rw erased_count refl), h)
    root_well_formed false f ts e h = tt

    mutual
      erased_well_formed : (t : Tree) → IsWellFormed arities t → IsWellFormed arities (erased entry t)
      erased_well_formed (var x) h = tt
      erased_well_formed (app f ts) h = root_well_formed (entry f) f ts h.0 (all_erased_well_formed ts h.1)

      all_erased_well_formed : (ts : Trees) → AreWellFormed arities ts → AreWellFormed arities (erased_all entry ts)
      all_erased_well_formed nil h = tt
      all_erased_well_formed (cons t ts) h = (erased_well_formed t h.0, all_erased_well_formed ts h.1)

  root_has : (b : Bool) (f : ℕ) (ts : Trees) → entry f ≡ b → HaveEntries entry ts → HasEntries entry (by_root b (app f ts))
  root_has true f ts e h = (e, h)
  root_has false f ts e h = tt

  mutual
    erased_has : (t : Tree) → HasEntries entry (erased entry t)
    erased_has (var x) = tt
    erased_has (app f ts) = root_has (entry f) f (erased_all entry ts) refl (all_erased_have ts)

    all_erased_have : (ts : Trees) → HaveEntries entry (erased_all entry ts)
    all_erased_have nil = tt
    all_erased_have (cons t ts) = (erased_has t, all_erased_have ts)

  module _ (speaks_of : Tree → Type 0) (spoken_var : (v : ℕ) → speaks_of (var v)) where
    of_root : (arities : List ℕ) (b : Bool) (f : ℕ) (ts : Trees) → entry (f + 4096) ≡ b → IsWellFormed arities (app f ts)
        → SpeaksWithEntries arities entry speaks_of → speaks_of (by_root b (app (f + 4096) (erased_all entry ts)))
    of_root arities true f ts e h s =
        s.of_marked (marked f (erased_all entry ts)) (h.0 ∙ ap Some (rw erased_count refl), all_erased_well_formed arities ts h.1) (e, all_erased_have ts)
    of_root arities false f ts e h s = spoken_var 0

    pub speaks_of_sides : (arities : List ℕ) → SpeaksWithEntries arities entry speaks_of → (p : DependencyPair) → IsPair arities p
        → HasSideEntries entry (marked_rule p) → SpeaksOfSides entry speaks_of (marked_rule p)
    speaks_of_sides arities s p good has =
        (s.of_marked p.from good.from_well_formed has.left, s.of_marked p.to good.to_well_formed has.right, has.left, has.right)

    pub speaks_erased : (system : System) → IsSystem system → SpeaksWithEntries system.arities entry speaks_of
        → ((r : RewriteRule) → In r system.rules → HasSideEntries entry r) → SpeaksErased system entry speaks_of
    speaks_erased system ok s has = record {
      of_erased = λ u h. of_root system.arities (entry (u.symbol + 4096)) u.symbol u.args refl h s;
      of_rules = λ r i.
          let good = rule_among system ok r i in
          let sides = has r i in
          (s.of_terms r.left good.left_well_formed sides.left, s.of_terms r.right good.right_well_formed sides.right, sides.left, sides.right);
    }
