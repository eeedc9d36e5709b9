-- Of which terms an order with arities speaks.
use Rattle.std.specs.Prelude.{◌≡◌, ◌≤◌, ℕ, List, Option, Some, Bool, IsTrue, length}
use Rattle.std.proofs.Common.{ap, ◌∙◌}
use Rattle.trs_defs.specs.Tree.{Tree, Trees, var, app, nil, cons, count}
use Rattle.pair_theory.specs.Over.{IsOver, AreOver}
use Rattle.pair_theory.specs.Erased.{HasEntries, HaveEntries}
use Rattle.pair_theory.specs.Marked.{mark}
use Rattle.order_theory.specs.KnuthBendix.{arity_with_marks}
use Rattle.order_theory.proofs.KnuthPair.{knuth_speaks}
use Rattle.pair_order.specs.Spoken.{SpeaksWithEntries}

-- each entry's arity is that of its symbol, plain or marked
pub record AgreesWith (arity : ℕ → Option ℕ) (arities : List ℕ) : Type 0 where
  pub few : length arities ≤ 4096
  pub same : (f n : ℕ) → arity f ≡ Some n → arity_with_marks arities f ≡ Some n

module _ (arity : ℕ → Option ℕ) (entry : ℕ → Bool) (has : (f : ℕ) → IsTrue (entry f) → (n : ℕ) × (arity f ≡ Some n)) (arities : List ℕ) (agrees : AgreesWith arity arities) where
  same_count : (f n : ℕ) → IsTrue (entry f) → arity_with_marks arities f ≡ Some n → arity f ≡ Some n
  same_count f n e h = let k = has f e in let wider : arity_with_marks arities f ≡ Some k.0 = agrees.same f k.0 k.1 in let same : k.0 ≡ n = cc in k.1 ∙ ap Some same

  mutual
    over_entries : (t : Tree) → IsOver (arity_with_marks arities) t → HasEntries entry t → IsOver arity t
    over_entries (var x) h e = tt
    over_entries (app f ts) h e = (same_count f (count ts) e.0 h.0, all_over_entries ts h.1 e.1)

    all_over_entries : (ts : Trees) → AreOver (arity_with_marks arities) ts → HaveEntries entry ts → AreOver arity ts
    all_over_entries nil h e = tt
    all_over_entries (cons t ts) h e = (over_entries t h.0 e.0, all_over_entries ts h.1 e.1)

  pub spoken : SpeaksWithEntries arities entry (IsOver arity)
  spoken = record {
    of_terms = λ t h e. over_entries t ((knuth_speaks arities agrees.few).of_terms t h) e;
    of_marked = λ u h e. over_entries (mark u) ((knuth_speaks arities agrees.few).of_marked u h) e;
  }
