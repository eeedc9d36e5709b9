-- The laws of a table's order: it speaks of all terms, and the pairing is weakly above what it pairs.
use Rattle.std.specs.Prelude.{ℕ, List, Bool}
use Rattle.std.proofs.Common.{arith}
use Rattle.trs_defs.specs.Tree.{Tree, app, nil, cons}
use Rattle.order_theory.specs.LinearInterpretation.{LinearWeak}
use Rattle.pair_theory.specs.ReductionPair.{AllTerms}
use Rattle.pair_order.specs.Spoken.{SpeaksWithEntries}
use Rattle.poly_lin.specs.Table.{coefficient_in}

pub spoken : (arities : List ℕ) (entry : ℕ → Bool) → SpeaksWithEntries arities entry AllTerms
spoken arities entry = record { of_terms = λ t h k. tt; of_marked = λ u h k. tt }

pub above_first : (table : List (ℕ × List ℕ)) (s t : Tree) → LinearWeak (coefficient_in table) (app 8191 (cons s (cons t nil))) s
above_first table s t a = omega arith

pub above_second : (table : List (ℕ × List ℕ)) (s t : Tree) → LinearWeak (coefficient_in table) (app 8191 (cons s (cons t nil))) t
above_second table s t a = omega arith
