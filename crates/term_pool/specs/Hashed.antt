-- What of a node is hashed: the number of its variable, or of its symbol and those of its arguments.
use Rattle.std.specs.Prelude.{◌≡◌, ℕ, Bool, true, false, ◌&&◌, nat_eq, List, [], ◌∷◌, flat_map}
use Rattle.std.proofs.Common.{refl, ap, sym}
use Rattle.std.specs.Hash as fed
use Rattle.std.specs.Cmp.Lexicographic.{same_text}
use mathlib.Core.Bool.{true≢false}
use Rattle.term_pool.specs.declared.nodes.Node.{Node}
use Rattle.term_pool.specs.declared.nodes.Node.TheVariants.{Var, App}
use Rattle.term_pool.specs.contracts.nodes.NodePartialEq.TheImpl.{eq-value}

abbrev pub node_numbers : Node → List ℕ
node_numbers (Var v) = v ∷ []
node_numbers (App f args) = f ∷ args.items

abbrev pub node_writes : Node → List (List ℕ)
node_writes n = flat_map fed.u32 (node_numbers n)

and_true : (b : Bool) → b ≡ true → (b && true) ≡ true
and_true true h = refl
and_true false h = h

pub equal_nodes_hash_alike : (m n : Node) → eq-value.it m n ≡ true → node_writes m ≡ node_writes n
equal_nodes_hash_alike (Var v) (Var w) h = ap (λ ns. flat_map fed.u32 ns) (same_text (v ∷ []) (w ∷ []) (sym (and_true (nat_eq v w) h)))
equal_nodes_hash_alike (Var v) (App g b) h = absurd (true≢false (sym h))
equal_nodes_hash_alike (App f a) (Var w) h = absurd (true≢false (sym h))
equal_nodes_hash_alike (App f a) (App g b) h = ap (λ ns. flat_map fed.u32 ns) (same_text (f ∷ a.items) (g ∷ b.items) (sym h))
