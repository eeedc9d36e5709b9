-- The derived `==` on nodes.
use Rattle.std.proofs.Common.{◌≡◌, ℕ, Bool, true, false, ◌&&◌, nat_eq, List, refl, ap, sym, arith}
use Rattle.std.specs.Cmp.Lexicographic.{same_text}
use Rattle.std.proofs.lemmas.Cmp.{nat_list_eq_equiv}
use Rattle.std.proofs.lemmas.Bool.{eqb-true}
use Rattle.smallvec.specs.SmallVec.{SmallVec}
use Rattle.trs_defs.specs.Tree.{Tree, var}
use Rattle.term_pool.specs.declared.nodes.Node.{Node}
use Rattle.term_pool.specs.declared.nodes.Node.TheVariants.{Var, App}
use Rattle.term_pool.specs.contracts.nodes.NodePartialEq.TheImpl.{eq-value}
use Rattle.term_pool.specs.Nodes.{node_tree}
use Rattle.term_pool.proofs.Adding.{IsNodeEquality}

same_number : (a : ℕ) → nat_eq a a ≡ true
same_number a = grind arith

both : (a b : Bool) → (a && b) ≡ true → (a ≡ true) × (b ≡ true)
both true b e = (refl, e)
both false b e = absurd cc

joined : (a b : Bool) → a ≡ true → b ≡ true → (a && b) ≡ true
joined true b h k = k
joined false b h k = absurd cc

sound : (ts : List Tree) (m n : Node) → eq-value.it m n ≡ true → node_tree ts m ≡ node_tree ts n
sound ts (Var v) (Var w) e = ap var (eqb-true v w e)
sound ts (Var v) (App g b) e = absurd cc
sound ts (App f a) (Var w) e = absurd cc
sound ts (App f a) (App g b) e =
    let parts = both (nat_eq f g) _ e in
    let root : f ≡ g = eqb-true f g parts.0 in
    let args : a.items ≡ b.items = same_text a.items b.items (sym parts.1) in
    rw (root, args) refl

symbols : (f : ℕ) (a b : SmallVec ℕ) → a.items ≡ b.items → eq-value.it (App f a) (App f b) ≡ true
symbols f a b e = joined (nat_eq f f) _ (same_number f) (rw e (nat_list_eq_equiv.refl b.items))

variables : (v : ℕ) → eq-value.it (Var v) (Var v) ≡ true
variables v = same_number v

pub node_equality : IsNodeEquality eq-value.it
node_equality = record { sound = sound; variables = variables; symbols = symbols }
