use Rattle.std.proofs.Common.{◌≡◌, ℕ, Bool, true, false, ◌&&◌, nat_eq, refl, ap, ap₂, arith}
use Rattle.path_lpo.specs.declared.nodes.Node.{Node}
use Rattle.path_lpo.specs.declared.nodes.Node.TheVariants.{Var, App, Nil, Cons}
use Rattle.path_lpo.specs.contracts.nodes.NodePartialEq.TheImpl.{eq-value}

same_number : (a b : ℕ) → nat_eq a b ≡ true → a ≡ b
same_number a b e = grind arith

both : (a b : Bool) → (a && b) ≡ true → (a ≡ true) × (b ≡ true)
both true b e = (refl, e)
both false b e = absurd cc

one_number : (a b : ℕ) → (nat_eq a b && true) ≡ true → a ≡ b
one_number a b e = same_number a b (both (nat_eq a b) true e).0

same_node : (m n : Node) → eq-value.it m n ≡ true → m ≡ n
same_node (Var x) (Var y) e = ap Var (same_number x y e)
same_node (App f ss) (App g ts) e = let p = both (nat_eq f g) (nat_eq ss ts) e in ap₂ App (same_number f g p.0) (same_number ss ts p.1)
same_node Nil Nil e = refl
same_node (Cons a us) (Cons b vs) e = let p = both (nat_eq a b) (nat_eq us vs) e in ap₂ Cons (same_number a b p.0) (same_number us vs p.1)
same_node (Var x) (App g ts) e = absurd cc
same_node (Var x) Nil e = absurd cc
same_node (Var x) (Cons b vs) e = absurd cc
same_node (App f ss) (Var y) e = absurd cc
same_node (App f ss) Nil e = absurd cc
same_node (App f ss) (Cons b vs) e = absurd cc
same_node Nil (Var y) e = absurd cc
same_node Nil (App g ts) e = absurd cc
same_node Nil (Cons b vs) e = absurd cc
same_node (Cons a us) (Var y) e = absurd cc
same_node (Cons a us) (App g ts) e = absurd cc
same_node (Cons a us) Nil e = absurd cc
