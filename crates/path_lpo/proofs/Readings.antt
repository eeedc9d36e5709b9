-- What the nodes of a graph stand for, by their numbers.
use Rattle.std.proofs.Common.{◌≡◌, ℕ, ◌<◌, ◌≤◌, inl, inr, List, [], ◌∷◌, ◌++◌, take, length, Option, Some, None, Result, Ok, Err, IfOk, refl, ap, ap₂, subst, sym, ◌∙◌, zero, suc, arith, slice_get, append_assoc, append-nil}
use Rattle.std.specs.Borrow.{Bor}
use Rattle.std.specs.Option.{option_copied}
use Rattle.std.specs.Slice.{IsItemAt}
use Rattle.std.proofs.lemmas.List.{get_or-take, get_or_past}
use Rattle.std.proofs.lemmas.Option.{slice_get_within, same_Some, slice_get-get_or, get_or_from_slice_get}
use Rattle.trs_defs.specs.Tree.{Tree, Trees, app, nil, cons}
use Rattle.trs_defs.proofs.ListItems.{item_of_more, old_item, last_item}
use Rattle.pair_order.proofs.Placing.{copied_item}
use Rattle.path_lpo.specs.declared.nodes.Node.{Node}
use Rattle.path_lpo.specs.declared.nodes.Node.TheVariants.{Var, App, Nil, Cons}
use Rattle.path_lpo.specs.Graph.{Reading, term, list, tree_of, trees_of, reading_at, reading_over, readings_over, readings, StandsFor, tree_at, list_at, bound_of, IsOver, AreOverEarlier, Keeps, root_of, split_of, IsSplitAt}
use Rattle.path_lpo.specs.Root.{root_tree, IsRootWithin}

length_over : (rs : List Reading) (ns : List Node) → length (readings_over rs ns) ≡ length ns
length_over rs [] = refl
length_over rs (n ∷ ns) = omega (arith, length_over (rs ++ reading_over rs n ∷ []) ns)

pub length_readings : (ns : List Node) → length (readings ns) ≡ length ns
length_readings ns = length_over [] ns

over_more : (rs : List Reading) (ns : List Node) (n : Node)
    → readings_over rs (ns ++ n ∷ []) ≡ readings_over rs ns ++ reading_over (rs ++ readings_over rs ns) n ∷ []
over_more rs [] n = rw (append-nil rs) refl
over_more rs (m ∷ ns) n =
    let new : Reading = reading_over rs m in
    let rest = over_more (rs ++ new ∷ []) ns n in
    let whole : (rs ++ new ∷ []) ++ readings_over (rs ++ new ∷ []) ns ≡ rs ++ new ∷ readings_over (rs ++ new ∷ []) ns = append_assoc rs (new ∷ []) (readings_over (rs ++ new ∷ []) ns) in
    ap (λ us. new ∷ us) (rest ∙ ap (λ us. readings_over (rs ++ new ∷ []) ns ++ reading_over us n ∷ []) whole)

readings_more : (ns : List Node) (n : Node) → readings (ns ++ n ∷ []) ≡ readings ns ++ reading_over (readings ns) n ∷ []
readings_more ns n = over_more [] ns n

over_read : (rs : List Reading) (ns : List Node) (i : ℕ) (n : Node) → slice_get ns i ≡ Some n
    → slice_get (readings_over rs ns) i ≡ Some (reading_over (rs ++ take i (readings_over rs ns)) n)
over_read rs [] i n h = absurd cc
over_read rs (m ∷ ns) zero n h =
    let same : m ≡ n = same_Some m n h in
    rw (append-nil rs, same) refl
over_read rs (m ∷ ns) (suc i) n h =
    let new : Reading = reading_over rs m in
    let rest = over_read (rs ++ new ∷ []) ns i n h in
    rest ∙ ap (λ us. Some (reading_over us n)) (append_assoc rs (new ∷ []) (take i (readings_over (rs ++ new ∷ []) ns)))

-- a node over readings that agree
same_reading : (rs us : List Reading) (k : ℕ) (n : Node) → IsOver k n → ((i : ℕ) → i < k → reading_at us i ≡ reading_at rs i) → reading_over us n ≡ reading_over rs n
same_reading rs us k (Var x) h same = refl
same_reading rs us k (App f args) h same = ap (λ r. term (app f (trees_of r))) (same args (omega (arith, h)))
same_reading rs us k Nil h same = refl
same_reading rs us k (Cons first rest) h same = ap₂ (λ q r. list (cons (tree_of q) (trees_of r))) (same first (omega (arith, h))) (same rest (omega (arith, h)))

-- a number stands for its node over all readings
pub node_stands : (ns : List Node) (i : ℕ) (n : Node) → AreOverEarlier ns → slice_get ns i ≡ Some n → StandsFor ns i (reading_over (readings ns) n)
node_stands ns i n below h =
    let same : reading_over (readings ns) n ≡ reading_over (take i (readings ns)) n =
    same_reading (take i (readings ns)) (readings ns) i n (below i n h) (λ k l. sym (get_or-take i (readings ns) k (list nil) l)) in
    over_read [] ns i n h ∙ ap (λ r. Some r) (sym same)

pub stands_within : (ns : List Node) (i : ℕ) (r : Reading) → StandsFor ns i r → i < length ns
stands_within ns i r h = omega (arith, slice_get_within (readings ns) i r h, length_readings ns)

pub stands_at : (ns : List Node) (i : ℕ) (r : Reading) → StandsFor ns i r → reading_at (readings ns) i ≡ r
stands_at ns i r h = get_or_from_slice_get (readings ns) i r (list nil) h

pub tree_stands : (ns : List Node) (i : ℕ) (t : Tree) → StandsFor ns i (term t) → tree_at ns i ≡ t
tree_stands ns i t h = ap tree_of (stands_at ns i (term t) h)

-- the node of a number is a term
pub term_stands : (ns : List Node) (i : ℕ) (n : Node) (t : Tree) → AreOverEarlier ns → slice_get ns i ≡ Some n → reading_over (readings ns) n ≡ term t → StandsFor ns i (term (tree_at ns i))
term_stands ns i n t below there is =
    let stands : StandsFor ns i (term t) = node_stands ns i n below there ∙ ap (λ r. Some r) is in
    stands ∙ ap (λ u. Some (term u)) (sym (tree_stands ns i t stands))

-- graphs that grow
pub keeps_all : (ns : List Node) → Keeps ns ns
keeps_all ns n r h = h

pub keeps_more : (ns : List Node) (n : Node) → Keeps ns (ns ++ n ∷ [])
keeps_more ns n i r h = ap (λ rs. slice_get rs i) (readings_more ns n) ∙ old_item (readings ns) (reading_over (readings ns) n) r i h

pub earlier_more : (ns : List Node) (n : Node) → AreOverEarlier ns → IsOver (length ns) n → AreOverEarlier (ns ++ n ∷ [])
earlier_more ns n below h i m e = elim (item_of_more ns n m i e) as (λ _. IsOver i m) [
  | inl k ↦ below i m k
  | inr k ↦ omega (arith, ap bound_of k.1, k.0, h)
]

pub node_behind : (ns : List Node) (n : Node) → slice_get (ns ++ n ∷ []) (length ns) ≡ Some n
node_behind ns n = last_item ns n []

-- a node that is there after a graph has grown stands for what it means over the old readings
pub new_stands : (old new : List Node) (n : Node) (i : ℕ) → AreOverEarlier new → Keeps old new → IsOver (length old) n → slice_get new i ≡ Some n
    → StandsFor new i (reading_over (readings old) n)
new_stands old new n i below keeps over there =
    node_stands new i n below there ∙ ap (λ r. Some r) (same_reading (readings old) (readings new) (length old) n over agree)
  where
    agree : (k : ℕ) → k < length old → reading_at (readings new) k ≡ reading_at (readings old) k
    agree k l = stands_at new k (reading_at (readings old) k) (keeps k (reading_at (readings old) k) (slice_get-get_or (readings old) k (list nil) (omega (arith, l, length_readings old))))

-- a list before which a term is put, and a symbol over a list
pub cons_stands : (ns : List Node) (first rest : ℕ) (t : Tree) (ts : Trees) → StandsFor ns first (term t) → StandsFor ns rest (list ts)
    → reading_over (readings ns) (Cons first rest) ≡ list (cons t ts)
cons_stands ns first rest t ts h k = ap₂ (λ q r. list (cons (tree_of q) (trees_of r))) (stands_at ns first (term t) h) (stands_at ns rest (list ts) k)

pub app_stands : (ns : List Node) (f args : ℕ) (ts : Trees) → StandsFor ns args (list ts) → reading_over (readings ns) (App f args) ≡ term (app f ts)
app_stands ns f args ts h = ap (λ r. term (app f (trees_of r))) (stands_at ns args (list ts) h)

-- what is read of a number
pub past_reading : (ns : List Node) (i : ℕ) → length ns ≤ i → reading_at (readings ns) i ≡ list nil
past_reading ns i h = get_or_past (readings ns) i (list nil) (omega (arith, h, length_readings ns))

root_reading : (ns : List Node) (n : Node) → root_tree (list_at ns) (root_of n) ≡ tree_of (reading_over (readings ns) n)
root_reading ns (Var x) = refl
root_reading ns (App f args) = refl
root_reading ns Nil = refl
root_reading ns (Cons first rest) = refl

root_below : (i : ℕ) (n : Node) → IsOver i n → IsRootWithin (λ args. args) i (root_of n)
root_below i (Var x) h = tt
root_below i (App f args) h = omega (arith, h)
root_below i Nil h = tt
root_below i (Cons first rest) h = tt

split_at : (ns : List Node) (i : ℕ) (n : Node) → IsOver i n → reading_at (readings ns) i ≡ reading_over (readings ns) n → IsSplitAt ns i (split_of n)
split_at ns i (Var x) h is = ap trees_of is
split_at ns i (App f args) h is = ap trees_of is
split_at ns i Nil h is = ap trees_of is
split_at ns i (Cons first rest) h is = record { list_is = ap trees_of is; first_earlier = omega (arith, h); rest_earlier = omega (arith, h) }

module _ (ns : List Node) (i : ℕ) (n : Node) (below : AreOverEarlier ns) (there : slice_get ns i ≡ Some n) where
  pub root_whole : root_tree (list_at ns) (root_of n) ≡ tree_at ns i
  root_whole = root_reading ns n ∙ sym (ap tree_of (stands_at ns i (reading_over (readings ns) n) (node_stands ns i n below there)))

  pub root_earlier : IsRootWithin (λ args. args) i (root_of n)
  root_earlier = root_below i n (below i n there)

  pub node_split : IsSplitAt ns i (split_of n)
  node_split = split_at ns i n (below i n there) (stands_at ns i (reading_over (readings ns) n) (node_stands ns i n below there))

-- a look-up among nodes
pub read_node : (ns ms : List Node) (i : ℕ) (r : Option (Bor Node)) (x : Bor Node) → ms ≡ ns → IsItemAt ms i r → r ≡ Some x → slice_get ns i ≡ Some x.now
read_node ns ms i r x e h is = sym (copied_item ns i r (subst (λ ks. IsItemAt ks i r) e h)) ∙ ap option_copied is

pub no_node : (ns ms : List Node) (i : ℕ) (r : Option (Bor Node)) → ms ≡ ns → IsItemAt ms i r → r ≡ None → reading_at (readings ns) i ≡ list nil
no_node ns ms i None e h is = past_reading ns i (subst (λ ks. length ks ≤ i) e h.3)
no_node ns ms i (Some x) e h is = absurd cc

pub added_stands : {E : Type 0} (old new : List Node) (n : Node) (r : Result ℕ E) → AreOverEarlier new → Keeps old new → IsOver (length old) n
    → IfOk r (λ i. slice_get new i ≡ Some n) → IfOk r (λ i. StandsFor new i (reading_over (readings old) n))
added_stands old new n (Ok i) below keeps over there = new_stands old new n i below keeps over there
added_stands old new n (Err e) below keeps over there = tt
