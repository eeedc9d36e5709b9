-- Pools that have grown, and pools that are cut back.
use Rattle.std.proofs.Common.{◌≡◌, ℕ, ◌<◌, List, [], ◌∷◌, take, length, Some, slice_get, refl, ap, ◌∙◌, suc, arith}
use Rattle.std.proofs.lemmas.Option.{same_Some}
use Rattle.trs_defs.specs.Tree.{Tree}
use Rattle.term_pool.specs.Pooled.{Extends, tree_at}
use Rattle.term_pool.proofs.PoolTrees.{stands, stands_at}

pub extends_itself : (a : List Tree) → Extends a a
extends_itself a = record { longer = omega arith; kept = λ i t h. h }

pub extends_on : (a b c : List Tree) → Extends a b → Extends b c → Extends a c
extends_on a b c h k = record { longer = omega (arith, h.longer, k.longer); kept = λ i t s. k.kept i t (h.kept i t s) }

pub same_tree_at : (a b : List Tree) → Extends a b → (i : ℕ) → i < length a → tree_at b i ≡ tree_at a i
same_tree_at a b h i l = stands_at b i (tree_at a i) (h.kept i (tree_at a i) (stands a i l))

-- a pool that is cut to what was there
pub cut_back : (a b : List Tree) → Extends a b → take (length a) b ≡ a
cut_back a b h = go a b h.kept
  where
    go : (a b : List Tree) → ((i : ℕ) (t : Tree) → slice_get a i ≡ Some t → slice_get b i ≡ Some t) → take (length a) b ≡ a
    go [] b h = refl
    go (x ∷ a) [] h = let e : slice_get {X = Tree} [] 0 ≡ Some x = h 0 x refl in absurd cc
    go (x ∷ a) (y ∷ b) h =
        let first : y ≡ x = same_Some y x (h 0 x refl) in
        let rest : take (length a) b ≡ a = go a b (λ i t e. h (suc i) t e) in
        rw (first, rest) refl

-- what was there when a pool is cut to it, and grows again
pub kept_cut : (a b c : List Tree) (mark : ℕ) → mark ≡ length a → Extends a b → Extends (take mark b) c → Extends a c
kept_cut a b c mark e h k =
    let same : take mark b ≡ a = ap (λ n. take n b) e ∙ cut_back a b h in
    rw same at k

-- a pool that has grown, and is cut to what was there
pub undone : (a b c : List Tree) (mark : ℕ) → mark ≡ length a → Extends a b → c ≡ take mark b → c ≡ a
undone a b c mark e h k = k ∙ (ap (λ n. take n b) e ∙ cut_back a b h)
