-- The terms that steps lead to from a term, level by level, up to a depth, a number of terms and a size.
use Rattle.std.specs.Prelude.{◌≡◌, ◌<◌, ◌≤◌, ◌⊎◌, ℕ, max, Bool, false, ◌&&◌, nat_le, List, [], ◌∷◌, ◌++◌, length, take, IsTrue}
use Rattle.trs_defs.specs.Tree.{Tree}
use Rattle.trs_defs.specs.Size.{size_of, within_limits}
use Rattle.trs_defs.specs.System.{RewriteRule}
use Rattle.trs_defs.specs.Path.{PlacedRule, StepsAt}
use Rattle.term_pool.specs.Redexes.{HasRedexes}
use Rattle.term_pool.specs.Listed.{Listed, HasTerm}

-- at most so many nodes, and within the limits
abbrev pub is_kept : ℕ → Tree → Bool
is_kept size u = nat_le (size_of u) size && within_limits u

-- the entry of a term one step further
abbrev pub after_step : Listed → PlacedRule → Tree → Listed
after_step e s u = record { term = u; path = e.path ++ s ∷ [] }

-- the results of these steps from the entry's term, in order, without those that are too large
pub data AreReducts (rules : List RewriteRule) (size : ℕ) (e : Listed) : List PlacedRule → List Listed → Type 0 where
  no_step : AreReducts rules size e [] []
  kept : {s : PlacedRule} {ss : List PlacedRule} {u : Tree} {cs : List Listed} → StepsAt rules s.place s.rule e.term u
      → IsTrue (is_kept size u) → AreReducts rules size e ss cs → AreReducts rules size e (s ∷ ss) (after_step e s u ∷ cs)
  left_out : {s : PlacedRule} {ss : List PlacedRule} {u : Tree} {cs : List Listed} → StepsAt rules s.place s.rule e.term u
      → is_kept size u ≡ false → AreReducts rules size e ss cs → AreReducts rules size e (s ∷ ss) cs

-- the reducts of each entry in order that is fewer than `depth` steps away
pub data AreCandidates (rules : List RewriteRule) (depth size : ℕ) : List Listed → List Listed → Type 0 where
  no_entry : AreCandidates rules depth size [] []
  expanded : {e : Listed} {es cs ds : List Listed} {ss : List PlacedRule} → length e.path < depth → HasRedexes rules e.term ss
      → AreReducts rules size e ss cs → AreCandidates rules depth size es ds → AreCandidates rules depth size (e ∷ es) (cs ++ ds)
  too_deep : {e : Listed} {es ds : List Listed} → depth ≤ length e.path → AreCandidates rules depth size es ds
      → AreCandidates rules depth size (e ∷ es) ds

-- the list before, and after it each candidate whose term is not listed yet, as long as fewer than `limit` are
pub data ListsOn (limit : ℕ) : List Listed → List Listed → List Listed → Type 0 where
  no_more : {es : List Listed} → ListsOn limit es [] es
  listed : {es cs fs : List Listed} {c : Listed} → length es < limit → (HasTerm c.term es → ⊥) → ListsOn limit (es ++ c ∷ []) cs fs
      → ListsOn limit es (c ∷ cs) fs
  passed_over : {es cs fs : List Listed} {c : Listed} → (limit ≤ length es) ⊎ HasTerm c.term es → ListsOn limit es cs fs
      → ListsOn limit es (c ∷ cs) fs

-- the list begins with t, and has after it, each once and up to `count` terms, the reducts of its own terms in order. So many
-- of its terms are looked at: all of them, unless the list is full before
pub record IsReachList (rules : List RewriteRule) (t : Tree) (depth count size : ℕ) (es : List Listed) : Type 0 where
  pub looked_at : ℕ
  pub candidates : List Listed
  pub reducts : AreCandidates rules depth size (take looked_at es) candidates
  pub listed : ListsOn (max count 1) (record { term = t; path = [] } ∷ []) candidates es
  pub all : (looked_at ≡ length es) ⊎ (length es ≡ max count 1)
