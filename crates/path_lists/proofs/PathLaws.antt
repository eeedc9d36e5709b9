-- The listed paths from a term lead to their ends.
use Rattle.std.specs.Prelude.{◌≡◌, ◌<◌, ℕ, List, [], ◌∷◌, length, take, refl}
use Rattle.std.proofs.Common.{zero, suc, ap, subst, sym, inl, inr, length-append, arith}
use Rattle.trs_defs.specs.Member.{In}
use Rattle.trs_defs.specs.Tree.{Tree}
use Rattle.trs_defs.specs.System.{RewriteRule}
use Rattle.trs_defs.specs.Path.{PlacedRule, Follows}
use Rattle.trs_defs.proofs.Members.{in_or, in_take}
use Rattle.term_pool.specs.Listed.{Listed}
use Rattle.term_pool.specs.Reach.{AreCandidates}
use Rattle.term_pool.proofs.FollowLaws.{one_step_more}
use Rattle.term_pool.proofs.ReachLaws.{candidates_come}
use Rattle.path_lists.specs.PathList.{no_steps, IsPathList}

-- the list has the paths that are one step longer than its first n ones
pub record IsLookedAt (rules : List RewriteRule) (t : Tree) (n : ℕ) (es : List Listed) : Type 0 where
  pub candidates : List Listed
  pub longer : AreCandidates rules 4 4096 (take n es) candidates
  pub listed : es ≡ take 256 (no_steps t ∷ candidates)

paths_lead_below : (rules : List RewriteRule) (t : Tree) (n : ℕ) (es : List Listed) → IsLookedAt rules t n es → (k : ℕ) (e : Listed) → length e.path < k → In e es → Follows rules e.path t e.term
paths_lead_below rules t n es is zero e short i = absurd (omega (arith, short))
paths_lead_below rules t n es is (suc k) e short i =
    let there : In e (no_steps t ∷ is.candidates) = in_take 256 (no_steps t ∷ is.candidates) (subst (λ (xs : List Listed). In e xs) is.listed i) in
    elim (in_or there) [
      | inl same ↦ (let P : Listed → Type 0 = λ x. Follows rules x.path t x.term in subst P (sym same) refl)
      | inr new ↦
          let (d, place, comes) = candidates_come rules 4 4096 is.longer e new in
          let longer = length-append d.path (comes.step ∷ []) in
          let count = ap (λ (p : List PlacedRule). length p) comes.path in
          let before = paths_lead_below rules t n es is k d (omega (arith, short, longer, count)) (in_take n es place) in
          let P : List PlacedRule → Type 0 = λ p. Follows rules p t e.term in
          subst P (sym comes.path) (one_step_more rules d.path comes.step t d.term e.term before comes.steps comes.within)
    ]

pub looked_paths_lead : (rules : List RewriteRule) (t : Tree) (n : ℕ) (es : List Listed) → IsLookedAt rules t n es → (e : Listed) → In e es → Follows rules e.path t e.term
looked_paths_lead rules t n es is e i = paths_lead_below rules t n es is (suc (length e.path)) e (omega arith) i

pub paths_lead : (rules : List RewriteRule) (t : Tree) (es : List Listed) → IsPathList rules t es → (e : Listed) → In e es → Follows rules e.path t e.term
paths_lead rules t es is e i = looked_paths_lead rules t is.looked_at es (record { candidates = is.candidates; longer = is.longer; listed = is.listed }) e i
