-- What the definition of the list says of its paths and terms.
use Rattle.std.specs.Prelude.{◌≡◌, ◌<◌, ◌⊎◌, ℕ, max, nat_le, List, [], ◌∷◌, ◌++◌, length, take, IsTrue, refl}
use Rattle.std.proofs.Common.{zero, suc, ap, subst, sym, inl, inr, length-append, drop, arith}
use Rattle.std.proofs.lemmas.List.{take-append-drop}
use Rattle.trs_defs.specs.Member.{In, in_first, in_rest}
use Rattle.trs_defs.specs.Tree.{Tree}
use Rattle.trs_defs.specs.Size.{size_of, within_limits}
use Rattle.trs_defs.specs.System.{RewriteRule}
use Rattle.trs_defs.specs.Path.{PlacedRule, StepsAt, Follows}
use Rattle.trs_defs.proofs.Members.{in_left, in_either}
use Rattle.term_pool.specs.Listed.{Listed}
use Rattle.term_pool.specs.Reach.{AreReducts, no_step, kept, left_out, AreCandidates, no_entry, expanded, too_deep, ListsOn, no_more, listed, passed_over, after_step, IsReachList}
use Rattle.term_pool.proofs.FollowLaws.{one_step_more, second_holds, AllFollow}

-- the entry comes from another one by one step that keeps the limits
pub record ComesFrom (rules : List RewriteRule) (e c : Listed) : Type 0 where
  pub step : PlacedRule
  pub path : c.path ≡ e.path ++ step ∷ []
  pub steps : StepsAt rules step.place step.rule e.term c.term
  pub within : IsTrue (within_limits c.term)

module _ (rules : List RewriteRule) (depth size : ℕ) where
  pub reducts_come : (e : Listed) {ss : List PlacedRule} {cs : List Listed} → AreReducts rules size e ss cs → (c : Listed) → In c cs → ComesFrom rules e c
  reducts_come e no_step c i = elim i [ ]
  reducts_come e (kept {s = s} {u = u} {cs = cs} step small rest) c i = go c i (λ d j. reducts_come e rest d j)
    where
      go : (c : Listed) → In c (after_step e s u ∷ cs) → ((d : Listed) → In d cs → ComesFrom rules e d) → ComesFrom rules e c
      go c in_first later = record { step = s; path = refl; steps = step; within = second_holds (nat_le (size_of u) size) (within_limits u) small }
      go c (in_rest j) later = later c j
  reducts_come e (left_out step large rest) c i = reducts_come e rest c i

  pub candidates_come : {es cs : List Listed} → AreCandidates rules depth size es cs → (c : Listed) → In c cs → (e : Listed) × In e es × ComesFrom rules e c
  candidates_come no_entry c i = elim i [ ]
  candidates_come (expanded {e = e} {cs = cs} {ds = ds} near redexes reducts rest) c i = elim (in_either cs ds i) [
    | inl here ↦ (e, in_first, reducts_come e reducts c here)
    | inr later ↦ (let (d, there, comes) = candidates_come rest c later in (d, in_rest there, comes))
  ]
  candidates_come (too_deep far rest) c i = let (d, there, comes) = candidates_come rest c i in (d, in_rest there, comes)

  listed_comes : (limit : ℕ) {es cs fs : List Listed} → ListsOn limit es cs fs → (f : Listed) → In f fs → In f es ⊎ In f cs
  listed_comes limit no_more f i = inl i
  listed_comes limit (listed {es = es} {c = c} room absent rest) f i = elim (listed_comes limit rest f i) [
    | inl old ↦ elim (in_either es (c ∷ []) old) [
      | inl before ↦ inl before
      | inr last ↦ inr (only c _ f last)
    ]
    | inr new ↦ inr (in_rest new)
  ]
    where
      only : (c : Listed) (cs : List Listed) (f : Listed) → In f (c ∷ []) → In f (c ∷ cs)
      only c cs f in_first = in_first
      only c cs f (in_rest j) = elim j [ ]
  listed_comes limit (passed_over why rest) f i = elim (listed_comes limit rest f i) [ inl old ↦ inl old | inr new ↦ inr (in_rest new) ]

in_take : (n : ℕ) (es : List Listed) (e : Listed) → In e (take n es) → In e es
in_take n es e i = subst (λ (xs : List Listed). In e xs) (take-append-drop n es) (in_left (drop n es) i)

begins : (rules : List RewriteRule) (t : Tree) (e : Listed) → In e (record { term = t; path = [] } ∷ []) → Follows rules e.path t e.term
begins rules t e in_first = refl
begins rules t e (in_rest j) = elim j [ ]

-- by induction on a bound of the path's length
paths_lead_below : (rules : List RewriteRule) (t : Tree) (depth count size : ℕ) (es : List Listed) → IsReachList rules t depth count size es
    → (n : ℕ) (e : Listed) → length e.path < n → In e es → Follows rules e.path t e.term
paths_lead_below rules t depth count size es is zero e short i = absurd (omega (arith, short))
paths_lead_below rules t depth count size es is (suc n) e short i = elim (listed_comes rules depth size (max count 1) is.listed e i) [
  | inl start ↦ begins rules t e start
  | inr new ↦
      let (d, there, comes) = candidates_come rules depth size is.reducts e new in
      let longer = length-append d.path (comes.step ∷ []) in
      let same = ap (λ (p : List PlacedRule). length p) comes.path in
      let before = paths_lead_below rules t depth count size es is n d (omega (arith, short, longer, same)) (in_take is.looked_at es d there) in
      let P : List PlacedRule → Type 0 = λ p. Follows rules p t e.term in
      subst P (sym comes.path) (one_step_more rules d.path comes.step t d.term e.term before comes.steps comes.within)
]

-- The paths of the list lead to its terms.
pub paths_lead : (rules : List RewriteRule) (t : Tree) (depth count size : ℕ) (es : List Listed) → IsReachList rules t depth count size es → AllFollow rules t es
paths_lead rules t depth count size es is e i = paths_lead_below rules t depth count size es is (suc (length e.path)) e (omega arith) i
