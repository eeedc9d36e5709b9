-- The paths of the listed terms lead to them.
use Rattle.std.specs.Prelude.{◌≡◌, ℕ, Bool, true, false, ◌&&◌, nat_le, List, [], ◌∷◌, ◌++◌, Some, IsTrue, slice_get, refl}
use Rattle.std.proofs.Common.{subst, sym, inl, inr}
use Rattle.trs_defs.specs.Member.{In, in_first, in_rest}
use Rattle.trs_defs.specs.Tree.{Tree}
use Rattle.trs_defs.specs.Size.{size_of, within_limits}
use Rattle.trs_defs.specs.System.{RewriteRule}
use Rattle.trs_defs.specs.Path.{PlacedRule, StepsAt, Follows}
use Rattle.trs_defs.proofs.Members.{in_either, in_of_get}
use Rattle.term_pool.specs.Listed.{Listed}
use Rattle.term_pool.specs.Reach.{AreReducts, no_step, kept, left_out, AreCandidates, no_entry, expanded, too_deep, ListsOn, no_more, listed, passed_over, after_step}
use Rattle.term_pool.specs.Reaching.{ListsMore}
use Rattle.term_pool.proofs.ListingLaws.{start_of}

abbrev pub AllFollow : List RewriteRule → Tree → List Listed → Type 0
AllFollow rules t es = (e : Listed) → In e es → Follows rules e.path t e.term

pub one_step_more : (rules : List RewriteRule) (path : List PlacedRule) (s : PlacedRule) (t u v : Tree) → Follows rules path t u
    → StepsAt rules s.place s.rule u v → IsTrue (within_limits v) → Follows rules (path ++ s ∷ []) t v
one_step_more rules [] s t u v e step small =
    let P : Tree → Type 0 = λ x. StepsAt rules s.place s.rule x v in
    (v, subst P (sym e) step, small, refl)
one_step_more rules (r ∷ path) s t u v (w, first, within, rest) step small = (w, first, within, one_step_more rules path s w u v rest step small)

pub second_holds : (a b : Bool) → IsTrue (a && b) → IsTrue b
second_holds true b h = h
second_holds false b h = absurd cc

either_follows : (rules : List RewriteRule) (t : Tree) (c : Listed) (cs : List Listed) → Follows rules c.path t c.term → AllFollow rules t cs → AllFollow rules t (c ∷ cs)
either_follows rules t c cs first rest e in_first = first
either_follows rules t c cs first rest e (in_rest i) = rest e i

pub reducts_follow : (rules : List RewriteRule) (size : ℕ) (t : Tree) (e : Listed) {ss : List PlacedRule} {cs : List Listed} → AreReducts rules size e ss cs
    → Follows rules e.path t e.term → AllFollow rules t cs
reducts_follow rules size t e no_step follows = λ c i. elim i [ ]
reducts_follow rules size t e (kept {s = s} {u = u} {cs = cs} step small rest) follows =
    either_follows rules t (after_step e s u) cs
    (one_step_more rules e.path s t e.term u follows step (second_holds (nat_le (size_of u) size) (within_limits u) small))
    (reducts_follow rules size t e rest follows)
reducts_follow rules size t e (left_out step large rest) follows = reducts_follow rules size t e rest follows

pub candidates_follow : (rules : List RewriteRule) (depth size : ℕ) (t : Tree) {es cs : List Listed} → AreCandidates rules depth size es cs
    → AllFollow rules t es → AllFollow rules t cs
candidates_follow rules depth size t no_entry follow = λ c i. elim i [ ]
candidates_follow rules depth size t (expanded {e = e} {cs = cs} {ds = ds} near redexes reducts rest) follow = λ c i. elim (in_either cs ds i) [
  | inl here ↦ reducts_follow rules size t e reducts (follow e in_first) c here
  | inr later ↦ candidates_follow rules depth size t rest (λ d j. follow d (in_rest j)) c later
]
candidates_follow rules depth size t (too_deep far rest) follow = candidates_follow rules depth size t rest (λ d j. follow d (in_rest j))

pub lists_follow : (rules : List RewriteRule) (limit : ℕ) (t : Tree) {es cs fs : List Listed} → ListsOn limit es cs fs
    → AllFollow rules t es → AllFollow rules t cs → AllFollow rules t fs
lists_follow rules limit t no_more old new = old
lists_follow rules limit t (listed {es = es} {cs = cs} {c = c} room absent rest) old new =
    lists_follow rules limit t rest (λ e i. elim (in_either es (c ∷ []) i) [
      | inl here ↦ old e here
      | inr last ↦ either_follows rules t c [] (new c in_first) (λ d j. elim j [ ]) e last
    ]) (λ d j. new d (in_rest j))
lists_follow rules limit t (passed_over why rest) old new = lists_follow rules limit t rest old (λ d j. new d (in_rest j))

-- What is listed after an entry was looked at is followed.
pub looked_follow : (rules : List RewriteRule) (depth size limit : ℕ) (t : Tree) (found new : List Listed) (next : ℕ) (e : Listed) → slice_get found next ≡ Some e
    → ListsMore limit (AreCandidates rules depth size (e ∷ [])) found new → AllFollow rules t found → AllFollow rules t new
looked_follow rules depth size limit t found new next e there (cs, candidates, lists) follow =
    lists_follow rules limit t lists follow
    (candidates_follow rules depth size t candidates (either_follows rules t e [] (follow e (in_of_get found next e there)) (λ d i. elim i [ ])))

pub start_follows : (rules : List RewriteRule) (t : Tree) (found : List Listed) → found ≡ start_of t → AllFollow rules t found
start_follows rules t found is =
    let P : List Listed → Type 0 = λ es. AllFollow rules t es in
    subst P (sym is) (either_follows rules t (record { term = t; path = [] }) [] refl (λ d i. elim i [ ]))
