-- A term has at most one list of paths.
use Rattle.std.specs.Prelude.{◌≡◌, ◌<◌, ◌≤◌, ◌⊎◌, ℕ, ◌+◌, min, false, List, [], ◌∷◌, ◌++◌, length, take, refl}
use Rattle.std.proofs.Common.{zero, suc, ap, sym, ◌∙◌, subst, inl, inr, drop, length-append, append-nil, append_assoc, arith}
use Rattle.std.proofs.lemmas.List.{take-append-drop, length-take}
use Rattle.std.proofs.Math.Decide.{dec_lt}
use Rattle.trs_defs.specs.Member.{In, in_first, in_rest}
use Rattle.trs_defs.specs.Tree.{Tree}
use Rattle.trs_defs.specs.System.{System, IsSystem}
use Rattle.trs_defs.specs.Path.{PlacedRule}
use Rattle.trs_defs.proofs.Members.{in_or, in_either, no_in, in_behind, in_taken}
use Rattle.trs_defs.proofs.Places.{steps_at_once}
use Rattle.term_pool.specs.Listed.{Listed}
use Rattle.term_pool.specs.Reach.{AreReducts, no_step, kept, left_out, AreCandidates, no_entry, expanded, too_deep, is_kept}
use Rattle.term_pool.proofs.ReachOnce.{redexes_once}
use Rattle.path_lists.specs.PathList.{no_steps, IsPathList}
use Rattle.path_lists.proofs.Longer.{take_take, take_full}

take_of_front : (k m : ℕ) (es more : List Listed) → k ≤ length es → take k (take m (es ++ more)) ≡ take k (take m es)
take_of_front zero m es more le = refl
take_of_front (suc k) zero es more le = refl
take_of_front (suc k) (suc m) [] more le = absurd (omega (arith, le))
take_of_front (suc k) (suc m) (x ∷ es) more le = ap (λ xs. x ∷ xs) (take_of_front k m es more (omega (arith, le)))

enough : (a n m e : ℕ) → n < 256 → m ≡ e → m ≡ min 256 n → (a ≡ e) ⊎ (256 ≤ e) → n ≤ a
enough a n m e fewer size taken (inl looked) = omega (arith, fewer, size, taken, looked)
enough a n m e fewer size taken (inr full) = absurd (omega (arith, fewer, size, taken, full))

module _ (system : System) (valid : IsSystem system) where
  reducts_once : (e : Listed) {ss : List PlacedRule} {cs ds : List Listed} → AreReducts system.rules 4096 e ss cs → AreReducts system.rules 4096 e ss ds → cs ≡ ds
  reducts_once e no_step no_step = refl
  reducts_once e (kept {s = s} {u = u} step small rest) (kept {u = v} other fits more) =
      let same : u ≡ v = steps_at_once system s.place s.rule e.term u v valid step other in
      let tail = reducts_once e rest more in
      cc (same, tail)
  reducts_once e (kept {s = s} {u = u} step small rest) (left_out {u = v} other large more) =
      let same : u ≡ v = steps_at_once system s.place s.rule e.term u v valid step other in
      let large_too : is_kept 4096 u ≡ false = subst (λ (x : Tree). is_kept 4096 x ≡ false) (sym same) large in
      absurd (cc (small, large_too))
  reducts_once e (left_out {s = s} {u = u} step large rest) (kept {u = v} other small more) =
      let same : u ≡ v = steps_at_once system s.place s.rule e.term u v valid step other in
      let large_too : is_kept 4096 v ≡ false = subst (λ (x : Tree). is_kept 4096 x ≡ false) same large in
      absurd (cc (small, large_too))
  reducts_once e (left_out step large rest) (left_out other big more) = reducts_once e rest more

  candidates_once : {es cs ds : List Listed} → AreCandidates system.rules 4 4096 es cs → AreCandidates system.rules 4 4096 es ds → cs ≡ ds
  candidates_once no_entry no_entry = refl
  candidates_once (expanded {e = e} {cs = cs} {ds = rest} {ss = ss} near redexes reducts more) (expanded {cs = cs'} {ds = rest'} {ss = us} close others results further) =
      let steps : ss ≡ us = redexes_once system e.term ss us redexes others in
      let first : cs ≡ cs' = reducts_once e (subst (λ (xs : List PlacedRule). AreReducts system.rules 4096 e xs cs) steps reducts) results in
      let tail : rest ≡ rest' = candidates_once more further in
      cc (first, tail)
  candidates_once (expanded near redexes reducts more) (too_deep far further) = absurd (omega (arith, near, far))
  candidates_once (too_deep far more) (expanded near redexes reducts further) = absurd (omega (arith, near, far))
  candidates_once (too_deep far more) (too_deep deep further) = candidates_once more further

  candidates_split : (es fs : List Listed) {cs : List Listed} → AreCandidates system.rules 4 4096 (es ++ fs) cs
      → (ds : List Listed) × (gs : List Listed) × AreCandidates system.rules 4 4096 es ds × AreCandidates system.rules 4 4096 fs gs × (cs ≡ ds ++ gs)
  candidates_split [] fs {cs = cs} h = ([], cs, no_entry, h, refl)
  candidates_split (e ∷ es) fs (expanded {cs = cs} near redexes reducts more) =
      let (ds, gs, first, second, is) = candidates_split es fs more in
      (cs ++ ds, gs, expanded near redexes reducts first, second, ap (λ xs. cs ++ xs) is ∙ sym (append_assoc cs ds gs))
  candidates_split (e ∷ es) fs (too_deep far more) =
      let (ds, gs, first, second, is) = candidates_split es fs more in
      (ds, gs, too_deep far first, second, is)

  -- a candidate's path is by one step longer than that of its entry
  reduct_longer : (e : Listed) {ss : List PlacedRule} {cs : List Listed} → AreReducts system.rules 4096 e ss cs → (c : Listed) → In c cs → length c.path ≡ length e.path + 1
  reduct_longer e no_step c i = absurd (no_in i)
  reduct_longer e (kept {s = s} {u = u} step small rest) c i = elim (in_or i) [
    | inl same ↦ ap (λ (x : Listed). length x.path) same ∙ length-append e.path (s ∷ [])
    | inr j ↦ reduct_longer e rest c j
  ]
  reduct_longer e (left_out step large rest) c i = reduct_longer e rest c i

  candidate_longer : {es cs : List Listed} → AreCandidates system.rules 4 4096 es cs → (c : Listed) → In c cs → (e : Listed) × In e es × (length c.path ≡ length e.path + 1)
  candidate_longer no_entry c i = absurd (no_in i)
  candidate_longer (expanded {e = e} {cs = cs} {ds = ds} near redexes reducts rest) c i = elim (in_either cs ds i) [
    | inl here ↦ (e, in_first, reduct_longer e reducts c here)
    | inr later ↦ (let (d, there, longer) = candidate_longer rest c later in (d, in_rest there, longer))
  ]
  candidate_longer (too_deep far rest) c i = let (d, there, longer) = candidate_longer rest c i in (d, in_rest there, longer)

  -- the paths that are one step longer than the first n of the list, and those that are longer than later ones
  record Begun (t : Tree) (n : ℕ) (es : List Listed) : Type 0 where
    first : List Listed
    later : List Listed
    rest : List Listed
    reducts : AreCandidates system.rules 4 4096 (take n es) first
    further : AreCandidates system.rules 4 4096 rest later
    listed : es ≡ take 256 ((no_steps t ∷ first) ++ later)
    behind : (e : Listed) → In e rest → In e (drop n es)

  begun_by : (t : Tree) (n a : ℕ) (es cs : List Listed) → n ≤ a → AreCandidates system.rules 4 4096 (take a es) cs → es ≡ take 256 (no_steps t ∷ cs) → Begun t n es
  begun_by t n a es cs le candidates listed =
      let parts : take n es ++ drop n (take a es) ≡ take a es = ap (λ xs. xs ++ drop n (take a es)) (sym (take_take n a es le)) ∙ take-append-drop n (take a es) in
      let (first, later, begins, goes_on, is) = candidates_split (take n es) (drop n (take a es))
      (subst (λ (xs : List Listed). AreCandidates system.rules 4 4096 xs cs) (sym parts) candidates) in
      record {
        first = first;
        later = later;
        rest = drop n (take a es);
        reducts = begins;
        further = goes_on;
        listed = listed ∙ ap (λ (xs : List Listed). take 256 (no_steps t ∷ xs)) is;
        behind = λ e i. in_taken n a es i;
      }

  -- Where all later ones stand behind these, there are none: one with the least path would come from one with a shorter path.
  ended : (t : Tree) (n : ℕ) (es : List Listed) (x : Begun t n es) → length (no_steps t ∷ x.first) ≤ n → es ≡ take 256 (no_steps t ∷ x.first)
  ended t n es x short = x.listed ∙ (ap (λ (xs : List Listed). take 256 ((no_steps t ∷ x.first) ++ xs)) (empty x.later (λ k e less i. none k e less i)) ∙ ap (take 256) (append-nil (no_steps t ∷ x.first)))
    where
      none : (k : ℕ) (e : Listed) → length e.path < k → In e x.later → ⊥
      none zero e less i = absurd (omega (arith, less))
      none (suc k) e less i =
          let (d, there, longer) = candidate_longer x.further e i in
          let place : In d (drop n (take 256 ((no_steps t ∷ x.first) ++ x.later))) = subst (λ (xs : List Listed). In d (drop n xs)) x.listed (x.behind d there) in
          none k d (omega (arith, less, longer)) (in_behind n (no_steps t ∷ x.first) x.later short (in_taken n 256 ((no_steps t ∷ x.first) ++ x.later) place))

      empty : (later : List Listed) → ((k : ℕ) (e : Listed) → length e.path < k → In e later → ⊥) → later ≡ []
      empty [] absent = refl
      empty (e ∷ later) absent = absurd (absent (suc (length e.path)) e (omega arith) in_first)

  one_entry_more : (t : Tree) (n : ℕ) (es : List Listed) (x : Begun t n es) → n < length (no_steps t ∷ x.first) → take (suc n) es ≡ take (suc n) (take 256 (no_steps t ∷ x.first))
  one_entry_more t n es x more = ap (take (suc n)) x.listed ∙ take_of_front (suc n) 256 (no_steps t ∷ x.first) x.later (omega (arith, more))

  same_first : (t : Tree) (n : ℕ) (es fs : List Listed) → take n es ≡ take n fs → (x : Begun t n es) → (cs : List Listed) → AreCandidates system.rules 4 4096 (take n fs) cs → x.first ≡ cs
  same_first t n es fs same x cs candidates = candidates_once (subst (λ (xs : List Listed). AreCandidates system.rules 4 4096 xs x.first) same x.reducts) candidates

  module _ (t : Tree) (es fs : List Listed) (a b : ℕ) (cs ds : List Listed) (reducts : AreCandidates system.rules 4 4096 (take a es) cs) (listed : es ≡ take 256 (no_steps t ∷ cs))
      (results : AreCandidates system.rules 4 4096 (take b fs) ds) (also : fs ≡ take 256 (no_steps t ∷ ds)) where
    -- the first entries are the same
    common : (n : ℕ) → n ≤ a → n ≤ b → take n es ≡ take n fs
    common zero na nb = refl
    common (suc n) na nb =
        let same : take n es ≡ take n fs = common n (omega (arith, na)) (omega (arith, nb)) in
        let x : Begun t n es = begun_by t n a es cs (omega (arith, na)) reducts listed in
        let y : Begun t n fs = begun_by t n b fs ds (omega (arith, nb)) results also in
        let first : x.first ≡ y.first = same_first t n es fs same x y.first y.reducts in
        let front : take 256 (no_steps t ∷ x.first) ≡ take 256 (no_steps t ∷ y.first) = ap (λ (xs : List Listed). take 256 (no_steps t ∷ xs)) first in
        let sizes : length (no_steps t ∷ x.first) ≡ length (no_steps t ∷ y.first) = ap (λ (xs : List Listed). length (no_steps t ∷ xs)) first in
        elim (dec_lt n (length (no_steps t ∷ x.first))) [
          | yes more ↦ one_entry_more t n es x more ∙ (ap (take (suc n)) front ∙ sym (one_entry_more t n fs y (omega (arith, more, sizes))))
          | no all ↦ ap (take (suc n)) (ended t n es x (omega (arith, all)) ∙ (front ∙ sym (ended t n fs y (omega (arith, all, sizes)))))
        ]

    same_when_fewer : a ≤ b → (a ≡ length es) ⊎ (256 ≤ length es) → fs ≡ es
    same_when_fewer le all =
        let y : Begun t a fs = begun_by t a b fs ds le results also in
        let first : y.first ≡ cs = same_first t a fs es (sym (common a (omega arith) le)) y cs reducts in
        let front : take 256 (no_steps t ∷ y.first) ≡ es = ap (λ (xs : List Listed). take 256 (no_steps t ∷ xs)) first ∙ sym listed in
        let size : length (take 256 (no_steps t ∷ y.first)) ≡ length es = ap length front in
        let taken = length-take 256 (no_steps t ∷ y.first) in
        elim (dec_lt (length (no_steps t ∷ y.first)) 256) [
          | yes fewer ↦ ended t a fs y (enough a (length (no_steps t ∷ y.first)) (length (take 256 (no_steps t ∷ y.first))) (length es) fewer size taken all) ∙ front
          | no more ↦ y.listed ∙ (take_full 256 (no_steps t ∷ y.first) y.later (omega (arith, taken, more)) ∙ front)
        ]

pub path_lists_once : (system : System) → IsSystem system → (t : Tree) (es fs : List Listed) → IsPathList system.rules t es → IsPathList system.rules t fs → es ≡ fs
path_lists_once system valid t es fs h k = elim (dec_lt h.looked_at k.looked_at) [
  | yes fewer ↦ sym (same_when_fewer system valid t es fs h.looked_at k.looked_at h.candidates k.candidates h.longer h.listed k.longer k.listed (omega (arith, fewer)) h.all)
  | no more ↦ same_when_fewer system valid t fs es k.looked_at h.looked_at k.candidates h.candidates k.longer k.listed h.longer h.listed (omega (arith, more)) k.all
]
