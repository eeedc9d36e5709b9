-- The list of what steps lead to is the only one.
use Rattle.std.specs.Prelude.{◌≡◌, ◌<◌, ◌≤◌, ◌⊎◌, ℕ, ◌+◌, max, false, List, [], ◌∷◌, ◌++◌, length, take, refl}
use Rattle.std.proofs.Common.{zero, suc, ap, sym, ◌∙◌, subst, inl, inr, drop, length-append, append-nil, append_assoc, arith}
use Rattle.std.proofs.lemmas.List.{take-append-drop, take-append-le}
use Rattle.std.proofs.Math.Decide.{dec_lt}
use Rattle.trs_defs.specs.Member.{In, in_first, in_rest}
use Rattle.trs_defs.specs.Tree.{Tree}
use Rattle.trs_defs.specs.System.{System, IsSystem}
use Rattle.trs_defs.specs.Path.{PlacedRule}
use Rattle.trs_defs.proofs.Members.{in_or, in_either, no_in}
use Rattle.trs_defs.proofs.Places.{steps_at_once}
use Rattle.term_pool.specs.Redexes.{HasRedexes, IsEarlier, ComesBefore, Ascend}
use Rattle.term_pool.specs.Listed.{Listed}
use Rattle.term_pool.specs.Reach.{AreReducts, no_step, kept, left_out, AreCandidates, no_entry, expanded, too_deep, ListsOn, no_more, listed, passed_over, is_kept, IsReachList}
use Rattle.term_pool.proofs.ListingLaws.{lists_full, lists_extends, start_of}

-- ---- the order of redexes

pub earlier_than_itself : (p : List ℕ) → IsEarlier p p → ⊥
earlier_than_itself [] h = h
earlier_than_itself (m ∷ p) (inl less) = absurd (omega (arith, less))
earlier_than_itself (m ∷ p) (inr (same, rest)) = earlier_than_itself p rest

earlier_both_ways : (p q : List ℕ) → IsEarlier p q → IsEarlier q p → ⊥
earlier_both_ways [] [] h k = h
earlier_both_ways [] (n ∷ q) h k = k
earlier_both_ways (m ∷ p) [] h k = h
earlier_both_ways (m ∷ p) (n ∷ q) (inl less) (inl more) = absurd (omega (arith, less, more))
earlier_both_ways (m ∷ p) (n ∷ q) (inl less) (inr (same, rest)) = absurd (omega (arith, less, same))
earlier_both_ways (m ∷ p) (n ∷ q) (inr (same, rest)) (inl more) = absurd (omega (arith, more, same))
earlier_both_ways (m ∷ p) (n ∷ q) (inr (same, rest)) (inr (again, back)) = earlier_both_ways p q rest back

before_itself : (s : PlacedRule) → ComesBefore s s → ⊥
before_itself s (inl earlier) = earlier_than_itself s.place earlier
before_itself s (inr (same, less)) = absurd (omega (arith, less))

pub before_both_ways : (s u : PlacedRule) → ComesBefore s u → ComesBefore u s → ⊥
before_both_ways s u (inl h) (inl k) = earlier_both_ways s.place u.place h k
before_both_ways s u (inl h) (inr (same, less)) = earlier_than_itself s.place (subst (λ (p : List ℕ). IsEarlier s.place p) same h)
before_both_ways s u (inr (same, less)) (inl k) = earlier_than_itself u.place (subst (λ (p : List ℕ). IsEarlier u.place p) same k)
before_both_ways s u (inr (same, less)) (inr (again, more)) = absurd (omega (arith, less, more))

-- lists in order with the same members
same_ascending : (ss us : List PlacedRule) → Ascend ss → Ascend us → ((s : PlacedRule) → In s ss → In s us) → ((s : PlacedRule) → In s us → In s ss) → ss ≡ us
same_ascending [] [] a b to from = refl
same_ascending [] (u ∷ us) a b to from = absurd (no_in (from u in_first))
same_ascending (s ∷ ss) [] a b to from = absurd (no_in (to s in_first))
same_ascending (s ∷ ss) (u ∷ us) a b to from =
    let first : s ≡ u = same_first (in_or (to s in_first)) (in_or (from u in_first)) in
    let rest : ss ≡ us = same_ascending ss us a.1 b.1
    (λ x i. in_tail (in_or (to x (in_rest i))) (λ same. before_itself s (subst (λ (y : PlacedRule). ComesBefore s y) (same ∙ sym first) (a.0 x i))))
    (λ x i. in_tail (in_or (from x (in_rest i))) (λ same. before_itself u (subst (λ (y : PlacedRule). ComesBefore u y) (same ∙ first) (b.0 x i)))) in
    cc (first, rest)
  where
    same_first : (s ≡ u) ⊎ In s us → (u ≡ s) ⊎ In u ss → s ≡ u
    same_first (inl same) j = same
    same_first (inr i) (inl same) = sym same
    same_first (inr i) (inr j) = absurd (before_both_ways s u (a.0 u j) (b.0 s i))

    in_tail : {x y : PlacedRule} {ys : List PlacedRule} → (x ≡ y) ⊎ In x ys → (x ≡ y → ⊥) → In x ys
    in_tail (inl same) other = absurd (other same)
    in_tail (inr i) other = i

pub redexes_once : (system : System) (t : Tree) (ss us : List PlacedRule) → HasRedexes system.rules t ss → HasRedexes system.rules t us → ss ≡ us
redexes_once system t ss us h k =
    same_ascending ss us h.ascend k.ascend (λ s i. (k.each s).1 ((h.each s).0 i)) (λ s i. (h.each s).1 ((k.each s).0 i))

-- ---- reducts and candidates

module _ (system : System) (valid : IsSystem system) (depth size : ℕ) where
  reducts_once : (e : Listed) {ss : List PlacedRule} {cs ds : List Listed} → AreReducts system.rules size e ss cs → AreReducts system.rules size e ss ds → cs ≡ ds
  reducts_once e no_step no_step = refl
  reducts_once e (kept {s = s} {u = u} step small rest) (kept {u = v} other fits more) =
      let same : u ≡ v = steps_at_once system s.place s.rule e.term u v valid step other in
      let tail = reducts_once e rest more in
      cc (same, tail)
  reducts_once e (kept {s = s} {u = u} step small rest) (left_out {u = v} other large more) =
      let same : u ≡ v = steps_at_once system s.place s.rule e.term u v valid step other in
      let large_too : is_kept size u ≡ false = subst (λ (x : Tree). is_kept size x ≡ false) (sym same) large in
      absurd (cc (small, large_too))
  reducts_once e (left_out {s = s} {u = u} step large rest) (kept {u = v} other small more) =
      let same : u ≡ v = steps_at_once system s.place s.rule e.term u v valid step other in
      let large_too : is_kept size v ≡ false = subst (λ (x : Tree). is_kept size x ≡ false) same large in
      absurd (cc (small, large_too))
  reducts_once e (left_out step large rest) (left_out other big more) = reducts_once e rest more

  candidates_once : {es cs ds : List Listed} → AreCandidates system.rules depth size es cs → AreCandidates system.rules depth size es ds → cs ≡ ds
  candidates_once no_entry no_entry = refl
  candidates_once (expanded {e = e} {cs = cs} {ds = rest} {ss = ss} near redexes reducts more) (expanded {cs = cs'} {ds = rest'} {ss = us} close others results further) =
      let steps : ss ≡ us = redexes_once system e.term ss us redexes others in
      let first : cs ≡ cs' = reducts_once e (subst (λ (xs : List PlacedRule). AreReducts system.rules size e xs cs) steps reducts) results in
      let tail : rest ≡ rest' = candidates_once more further in
      cc (first, tail)
  candidates_once (expanded near redexes reducts more) (too_deep far further) = absurd (omega (arith, near, far))
  candidates_once (too_deep far more) (expanded near redexes reducts further) = absurd (omega (arith, near, far))
  candidates_once (too_deep far more) (too_deep deep further) = candidates_once more further

  candidates_split : (es fs : List Listed) {cs : List Listed} → AreCandidates system.rules depth size (es ++ fs) cs
      → (ds : List Listed) × (gs : List Listed) × AreCandidates system.rules depth size es ds × AreCandidates system.rules depth size fs gs × (cs ≡ ds ++ gs)
  candidates_split [] fs {cs = cs} h = ([], cs, no_entry, h, refl)
  candidates_split (e ∷ es) fs (expanded {cs = cs} near redexes reducts more) =
      let (ds, gs, first, second, is) = candidates_split es fs more in
      (cs ++ ds, gs, expanded near redexes reducts first, second, ap (λ xs. cs ++ xs) is ∙ sym (append_assoc cs ds gs))
  candidates_split (e ∷ es) fs (too_deep far more) =
      let (ds, gs, first, second, is) = candidates_split es fs more in
      (ds, gs, too_deep far first, second, is)

  -- a candidate's path is by one step longer than that of its entry
  reduct_longer : (e : Listed) {ss : List PlacedRule} {cs : List Listed} → AreReducts system.rules size e ss cs → (c : Listed) → In c cs → length c.path ≡ length e.path + 1
  reduct_longer e no_step c i = absurd (no_in i)
  reduct_longer e (kept {s = s} {u = u} step small rest) c i = elim (in_or i) [
    | inl same ↦ ap (λ (x : Listed). length x.path) same ∙ length-append e.path (s ∷ [])
    | inr j ↦ reduct_longer e rest c j
  ]
  reduct_longer e (left_out step large rest) c i = reduct_longer e rest c i

  candidate_longer : {es cs : List Listed} → AreCandidates system.rules depth size es cs → (c : Listed) → In c cs → (e : Listed) × In e es × (length c.path ≡ length e.path + 1)
  candidate_longer no_entry c i = absurd (no_in i)
  candidate_longer (expanded {e = e} {cs = cs} {ds = ds} near redexes reducts rest) c i = elim (in_either cs ds i) [
    | inl here ↦ (e, in_first, reduct_longer e reducts c here)
    | inr later ↦ (let (d, there, longer) = candidate_longer rest c later in (d, in_rest there, longer))
  ]
  candidate_longer (too_deep far rest) c i = let (d, there, longer) = candidate_longer rest c i in (d, in_rest there, longer)

-- ---- listing

lists_once : (limit : ℕ) {es cs fs gs : List Listed} → ListsOn limit es cs fs → ListsOn limit es cs gs → fs ≡ gs
lists_once limit no_more no_more = refl
lists_once limit (listed room absent rest) (listed space new more) = lists_once limit rest more
lists_once limit (listed room absent rest) (passed_over (inl full) more) = absurd (omega (arith, room, full))
lists_once limit (listed room absent rest) (passed_over (inr there) more) = absurd (absent there)
lists_once limit (passed_over (inl full) rest) (listed room absent more) = absurd (omega (arith, room, full))
lists_once limit (passed_over (inr there) rest) (listed room absent more) = absurd (absent there)
lists_once limit (passed_over why rest) (passed_over reason more) = lists_once limit rest more

lists_split : (limit : ℕ) (cs ds : List Listed) {es gs : List Listed} → ListsOn limit es (cs ++ ds) gs → (fs : List Listed) × ListsOn limit es cs fs × ListsOn limit fs ds gs
lists_split limit [] ds {es = es} h = (es, no_more, h)
lists_split limit (c ∷ cs) ds (listed room absent rest) = let (fs, first, second) = lists_split limit cs ds rest in (fs, listed room absent first, second)
lists_split limit (c ∷ cs) ds (passed_over why rest) = let (fs, first, second) = lists_split limit cs ds rest in (fs, passed_over why first, second)

-- what stands behind the list before is among the candidates
added_of : (limit : ℕ) {es cs fs : List Listed} → ListsOn limit es cs fs → (more : List Listed) × (fs ≡ es ++ more) × ((f : Listed) → In f more → In f cs)
added_of limit {es = es} no_more = ([], sym (append-nil es), λ f i. i)
added_of limit {es = es} (listed {cs = cs} {c = c} room absent rest) =
    let (more, is, from) = added_of limit rest in (
      c ∷ more,
      is ∙ append_assoc es (c ∷ []) more,
      λ f i. elim (in_or i) [
        | inl same ↦ subst (λ (x : Listed). In x (c ∷ cs)) (sym same) in_first
        | inr j ↦ in_rest (from f j)
      ],
    )
added_of limit (passed_over why rest) =
    let (more, is, from) = added_of limit rest in
    (more, is, λ f i. in_rest (from f i))

in_drop : (n : ℕ) (es : List Listed) {e : Listed} → In e (drop n es) → In e es
in_drop zero es i = i
in_drop (suc n) [] i = absurd (no_in i)
in_drop (suc n) (x ∷ es) i = in_rest (in_drop n es i)

in_behind : (n : ℕ) (es more : List Listed) {e : Listed} → length es ≤ n → In e (drop n (es ++ more)) → In e more
in_behind n [] more short i = in_drop n more i
in_behind zero (x ∷ es) more short i = absurd (omega (arith, short))
in_behind (suc n) (x ∷ es) more short i = in_behind n es more (omega (arith, short)) i

in_taken : (n a : ℕ) (es : List Listed) {e : Listed} → In e (drop n (take a es)) → In e (drop n es)
in_taken zero zero es i = absurd (no_in i)
in_taken zero (suc a) [] i = absurd (no_in i)
in_taken zero (suc a) (x ∷ es) i = elim (in_or i) [
  | inl same ↦ subst (λ (y : Listed). In y (x ∷ es)) (sym same) in_first
  | inr j ↦ in_rest (in_taken zero a es j)
]
in_taken (suc n) zero es i = absurd (no_in i)
in_taken (suc n) (suc a) [] i = absurd (no_in i)
in_taken (suc n) (suc a) (x ∷ es) i = in_taken n a es i

take_take : (n a : ℕ) (es : List Listed) → n ≤ a → take n (take a es) ≡ take n es
take_take zero a es le = refl
take_take (suc n) zero es le = absurd (omega (arith, le))
take_take (suc n) (suc a) [] le = refl
take_take (suc n) (suc a) (x ∷ es) le = ap (λ xs. x ∷ xs) (take_take n a es (omega (arith, le)))

module _ (system : System) (valid : IsSystem system) (depth size limit : ℕ) where
  -- Where all entries that are still looked at stand behind a list, nothing is added to it: of those that were added one
  -- with the least path would come from one with a shorter path.
  nothing_behind : (n : ℕ) (es rest cs fs : List Listed) → AreCandidates system.rules depth size rest cs → ListsOn limit es cs fs
      → ((e : Listed) → In e rest → In e (drop n fs)) → length es ≤ n → fs ≡ es
  nothing_behind n es rest cs fs reducts lists behind short =
      let (more, is, from) = added_of limit lists in
      empty more is (λ k e less i. none more is from k e less i)
    where
      none : (more : List Listed) → fs ≡ es ++ more → ((f : Listed) → In f more → In f cs) → (k : ℕ) (e : Listed) → length e.path < k → In e more → ⊥
      none more is from zero e less i = absurd (omega (arith, less))
      none more is from (suc k) e less i =
          let (d, there, longer) = candidate_longer system valid depth size reducts e (from e i) in
          let later : In d (drop n (es ++ more)) = subst (λ (xs : List Listed). In d (drop n xs)) is (behind d there) in
          none more is from k d (omega (arith, less, longer)) (in_behind n es more short later)

      empty : (more : List Listed) → fs ≡ es ++ more → ((k : ℕ) (e : Listed) → length e.path < k → In e more → ⊥) → fs ≡ es
      empty [] is none = is ∙ append-nil es
      empty (e ∷ more) is none = absurd (none (suc (length e.path)) e (omega arith) in_first)

  -- the list after the candidates of its first n entries, and what comes after it
  record Begun (start : List Listed) (n : ℕ) (es : List Listed) : Type 0 where
    now : List Listed
    first : List Listed
    reducts : AreCandidates system.rules depth size (take n es) first
    lists : ListsOn limit start first now
    rest : List Listed
    later : List Listed
    further : AreCandidates system.rules depth size rest later
    lists_on : ListsOn limit now later es
    behind : (e : Listed) → In e rest → In e (drop n es)

  begun_by : (start : List Listed) (n a : ℕ) (es cs : List Listed) → n ≤ a → AreCandidates system.rules depth size (take a es) cs → ListsOn limit start cs es → Begun start n es
  begun_by start n a es cs le reducts lists =
      let parts : take n es ++ drop n (take a es) ≡ take a es = ap (λ xs. xs ++ drop n (take a es)) (sym (take_take n a es le)) ∙ take-append-drop n (take a es) in
      let (first, later, begins, goes_on, is) = candidates_split system valid depth size (take n es) (drop n (take a es))
      (subst (λ (xs : List Listed). AreCandidates system.rules depth size xs cs) (sym parts) reducts) in
      let (now, before, after) = lists_split limit first later (subst (λ (xs : List Listed). ListsOn limit start xs es) is lists) in
      record {
        now = now;
        first = first;
        reducts = begins;
        lists = before;
        rest = drop n (take a es);
        later = later;
        further = goes_on;
        lists_on = after;
        behind = λ e i. in_taken n a es i;
      }

  same_now : (start : List Listed) (n : ℕ) (es fs : List Listed) → take n es ≡ take n fs → (x : Begun start n es) → (cs now : List Listed)
      → AreCandidates system.rules depth size (take n fs) cs → ListsOn limit start cs now → x.now ≡ now
  same_now start n es fs same x cs now reducts lists =
      let candidates : x.first ≡ cs = candidates_once system valid depth size (subst (λ (xs : List Listed). AreCandidates system.rules depth size xs x.first) same x.reducts) reducts in
      lists_once limit (subst (λ (xs : List Listed). ListsOn limit start xs x.now) candidates x.lists) lists

  ended : (start : List Listed) (n : ℕ) (es : List Listed) (x : Begun start n es) → length x.now ≤ n → es ≡ x.now
  ended start n es x short = nothing_behind n x.now x.rest x.later es x.further x.lists_on x.behind short

  one_entry_more : (start : List Listed) (n : ℕ) (es : List Listed) (x : Begun start n es) → n < length x.now → take (suc n) es ≡ take (suc n) x.now
  one_entry_more start n es x more =
      let (others, is) = lists_extends limit x.lists_on in
      ap (λ xs. take (suc n) xs) is ∙ take-append-le (suc n) x.now others (omega (arith, more))

  -- the first entries are the same
  common : (start : List Listed) (n a b : ℕ) (es fs cs ds : List Listed) → n ≤ a → n ≤ b
      → AreCandidates system.rules depth size (take a es) cs → ListsOn limit start cs es
      → AreCandidates system.rules depth size (take b fs) ds → ListsOn limit start ds fs → take n es ≡ take n fs
  common start zero a b es fs cs ds na nb reducts lists results listing = refl
  common start (suc n) a b es fs cs ds na nb reducts lists results listing =
      let same : take n es ≡ take n fs = common start n a b es fs cs ds (omega (arith, na)) (omega (arith, nb)) reducts lists results listing in
      let x : Begun start n es = begun_by start n a es cs (omega (arith, na)) reducts lists in
      let y : Begun start n fs = begun_by start n b fs ds (omega (arith, nb)) results listing in
      let now : x.now ≡ y.now = same_now start n es fs same x y.first y.now y.reducts y.lists in
      let sizes : length x.now ≡ length y.now = ap length now in
      elim (dec_lt n (length x.now)) [
        | yes more ↦
            one_entry_more start n es x more ∙ (ap (λ xs. take (suc n) xs) now ∙ sym (one_entry_more start n fs y (omega (arith, more, sizes))))
        | no all ↦
            ap (λ xs. take (suc n) xs) (ended start n es x (omega (arith, all)) ∙ (now ∙ sym (ended start n fs y (omega (arith, all, sizes)))))
      ]

  same_when_fewer : (start : List Listed) (a b : ℕ) (es fs cs ds : List Listed) → a ≤ b
      → AreCandidates system.rules depth size (take a es) cs → ListsOn limit start cs es → (a ≡ length es) ⊎ (length es ≡ limit)
      → AreCandidates system.rules depth size (take b fs) ds → ListsOn limit start ds fs → fs ≡ es
  same_when_fewer start a b es fs cs ds le reducts lists all results listing =
      let same : take a es ≡ take a fs = common start a a b es fs cs ds (omega arith) le reducts lists results listing in
      let y : Begun start a fs = begun_by start a b fs ds le results listing in
      let now : y.now ≡ es = same_now start a fs es (sym same) y cs es reducts lists in
      let sizes : length y.now ≡ length es = ap length now in
      elim all [
        | inl looked ↦ ended start a fs y (omega (arith, looked, sizes)) ∙ now
        | inr full ↦ lists_once limit y.lists_on (lists_full limit y.now y.later (omega (arith, full, sizes))) ∙ now
      ]

pub reach_once : (system : System) → IsSystem system → (t : Tree) (depth count size : ℕ) (es fs : List Listed)
    → IsReachList system.rules t depth count size es → IsReachList system.rules t depth count size fs → es ≡ fs
reach_once system valid t depth count size es fs h k = elim (dec_lt h.looked_at k.looked_at) [
  | yes fewer ↦ sym (same_when_fewer system valid depth size (max count 1) (start_of t) h.looked_at k.looked_at es fs h.candidates k.candidates (omega (arith, fewer)) h.reducts h.listed h.all k.reducts k.listed)
  | no more ↦ same_when_fewer system valid depth size (max count 1) (start_of t) k.looked_at h.looked_at fs es k.candidates h.candidates (omega (arith, more)) k.reducts k.listed k.all h.reducts h.listed
]
