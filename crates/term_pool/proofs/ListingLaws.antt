-- Lists of candidates, gone through in order.
use Rattle.std.specs.Prelude.{◌≡◌, ◌≢◌, ◌<◌, ◌≤◌, ◌⊎◌, ℕ, ◌+◌, Bool, true, false, ◌&&◌, nat_le, List, [], ◌∷◌, ◌++◌, length, take, Some, Result, Ok, Err, OnOk, IsTrue, slice_get, refl}
use Rattle.std.proofs.Common.{suc, ap, sym, ◌∙◌, subst, inl, inr, get_or, drop, append_assoc, append-nil, length-append, arith}
use Rattle.std.proofs.Math.Seq.{take-suc}
use Rattle.std.proofs.lemmas.List.{take_all, take-append-drop, take-append-le}
use Rattle.std.proofs.lemmas.Option.{get_or_from_slice_get, slice_get_read}
use Rattle.trs_defs.specs.Member.{In, in_first, in_rest}
use Rattle.trs_defs.specs.Tree.{Tree}
use Rattle.trs_defs.specs.Size.{size_of, within_limits}
use Rattle.trs_defs.specs.Substitution.{apply}
use Rattle.trs_defs.specs.System.{RewriteRule}
use Rattle.trs_defs.specs.Path.{PlacedRule, StepsAt}
use Rattle.trs_defs.proofs.Contexts.{replaced_somehow}
use Rattle.trs_defs.proofs.Members.{in_right, in_of_get}
use Rattle.trs_defs.proofs.Limits.{test_of, no_test_of}
use Rattle.term_pool.specs.Redexes.{HasRedexes, IsRedexAt}
use Rattle.term_pool.specs.Steps.{IsStepFault}
use Rattle.term_pool.specs.declared.steps.StepFault.{StepFault}
use Rattle.term_pool.specs.declared.steps.StepFault.TheVariants as fault
use Rattle.term_pool.specs.Listed.{Listed}
use Rattle.term_pool.specs.Reach.{AreReducts, no_step, kept, left_out, AreCandidates, no_entry, expanded, too_deep, ListsOn, no_more, listed, passed_over, is_kept, after_step}
use Rattle.term_pool.specs.Reaching.{ListsMore}

pub lists_append : (limit : ℕ) {es cs fs ds gs : List Listed} → ListsOn limit es cs fs → ListsOn limit fs ds gs → ListsOn limit es (cs ++ ds) gs
lists_append limit no_more more = more
lists_append limit (listed room new rest) more = listed room new (lists_append limit rest more)
lists_append limit (passed_over why rest) more = passed_over why (lists_append limit rest more)

-- A full list stays.
pub lists_full : (limit : ℕ) (es cs : List Listed) → limit ≤ length es → ListsOn limit es cs es
lists_full limit es [] full = no_more
lists_full limit es (c ∷ cs) full = passed_over (inl full) (lists_full limit es cs full)

-- What was listed stays at its place.
pub lists_extends : (limit : ℕ) {es cs fs : List Listed} → ListsOn limit es cs fs → (more : List Listed) × (fs ≡ es ++ more)
lists_extends limit {es = es} no_more = ([], sym (append-nil es))
lists_extends limit {es = es} (listed {c = c} room new rest) =
    let (more, e) = lists_extends limit rest in
    (c ∷ more, e ∙ append_assoc es (c ∷ []) more)
lists_extends limit (passed_over why rest) = lists_extends limit rest

-- The list does not pass the limit.
pub lists_short : (limit : ℕ) {es cs fs : List Listed} → ListsOn limit es cs fs → length es ≤ limit → length fs ≤ limit
lists_short limit no_more short = short
lists_short limit {es = es} (listed {c = c} room new rest) short =
    let longer = length-append es (c ∷ []) in
    lists_short limit rest (omega (arith, longer))
lists_short limit (passed_over why rest) short = lists_short limit rest short

pub reducts_append : (rules : List RewriteRule) (size : ℕ) (e : Listed) {ss us : List PlacedRule} {cs ds : List Listed}
    → AreReducts rules size e ss cs → AreReducts rules size e us ds → AreReducts rules size e (ss ++ us) (cs ++ ds)
reducts_append rules size e no_step more = more
reducts_append rules size e (kept step small rest) more = kept step small (reducts_append rules size e rest more)
reducts_append rules size e (left_out step large rest) more = left_out step large (reducts_append rules size e rest more)

pub candidates_append : (rules : List RewriteRule) (depth size : ℕ) {es fs cs ds : List Listed}
    → AreCandidates rules depth size es cs → AreCandidates rules depth size fs ds → AreCandidates rules depth size (es ++ fs) (cs ++ ds)
candidates_append rules depth size no_entry more = more
candidates_append rules depth size {fs = fs} {ds = ds} (expanded {e = e} {es = es} {cs = one} {ds = rest} near redexes reducts others) more =
    let P : List Listed → Type 0 = λ xs. AreCandidates rules depth size (e ∷ es ++ fs) xs in
    subst P (sym (append_assoc one rest ds)) (expanded near redexes reducts (candidates_append rules depth size others more))
candidates_append rules depth size (too_deep far others) more = too_deep far (candidates_append rules depth size others more)

-- At a redex a step can be made.
pub step_there : (rules : List RewriteRule) (t : Tree) (s : PlacedRule) → IsRedexAt rules t s → (u : Tree) × StepsAt rules s.place s.rule t u
step_there rules t s redex =
    let (σ, is) = redex.instance in
    let (u, to) = replaced_somehow s.place t redex.part (apply σ redex.rule.right) redex.there in
    (u, record { rule = redex.rule; numbered = redex.numbered; substitution = σ; from = redex.there ∙ ap Some (sym is); to = to })

pub either_way : (b : Bool) → IsTrue b ⊎ (b ≡ false)
either_way true = inl refl
either_way false = inr refl

-- Redexes have reducts.
pub reducts_there : (rules : List RewriteRule) (size : ℕ) (e : Listed) (ss : List PlacedRule) → ((s : PlacedRule) → In s ss → IsRedexAt rules e.term s)
    → (cs : List Listed) × AreReducts rules size e ss cs
reducts_there rules size e [] redexes = ([], no_step)
reducts_there rules size e (s ∷ ss) redexes =
    let (cs, rest) = reducts_there rules size e ss (λ s i. redexes s (in_rest i)) in
    let (u, step) = step_there rules e.term s (redexes s in_first) in
    elim (either_way (is_kept size u)) [
      | inl small ↦ (after_step e s u ∷ cs, kept step small rest)
      | inr large ↦ (cs, left_out step large rest)
    ]

pub on_both : {T E : Type 0} (r : Result T E) {P Q R : Type 0} → (P → Q → R) → OnOk r P → OnOk r Q → OnOk r R
on_both (Ok x) f h k = f h k
on_both (Err e) f h k = h

-- ---- one reduct

pub large_not_kept : (size : ℕ) (u : Tree) → size < size_of u → is_kept size u ≡ false
large_not_kept size u large = ap (λ c. c && within_limits u) (no_test_of (size_of u) size large)

pub too_large_not_kept : (size : ℕ) (u : Tree) → within_limits u ≡ false → is_kept size u ≡ false
too_large_not_kept size u large = elim (either_way (nat_le (size_of u) size)) [
  | inl fits ↦ ap (λ c. c && within_limits u) fits ∙ large
  | inr not_small ↦ ap (λ c. c && within_limits u) not_small
]

pub small_kept : (size : ℕ) (u : Tree) → size_of u ≤ size → IsTrue (within_limits u) → IsTrue (is_kept size u)
small_kept size u small within = ap (λ c. c && within_limits u) (test_of (size_of u) size small) ∙ within

-- A step at a redex is refused only where its result is too large, or for want of memory.
pub refused_step : (rules : List RewriteRule) (t : Tree) (s : PlacedRule) (f : StepFault) → IsRedexAt rules t s → IsStepFault rules s.place s.rule t f
    → f ≢ fault.OutOfMemory → (u : Tree) × StepsAt rules s.place s.rule t u × (within_limits u ≡ false)
refused_step rules t s fault.NoRule redex none memory = absurd (cc (redex.numbered))
refused_step rules t s fault.NoPosition redex none memory = absurd (cc (redex.there, none.1))
refused_step rules t s fault.NoMatch redex none memory =
    let rule : redex.rule ≡ none.rule = cc (redex.numbered, none.numbered) in
    let part : redex.part ≡ none.part = cc (redex.there, none.there) in
    let (σ, is) = redex.instance in
    absurd (none.none (σ, ap (λ r. apply σ r.left) (sym rule) ∙ is ∙ part))
refused_step rules t s fault.TooLarge redex large memory = (large.result, large.steps, large.large)
refused_step rules t s fault.OutOfMemory redex none memory = absurd (memory refl)

-- ---- the reducts of one entry

module _ (rules : List RewriteRule) (depth size limit : ℕ) (e : Listed) (steps : List PlacedRule) (es : List Listed) where
  pub one_more_reduct : (j : ℕ) (s : PlacedRule) (fs gs : List Listed) → j < length steps → s ≡ get_or steps j s
      → ListsMore limit (AreReducts rules size e (take j steps)) es fs → ListsMore limit (AreReducts rules size e (s ∷ [])) fs gs
      → ListsMore limit (AreReducts rules size e (take (j + 1) steps)) es gs
  one_more_reduct j s fs gs below is (cs, reducts, lists) (ds, last, longer) =
      let P : List PlacedRule → Type 0 = λ xs. AreReducts rules size e xs (cs ++ ds) in
      let S : PlacedRule → Type 0 = λ x. P (take j steps ++ x ∷ []) in
      let n : j + 1 ≡ suc j = omega arith in
      (cs ++ ds, subst P (sym (ap (λ k. take k steps) n ∙ take-suc steps j s below)) (subst S is (reducts_append rules size e reducts last)), lists_append limit lists longer)

  -- all reducts were gone through, or the list is full
  pub looked_through : (j : ℕ) (fs : List Listed) → length e.path < depth → HasRedexes rules e.term steps
      → ListsMore limit (AreReducts rules size e (take j steps)) es fs → (length steps ≤ j) ⊎ (limit ≤ length fs)
      → ListsMore limit (AreCandidates rules depth size (e ∷ [])) es fs
  looked_through j fs near redexes (cs, reducts, lists) (inl all) =
      let P : List PlacedRule → Type 0 = λ xs. AreReducts rules size e xs cs in
      (cs ++ [], expanded near redexes (subst P (take_all j steps all) reducts) no_entry, lists_append limit lists no_more)
  looked_through j fs near redexes (cs, reducts, lists) (inr full) =
      let P : List PlacedRule → Type 0 = λ xs. (s : PlacedRule) → In s xs → IsRedexAt rules e.term s in
      let rest : P (drop j steps) = λ s i. (redexes.each s).0 (subst (λ (xs : List PlacedRule). In s xs) (take-append-drop j steps) (in_right (take j steps) i)) in
      let (ds, others) = reducts_there rules size e (drop j steps) rest in
      let Q : List PlacedRule → Type 0 = λ xs. AreReducts rules size e xs (cs ++ ds) in (
        (cs ++ ds) ++ [],
        expanded near redexes (subst Q (take-append-drop j steps) (reducts_append rules size e reducts others)) no_entry,
        lists_append limit (lists_append limit lists (lists_full limit fs ds full)) no_more,
      )

pub redex_read : (rules : List RewriteRule) (t : Tree) (steps : List PlacedRule) (j : ℕ) (s : PlacedRule) → HasRedexes rules t steps
    → j < length steps → s ≡ get_or steps j s → IsRedexAt rules t s
redex_read rules t steps j s redexes below is = (redexes.each s).0 (in_of_get steps j s (slice_get_read steps (length steps) j s refl below is))

-- ---- what is looked at

take_one_more : (es more : List Listed) (i : ℕ) (e : Listed) → i < length es → slice_get es i ≡ Some e → take (i + 1) (es ++ more) ≡ take i es ++ e ∷ []
take_one_more es more i e below there =
    let n : i + 1 ≡ suc i = omega arith in
    let within : i + 1 ≤ length es = omega (arith, below) in
    take-append-le (i + 1) es more within ∙ ap (λ k. take k es) n ∙ take-suc es i e below ∙ ap (λ x. take i es ++ x ∷ []) (get_or_from_slice_get es i e e there)

pub looked_at_one : (rules : List RewriteRule) (depth size limit : ℕ) (start found new : List Listed) (next : ℕ) (e : Listed) → slice_get found next ≡ Some e
    → next < length found → ListsMore limit (AreCandidates rules depth size (take next found)) start found
    → ListsMore limit (AreCandidates rules depth size (e ∷ [])) found new → ListsMore limit (AreCandidates rules depth size (take (next + 1) new)) start new
looked_at_one rules depth size limit start found new next e there below (cs, before, lists) (ds, last, longer) =
    let (more, is) = lists_extends limit longer in
    let P : List Listed → Type 0 = λ xs. AreCandidates rules depth size xs (cs ++ ds) in
    let Q : List Listed → Type 0 = λ xs. P (take (next + 1) xs) in (
      cs ++ ds,
      subst Q (sym is) (subst P (sym (take_one_more found more next e below there)) (candidates_append rules depth size before last)),
      lists_append limit lists longer,
    )

pub no_shorter : (limit : ℕ) {es cs fs : List Listed} → ListsOn limit es cs fs → length es ≤ length fs
no_shorter limit {es = es} lists =
    let (more, is) = lists_extends limit lists in
    let longer = length-append es more in
    let P : List Listed → Type 0 = λ xs. length es ≤ length xs in
    subst P (sym is) (omega (arith, longer))

-- the list of one term with the empty path
abbrev pub start_of : Tree → List Listed
start_of t = record { term = t; path = [] } ∷ []
