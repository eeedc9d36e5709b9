-- What is put out are the components, and a step by them passes the conditions.
use Rattle.std.specs.Prelude.{◌≡◌, ◌<◌, ◌≤◌, ◌↔◌, ◌⊎◌, ℕ, ◌+◌, ◌==◌, Bool, true, false, List, [], ◌∷◌, ◌++◌, length, replicate, get_or, Some, Vec, Result, Ok, Err, IfOk, slice_get, refl}
use Rattle.std.specs.declared.alloc.Global.{Global}
use Rattle.std.specs.List.Sorted.{IsStrictlyIncreasing}
use Rattle.std.proofs.Common.{zero, suc, inl, inr, sym, ap, subst, arith, ◌∙◌, add-one, append_assoc}
use Rattle.std.proofs.lemmas.List.{append-nil}
use Rattle.std.proofs.lemmas.Option.{same_Some, slice_get_within}
use Rattle.std.proofs.lemmas.Bool.{eqb-true, eq-eqb}
use native.Mathlib.Decide.{dec_lt, ℕ_discrete}
use Rattle.trs_defs.specs.Member.{In, in_first, in_rest}
use Rattle.trs_defs.proofs.Members.{in_or, no_in, in_left, in_right, in_either, in_of_get, get_of_in}
use Rattle.trs_defs.specs.Run.{Run, Stay, Go}
use Rattle.trs_defs.proofs.Runs.{one, then}
use Rattle.trs_defs.specs.System.{RewriteRule, System}
use Rattle.trs_defs.proofs.ListItems.{item_there}
use Rattle.pair_theory.specs.DependencyPair.{DependencyPair, dependency_pairs, keep_if}
use Rattle.rewrite_core.specs.Check.{Forbids, holds, absent, never, returned, goes_on, each_after}
use Rattle.rewrite_core.specs.declared.checks.refusals.StepRefused.TheVariants.{EdgeBack, SelfEdge}
use Rattle.dp_graph.specs.declared.items.GraphItem.{GraphItem}
use Rattle.dp_graph.specs.GroupOrSingle.{GroupOrSingle, items_of, group, single, members_of, all_members, singles_of, groups_of}
use Rattle.dp_graph.specs.GraphConditions.{HasEdge, are_new, leads_to_none, lead_to_none, graph_conditions}
use Rattle.dp_graph.specs.Rows.{EdgeOf, Follows, LeadsOn, at_once, by_way, LeadsByOthers, AreRows}
use Rattle.dp_graph.specs.Leaders.{AreLeaders}
use Rattle.dp_graph.specs.Components.{IsEdgeWithin, LiesOnCycle, IsComponent, IsReady, HasLesser, StandInOrder, no_items, next, AreComponents}
use Rattle.dp_graph.specs.PutOut.{led_by, IsBlocked, IsUndoneLeader, IsNextReady, IsItemOf, Finishes, ArePutOut, all_done, put_out, PutsOut, AreItemsOf, no_leaders, a_pair, a_rule}
use Rattle.dp_graph.proofs.EachOfList.{each_passes}
use Rattle.dp_graph.proofs.UnnamedPairs.{both_new}
use Rattle.dp_graph.proofs.ListPlaces.{set_at, unset_there, at_repeat, in_repeat, length_repeat, lesser_of, same_place}
use Rattle.dp_graph.proofs.RowLaws.{starts_behind}
use Rattle.dp_graph.proofs.PutOutLaws.{leads_itself, one_leader, led_mutual, DoneTogether, still_together, together_at_first}

-- ---- lists that ascend

pub data Ascends : List ℕ → Type 0 where
  no_numbers : Ascends []
  number : {n : ℕ} {ns : List ℕ} → ((m : ℕ) → In m ns → n < m) → Ascends ns → Ascends (n ∷ ns)

pub ascends_by : (numbers : List ℕ) → ((i j m n : ℕ) → i < j → slice_get numbers i ≡ Some m → slice_get numbers j ≡ Some n → m < n) → Ascends numbers
ascends_by [] h = no_numbers
ascends_by (n ∷ ns) h =
    number (λ m i. let at = get_of_in i in h zero (suc at.0) n m (omega arith) refl at.1)
    (ascends_by ns (λ i j a b lt e d. h (suc i) (suc j) a b (omega (arith, lt)) e d))

pub ascends_of : (numbers : List ℕ) → IsStrictlyIncreasing numbers → Ascends numbers
ascends_of numbers up = ascends_by numbers (lesser_of numbers up)

increasing_at : (ms : List ℕ) → Ascends ms → (k : ℕ) → suc k < length ms → get_or ms k 0 < get_or ms (suc k) 0
increasing_at _ no_numbers k h = absurd (omega (arith, h))
increasing_at _ (number {ns = []} below up) k h = absurd (omega (arith, h))
increasing_at _ (number {ns = m ∷ ms} below up) zero h = below m in_first
increasing_at _ (number {ns = m ∷ ms} below up) (suc k) h = increasing_at (m ∷ ms) up k (omega (arith, h))

pub increasing_of : (ms : List ℕ) → Ascends ms → IsStrictlyIncreasing ms
increasing_of ms up k h = rw add-one (increasing_at ms up k (let same : k + 1 ≡ suc k = omega arith in subst (λ z. z < length ms) same h))

pub in_led_by : (v : ℕ) (numbers leaders : List ℕ) (n : ℕ) → In n (led_by v numbers leaders) → (w : ℕ) × (slice_get numbers w ≡ Some n) × (slice_get leaders w ≡ Some v)
in_led_by v [] leaders n i = absurd (no_in i)
in_led_by v (m ∷ numbers) [] n i = absurd (no_in i)
in_led_by v (m ∷ numbers) (l ∷ leaders) n i = go (in_led_by v numbers leaders n) (l == v) refl i
  where
    later : ((w : ℕ) × (slice_get numbers w ≡ Some n) × (slice_get leaders w ≡ Some v)) → (w : ℕ) × (slice_get (m ∷ numbers) w ≡ Some n) × (slice_get (l ∷ leaders) w ≡ Some v)
    later (w, e, d) = (suc w, e, d)

    go : (In n (led_by v numbers leaders) → (w : ℕ) × (slice_get numbers w ≡ Some n) × (slice_get leaders w ≡ Some v)) → (b : Bool) → (l == v) ≡ b → In n (keep_if b m (led_by v numbers leaders))
        → (w : ℕ) × (slice_get (m ∷ numbers) w ≡ Some n) × (slice_get (l ∷ leaders) w ≡ Some v)
    go rest true e j = elim (in_or j) [
      | inl same ↦ (zero, ap (λ z. Some z) (sym same), ap (λ z. Some z) (eqb-true l v e))
      | inr k ↦ later (rest k)
    ]
    go rest false e j = later (rest j)

pub led_by_in : (v : ℕ) (numbers leaders : List ℕ) (n w : ℕ) → slice_get numbers w ≡ Some n → slice_get leaders w ≡ Some v → In n (led_by v numbers leaders)
led_by_in v [] leaders n w e d = absurd cc
led_by_in v (m ∷ numbers) [] n w e d = absurd cc
led_by_in v (m ∷ numbers) (l ∷ leaders) n zero e d = first (l == v) (eq-eqb l v (same_Some l v d))
  where
    first : (b : Bool) → b ≡ true → In n (keep_if b m (led_by v numbers leaders))
    first true h = subst (λ z. In z (m ∷ led_by v numbers leaders)) (same_Some m n e) in_first
    first false h = absurd cc
led_by_in v (m ∷ numbers) (l ∷ leaders) n (suc w) e d = later (l == v) (led_by_in v numbers leaders n w e d)
  where
    later : (b : Bool) → In n (led_by v numbers leaders) → In n (keep_if b m (led_by v numbers leaders))
    later true i = in_rest i
    later false i = i

pub led_ascends : (v : ℕ) (numbers leaders : List ℕ) → Ascends numbers → Ascends (led_by v numbers leaders)
led_ascends v [] leaders up = no_numbers
led_ascends v (m ∷ numbers) [] up = no_numbers
led_ascends v (m ∷ numbers) (l ∷ leaders) (number below up) = go (led_ascends v numbers leaders up) (l == v)
  where
    go : Ascends (led_by v numbers leaders) → (b : Bool) → Ascends (keep_if b m (led_by v numbers leaders))
    go rest true = number (λ n i. let (w, e, d) = in_led_by v numbers leaders n i in below n (in_of_get numbers w n e)) rest
    go rest false = rest

-- members that ascend are each named the first time
pub ascending_new : (numbers before ms : List ℕ) → Ascends ms → ((n : ℕ) → In n ms → In n numbers × (In n before → ⊥)) → are_new numbers before ms (Ok tt)
ascending_new numbers before [] up h = returned
ascending_new numbers before (m ∷ ms) (number below up) h =
    goes_on tt _ (holds (h m in_first))
    (ascending_new numbers (before ++ m ∷ []) ms up (λ n i. (
      (h n (in_rest i)).0,
      λ j. elim (in_either before (m ∷ []) j) [
        | inl k ↦ (h n (in_rest i)).1 k
        | inr k ↦ elim (in_or k) [ inl e ↦ (let lt = below n i in omega (arith, lt, e)) | inr none ↦ no_in none ]
      ],
    )))

cycle_of : {R : ℕ → ℕ → Type 0} {v w : ℕ} → Run R v w → (w ≡ v → ⊥) → Run R w v → (k : ℕ) × R v k × Run R k v
cycle_of Stay differ back = absurd (differ refl)
cycle_of (Go {m = k} s r) differ back = (k, s, then r back)

last_step : {R : ℕ → ℕ → Type 0} {i j : ℕ} → Run R i j → (i ≡ j) ⊎ ((k : ℕ) × Run R i k × R k j)
last_step Stay = inl refl
last_step {R} (Go {s = i} {m = k} s r) = elim (last_step r) [
  | inl e ↦ inr (i, Stay, subst (R i) e s)
  | inr (m, run, t) ↦ inr (m, Go s run, t)
]

module _ (rules : List RewriteRule) (all : List DependencyPair) (numbers : List ℕ) (up : IsStrictlyIncreasing numbers) (rows : List (List ℕ))
    (are_rows : AreRows (λ m n. HasEdge rules all m n) numbers rows) (leaders : List ℕ) (led : AreLeaders rows leaders) where
  abbrev Edge : ℕ → ℕ → Type 0
  Edge = IsEdgeWithin rules all numbers

  abbrev pairs : ℕ
  pairs = length numbers

  -- steps lead from pairs to places behind them, and from there to lesser places
  to_other : (i j : ℕ) → Follows rows i j → i < pairs → pairs ≤ j × j < length leaders
  to_other i j f lt = elim (are_rows.between i j f) [
    | inl h ↦ (let c = led.count in let k = h.1.1 in (h.1.0, omega (arith, c, k)))
    | inr h ↦ absurd (let k = h.0 in omega (arith, k, lt))
  ]

  to_lesser : (i j : ℕ) → Follows rows i j → pairs ≤ i → j < i
  to_lesser i j f ge = elim (are_rows.between i j f) [ inl h ↦ absurd (let k = h.0 in omega (arith, k, ge)) | inr h ↦ h.1 ]

  within : (i j : ℕ) → Follows rows i j → i < length leaders
  within i j (row, at, k) = let w = slice_get_within rows i row at in let c = led.count in omega (arith, w, c)

  -- what leads on to a pair
  run_of : {i k : ℕ} → LeadsOn pairs rows i k → Run (Follows rows) i k
  run_of (at_once ge step lt) = one step
  run_of (by_way ge step on) = Go step (run_of on)

  ends_at_pair : {i k : ℕ} → LeadsOn pairs rows i k → k < pairs
  ends_at_pair (at_once ge step lt) = lt
  ends_at_pair (by_way ge step on) = ends_at_pair on

  first_step : {i k : ℕ} → LeadsOn pairs rows i k → (j : ℕ) × Follows rows i j
  first_step (at_once {k = k} ge step lt) = (k, step)
  first_step (by_way {j = j} ge step on) = (j, step)

  step_up : (i j m n : ℕ) → LeadsByOthers pairs rows i j → slice_get numbers i ≡ Some m → slice_get numbers j ≡ Some n → Edge m n
  step_up i j m n f e d =
      let (a, b, at, there_b, edge) = (are_rows.exact i j).0 f in
      let same_a : a ≡ m = same_Some a m (sym at ∙ e) in
      let same_b : b ≡ n = same_Some b n (sym there_b ∙ d) in
      (in_of_get numbers i m e, in_of_get numbers j n d, subst (λ z. HasEdge rules all m z) same_b (subst (λ z. HasEdge rules all z b) same_a edge))

  step_down : (i j m n : ℕ) → Edge m n → slice_get numbers i ≡ Some m → slice_get numbers j ≡ Some n → LeadsByOthers pairs rows i j
  step_down i j m n edge e d = (are_rows.exact i j).1 (m, n, e, d, edge.2)

  -- what leads by others from a pair to the next one is an edge
  mutual
    run_up : {i j : ℕ} → Run (Follows rows) i j → (m n : ℕ) → slice_get numbers i ≡ Some m → slice_get numbers j ≡ Some n → Run Edge m n
    run_up Stay m n e d = subst (Run Edge m) (same_Some m n (sym e ∙ d)) Stay
    run_up (Go {s = i} {m = r} step run) m n e d =
        let lt = slice_get_within numbers i m e in run_on run i m n e d (to_other i r step lt).0 (λ k on. (lt, (r, step, on)))

    run_on : {r j : ℕ} → Run (Follows rows) r j → (i m n : ℕ) → slice_get numbers i ≡ Some m → slice_get numbers j ≡ Some n → pairs ≤ r
        → ((k : ℕ) → LeadsOn pairs rows r k → LeadsByOthers pairs rows i k) → Run Edge m n
    run_on (Stay {s = r}) i m n e d ge to = absurd (let w = slice_get_within numbers r n d in omega (arith, w, ge))
    run_on (Go {s = r} {m = k} step run) i m n e d ge to = elim (dec_lt k pairs) [
      | yes lt ↦
          let by : LeadsByOthers pairs rows i k = to k (at_once ge step lt) in
          let (a, b, at, there_b, edge) = (are_rows.exact i k).0 by in
          Go (step_up i k m b by e there_b) (run_up run b n there_b d)
      | no far ↦ run_on run i m n e d (omega (arith, far)) (λ l on. to l (by_way ge step on))
    ]

  run_down : {m n : ℕ} → Run Edge m n → (i j : ℕ) → slice_get numbers i ≡ Some m → slice_get numbers j ≡ Some n → Run (Follows rows) i j
  run_down (Stay {s = m}) i j e d = subst (Run (Follows rows) i) (same_place numbers up i j m e d) Stay
  run_down (Go {s = m} {m = k} step run) i j e d =
      let at = get_of_in step.1 in
      let (lt, (r, first, on)) = step_down i at.0 m k step e at.1 in
      Go first (then (run_of on) (run_down run at.0 j at.1 d))

  leader_of : (w : ℕ) → w < pairs → (l : ℕ) × (slice_get leaders w ≡ Some l)
  leader_of w lt = item_there leaders w (let c = led.count in let d = are_rows.count in omega (arith, lt, c, d))

  number_of : (w : ℕ) → w < pairs → (n : ℕ) × (slice_get numbers w ≡ Some n)
  number_of w lt = item_there numbers w lt

  -- the members of the item of a leader
  in_item : (v : ℕ) (item : GroupOrSingle) → slice_get leaders v ≡ Some v → IsItemOf numbers leaders v item → (n : ℕ) → In n (members_of item)
      → (w : ℕ) × (slice_get numbers w ≡ Some n) × (slice_get leaders w ≡ Some v)
  in_item v (group members) own is n i = in_led_by v numbers leaders n (subst (In n) is.0 i)
  in_item v (single member) own is n i = elim (in_or i) [ inl e ↦ (v, is.0 ∙ ap (λ z. Some z) (sym e), own) | inr none ↦ absurd (no_in none) ]

  item_in : (v : ℕ) (item : GroupOrSingle) → IsItemOf numbers leaders v item → (n w : ℕ) → slice_get numbers w ≡ Some n → slice_get leaders w ≡ Some v → In n (members_of item)
  item_in v (group members) is n w e d = subst (In n) (sym is.0) (led_by_in v numbers leaders n w e d)
  item_in v (single member) is n w e d =
      let same : w ≡ v = is.1 w d in
      let here : n ≡ member = same_Some n member (sym e ∙ (ap (slice_get numbers) same ∙ is.0)) in
      subst (λ z. In z (member ∷ [])) (sym here) in_first

  -- a run to a pair leads to a first one
  first_pair : {i k : ℕ} → Run (Follows rows) i k → pairs ≤ i → k < pairs → (j : ℕ) × LeadsOn pairs rows i j × Run (Follows rows) j k
  first_pair (Stay {s = i}) ge lt = absurd (omega (arith, ge, lt))
  first_pair (Go {s = i} {m = j} step run) ge lt = elim (dec_lt j pairs) [
    | yes small ↦ (j, at_once ge step small, run)
    | no far ↦ (let (l, on, rest) = first_pair run (omega (arith, far)) lt in (l, by_way ge step on, rest))
  ]

  lies_on_cycle : (v m : ℕ) → slice_get leaders v ≡ Some v → slice_get numbers v ≡ Some m → ((w : ℕ) × (slice_get leaders w ≡ Some v) × (w ≡ v → ⊥)) → LiesOnCycle rules all numbers m
  lies_on_cycle v m own e (w, d, differ) =
      let joined = led_mutual rows leaders led v w v own d in
      let (k, step, run) = cycle_of joined.0 differ joined.1 in
      let lt = slice_get_within numbers v m e in
      let (j, on, back) = first_pair run (to_other v k step lt).0 lt in
      let by : LeadsByOthers pairs rows v j = (lt, (k, step, on)) in
      let (a, b, at, there_b, edge) = (are_rows.exact v j).0 by in
      (b, step_up v j m b by e there_b, run_up back b m there_b e)

  pub is_component : (v : ℕ) (item : GroupOrSingle) → v < pairs → slice_get leaders v ≡ Some v → IsItemOf numbers leaders v item → IsComponent rules all numbers item
  is_component v (group members) lt own is =
      let at = number_of v lt in (
        subst IsStrictlyIncreasing (sym is.0) (increasing_of (led_by v numbers leaders) (led_ascends v numbers leaders (ascends_of numbers up))),
        (
          at.0,
          lies_on_cycle v at.0 own at.1 is.1,
          λ n. (
            λ i.
                let (w, e, d) = in_led_by v numbers leaders n (subst (In n) is.0 i) in
                let joined = led_mutual rows leaders led v w v own d in
                (in_of_get numbers w n e, (run_up joined.0 at.0 n at.1 e, run_up joined.1 n at.0 e at.1)),
            λ h.
                let w = get_of_in h.0 in
                let l = leader_of w.0 (slice_get_within numbers w.0 n w.1) in
                let same : l.0 ≡ v = one_leader rows leaders led w.0 v l.0 v l.1 own (run_down h.1.1 w.0 v w.1 at.1, run_down h.1.0 v w.0 at.1 w.1) in
                subst (In n) (sym is.0) (led_by_in v numbers leaders n w.0 w.1 (l.1 ∙ ap (λ z. Some z) same)),
          ),
        ),
      )
  is_component v (single member) lt own is = λ (k, edge, run).
      let j = get_of_in edge.1 in
      let (small, (r, first, on)) = step_down v j.0 member k edge is.0 j.1 in
      let back = run_down run j.0 v j.1 is.0 in
      let (behind, few) = to_other v r first lt in
      let l = item_there leaders r few in
      let same : l.0 ≡ v = one_leader rows leaders led r v l.0 v l.1 own (then (run_of on) back, one first) in
      let here : r ≡ v = is.1 r (l.1 ∙ ap (λ z. Some z) same) in
      omega (arith, here, behind, lt)

  -- ---- the items of the places that are not done

  false_true : (o : List Bool) (i : ℕ) → slice_get o i ≡ Some false → slice_get o i ≡ Some true → ⊥
  false_true o i e d = let h : false ≡ true = same_Some false true (sym e ∙ d) in absurd cc

  still_undone : (v : ℕ) (done new : List Bool) → Finishes v leaders done new → (i : ℕ) → slice_get new i ≡ Some false → slice_get done i ≡ Some false
  still_undone v done new finishes i e = sym (finishes.others i (λ g. false_true new i e (finishes.led i g))) ∙ e

  -- no place has a greater leader
  led_low : (i l : ℕ) → slice_get leaders i ≡ Some l → l ≤ i
  led_low i l e = (led.each i l e).least i (Stay, Stay)

  -- Places of one leader are done together, and what leads to one that is done is done.
  pub record IsPassed (done : List Bool) : Type 0 where
    pub size : length done ≡ length leaders
    pub together : DoneTogether leaders done
    pub closed : (i j : ℕ) → Follows rows i j → slice_get done j ≡ Some true → slice_get done i ≡ Some true

  undone_or_done : (done : List Bool) → length done ≡ length leaders → (i : ℕ) → i < length leaders → (slice_get done i ≡ Some false) ⊎ (slice_get done i ≡ Some true)
  undone_or_done done size i lt = elim (set_at done i) [ yes e ↦ inr e | no h ↦ inl (unset_there done i (omega (arith, size, lt)) h) ]

  still_passed : (v : ℕ) (done new : List Bool) → IsNextReady pairs rows leaders done (Some v) → Finishes v leaders done new → IsPassed done → IsPassed new
  still_passed v done new ready finishes passed = record {
    size = finishes.count ∙ passed.size;
    together = still_together rows leaders led v done new ready.0.0 finishes passed.together;
    closed = λ i j f e.
        let lt : i < length leaders = (let (row, at, k) = f in let w = slice_get_within rows i row at in let c = led.count in omega (arith, w, c)) in
        let li = item_there leaders i lt in
        let lj = item_there leaders j (let w = slice_get_within new j true e in let c = finishes.count in let s = passed.size in omega (arith, w, c, s)) in
        go i j f e li.0 li.1 lj.0 lj.1 lt (ℕ_discrete li.0 v) (ℕ_discrete lj.0 v);
  }
    where
      stays : (i l : ℕ) → slice_get leaders i ≡ Some l → (l ≡ v → ⊥) → slice_get new i ≡ slice_get done i
      stays i l at other = finishes.others i (λ g. other (same_Some l v (sym at ∙ g)))

      go : (i j : ℕ) → Follows rows i j → slice_get new j ≡ Some true → (a : ℕ) → slice_get leaders i ≡ Some a → (b : ℕ) → slice_get leaders j ≡ Some b → i < length leaders → Dec (a ≡ v) → Dec (b ≡ v)
          → slice_get new i ≡ Some true
      go i j f e a at b to lt (yes same) d = finishes.led i (at ∙ ap (λ z. Some z) same)
      go i j f e a at b to lt (no other) (no differ) = stays i a at other ∙ passed.closed i j f (sym (stays j b to differ) ∙ e)
      go i j f e a at b to lt (no other) (yes same) = stays i a at other ∙ elim (undone_or_done done passed.size i lt) [
        | inr set ↦ set
        | inl undone ↦ absurd (ready.1 (record {
          from = i;
          to = j;
          leader = a;
          undone = undone;
          follows = f;
          of_other = at;
          of_this = to ∙ ap (λ z. Some z) same;
          differ = other;
        }))
      ]

  covers : (done : List Bool) (order : List ℕ) (items : List GroupOrSingle) → IsPassed done → ArePutOut pairs rows leaders done order → AreItemsOf numbers leaders order items → (n : ℕ)
      → In n (all_members items) ↔ ((i : ℕ) × (slice_get numbers i ≡ Some n) × (slice_get done i ≡ Some false))
  covers done _ _ passed (all_done none) no_leaders n = (λ i. absurd (no_in i), λ (i, e, d). absurd (none i d))
  covers done _ _ passed (put_out {vs = vs} v new ready finishes rest) (a_pair {item = item} {items = items} _ lt is more) n =
      let own = ready.0.0 in
      let later = covers new vs items (still_passed v done new ready finishes passed) rest more n in (
        λ i. elim (in_either (members_of item) (all_members items) i) [
          | inl j ↦ (let (w, e, d) = in_item v item own is n j in (w, e, passed.together w v d ∙ ready.0.1))
          | inr j ↦ (let (w, e, d) = later.0 j in (w, e, still_undone v done new finishes w d))
        ],
        λ (i, e, d).
            let l = leader_of i (slice_get_within numbers i n e) in
            elim (ℕ_discrete l.0 v) [
              | yes same ↦ in_left (all_members items) (item_in v item is n i e (l.1 ∙ ap (λ z. Some z) same))
              | no other ↦ in_right (members_of item) (later.1 (i, e, finishes.others i (λ g. other (same_Some l.0 v (sym l.1 ∙ g))) ∙ d))
            ],
      )
  covers done _ items passed (put_out {vs = vs} v new ready finishes rest) (a_rule _ ge more) n =
      let later = covers new vs items (still_passed v done new ready finishes passed) rest more n in (
        λ i. (let (w, e, d) = later.0 i in (w, e, still_undone v done new finishes w d)),
        λ (i, e, d). later.1 (i, e, finishes.others i (λ g. let low = led_low i v g in let w = slice_get_within numbers i n e in omega (arith, low, w, ge)) ∙ d),
      )

  -- each item is that of a leader that is not done
  of_leader : (done : List Bool) (order : List ℕ) (items : List GroupOrSingle) → ArePutOut pairs rows leaders done order → AreItemsOf numbers leaders order items → (item : GroupOrSingle) → In item items
      → (v : ℕ) × IsUndoneLeader leaders done v × v < pairs × IsItemOf numbers leaders v item
  of_leader done _ _ (all_done none) no_leaders other i = absurd (no_in i)
  of_leader done _ _ (put_out {vs = vs} v new ready finishes rest) (a_pair {item = item} {items = items} _ lt is more) other i = elim (in_or i) [
    | inl e ↦ (v, ready.0, lt, subst (IsItemOf numbers leaders v) (sym e) is)
    | inr j ↦ (let (u, undone, small, also) = of_leader new vs items rest more other j in (u, (undone.0, still_undone v done new finishes u undone.1), small, also))
  ]
  of_leader done _ items (put_out {vs = vs} v new ready finishes rest) (a_rule _ ge more) other i =
      let (u, undone, small, also) = of_leader new vs items rest more other i in (u, (undone.0, still_undone v done new finishes u undone.1), small, also)

  -- what is ready among the items that are left is not blocked, and the other way round
  module _ (done : List Bool) (order : List ℕ) (items : List GroupOrSingle) (passed : IsPassed done) (out : ArePutOut pairs rows leaders done order) (of_order : AreItemsOf numbers leaders order items)
      (u : ℕ) (small : u < pairs) (own : slice_get leaders u ≡ Some u) (x : GroupOrSingle) (of : IsItemOf numbers leaders u x) where
    module _ (free : IsBlocked rows leaders done u → ⊥) where
      -- what leads to the component is of it, or is done
      one_back : (i j : ℕ) → Follows rows i j → slice_get leaders j ≡ Some u → (slice_get leaders i ≡ Some u) ⊎ (slice_get done i ≡ Some true)
      one_back i j step led_j =
          let k = item_there leaders i (within i j step) in
          elim (ℕ_discrete k.0 u) [
            | yes same ↦ inl (k.1 ∙ ap (λ z. Some z) same)
            | no other ↦ elim (undone_or_done done passed.size i (within i j step)) [
              | inr set ↦ inr set
              | inl undone ↦ absurd (free (record {
                from = i;
                to = j;
                leader = k.0;
                undone = undone;
                follows = step;
                of_other = k.1;
                of_this = led_j;
                differ = other;
              }))
            ]
          ]

      all_back : {i k : ℕ} → LeadsOn pairs rows i k → slice_get leaders k ≡ Some u → (slice_get leaders i ≡ Some u) ⊎ (slice_get done i ≡ Some true)
      all_back (at_once {i = i} {k = k} ge step lt) led_k = one_back i k step led_k
      all_back (by_way {i = i} {j = j} ge step on) led_k = elim (all_back on led_k) [
        | inl led_j ↦ one_back i j step led_j
        | inr set ↦ inr (passed.closed i j step set)
      ]

      pub leads_within : IsReady rules all numbers items x
      leads_within m n i j edge =
          let (a, e, undone) = (covers done order items passed out of_order m).0 i in
          let (w, d, led_w) = in_item u x own of n j in
          let (lt, (r, first, on)) = step_down a w m n edge e d in
          elim (all_back on led_w) [
            | inl led_r ↦ elim (one_back a r first led_r) [
              | inl led_a ↦ item_in u x of m a e led_a
              | inr set ↦ absurd (false_true done a undone set)
            ]
            | inr set ↦ absurd (false_true done a undone (passed.closed a r first set))
          ]

    module _ (free : IsReady rules all numbers items x) (wait : (k : ℕ) → pairs ≤ k → IsUndoneLeader leaders done k → IsBlocked rows leaders done k) where
      -- a pair that is left, and that leads to one of the item, is one of it
      is_within : (a w : ℕ) → LeadsByOthers pairs rows a w → slice_get done a ≡ Some false → slice_get leaders w ≡ Some u → slice_get leaders a ≡ Some u
      is_within a w by undone led_w =
          let m = number_of a by.0 in
          let n = number_of w (ends_at_pair by.1.2) in
          let i = (covers done order items passed out of_order m.0).1 (a, m.1, undone) in
          let (b, e, d) = in_item u x own of m.0 (free m.0 n.0 i (item_in u x of n.0 w n.1 led_w) (step_up a w m.0 n.0 by m.1 n.1)) in
          subst (λ z. slice_get leaders z ≡ Some u) (same_place numbers up b a m.0 e m.1) d

      -- a run from a pair to a place behind the pairs has a last pair
      abbrev LastPair : ℕ → ℕ → Type 0
      LastPair l q = (a : ℕ) × Run (Follows rows) l a × Run (Follows rows) a q × ((w : ℕ) → LeadsOn pairs rows q w → LeadsByOthers pairs rows a w)

      mutual
        last_pair : {j q : ℕ} → Run (Follows rows) j q → (l : ℕ) → j < pairs → pairs ≤ q → Run (Follows rows) l j → LastPair l q
        last_pair (Stay {s = q}) l lt ge run = absurd (omega (arith, lt, ge))
        last_pair (Go {s = j} {m = r} step rest) l lt ge run = last_on rest l j (to_other j r step lt).0 ge run (one step) (λ w on. (lt, (r, step, on)))

        last_on : {r q : ℕ} → Run (Follows rows) r q → (l a : ℕ) → pairs ≤ r → pairs ≤ q → Run (Follows rows) l a → Run (Follows rows) a r
            → ((w : ℕ) → LeadsOn pairs rows r w → LeadsByOthers pairs rows a w) → LastPair l q
        last_on Stay l a far ge run so_far to = (a, run, so_far, to)
        last_on (Go {s = r} {m = j} step rest) l a far ge run so_far to = elim (dec_lt j pairs) [
          | yes small ↦ last_pair rest l small ge (then run (then so_far (one step)))
          | no high ↦ last_on rest l a (omega (arith, high)) ge run (then so_far (one step)) (λ w on. to w (by_way far step on))
        ]

      -- a component with a pair, that leads on to one of the item, is that of the item
      by_its_pair : (q w l : ℕ) → pairs ≤ q → LeadsOn pairs rows q w → slice_get done q ≡ Some false → slice_get leaders q ≡ Some l → slice_get leaders w ≡ Some u → l < pairs → l ≡ u
      by_its_pair q w l ge on undone at led_w small =
          let joined = (led.each q l at).connected in
          let left : slice_get done l ≡ Some false = sym (passed.together q l at) ∙ undone in
          let (a, there_a, to_q, by) = last_pair joined.1 l small ge Stay in
          let k = leader_of a (by w on).0 in
          let same : k.0 ≡ l = one_leader rows leaders led a l k.0 l k.1 (leads_itself rows leaders led q l at) (then to_q joined.0, there_a) in
          let led_a : slice_get leaders a ≡ Some l = k.1 ∙ ap (λ z. Some z) same in
          same_Some l u (sym led_a ∙ is_within a w (by w on) (passed.together a l led_a ∙ left) led_w)

      -- in a component with no pair runs fall
      falls : (q l : ℕ) → slice_get leaders q ≡ Some l → pairs ≤ l → {k : ℕ} → Run (Follows rows) k q → slice_get leaders k ≡ Some l → q ≤ k
      falls q l at far Stay e = omega arith
      falls q l at far (Go {s = k} {m = j} s run) e =
          let far_k : pairs ≤ k = (let low = led_low k l e in omega (arith, low, far)) in
          let to_k : Run (Follows rows) q k = (led_mutual rows leaders led q k l at e).0 in
          let less : j < k = to_lesser k j s far_k in
          let p = item_there leaders j (let w = within k j s in omega (arith, w, less)) in
          let same : p.0 ≡ l = one_leader rows leaders led j k p.0 l p.1 e (then run to_k, one s) in
          let h = falls q l at far run (p.1 ∙ ap (λ z. Some z) same) in
          omega (arith, h, less)

      -- what leads on to a pair of the item, and is left, is of its component
      led_on : (steps q w : ℕ) → length leaders ≤ q + steps → LeadsOn pairs rows q w → slice_get done q ≡ Some false → slice_get leaders w ≡ Some u → slice_get leaders q ≡ Some u
      led_on zero q w many on undone led_w = absurd (let s = first_step on in let h = within q s.0 s.1 in omega (arith, h, many))
      led_on (suc steps) q w many on undone led_w =
          let s = first_step on in
          let k = item_there leaders q (within q s.0 s.1) in
          elim (dec_lt k.0 pairs) [
            | yes small ↦ k.1 ∙ ap (λ z. Some z) (by_its_pair q w k.0 (starts_behind on) on undone k.1 led_w small)
            | no high ↦
                let far : pairs ≤ k.0 = omega (arith, high) in
                let own_k = leads_itself rows leaders led q k.0 k.1 in
                let b = wait k.0 far (own_k, sym (passed.together q k.0 k.1) ∙ undone) in
                let joined = led_mutual rows leaders led b.to q k.0 b.of_this k.1 in
                let up = falls q k.0 k.1 far joined.0 b.of_this in
                let down = falls b.to k.0 b.of_this far joined.1 k.1 in
                let same : b.to ≡ q = omega (arith, up, down) in
                let step : Follows rows b.from q = subst (Follows rows b.from) same b.follows in
                let led_from : slice_get leaders b.from ≡ Some u = elim (dec_lt b.from pairs) [
                  | yes lt ↦ is_within b.from w (lt, (q, step, on)) b.undone led_w
                  | no ge ↦
                      let back : pairs ≤ b.from = omega (arith, ge) in
                      let less = to_lesser b.from q step back in
                      led_on steps b.from w (omega (arith, less, many)) (by_way back step on) b.undone led_w
                ] in
                let to_from : Run (Follows rows) w b.from = (led_mutual rows leaders led w b.from u led_w led_from).0 in
                let one_u : k.0 ≡ u = one_leader rows leaders led q b.from k.0 u k.1 led_from (then (run_of on) to_from, one step) in
                k.1 ∙ ap (λ z. Some z) one_u
          ]

      -- from a place of the component steps lead on to a pair of it
      to_own_pair : (r : ℕ) → pairs ≤ r → slice_get leaders r ≡ Some u → (w : ℕ) × LeadsOn pairs rows r w × (slice_get leaders w ≡ Some u)
      to_own_pair r ge led_r =
          let joined = (led.each r u led_r).connected in
          let (w, on, rest) = first_pair joined.0 ge small in
          let l = leader_of w (ends_at_pair on) in
          let same : l.0 ≡ u = one_leader rows leaders led w u l.0 u l.1 own (rest, then joined.1 (run_of on)) in
          (w, on, l.1 ∙ ap (λ z. Some z) same)

      not_blocked : IsBlocked rows leaders done u → ⊥
      not_blocked b = elim (dec_lt b.from pairs) [
        | yes lt ↦
            let (w, on, led_w) = to_own_pair b.to (to_other b.from b.to b.follows lt).0 b.of_this in
            b.differ (same_Some b.leader u (sym b.of_other ∙ is_within b.from w (lt, (b.to, b.follows, on)) b.undone led_w))
        | no ge ↦
            let far : pairs ≤ b.from = omega (arith, ge) in
            let (w, on, led_w) = elim (dec_lt b.to pairs) as (λ c. (w : ℕ) × LeadsOn pairs rows b.from w × (slice_get leaders w ≡ Some u)) [
              | yes lt ↦ (b.to, at_once far b.follows lt, b.of_this)
              | no high ↦ (let (w, on, led_w) = to_own_pair b.to (omega (arith, high)) b.of_this in (w, by_way far b.follows on, led_w))
            ] in
            b.differ (same_Some b.leader u (sym b.of_other ∙ led_on (length leaders) b.from w (omega arith) on b.undone led_w))
      ]

  stand_in_order : (done : List Bool) (order : List ℕ) (items : List GroupOrSingle) → IsPassed done → ArePutOut pairs rows leaders done order → AreItemsOf numbers leaders order items
      → StandInOrder rules all numbers items
  stand_in_order done _ _ passed (all_done none) no_leaders = no_items
  stand_in_order done _ items passed (put_out {vs = vs} v new ready finishes rest) (a_rule _ ge more) =
      stand_in_order new vs items (still_passed v done new ready finishes passed) rest more
  stand_in_order done _ _ passed (put_out {vs = vs} v new ready finishes rest) (a_pair {item = item} {items = items} _ lt is more) =
      next is_ready is_least (stand_in_order new vs items after rest more)
    where
      after : IsPassed new
      after = still_passed v done new ready finishes passed

      whole : ArePutOut pairs rows leaders done (v ∷ vs)
      whole = put_out v new ready finishes rest

      of_whole : AreItemsOf numbers leaders (v ∷ vs) (item ∷ items)
      of_whole = a_pair v lt is more

      is_ready : IsReady rules all numbers (item ∷ items) item
      is_ready = leads_within done (v ∷ vs) (item ∷ items) passed whole of_whole v lt ready.0.0 item is ready.1

      is_least : (other : GroupOrSingle) → In other items → IsReady rules all numbers (item ∷ items) other → HasLesser rules all numbers item other
      is_least other i free =
          let (u, undone, small, of) = of_leader new vs items rest more other i in
          let m = number_of v lt in (
            m.0,
            item_in v item is m.0 v m.1 ready.0.0,
            λ n j.
                let (w, e, d) = in_item u other undone.0 of n j in
                lesser_of numbers up v w m.0 n (before u w other undone small of free d) m.1 e,
          )
        where
          before : (u w : ℕ) (x : GroupOrSingle) → IsUndoneLeader leaders new u → u < pairs → IsItemOf numbers leaders u x → IsReady rules all numbers (item ∷ items) x → slice_get leaders w ≡ Some u → v < w
          before u w x undone small of free d =
              let low : u ≤ w = led_low w u d in
              elim (dec_lt v u) [
                | yes less ↦ omega (arith, less, low)
                | no ge ↦ elim (dec_lt u v) [
                  | yes less ↦ absurd (not_blocked done (v ∷ vs) (item ∷ items) passed whole of_whole u small undone.0 x of free (λ k far left. ready.2 k (lt, inl far) left)
                      (ready.2 u (lt, inr less) (undone.0, still_undone v done new finishes u undone.1)))
                  | no le ↦ absurd (
                      let same : u ≡ v = omega (arith, ge, le) in
                      false_true new u undone.1 (subst (λ z. slice_get new z ≡ Some true) (sym same) (finishes.led v ready.0.0)))
                ]
              ]

  item_new : (v : ℕ) (item : GroupOrSingle) (before : List ℕ) → slice_get leaders v ≡ Some v → IsItemOf numbers leaders v item → ((n : ℕ) → In n (members_of item) → In n before → ⊥)
      → are_new numbers before (members_of item) (Ok tt)
  item_new v item before own is none = ascending_new numbers before (members_of item) (ascends v item is)
      (λ n i. let (w, e, d) = in_item v item own is n i in (in_of_get numbers w n e, none n i))
    where
      ascends : (v : ℕ) (x : GroupOrSingle) → IsItemOf numbers leaders v x → Ascends (members_of x)
      ascends v (group members) of = subst Ascends (sym of.0) (led_ascends v numbers leaders (ascends_of numbers up))
      ascends v (single member) of = number (λ m i. absurd (no_in i)) no_numbers

  all_new : (done : List Bool) (order : List ℕ) (items : List GroupOrSingle) (before : List ℕ) → IsPassed done → ArePutOut pairs rows leaders done order → AreItemsOf numbers leaders order items
      → ((n : ℕ) → In n (all_members items) → In n before → ⊥) → are_new numbers before (all_members items) (Ok tt)
  all_new done _ _ before passed (all_done none) no_leaders apart = returned
  all_new done _ items before passed (put_out {vs = vs} v new ready finishes rest) (a_rule _ ge more) apart =
      all_new new vs items before (still_passed v done new ready finishes passed) rest more apart
  all_new done _ _ before passed (put_out {vs = vs} v new ready finishes rest) (a_pair {item = item} {items = items} _ lt is more) apart =
      let after = still_passed v done new ready finishes passed in
      both_new numbers before (members_of item) (all_members items) (Ok tt) (item_new v item before ready.0.0 is (λ n i. apart n (in_left (all_members items) i)))
      (all_new new vs items (before ++ members_of item) after rest more (λ n i j. elim (in_either before (members_of item) j) [
        | inl k ↦ apart n (in_right (members_of item) i) k
        | inr k ↦ (let (w, e, d) = in_item v item ready.0.0 is n k in
            let (a, at, undone) = (covers new vs items after rest more n).0 i in
            let same : a ≡ w = same_place numbers up a w n at e in
            false_true new a undone (subst (λ z. slice_get new z ≡ Some true) (sym same) (finishes.led w d)))
      ]))

  pub are_components : (done : List Bool) (order : List ℕ) (items : List GroupOrSingle) → IsPassed done → ((i : ℕ) → i < length leaders → slice_get done i ≡ Some false)
      → ArePutOut pairs rows leaders done order → AreItemsOf numbers leaders order items → AreComponents rules all numbers items
  are_components done order items passed fresh out of = record {
    named = all_new done order items [] passed out of (λ n i j. no_in j);
    whole = never (λ n h.
        let w = get_of_in h.0 in
        h.1 ((covers done order items passed out of n).1 (w.0, w.1, fresh w.0 (let k = slice_get_within numbers w.0 n w.1 in let c = led.count in let d = are_rows.count in omega (arith, k, c, d)))));
    components = λ item i. let (v, undone, small, is) = of_leader done order items out of item i in is_component v item small undone.0 is;
    in_order = stand_in_order done order items passed out of;
  }

  -- at first no place is done
  pub first_components : (order : List ℕ) (items : List GroupOrSingle) → PutsOut pairs rows leaders order → AreItemsOf numbers leaders order items → AreComponents rules all numbers items
  first_components order items out of =
      are_components (replicate (length leaders) false) order items
      (record {
        size = length_repeat (length leaders) false;
        together = together_at_first rows leaders led (replicate (length leaders) false) (length leaders) refl refl;
        closed = λ i j f e. absurd (let h : true ≡ false = in_repeat (length leaders) j false true e in cc);
      })
      (λ i lt. at_repeat (length leaders) i false lt) out of

-- ---- a step by the components

no_twice : (numbers before xs ys : List ℕ) → are_new numbers before (xs ++ ys) (Ok tt) → (n : ℕ) → In n xs → In n ys → ⊥
no_twice numbers before [] ys h n i j = no_in i
no_twice numbers before (x ∷ xs) ys (goes_on _ _ (holds k) rest) n i j = elim (in_or i) [
  | inl e ↦ not_before numbers (before ++ x ∷ []) (xs ++ ys) rest n (in_right xs j) (subst (λ z. In z (before ++ x ∷ [])) (sym e) (in_right before in_first))
  | inr l ↦ no_twice numbers (before ++ x ∷ []) xs ys rest n l j
]
  where
    not_before : (numbers before xs : List ℕ) → are_new numbers before xs (Ok tt) → (n : ℕ) → In n xs → In n before → ⊥
    not_before numbers before [] h n i j = no_in i
    not_before numbers before (x ∷ xs) (goes_on _ _ (holds k) rest) n i j = elim (in_or i) [
      | inl e ↦ k.1 (subst (λ z. In z before) e j)
      | inr l ↦ not_before numbers (before ++ x ∷ []) xs rest n l (in_left (x ∷ []) j)
    ]

after_first : (numbers before xs ys : List ℕ) → are_new numbers before (xs ++ ys) (Ok tt) → are_new numbers (before ++ xs) ys (Ok tt)
after_first numbers before [] ys h = subst (λ z. are_new numbers z ys (Ok tt)) (sym (append-nil before)) h
after_first numbers before (x ∷ xs) ys (goes_on _ _ k rest) = subst (λ z. are_new numbers z ys (Ok tt)) (append_assoc before (x ∷ []) xs) (after_first numbers (before ++ x ∷ []) xs ys rest)

pub member_there : (numbers before xs : List ℕ) → are_new numbers before xs (Ok tt) → (n : ℕ) → In n xs → In n numbers
member_there numbers before [] h n i = absurd (no_in i)
member_there numbers before (x ∷ xs) (goes_on _ _ (holds k) rest) n i = elim (in_or i) [
  | inl e ↦ subst (λ z. In z numbers) (sym e) k.0
  | inr j ↦ member_there numbers (before ++ x ∷ []) xs rest n j
]

members_append : (before : List GroupOrSingle) (item : GroupOrSingle) → all_members (before ++ item ∷ []) ≡ all_members before ++ members_of item
members_append [] item = append-nil (members_of item)
members_append (x ∷ before) item = ap (λ z. members_of x ++ z) (members_append before item) ∙ sym (append_assoc (members_of x) (all_members before) (members_of item))

module _ (rules : List RewriteRule) (all : List DependencyPair) (numbers : List ℕ) where
  lead_onward_from : (before items : List GroupOrSingle) (named : List ℕ) → are_new numbers named (all_members items) (Ok tt) → StandInOrder rules all numbers items
      → ((m n : ℕ) → In m (all_members items) → In n (all_members before) → HasEdge rules all m n → ⊥)
      → ((n : ℕ) → In n (all_members before) → In n numbers)
      → each_after (λ before item. lead_to_none rules all (members_of item) (all_members before)) before items (Ok tt)
  lead_onward_from before _ named news no_items none there = returned
  lead_onward_from before _ named news (next {item = item} {items = items} ready least rest) none there =
      goes_on tt _
      (each_passes (λ m. leads_to_none rules all m (all_members before)) 0 (members_of item) (λ m i. each_passes (λ n. Forbids (HasEdge rules all m n) (EdgeBack m n)) 0 (all_members before)
      (λ n j. absent (none m n (in_left (all_members items) i) j))))
      (lead_onward_from (before ++ item ∷ []) items (named ++ members_of item) (after_first numbers named (members_of item) (all_members items) news) rest
      (λ m n i j edge. elim (in_either (all_members before) (members_of item) (subst (In n) (members_append before item) j)) [
        | inl k ↦ none m n (in_right (members_of item) i) k edge
        | inr k ↦ no_twice numbers named (members_of item) (all_members items) news m
            (ready m n (in_right (members_of item) i) k (member_there numbers named (members_of item ++ all_members items) news m (in_right (members_of item) i), member_there numbers named (members_of item ++ all_members items) news n (in_left (all_members items) k), edge)) i
      ])
      (λ n j. elim (in_either (all_members before) (members_of item) (subst (In n) (members_append before item) j)) [
        | inl k ↦ there n k
        | inr k ↦ member_there numbers named (members_of item ++ all_members items) news n (in_left (all_members items) k)
      ]))

  single_there : (items : List GroupOrSingle) (n : ℕ) → In n (singles_of items) → In (single n) items
  single_there [] n i = absurd (no_in i)
  single_there (group members ∷ items) n i = in_rest (single_there items n i)
  single_there (single member ∷ items) n i = elim (in_or i) [ inl e ↦ subst (λ z. In (single n) (single z ∷ items)) e in_first | inr j ↦ in_rest (single_there items n j) ]

  single_member : (items : List GroupOrSingle) (n : ℕ) → In n (singles_of items) → In n (all_members items)
  single_member [] n i = absurd (no_in i)
  single_member (group members ∷ items) n i = in_right members (single_member items n i)
  single_member (single member ∷ items) n i = elim (in_or i) [ inl e ↦ subst (λ z. In n (z ∷ all_members items)) e in_first | inr j ↦ in_rest (single_member items n j) ]

  pub components_pass : (items : List GroupOrSingle) → AreComponents rules all numbers items → graph_conditions rules all numbers items (Ok (groups_of items))
  components_pass items are =
      goes_on tt _ are.named
      (goes_on tt _ are.whole
      (goes_on tt _ (lead_onward_from [] items [] are.named are.in_order (λ m n i j. absurd (no_in j)) (λ n j. absurd (no_in j)))
      (goes_on tt _ (each_passes (λ n. Forbids (HasEdge rules all n n) (SelfEdge n)) 0 (singles_of items)
      (λ n i. absent (λ edge.
      let there = member_there numbers [] (all_members items) are.named n (single_member items n i) in
      are.components (single n) (single_there items n i) (n, (there, there, edge), Stay))))
      returned)))

-- the items of the leaders that are put out for a graph
pub all_components : {E : Type 0} (system : System) (numbers : List ℕ) → IsStrictlyIncreasing numbers → (rows : List (List ℕ)) → AreRows (EdgeOf system) numbers rows → (leaders : List ℕ)
    → AreLeaders rows leaders → (order : List ℕ) → PutsOut (length numbers) rows leaders order → (result : Result (Vec GraphItem Global) E)
    → IfOk result (λ items. AreItemsOf numbers leaders order (items_of items.items))
    → IfOk result (λ items. AreComponents system.rules (dependency_pairs system.rules) numbers (items_of items.items))
all_components system numbers up rows are_rows leaders led order out (Ok items) of =
    first_components system.rules (dependency_pairs system.rules) numbers up rows are_rows leaders led order (items_of items.items) out of
all_components system numbers up rows are_rows leaders led order out (Err e) of = of
