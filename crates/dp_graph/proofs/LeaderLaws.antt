-- The leaders of components, from the last place of an order of finishing on.
use Rattle.std.specs.Prelude.{◌≡◌, ◌<◌, ◌≤◌, ℕ, ◌+◌, Bool, true, false, List, length, replicate, take, get_or, Some, slice_get, slice_set, refl}
use Rattle.std.proofs.Common.{inl, inr, sym, ap, subst, arith, ◌∙◌}
use Rattle.std.proofs.lemmas.List.{take_all}
use Rattle.std.proofs.lemmas.Option.{same_Some, slice_get_within}
use native.Mathlib.Decide.{ℕ_discrete}
use Rattle.trs_defs.specs.Member.{In}
use Rattle.trs_defs.specs.Run.{Run, Stay, Go}
use Rattle.trs_defs.proofs.Runs.{one, then, each}
use Rattle.trs_defs.proofs.Members.{no_in, get_of_in}
use Rattle.dp_graph.specs.Rows.{Follows}
use Rattle.dp_graph.specs.Reversed.{AreReversed}
use Rattle.dp_graph.specs.FoundPlaces.{FollowsFree, AreCollected}
use Rattle.dp_graph.specs.Finishing.{IsFinishingOrder}
use Rattle.dp_graph.specs.Leaders.{AreMutual, IsLeader, AreLeaders, Leads, LeadsFrom}
use Rattle.dp_graph.proofs.FoundLaws.{taken_more, in_row}
use Rattle.dp_graph.proofs.ListPlaces.{set_at, not_both, unset_there, length_set, set_here, set_elsewhere, in_repeat, length_repeat}

turned : (rows back : List (List ℕ)) → AreReversed rows back → {i j : ℕ} → Run (Follows back) i j → Run (Follows rows) j i
turned rows back are Stay = Stay
turned rows back are (Go {s = s} {m = m} step run) = then (turned rows back are run) (one ((are.reversed m s).1 step))

turned_back : (rows back : List (List ℕ)) → AreReversed rows back → {i j : ℕ} → Run (Follows rows) i j → Run (Follows back) j i
turned_back rows back are Stay = Stay
turned_back rows back are (Go {s = s} {m = m} step run) = then (turned_back rows back are run) (one ((are.reversed s m).0 step))

-- one of two numbers
pick : {A : Type 0} → Dec A → ℕ → ℕ → ℕ
pick (yes h) a b = a
pick (no h) a b = b

pick_first : {A : Type 0} (d : Dec A) (a b : ℕ) → A → pick d a b ≡ a
unfolding pick
pick_first (yes h) a b is = refl
pick_first (no h) a b is = absurd (h is)

pick_second : {A : Type 0} (d : Dec A) (a b : ℕ) → (A → ⊥) → pick d a b ≡ b
unfolding pick
pick_second (yes h) a b not = absurd (not h)
pick_second (no h) a b not = refl

-- ranks of the leaders that are found, below a bound
pub record RankedSoFar (rows : List (List ℕ)) (leaders : List ℕ) (flags : List Bool) : Type 0 where
  pub rank : ℕ → ℕ
  pub bound : ℕ
  pub below : (i l : ℕ) → slice_get flags i ≡ Some true → slice_get leaders i ≡ Some l → rank l < bound
  pub rises : (i j a b : ℕ) → Follows rows i j → slice_get flags j ≡ Some true → slice_get leaders i ≡ Some a → slice_get leaders j ≡ Some b → (a ≡ b → ⊥) → rank a < rank b

-- The leaders of the places whose flags are set. Of these are the places from number k of the order on, and what leads to one.
pub record LedSoFar (rows : List (List ℕ)) (order leaders : List ℕ) (flags : List Bool) (k : ℕ) : Type 0 where
  pub count : length leaders ≡ length rows
  pub places : length flags ≡ length rows
  pub each : (i l : ℕ) → slice_get flags i ≡ Some true → slice_get leaders i ≡ Some l → IsLeader rows i l
  pub closed : (i j : ℕ) → Follows rows i j → slice_get flags j ≡ Some true → slice_get flags i ≡ Some true
  pub passed : (m x : ℕ) → k ≤ m → slice_get order m ≡ Some x → slice_get flags x ≡ Some true
  pub ranked : RankedSoFar rows leaders flags

pub none_led : (rows : List (List ℕ)) (order leaders : List ℕ) (flags : List Bool) (n m k : ℕ) → n ≡ length rows → m ≡ length rows → leaders ≡ replicate n 0 → flags ≡ replicate m false → length order ≤ k
    → LedSoFar rows order leaders flags k
none_led rows order leaders flags n m k size also is unset ge = record {
  count = ap length is ∙ (length_repeat n 0 ∙ size);
  places = ap length unset ∙ (length_repeat m false ∙ also);
  each = λ i l set e. absurd (none i set);
  closed = λ i j follows set. absurd (none j set);
  passed = λ j x le e. absurd (let w = slice_get_within order j x e in omega (arith, w, le, ge));
  ranked = record {
    rank = λ l. 0;
    bound = 0;
    below = λ i l set e. absurd (none i set);
    rises = λ i j a b follows set. absurd (none j set);
  };
}
  where
    none : (i : ℕ) → slice_get flags i ≡ Some true → ⊥
    none i set = let h : true ≡ false = in_repeat m i false true (subst (λ z. slice_get z i ≡ Some true) unset set) in absurd cc

flip : (rows : List (List ℕ)) {i j : ℕ} → AreMutual rows i j → AreMutual rows j i
flip rows m = (m.1, m.0)

join : (rows : List (List ℕ)) {i j k : ℕ} → AreMutual rows i j → AreMutual rows j k → AreMutual rows i k
join rows m n = (then m.0 n.0, then n.1 m.1)

module _ (rows back : List (List ℕ)) (are : AreReversed rows back) (order : List ℕ) (finishes : IsFinishingOrder rows order) (old : List ℕ) (flags : List Bool) (k v : ℕ)
    (at : slice_get order k ≡ Some v) (before : LedSoFar rows order old flags (k + 1)) where
  -- what leads to a place that has its leader has one too
  all_back : {i j : ℕ} → Run (Follows rows) i j → slice_get flags j ≡ Some true → slice_get flags i ≡ Some true
  all_back Stay set = set
  all_back (Go {s = s} {m = m} step run) set = before.closed s m step (all_back run set)

  later : (m x : ℕ) → k ≤ m → slice_get order m ≡ Some x → (m ≡ k → ⊥) → slice_get flags x ≡ Some true
  later m x le e other = before.passed m x (omega (arith, le, other)) e

  pub still_led : slice_get flags v ≡ Some true → LedSoFar rows order old flags k
  still_led set = record {
    count = before.count;
    places = before.places;
    each = before.each;
    closed = before.closed;
    passed = λ m x le e. elim (ℕ_discrete m k) [
      | yes same ↦ subst (λ z. slice_get flags z ≡ Some true) (same_Some v x (sym at ∙ subst (λ z. slice_get order z ≡ Some x) same e)) set
      | no other ↦ later m x le e other
    ];
    ranked = before.ranked;
  }

  module _ (unset : slice_get flags v ≡ Some false) (new : List Bool) (component : List ℕ) (collected : AreCollected back flags new v component) (leaders : List ℕ) (leads : Leads component old leaders) where
    unled : {u : ℕ} → Run (Follows rows) v u → slice_get flags u ≡ Some true → ⊥
    unled run set = not_both flags v (all_back run set) unset

    -- what is found is connected with v
    found_mutual : (u : ℕ) → In u component → AreMutual rows v u
    found_mutual u i =
        let to : Run (Follows rows) u v = turned rows back are (each (λ s t h. h.0) ((collected.exact u).0 i)) in
        elim (finishes.before k v u at to) [
          | inl back_to ↦ (back_to, to)
          | inr (m, w, lt, e, both) ↦
              absurd (not_both flags u (all_back both.0 (before.passed m w (omega (arith, lt)) e)) (collected.are.fresh u i))
        ]

    free_run : {s u : ℕ} → Run (Follows back) s u → Run (Follows rows) v u → Run (FollowsFree back flags) s u
    free_run Stay from = Stay
    free_run (Go {s = s} {m = m} step run) from =
        let low : m < length rows = from_within m s ((are.reversed m s).1 step) in
        let p = before.places in
        Go (step, unset_there flags m (omega (arith, low, p)) (λ set. unled (then from (turned rows back are run)) set)) (free_run run from)
      where
        from_within : (i j : ℕ) → Follows rows i j → i < length rows
        from_within i j (row, is, h) = slice_get_within rows i row is

    -- what is connected with v is found
    mutual_found : (u : ℕ) → AreMutual rows v u → In u component
    mutual_found u both = (collected.exact u).1 (free_run (turned_back rows back are both.1) both.0)

    v_found : In v component
    v_found = mutual_found v (Stay, Stay)

    not_old : (u : ℕ) → slice_get flags u ≡ Some true → In u component → ⊥
    not_old u set i = not_both flags u set (collected.are.fresh u i)

    -- the leader of a place that had one
    old_leader : (i l : ℕ) → slice_get flags i ≡ Some true → slice_get leaders i ≡ Some l → slice_get old i ≡ Some l
    old_leader i l set e = sym (leads.others i (not_old i set)) ∙ e

    new_leader : (i l : ℕ) → In i component → slice_get leaders i ≡ Some l → l ≡ leads.leader
    new_leader i l i_in e = same_Some l leads.leader (sym e ∙ leads.led i i_in)

    old_differs : (i l : ℕ) → slice_get flags i ≡ Some true → slice_get old i ≡ Some l → l ≡ leads.leader → ⊥
    old_differs i l set e same =
        let set_l : slice_get flags l ≡ Some true = all_back (before.each i l set e).connected.1 set in
        not_old l set_l (subst (λ z. In z component) (sym same) leads.there)

    rank : ℕ → ℕ
    rank l = pick (ℕ_discrete l leads.leader) before.ranked.bound (before.ranked.rank l)

    rank_old : (l : ℕ) → (l ≡ leads.leader → ⊥) → rank l ≡ before.ranked.rank l
    unfolding rank
    rank_old l other = pick_second (ℕ_discrete l leads.leader) before.ranked.bound (before.ranked.rank l) other

    rank_new : (l : ℕ) → l ≡ leads.leader → rank l ≡ before.ranked.bound
    unfolding rank
    rank_new l same = pick_first (ℕ_discrete l leads.leader) before.ranked.bound (before.ranked.rank l) same

    closed_new : (i j : ℕ) → Follows rows i j → slice_get new j ≡ Some true → slice_get new i ≡ Some true
    closed_new i j follows set = elim (collected.are.marked j set) [
      | inl was ↦ collected.are.kept i (before.closed i j follows was)
      | inr j_in ↦ elim (set_at flags i) [
        | yes was ↦ collected.are.kept i was
        | no free ↦
            let low = slice_get_within rows i follows.0 follows.1 in
            let p = before.places in
            let step : FollowsFree back flags j i = ((are.reversed i j).0 follows, unset_there flags i (omega (arith, low, p)) free) in
            collected.are.found_marked i ((collected.exact i).1 (then ((collected.exact j).0 j_in) (one step)))
      ]
    ]

    pub led_more : LedSoFar rows order leaders new k
    led_more = record {
      count = leads.count ∙ before.count;
      places = collected.are.places ∙ before.places;
      each = λ i l set e. elim (collected.are.marked i set) [
        | inl was ↦ before.each i l was (old_leader i l was e)
        | inr i_in ↦ record {
          connected = join rows (flip rows (found_mutual i i_in)) (subst (AreMutual rows v) (sym (new_leader i l i_in e)) (found_mutual leads.leader leads.there));
          least = λ j both. subst (λ z. z ≤ j) (sym (new_leader i l i_in e)) (leads.least j (mutual_found j (join rows (found_mutual i i_in) both)));
        }
      ];
      closed = closed_new;
      passed = λ m x le e. elim (ℕ_discrete m k) [
        | yes same ↦ collected.are.found_marked x (subst (λ z. In z component) (same_Some v x (sym at ∙ subst (λ z. slice_get order z ≡ Some x) same e)) v_found)
        | no other ↦ collected.are.kept x (later m x le e other)
      ];
      ranked = record {
        rank = rank;
        bound = before.ranked.bound + 1;
        below = λ i l set e. elim (collected.are.marked i set) [
          | inl was ↦
              let at_i = old_leader i l was e in
              let h = before.ranked.below i l was at_i in
              let r = rank_old l (old_differs i l was at_i) in omega (arith, h, r)
          | inr i_in ↦ let r = rank_new l (new_leader i l i_in e) in omega (arith, r)
        ];
        rises = λ i j a b follows set e d differ. elim (collected.are.marked j set) [
          | inl was ↦
              let was_i = before.closed i j follows was in
              let at_i = old_leader i a was_i e in
              let at_j = old_leader j b was d in
              let h = before.ranked.rises i j a b follows was at_i at_j differ in
              let r = rank_old a (old_differs i a was_i at_i) in
              let s = rank_old b (old_differs j b was at_j) in omega (arith, h, r, s)
          | inr j_in ↦
              let s = rank_new b (new_leader j b j_in d) in
              elim (collected.are.marked i (closed_new i j follows set)) [
                | inl was_i ↦
                    let at_i = old_leader i a was_i e in
                    let h = before.ranked.below i a was_i at_i in
                    let r = rank_old a (old_differs i a was_i at_i) in omega (arith, h, r, s)
                | inr i_in ↦ absurd (differ (new_leader i a i_in e ∙ sym (new_leader j b j_in d)))
              ]
        ];
      };
    }

pub next_led : (rows back : List (List ℕ)) → AreReversed rows back → (order : List ℕ) → IsFinishingOrder rows order → (old leaders : List ℕ) (flags new : List Bool) (k v : ℕ)
    → slice_get order k ≡ Some v → LedSoFar rows order old flags (k + 1) → LeadsFrom back v flags new old leaders → LedSoFar rows order leaders new k
next_led rows back are order finishes old leaders flags new k v at before (inl (set, same_flags, same)) =
    subst (λ z. LedSoFar rows order z new k) (sym same)
    (subst (λ z. LedSoFar rows order old z k) (sym same_flags) (still_led rows back are order finishes old flags k v at before set))
next_led rows back are order finishes old leaders flags new k v at before (inr all) =
    led_more rows back are order finishes old flags k v at before all.unset new all.component all.are leaders all.leads

pub all_led : (rows : List (List ℕ)) (order leaders : List ℕ) (flags : List Bool) → IsFinishingOrder rows order → LedSoFar rows order leaders flags 0 → AreLeaders rows leaders
all_led rows order leaders flags finishes led = record {
  count = led.count;
  each = λ i l e. led.each i l (set i (let w = slice_get_within leaders i l e in let c = led.count in omega (arith, w, c))) e;
  ranked = record {
    rank = led.ranked.rank;
    rises = λ i j a b follows e d differ.
        led.ranked.rises i j a b follows (set j (let w = slice_get_within leaders j b d in let c = led.count in omega (arith, w, c))) e d differ;
  };
}
  where
    set : (i : ℕ) → i < length rows → slice_get flags i ≡ Some true
    set i lt = let at = get_of_in (finishes.all i lt) in led.passed at.0 i (omega arith) at.1

pub leads_lengths : (back : List (List ℕ)) (v : ℕ) (flags new_flags : List Bool) (old new : List ℕ) → LeadsFrom back v flags new_flags old new
    → (length new ≡ length old) × (length new_flags ≡ length flags)
leads_lengths back v flags new_flags old new (inl (set, same_flags, same)) = (ap length same, ap length same_flags)
leads_lengths back v flags new_flags old new (inr all) = (all.leads.count, all.are.are.places)

pub found_some : (back : List (List ℕ)) (flags new : List Bool) (v : ℕ) (found : List ℕ) → AreCollected back flags new v found → 0 < length found
found_some back flags new v found are = let at = get_of_in ((are.exact v).1 Stay) in let w = slice_get_within found at.0 v at.1 in omega (arith, w)

pub found_within : (back : List (List ℕ)) (flags new : List Bool) (v : ℕ) (found : List ℕ) → AreCollected back flags new v found → (w : ℕ) → In w found → w < length flags
found_within back flags new v found are w i = slice_get_within flags w false (are.are.fresh w i)

-- ---- the least of some places

-- the leader of the first i of these places is set
pub record LedFirst (component : List ℕ) (least : ℕ) (old new : List ℕ) (i : ℕ) : Type 0 where
  pub count : length new ≡ length old
  pub led : (w : ℕ) → In w (take i component) → slice_get new w ≡ Some least
  pub others : (w : ℕ) → (In w component → ⊥) → slice_get new w ≡ slice_get old w

pub none_first : (component : List ℕ) (least : ℕ) (old : List ℕ) → LedFirst component least old old 0
none_first component least old = record { count = refl; led = λ w i. absurd (no_in i); others = λ w h. refl }

pub one_more_first : (component : List ℕ) (least : ℕ) (old new : List ℕ) (i x : ℕ) → i < length component → x ≡ get_or component i 0 → x < length new → LedFirst component least old new i
    → LedFirst component least old (slice_set new x least) (i + 1)
one_more_first component least old new i x lt is small before = record {
  count = length_set new x least ∙ before.count;
  led = λ w h. elim (taken_more component i x w lt is h) [
    | inl g ↦ elim (ℕ_discrete w x) [
      | yes same ↦ subst (λ z. slice_get (slice_set new x least) z ≡ Some least) (sym same) (set_here new x least small)
      | no other ↦ set_elsewhere new x w least other ∙ before.led w g
    ]
    | inr same ↦ subst (λ z. slice_get (slice_set new x least) z ≡ Some least) (sym same) (set_here new x least small)
  ];
  others = λ w h. set_elsewhere new x w least (λ e. h (subst (λ z. In z component) (sym e) (in_row component i x lt is))) ∙ before.others w h;
}

pub all_first : (component : List ℕ) (least : ℕ) (old new : List ℕ) (i : ℕ) → length component ≤ i → In least component → ((w : ℕ) → In w component → least ≤ w) → LedFirst component least old new i
    → Leads component old new
all_first component least old new i ge there low led = record {
  count = led.count;
  leader = least;
  there = there;
  least = low;
  led = λ w h. led.led w (subst (In w) (sym (take_all i component ge)) h);
  others = led.others;
}
