-- A walk in depth: places that are entered, tried and finished.
use Rattle.std.specs.Prelude.{◌≡◌, ◌<◌, ◌≤◌, ◌⊎◌, ℕ, ◌+◌, ◌*◌, Bool, true, false, List, [], ◌∷◌, ◌++◌, length, replicate, Some, slice_get, slice_set}
use Rattle.std.proofs.Common.{zero, suc, inl, inr, sym, ap, subst, arith, ◌∙◌}
use Rattle.std.proofs.lemmas.Option.{same_Some, slice_get_within}
use native.Mathlib.Decide.{dec_lt, ℕ_discrete}
use Rattle.trs_defs.specs.Member.{In, in_first}
use Rattle.trs_defs.specs.Run.{Run, Stay, Go}
use Rattle.trs_defs.proofs.Runs.{one, then}
use Rattle.trs_defs.proofs.Members.{no_in, in_left, in_right, in_either, get_of_in, in_of_get}
use Rattle.trs_defs.proofs.ListItems.{last_item}
use Rattle.dp_core.specs.Flags.{unset}
use Rattle.dp_core.proofs.Flags.{unset_set, set_kept}
use Rattle.dp_graph.specs.Rows.{Follows, StayWithin}
use Rattle.dp_graph.specs.Leaders.{AreMutual}
use Rattle.dp_graph.specs.Finishing.{IsMutualBehind, IsMutualBefore, IsFinishingOrder, IsWalk, Enters, untried, effort}
use Rattle.dp_graph.proofs.ListPlaces.{set_at, not_both, unset_there, length_set, set_here, set_elsewhere, set_cases, last_or_there, still_there, get_left, length_more, in_single, in_repeat, length_repeat}

pub walk_starts : (rows : List (List ℕ)) (entered : List Bool) (next way finished : List ℕ) (n : ℕ) → n ≡ length rows → entered ≡ replicate n false → next ≡ replicate n 0 → way ≡ [] → finished ≡ []
    → IsWalk rows entered next way finished
walk_starts rows entered next way finished n size is begin none empty = record {
  count = ap length is ∙ (length_repeat n false ∙ size);
  nexts = ap length begin ∙ (length_repeat n 0 ∙ size);
  seen = λ i set. absurd (unset_all i set);
  met = λ i h. elim h [ inl i_in ↦ absurd (no_in (subst (In i) empty i_in)) | inr i_in ↦ absurd (no_in (subst (In i) none i_in)) ];
  followed = λ i j i_in. absurd (no_in (subst (In i) empty i_in));
  tried = λ i m k j row e lt. absurd (let h : k ≡ 0 = in_repeat n i 0 k (subst (λ z. slice_get z i ≡ Some k) begin e) in omega (arith, h, lt));
  leads = λ k m u v lt e. absurd (no_in (subst (In u) none (in_of_get way k u e)));
  back = λ k v u e. absurd (no_in (subst (In v) none (in_of_get way k v e)));
  order = λ k x u e. absurd (no_in (subst (In x) empty (in_of_get finished k x e)));
}
  where
    unset_all : (i : ℕ) → slice_get entered i ≡ Some true → ⊥
    unset_all i set = let h : true ≡ false = in_repeat n i false true (subst (λ z. slice_get z i ≡ Some true) is set) in absurd cc

pub enters_kept : (old new : List Bool) (before after : List ℕ) (j : ℕ) → Enters old new before after j → (k : ℕ) → slice_get old k ≡ Some true → slice_get new k ≡ Some true
enters_kept old new before after j (inl (free, set, grown)) k e = subst (λ z. slice_get z k ≡ Some true) (sym set) (set_kept old j k e)
enters_kept old new before after j (inr (not_free, same, still)) k e = subst (λ z. slice_get z k ≡ Some true) (sym same) e

pub enters_there : (old new : List Bool) (before after : List ℕ) (j : ℕ) → Enters old new before after j → j < length old → slice_get new j ≡ Some true
enters_there old new before after j (inl (free, set, grown)) lt = subst (λ z. slice_get z j ≡ Some true) (sym set) (set_here old j true lt)
enters_there old new before after j (inr (not_free, same, still)) lt = subst (λ z. slice_get z j ≡ Some true) (sym same) (go (set_at old j))
  where
    go : Dec (slice_get old j ≡ Some true) → slice_get old j ≡ Some true
    go (yes h) = h
    go (no h) = absurd (not_free (unset_there old j lt h))

module _ (rows : List (List ℕ)) where
  behind_more : (places : List ℕ) (x k u : ℕ) → IsMutualBehind rows places k u → IsMutualBehind rows (places ++ x ∷ []) k u
  behind_more places x k u (m, w, lt, e, both) = (m, w, lt, still_there places (x ∷ []) m w e, both)

  before_more : (places : List ℕ) (x k u : ℕ) → IsMutualBefore rows places k u → IsMutualBefore rows (places ++ x ∷ []) k u
  before_more places x k u (m, w, lt, e, both) = (m, w, lt, still_there places (x ∷ []) m w e, both)

  before_later : (places : List ℕ) (k l u : ℕ) → k ≤ l → IsMutualBefore rows places k u → IsMutualBefore rows places l u
  before_later places k l u le (m, w, lt, e, both) = (m, w, omega (arith, le, lt), e, both)

  before_less : (places : List ℕ) (x k u : ℕ) → k ≤ length places → IsMutualBefore rows (places ++ x ∷ []) k u → IsMutualBefore rows places k u
  before_less places x k u le (m, w, lt, e, both) = (m, w, lt, get_left places (x ∷ []) m w (omega (arith, le, lt)) e, both)

  module _ (entered : List Bool) (next way finished : List ℕ) (is : IsWalk rows entered next way finished) where
    -- from a finished place a path to one that was not entered goes through the way
    leaves : {u j : ℕ} → Run (Follows rows) u j → In u finished → slice_get entered j ≡ Some false → (z : ℕ) × In z way × Run (Follows rows) u z
    leaves {u} Stay i free = absurd (not_both entered u (is.met u (inl i)) free)
    leaves (Go {s = s} {m = m} step run) i free = elim (is.seen m (is.followed s m i step)) [
      | inl m_in ↦ let (z, z_in, r) = leaves run m_in free in (z, z_in, Go step r)
      | inr m_in ↦ (m, m_in, one step)
    ]

    -- a finished place that leads to one not entered is connected with one on the way
    back_new : (j u : ℕ) → slice_get entered j ≡ Some false → In u finished → Run (Follows rows) u j → IsMutualBefore rows way (length way) u
    back_new j u free i run =
        let (z, z_in, r) = leaves run i free in
        let at = get_of_in z_in in
        let lt = slice_get_within way at.0 z at.1 in
        elim (is.back at.0 z u at.1 i r) [
          | inl back_to ↦ (at.0, z, lt, at.1, (r, back_to))
          | inr h ↦ before_later way at.0 (length way) u (omega (arith, lt)) h
        ]

    module _ (j : ℕ) (free : slice_get entered j ≡ Some false) (leads_to : (k v : ℕ) → slice_get way k ≡ Some v → Run (Follows rows) v j) where
      small : j < length entered
      small = slice_get_within entered j false free

      order_new : (k x u : ℕ) → slice_get finished k ≡ Some x → Run (Follows rows) u x → Dec (u ≡ j)
          → Run (Follows rows) x u ⊎ (IsMutualBehind rows finished k u ⊎ (IsMutualBefore rows (way ++ j ∷ []) (length (way ++ j ∷ [])) u ⊎ (slice_get (slice_set entered j true) u ≡ Some true → ⊥)))
      order_new k x u e run d = elim (is.order k x u e run) [
        | inl h ↦ inl h
        | inr h ↦ inr (elim h [
          | inl g ↦ inl g
          | inr g ↦ inr (elim g [
            | inl f ↦ inl (before_later (way ++ j ∷ []) (length way) (length (way ++ j ∷ [])) u (let l = length_more way j in omega (arith, l)) (before_more way j (length way) u f))
            | inr f ↦ on_way d f
          ])
        ])
      ]
        where
          on_way : Dec (u ≡ j) → (slice_get entered u ≡ Some true → ⊥)
              → IsMutualBefore rows (way ++ j ∷ []) (length (way ++ j ∷ [])) u ⊎ (slice_get (slice_set entered j true) u ≡ Some true → ⊥)
          on_way (yes same) f = inl (length way, j, (let l = length_more way j in omega (arith, l)), last_item way j [], subst (λ z. AreMutual rows z j) (sym same) (Stay, Stay))
          on_way (no other) f = inr (λ set. f (sym (set_elsewhere entered j u true other) ∙ set))

      pub enter_place : IsWalk rows (slice_set entered j true) next (way ++ j ∷ []) finished
      enter_place = record {
        count = length_set entered j true ∙ is.count;
        nexts = is.nexts;
        seen = λ i set. elim (set_cases entered j i true true set) [
          | inl h ↦ inr (subst (λ z. In z (way ++ j ∷ [])) (sym h.0) (in_right way in_first))
          | inr h ↦ elim (is.seen i h.1) [ inl g ↦ inl g | inr g ↦ inr (in_left (j ∷ []) g) ]
        ];
        met = λ i h. elim h [
          | inl g ↦ set_kept entered j i (is.met i (inl g))
          | inr g ↦ elim (in_either way (j ∷ []) g) [
            | inl f ↦ set_kept entered j i (is.met i (inr f))
            | inr f ↦ subst (λ z. slice_get (slice_set entered j true) z ≡ Some true) (sym (in_single f)) (set_here entered j true small)
          ]
        ];
        followed = λ i k i_in step. set_kept entered j k (is.followed i k i_in step);
        tried = λ i m n k row e lt d at. set_kept entered j k (is.tried i m n k row e lt d at);
        leads = λ k m u v lt e d. elim (last_or_there way j v m d) [
          | inl h ↦ is.leads k m u v lt (get_left way (j ∷ []) k u (let w = slice_get_within way m v h in omega (arith, lt, w)) e) h
          | inr h ↦ subst (Run (Follows rows) u) h.1 (leads_to k u (get_left way (j ∷ []) k u (let w = h.0 in omega (arith, lt, w)) e))
        ];
        back = λ k v u e i run. elim (last_or_there way j v k e) [
          | inl h ↦ elim (is.back k v u h i run) [ inl g ↦ inl g | inr g ↦ inr (before_more way j k u g) ]
          | inr h ↦ inr (subst (λ z. IsMutualBefore rows (way ++ j ∷ []) z u) (sym h.0)
              (before_more way j (length way) u (back_new j u free i (subst (Run (Follows rows) u) (sym h.1) run))))
        ];
        order = λ k x u e run. order_new k x u e run (ℕ_discrete u j);
      }

    -- one place more of a row was tried
    pub try_place : (i n j : ℕ) (row : List ℕ) → slice_get next i ≡ Some n → slice_get rows i ≡ Some row → slice_get row n ≡ Some j → slice_get entered j ≡ Some true
        → IsWalk rows entered (slice_set next i (n + 1)) way finished
    try_place i n j row at row_is j_at set = record {
      count = is.count;
      nexts = length_set next i (n + 1) ∙ is.nexts;
      seen = is.seen;
      met = is.met;
      followed = is.followed;
      tried = λ a m b k other e lt d k_at. elim (set_cases next i a (n + 1) b e) [
        | inl h ↦
            let row_same : other ≡ row = same_Some other row (sym d ∙ (ap (slice_get rows) h.0 ∙ row_is)) in
            let below : m < n + 1 = (let g = h.1 in omega (arith, lt, g)) in
            elim (dec_lt m n) [
              | yes s ↦ is.tried i m n k row at s row_is (subst (λ z. slice_get z m ≡ Some k) row_same k_at)
              | no s ↦
                  let same : m ≡ n = omega (arith, s, below) in
                  let k_is : k ≡ j = same_Some k j (sym (subst (λ z. slice_get z m ≡ Some k) row_same k_at) ∙ (ap (slice_get row) same ∙ j_at)) in
                  subst (λ z. slice_get entered z ≡ Some true) (sym k_is) set
            ]
        | inr h ↦ is.tried a m b k other h.1 lt d k_at
      ];
      leads = is.leads;
      back = is.back;
      order = is.order;
    }

  module _ (entered : List Bool) (next way finished : List ℕ) (x n : ℕ) (row : List ℕ) (is : IsWalk rows entered next (way ++ x ∷ []) finished) (at : slice_get next x ≡ Some n)
      (row_is : slice_get rows x ≡ Some row) (all : length row ≤ n) where
    order_old : (k y u : ℕ) → slice_get finished k ≡ Some y → Run (Follows rows) u y
        → Run (Follows rows) y u ⊎ (IsMutualBehind rows (finished ++ x ∷ []) k u ⊎ (IsMutualBefore rows way (length way) u ⊎ (slice_get entered u ≡ Some true → ⊥)))
    order_old k y u e run = elim (is.order k y u e run) [
      | inl h ↦ inl h
      | inr h ↦ inr (elim h [
        | inl g ↦ inl (behind_more finished x k u g)
        | inr g ↦ elim g [
          | inl (m, w, lt, d, both) ↦ elim (last_or_there way x w m d) [
            | inl f ↦ inr (inl (m, w, slice_get_within way m w f, f, both))
            | inr f ↦ inl (length finished, x, slice_get_within finished k y e, last_item finished x [], subst (AreMutual rows u) (sym f.1) both)
          ]
          | inr f ↦ inr (inr f)
        ]
      ])
    ]

    order_last : (u : ℕ) → Run (Follows rows) u x
        → Run (Follows rows) x u ⊎ (IsMutualBehind rows (finished ++ x ∷ []) (length finished) u ⊎ (IsMutualBefore rows way (length way) u ⊎ (slice_get entered u ≡ Some true → ⊥)))
    order_last u run = elim (set_at entered u) [
      | no free ↦ inr (inr (inr free))
      | yes set ↦ elim (is.seen u set) [
        | inl i ↦ elim (is.back (length way) x u (last_item way x []) i run) [
          | inl h ↦ inl h
          | inr h ↦ inr (inr (inl (before_less way x (length way) u (omega arith) h)))
        ]
        | inr i ↦ elim (in_either way (x ∷ []) i) [
          | inl h ↦ let k = get_of_in h in inr (inr (inl (k.0, u, slice_get_within way k.0 u k.1, k.1, (Stay, Stay))))
          | inr h ↦ inl (subst (Run (Follows rows) x) (sym (in_single h)) Stay)
        ]
      ]
    ]

    pub finish_place : IsWalk rows entered next way (finished ++ x ∷ [])
    finish_place = record {
      count = is.count;
      nexts = is.nexts;
      seen = λ i set. elim (is.seen i set) [
        | inl h ↦ inl (in_left (x ∷ []) h)
        | inr h ↦ elim (in_either way (x ∷ []) h) [ inl g ↦ inr g | inr g ↦ inl (in_right finished g) ]
      ];
      met = λ i h. elim h [
        | inl g ↦ elim (in_either finished (x ∷ []) g) [ inl f ↦ is.met i (inl f) | inr f ↦ is.met i (inr (in_right way f)) ]
        | inr g ↦ is.met i (inr (in_left (x ∷ []) g))
      ];
      followed = λ i j i_in step. elim (in_either finished (x ∷ []) i_in) [
        | inl h ↦ is.followed i j h step
        | inr h ↦
            let (other, d, j_in) = step in
            let same : other ≡ row = same_Some other row (sym d ∙ (ap (slice_get rows) (in_single h) ∙ row_is)) in
            let k = get_of_in (subst (In j) same j_in) in
            is.tried x k.0 n j row at (let w = slice_get_within row k.0 j k.1 in omega (arith, w, all)) row_is k.1
      ];
      tried = is.tried;
      leads = λ k m u v lt e d. is.leads k m u v lt (still_there way (x ∷ []) k u e) (still_there way (x ∷ []) m v d);
      back = λ k v u e i run.
          let low = slice_get_within way k v e in
          elim (in_either finished (x ∷ []) i) [
            | inl h ↦ elim (is.back k v u (still_there way (x ∷ []) k v e) h run) [
              | inl g ↦ inl g
              | inr g ↦ inr (before_less way x k u (omega (arith, low)) g)
            ]
            | inr h ↦ inl (subst (Run (Follows rows) v) (sym (in_single h)) (is.leads k (length way) v x low (still_there way (x ∷ []) k v e) (last_item way x [])))
          ];
      order = λ k y u e run. elim (last_or_there finished x y k e) [
        | inl h ↦ order_old k y u h run
        | inr h ↦ finish_order k y u h.0 h.1 run
      ];
    }
      where
        finish_order : (k y u : ℕ) → k ≡ length finished → x ≡ y → Run (Follows rows) u y
            → Run (Follows rows) y u ⊎ (IsMutualBehind rows (finished ++ x ∷ []) k u ⊎ (IsMutualBefore rows way (length way) u ⊎ (slice_get entered u ≡ Some true → ⊥)))
        finish_order k y u place same run =
            let P : ℕ → Type 0 = λ z. Run (Follows rows) z u
            ⊎ (IsMutualBehind rows (finished ++ x ∷ []) k u ⊎ (IsMutualBefore rows way (length way) u ⊎ (slice_get entered u ≡ Some true → ⊥))) in
            subst P same
            (subst (λ z. Run (Follows rows) x u ⊎ (IsMutualBehind rows (finished ++ x ∷ []) z u ⊎ (IsMutualBefore rows way (length way) u ⊎ (slice_get entered u ≡ Some true → ⊥)))) (sym place)
            (order_last u (subst (Run (Follows rows) u) (sym same) run)))

  -- a place is entered, or nothing changes
  pub enters_walk : (old new : List Bool) (next before after finished : List ℕ) (j : ℕ) → Enters old new before after j → ((k v : ℕ) → slice_get before k ≡ Some v → Run (Follows rows) v j)
      → IsWalk rows old next before finished → IsWalk rows new next after finished
  enters_walk old new next before after finished j (inl (free, set, grown)) leads_to is =
      subst (λ z. IsWalk rows z next after finished) (sym set)
      (subst (λ z. IsWalk rows (slice_set old j true) next z finished) (sym grown) (enter_place old next before finished is j free leads_to))
  enters_walk old new next before after finished j (inr (not_free, same, still)) leads_to is =
      subst (λ z. IsWalk rows z next after finished) (sym same) (subst (λ z. IsWalk rows old next z finished) (sym still) is)

  pub enter_first : (old new : List Bool) (next next_new before after finished finished_new : List ℕ) (j : ℕ) → before ≡ [] → Enters old new before after j → next_new ≡ next → finished_new ≡ finished
      → IsWalk rows old next before finished → IsWalk rows new next_new after finished_new
  enter_first old new next next_new before after finished finished_new j none enters same_next same is =
      subst (λ z. IsWalk rows new z after finished_new) (sym same_next)
      (subst (λ z. IsWalk rows new next after z) (sym same)
      (enters_walk old new next before after finished j enters (λ k v e. absurd (no_in (subst (In v) none (in_of_get before k v e)))) is))

  pub last_within : (entered : List Bool) (next way finished : List ℕ) (x : ℕ) → IsWalk rows entered next (way ++ x ∷ []) finished → x < length rows
  last_within entered next way finished x is = let w = slice_get_within entered x true (is.met x (inr (in_right way in_first))) in let c = is.count in omega (arith, w, c)

  -- the last place of the way tries one more of its row
  pub follow_walk : StayWithin rows → (old new : List Bool) (next next_new way after finished finished_new : List ℕ) (x n j : ℕ) (row : List ℕ) → IsWalk rows old next (way ++ x ∷ []) finished
      → Enters old new (way ++ x ∷ []) after j → next_new ≡ slice_set next x (n + 1) → finished_new ≡ finished → slice_get next x ≡ Some n → slice_get rows x ≡ Some row → slice_get row n ≡ Some j
      → IsWalk rows new next_new after finished_new
  follow_walk stay old new next next_new way after finished finished_new x n j row is enters next_is same at row_is j_at =
      let step : Follows rows x j = (row, row_is, in_of_get row n j j_at) in
      let small : j < length old = (let w = stay x j step in let c = is.count in omega (arith, w, c)) in
      subst (λ z. IsWalk rows new z after finished_new) (sym next_is)
      (subst (λ z. IsWalk rows new (slice_set next x (n + 1)) after z) (sym same)
      (try_place new next after finished (enters_walk old new next (way ++ x ∷ []) after finished j enters (leads_to step) is) x n j row at row_is j_at
      (enters_there old new (way ++ x ∷ []) after j enters small)))
    where
      leads_to : Follows rows x j → (k v : ℕ) → slice_get (way ++ x ∷ []) k ≡ Some v → Run (Follows rows) v j
      leads_to step k v e = elim (last_or_there way x v k e) [
        | inl h ↦ then (is.leads k (length way) v x (slice_get_within way k v h) e (last_item way x [])) (one step)
        | inr h ↦ subst (λ z. Run (Follows rows) z j) h.1 (one step)
      ]

  pub all_finished : (entered : List Bool) (next way finished : List ℕ) → way ≡ [] → ((i : ℕ) → i < length rows → slice_get entered i ≡ Some true) → IsWalk rows entered next way finished
      → IsFinishingOrder rows finished
  all_finished entered next way finished none all is = record {
    all = λ i lt. elim (is.seen i (all i lt)) [ inl h ↦ h | inr h ↦ absurd (no_in (subst (In i) none h)) ];
    places = places;
    before = λ k x u e run. elim (is.order k x u e run) [
      | inl h ↦ inl h
      | inr h ↦ elim h [
        | inl g ↦ inr g
        | inr g ↦ elim g [
          | inl (m, w, lt, d, both) ↦ absurd (no_in (subst (In w) none (in_of_get way m w d)))
          | inr f ↦ absurd (f (all u (begins_within run (places x (in_of_get finished k x e)))))
        ]
      ]
    ];
  }
    where
      places : (i : ℕ) → In i finished → i < length rows
      places i h = let w = slice_get_within entered i true (is.met i (inl h)) in let c = is.count in omega (arith, w, c)

      begins_within : {u x : ℕ} → Run (Follows rows) u x → x < length rows → u < length rows
      begins_within Stay lt = lt
      begins_within (Go {s = s} step run) lt = slice_get_within rows s step.0 step.1

-- ---- the steps that are left

untried_less : (rows : List (List ℕ)) (next : List ℕ) (i n : ℕ) (row : List ℕ) → slice_get next i ≡ Some n → slice_get rows i ≡ Some row → n < length row
    → untried rows (slice_set next i (n + 1)) + 1 ≡ untried rows next
untried_less [] next i n row e d lt = absurd cc
untried_less (r ∷ rows) [] i n row e d lt = absurd cc
untried_less (r ∷ rows) (m ∷ next) zero n row e d lt =
    let a : m ≡ n = same_Some m n e in
    let b : r ≡ row = same_Some r row d in
    let l : length r ≡ length row = ap length b in
    omega (arith, a, l, lt)
untried_less (r ∷ rows) (m ∷ next) (suc i) n row e d lt = let h = untried_less rows next i n row e d lt in omega (arith, h)

pub enters_effort : (old new : List Bool) (before after : List ℕ) (j : ℕ) → Enters old new before after j → unset new * 2 + length after ≤ unset old * 2 + length before
enters_effort old new before after j (inl (free, set, grown)) =
    let a = unset_set old j free in
    let b = ap unset set in
    let c = ap length grown in
    let d = length_more before j in
    omega (arith, a, b, c, d)
enters_effort old new before after j (inr (not_free, same, still)) = let b = ap unset same in let c = ap length still in omega (arith, b, c)

pub follow_effort : (rows : List (List ℕ)) (old new : List Bool) (next next_new way before after : List ℕ) (i n j : ℕ) (row : List ℕ) → Enters old new before after j → before ≡ way ++ i ∷ [] → slice_get next i ≡ Some n
    → slice_get rows i ≡ Some row → n < length row → next_new ≡ slice_set next i (n + 1) → effort rows new next_new after ≤ effort rows old next way
follow_effort rows old new next next_new way before after i n j row enters whole e d lt next_is =
    let f = ap (untried rows) next_is in
    let a = enters_effort old new before after j enters in
    let b = untried_less rows next i n row e d lt in
    let c = ap length whole in
    let l = length_more way i in
    omega (arith, a, b, c, l, f)
