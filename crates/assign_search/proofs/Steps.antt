use Rattle.std.proofs.Common.{◌≡◌, ℕ, suc, ◌+◌, ◌-◌, ◌<◌, ◌≤◌, Bool, true, false, List, [], ◌∷◌, ◌++◌, length, take, get_or, refl, sym, ◌∙◌, ap, subst, arith, ◌⊎◌, inl, inr}
use Rattle.std.proofs.lemmas.List.{get_or_append_left, take-append-le}
use Rattle.std.proofs.Math.Seq.{get_or-append_seam, take-append_seam}
use Rattle.assign_search.specs.Rest.{IsStanding, IsAt, rest_of, todo}
use Rattle.assign_search.specs.Puzzle.{Puzzle, IsLawful, is_refuted, prefixes, solution_of, count_of, first_in, count_in}
use Rattle.assign_search.specs.Rest.{IsGroup, AreAllGroups}
use Rattle.assign_search.proofs.Groups.{group_of}
use Rattle.std.proofs.Common.{◌≢◌, map}
use Rattle.assign_search.specs.Turns.{IsTurn, Passes}
use Rattle.assign_search.specs.declared.visiting.Turn.{Turn}
use Rattle.assign_search.specs.declared.visiting.Turn.TheVariants.{Next, Solved, Exhausted, Spent}
use Rattle.assign_search.proofs.Refuting.{lt_suc, minimal_refuted, solution_true, solution_short}
use Rattle.assign_search.proofs.Lists.{count_plain, first_not, first_is, count_solution, count_none, extensions_refuted, step_length}
use Rattle.assign_search.proofs.Rests.{todo_full, todo_dead, todo_push, todo_start, rest_shorter, pop_next, pop_last, rest_start}
use Rattle.std.specs.Prelude.{Result, Ok, Err, IfOk}

pub record IsPast (z : Puzzle) (n : ℕ) (p : List ℕ) : Type 0 where
  pub standing : IsStanding z p
  pub count : count_of z ≡ n + count_in z (rest_of z p)
  pub first : solution_of z ≡ first_in z (rest_of z p)

pub record Pops (z : Puzzle) (q : List ℕ) (v : ℕ) : Type 0 where
  pub standing : IsStanding z q
  pub clear : is_refuted z q ≡ false
  pub below : v < z.domain (length q)
  pub room : length q < z.slots

pub standing_pop : (z : Puzzle) (q : List ℕ) (v : ℕ) → IsStanding z (q ++ (v ∷ [])) → Pops z q v
standing_pop z q v st =
    let long = step_length q v in
    record {
      standing = record {
        in_domain = λ s l. subst (λ (n : ℕ). n < z.domain s) (get_or_append_left q (v ∷ []) 0 s l) (st.in_domain s (omega (arith, long, l)));
        clear = λ k l. ap (λ (xs : List ℕ). is_refuted z xs) (sym (take-append-le k q (v ∷ []) (omega (arith, l)))) ∙ st.clear k (omega (arith, long, l));
        short = omega (arith, long, st.short);
      };
      clear = ap (λ (xs : List ℕ). is_refuted z xs) (sym (take-append_seam q (v ∷ []))) ∙ st.clear (length q) (omega (arith, long));
      below = subst (λ (n : ℕ). n < z.domain (length q)) (get_or-append_seam q v [] 0) (st.in_domain (length q) (omega (arith, long)));
      room = omega (arith, long, st.short);
    }

pub standing_push : (z : Puzzle) (q : List ℕ) (w : ℕ) → IsStanding z q → is_refuted z q ≡ false → w < z.domain (length q) → length q < z.slots → IsStanding z (q ++ (w ∷ []))
standing_push z q w st clear below room =
    let long = step_length q w in
    record {
      in_domain = λ s l. elim (lt_suc s (length q) (omega (arith, long, l))) [
        | inl same ↦ subst (λ (i : ℕ). get_or (q ++ (w ∷ [])) i 0 < z.domain i) (sym same)
            (subst (λ (n : ℕ). n < z.domain (length q)) (sym (get_or-append_seam q w [] 0)) below)
        | inr less ↦ subst (λ (n : ℕ). n < z.domain s) (sym (get_or_append_left q (w ∷ []) 0 s less)) (st.in_domain s less)
      ];
      clear = λ k l. elim (lt_suc k (length q) (omega (arith, long, l))) [
        | inl same ↦ subst (λ (i : ℕ). is_refuted z (take i (q ++ (w ∷ []))) ≡ false) (sym same)
            (ap (λ (xs : List ℕ). is_refuted z xs) (take-append_seam q (w ∷ [])) ∙ clear)
        | inr less ↦ ap (λ (xs : List ℕ). is_refuted z xs) (take-append-le k q (w ∷ []) (omega (arith, less))) ∙ st.clear k less
      ];
      short = omega (arith, long, room);
    }

pub standing_start : (z : Puzzle) → IsStanding z []
standing_start z = record { in_domain = λ s l. absurd (omega arith); clear = λ k l. absurd (omega arith); short = omega arith }

pub at_start : (z : Puzzle) → IsAt z 0 []
at_start z = record {
  standing = standing_start z;
  count = (let e : count_in z (prefixes z) ≡ 0 + count_in z (prefixes z) = omega arith in e) ∙ ap (λ (xs : List (List ℕ)). 0 + count_in z xs) (sym (todo_start z));
  first = ap (λ (xs : List (List ℕ)). first_in z xs) (sym (todo_start z));
}

pub past_refuted : (z : Puzzle) → IsLawful z → (n : ℕ) (p : List ℕ) → IsAt z n p → is_refuted z p ≡ true → IsPast z (n + 1) p
unfolding todo
past_refuted z laws n p here r =
    let one = extensions_refuted z laws (z.slots - length p) p (rest_of z p) here.standing.in_domain here.standing.clear r in
    let a = here.count in
    let b = one.count in
    record {
      standing = here.standing;
      count = omega (arith, a, b);
      first = here.first ∙ one.first;
    }

at_head : (z : Puzzle) (n : ℕ) (p : List ℕ) (ys : List (List ℕ)) → IsAt z n p → is_refuted z p ≡ false → length p < z.slots → todo z p ≡ p ∷ ys
    → (count_of z ≡ n + count_in z ys) × (solution_of z ≡ first_in z ys)
at_head z n p ys here r l e =
    let s = solution_short z p l in (
      here.count ∙ ap (λ (xs : List (List ℕ)). n + count_in z xs) e ∙ ap (λ (k : ℕ). n + k) (count_plain z p ys s (minimal_refuted z p r)),
      here.first ∙ ap (λ (xs : List (List ℕ)). first_in z xs) e ∙ first_not z p ys s,
    )

pub past_dead : (z : Puzzle) (n : ℕ) (p : List ℕ) → IsAt z n p → is_refuted z p ≡ false → length p < z.slots → z.domain (length p) ≡ 0 → IsPast z n p
past_dead z n p here r l d =
    let both = at_head z n p (rest_of z p) here r l (todo_dead z p d l) in
    record { standing = here.standing; count = both.0; first = both.1 }

pub push_turn : (z : Puzzle) (budget n : ℕ) (p : List ℕ) → n < budget → IsAt z n p → is_refuted z p ≡ false → length p < z.slots → 0 < z.domain (length p)
    → IsTurn z budget p n (p ++ (0 ∷ [])) Next
push_turn z budget n p less here r l d =
    let e = todo_push z p d l in
    let both = at_head z n p (todo z (p ++ (0 ∷ []))) here r l e in
    let longer : length (todo z p) ≡ suc (length (todo z (p ++ (0 ∷ [])))) = ap (λ (xs : List (List ℕ)). length xs) e in
    (record { standing = standing_push z p 0 here.standing r d l; count = both.0; first = both.1 }, less, omega (arith, longer))

pub solved_turn : (z : Puzzle) → IsLawful z → (budget n : ℕ) (p : List ℕ) → n < budget → IsAt z n p → is_refuted z p ≡ false → length p ≡ z.slots
    → IsTurn z budget p n p Solved
solved_turn z laws budget n p less here r full =
    let e = todo_full z p (omega (arith, full)) in
    let s = solution_true z laws p full r in
    let a = here.count ∙ ap (λ (xs : List (List ℕ)). n + count_in z xs) e ∙ ap (λ (k : ℕ). n + k) (count_solution z p (rest_of z p) s) in
    (here.first ∙ ap (λ (xs : List (List ℕ)). first_in z xs) e ∙ first_is z p (rest_of z p) s, omega (arith, a, less))

pub past_turn : (z : Puzzle) (budget n : ℕ) (p q : List ℕ) (t : Turn) → n < budget → IsPast z n p → Passes z p q t → IsTurn z budget p n q t
past_turn z budget n p q Next less past h =
    let (st, e) = h in
    let long : length (rest_of z p) ≡ length (todo z q) = ap (λ (xs : List (List ℕ)). length xs) e in (
      record { standing = st; count = past.count ∙ ap (λ (xs : List (List ℕ)). n + count_in z xs) e; first = past.first ∙ ap (λ (xs : List (List ℕ)). first_in z xs) e },
      less,
      omega (arith, long, rest_shorter z p),
    )
past_turn z budget n p q Solved less past h = absurd h
past_turn z budget n p q Exhausted less past h =
    let a = past.count ∙ ap (λ (xs : List (List ℕ)). n + count_in z xs) h ∙ ap (λ (k : ℕ). n + k) (count_none z) in
    (past.first ∙ ap (λ (xs : List (List ℕ)). first_in z xs) h, omega (arith, a, less))
past_turn z budget n p q Spent less past h = absurd h

pub spent_turn : (z : Puzzle) (budget n : ℕ) (p q : List ℕ) → budget ≤ n → IsPast z n p → budget ≤ count_of z
spent_turn z budget n p q more past = let a = past.count in omega (arith, a, more)

pub popped_below : (z : Puzzle) (items q : List ℕ) (v : ℕ) → IsStanding z items → items ≡ q ++ (v ∷ []) → Pops z q v
popped_below z items q v st e = standing_pop z q v (subst (λ (xs : List ℕ). IsStanding z xs) e st)

pub advance_next : (z : Puzzle) (old items q new : List ℕ) (v n d : ℕ) → IsStanding z items → rest_of z old ≡ rest_of z items
    → items ≡ q ++ (v ∷ []) → new ≡ q ++ ((v + 1) ∷ []) → n ≡ length q → d ≡ z.domain n → v + 1 < d
    → IsStanding z new × (rest_of z old ≡ todo z new)
advance_next z old items q new v n d st rest e en el ed l =
    let pops = popped_below z items q v st e in
    let size : d ≡ z.domain (length q) = ed ∙ ap z.domain el in
    let below : v + 1 < z.domain (length q) = omega (arith, size, l) in
    let below2 : suc v < z.domain (length q) = omega (arith, below) in
    let one : v + 1 ≡ suc v = omega arith in
    let room = pops.room in (
      subst (λ (xs : List ℕ). IsStanding z xs) (sym en) (standing_push z q (v + 1) pops.standing pops.clear below room),
      rest ∙ ap (λ (xs : List ℕ). rest_of z xs) e ∙ pop_next z q v room below2
          ∙ ap (λ (w : ℕ). todo z (q ++ (w ∷ []))) (sym one) ∙ ap (λ (xs : List ℕ). todo z xs) (sym en),
    )

pub advance_over : (z : Puzzle) (old items q : List ℕ) (v n d : ℕ) → IsStanding z items → rest_of z old ≡ rest_of z items
    → items ≡ q ++ (v ∷ []) → n ≡ length q → d ≡ z.domain n → d ≤ v + 1
    → IsStanding z q × (rest_of z old ≡ rest_of z q)
advance_over z old items q v n d st rest e el ed l =
    let pops = popped_below z items q v st e in
    let size : d ≡ z.domain (length q) = ed ∙ ap z.domain el in
    let above : z.domain (length q) ≤ suc v = omega (arith, size, l) in
    (pops.standing, rest ∙ ap (λ (xs : List ℕ). rest_of z xs) e ∙ pop_last z q v pops.room above)

empty_list : (xs : List ℕ) → length xs ≡ 0 → xs ≡ []
empty_list [] h = refl
empty_list (x ∷ xs) h = absurd (omega arith)

pub advance_end : (z : Puzzle) (old items : List ℕ) → rest_of z old ≡ rest_of z items → length items ≡ 0 → rest_of z old ≡ []
advance_end z old items rest h = rest ∙ ap (λ (xs : List ℕ). rest_of z xs) (empty_list items h) ∙ rest_start z

pub past_turn_ok : {E : Type 0} (z : Puzzle) (budget n : ℕ) (p q : List ℕ) (r : Result Turn E) → n < budget → IsPast z n p
    → IfOk r (λ t. Passes z p q t) → IfOk r (λ t. IsTurn z budget p n q t)
past_turn_ok z budget n p q (Ok t) less past h = past_turn z budget n p q t less past h
past_turn_ok z budget n p q (Err e) less past h = h

-- the steps of `visit`, with what the calls told
pub visit_group : {A : Type 0} (f : A → List ℕ) (z : Puzzle) (n : ℕ) (p values group : List ℕ) (gs : List A) (a : A) (d : ℕ)
    → IsAt z n p → AreAllGroups z (map f gs) → d ≡ length p → a ≡ get_or gs d a → group ≡ f a → values ≡ p
    → IsGroup z (length values) group
visit_group f z n p values group gs a d here groups ed ea eg ev =
    let short = here.standing.short in
    let at : IsGroup z d (f a) = group_of f z d gs a groups (omega (arith, short, ed)) ea in
    subst (λ (xs : List ℕ). IsGroup z (length values) xs) (sym eg)
    (subst (λ (i : ℕ). IsGroup z i (f a)) (ed ∙ ap (λ (xs : List ℕ). length xs) (sym ev)) at)

told : (z : Puzzle) (p values : List ℕ) (r b : Bool) → values ≡ p → r ≡ is_refuted z values → r ≡ b → is_refuted z p ≡ b
told z p values r b ev er eb = ap (λ (xs : List ℕ). is_refuted z xs) (sym ev) ∙ sym er ∙ eb

pub visit_refuted : (z : Puzzle) → IsLawful z → (n : ℕ) (p values : List ℕ) (r : Bool) → IsAt z n p → values ≡ p → r ≡ is_refuted z values → r ≡ true → IsPast z (n + 1) p
visit_refuted z laws n p values r here ev er et = past_refuted z laws n p here (told z p values r true ev er et)

pub visit_solved : (z : Puzzle) → IsLawful z → (budget n : ℕ) (p values : List ℕ) (r : Bool) (d slots : ℕ) → n < budget → IsAt z n p → values ≡ p → r ≡ is_refuted z values → r ≡ false
    → d ≡ length p → slots ≡ z.slots → d ≡ slots → IsTurn z budget p n p Solved
visit_solved z laws budget n p values r d slots less here ev er et ed es e =
    solved_turn z laws budget n p less here (told z p values r false ev er et) (sym ed ∙ e ∙ es)

shorter : (z : Puzzle) (n : ℕ) (p : List ℕ) (d slots : ℕ) → IsAt z n p → d ≡ length p → slots ≡ z.slots → d ≢ slots → length p < z.slots
shorter z n p d slots here ed es ne =
    let short = here.standing.short in
    let parts : (length p ≡ z.slots) ⊎ (length p < z.slots) = grind (arith, short) in
    elim parts [ inl same ↦ absurd (ne (ed ∙ same ∙ sym es)) | inr less ↦ less ]

pub visit_dead : (z : Puzzle) (n : ℕ) (p values : List ℕ) (r : Bool) (d slots size : ℕ) → IsAt z n p → values ≡ p → r ≡ is_refuted z values → r ≡ false
    → d ≡ length p → slots ≡ z.slots → d ≢ slots → size ≡ z.domain d → size ≡ 0 → IsPast z n p
visit_dead z n p values r d slots size here ev er et ed es ne en e =
    past_dead z n p here (told z p values r false ev er et) (shorter z n p d slots here ed es ne) (ap z.domain (sym ed) ∙ sym en ∙ e)

pub visit_push : (z : Puzzle) (budget n : ℕ) (p values new : List ℕ) (r : Bool) (d slots size : ℕ) → n < budget → IsAt z n p → values ≡ p → r ≡ is_refuted z values → r ≡ false
    → d ≡ length p → slots ≡ z.slots → d ≢ slots → size ≡ z.domain d → size ≢ 0 → new ≡ p ++ (0 ∷ []) → IsTurn z budget p n new Next
visit_push z budget n p values new r d slots size less here ev er et ed es ne en e enew =
    let same : size ≡ z.domain (length p) = en ∙ ap z.domain ed in
    let some : 0 < z.domain (length p) = omega (arith, same, e) in
    subst (λ (xs : List ℕ). IsTurn z budget p n xs Next) (sym enew)
    (push_turn z budget n p less here (told z p values r false ev er et) (shorter z n p d slots here ed es ne) some)
