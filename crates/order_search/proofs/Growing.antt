-- Sets of symbols, as they grow.
use Rattle.std.specs.Prelude.{◌≡◌, ◌<◌, ◌≤◌, ◌↔◌, ◌⊎◌, ℕ, ◌+◌, Bool, true, false, List, [], ◌∷◌, ◌++◌, length, get_or, Vec, Result, Ok, Err, IfOk, OnOk, slice_set}
use Rattle.std.specs.declared.alloc.Global.{Global}
use Rattle.std.specs.List.Sorted.{IsStrictlyIncreasing}
use Rattle.std.proofs.Common.{zero, suc, refl, inl, inr, sym, ap, subst, arith, ◌∙◌, length-append, get_or-set_same, get_or-set_other}
use Rattle.std.proofs.lemmas.Bool.{cases_eq, cases_lt}
use Rattle.std.proofs.lemmas.List.{get_or_past, get_or_append_left, get_or_push}
use Rattle.trs_defs.specs.Member.{In, in_first, in_rest}
use Rattle.trs_defs.proofs.Members.{in_or, no_in, in_left, in_right, in_either}
use Rattle.order_search.specs.Ascending.{AreAscending}
use Rattle.order_search.specs.SymbolSets.{Has, Adds, HasOnly, AreMembers}
use Rattle.order_search.proofs.RootSets.{in_at}

-- ---- one symbol more

more_flags : (set : List Bool) (n : ℕ) → get_or (set ++ false ∷ []) n false ≡ get_or set n false
more_flags [] zero = refl
more_flags [] (suc n) = refl
more_flags (b ∷ set) zero = refl
more_flags (b ∷ set) (suc n) = more_flags set n

-- a flag behind the others that is not set
pub no_member_behind : (old new : List Bool) → new ≡ old ++ false ∷ [] → (g : ℕ) → Has new g ↔ Has old g
no_member_behind old new pushed g =
    let same : get_or new g false ≡ get_or old g false = ap (λ z. get_or z g false) pushed ∙ more_flags old g in
    (λ h. sym same ∙ h, λ h. same ∙ h)

pub one_member_more : (old new : List Bool) (f : ℕ) → f < length old → new ≡ slice_set old f true → (g : ℕ) → Has new g ↔ (Has old g ⊎ (g ≡ f))
one_member_more old new f lt is g = elim (cases_eq g f) [
  | inl same ↦ (λ h. inr same, λ h. subst (Has new) (sym same) (ap (λ z. get_or z f false) is ∙ get_or-set_same old f true false lt))
  | inr other ↦
      (let kept : get_or new g false ≡ get_or old g false = ap (λ z. get_or z g false) is ∙ get_or-set_other old f g true false other in
      (λ h. inl (sym kept ∙ h), λ h. elim h [ inl e ↦ kept ∙ e | inr e ↦ absurd (other e) ]))
]

-- ---- the members in order

-- the members below the number are listed
pub record ListedBelow (set : List Bool) (end : ℕ) (members : List ℕ) : Type 0 where
  pub increasing : IsStrictlyIncreasing members
  pub each : (f : ℕ) → In f members ↔ (f < end × Has set f)

pub none_below : (set : List Bool) (members : List ℕ) → members ≡ [] → ListedBelow set 0 members
none_below set members empty = subst (ListedBelow set 0) (sym empty) (record {
  increasing = λ k lt. absurd (omega (arith, lt));
  each = λ f. (λ i. absurd (no_in i), λ h. absurd (let lt = h.0 in omega (arith, lt)));
})

pub no_member_at : (set : List Bool) (k : ℕ) (members : List ℕ) → get_or set k false ≡ false → ListedBelow set k members → ListedBelow set (k + 1) members
no_member_at set k members unset are = record {
  increasing = are.increasing;
  each = λ f. (
    λ i. (let h = (are.each f).0 i in let lt = h.0 in (omega (arith, lt), h.1)),
    λ h. elim (cases_eq f k) [
      | inl same ↦ absurd (let set_too : get_or set k false ≡ true = subst (Has set) same h.1 in let d : false ≡ true = sym unset ∙ set_too in cc)
      | inr other ↦ (are.each f).1 (let lt = h.0 in omega (arith, lt, other), h.1)
    ],
  );
}

increasing_push : (xs : List ℕ) (x : ℕ) → IsStrictlyIncreasing xs → ((m : ℕ) → In m xs → m < x) → IsStrictlyIncreasing (xs ++ x ∷ [])
increasing_push xs x up low k within =
    let count : length (xs ++ x ∷ []) ≡ length xs + 1 = length-append xs (x ∷ []) in
    elim (cases_lt (k + 1) (length xs)) [
      | inl lt ↦ rw (get_or_append_left xs (x ∷ []) 0 k (omega (arith, lt)), get_or_append_left xs (x ∷ []) 0 (k + 1) lt) (up k lt)
      | inr past ↦
          (let here : k < length xs = omega (arith, within, count) in
          let end : length xs ≡ k + 1 = omega (arith, within, count, past) in
          rw (get_or_append_left xs (x ∷ []) 0 k here, get_or_push xs x 0 (k + 1) end) (low (get_or xs k 0) (in_at xs k 0 (get_or xs k 0) here refl)))
    ]

pub one_member_at : (set : List Bool) (k : ℕ) (members new : List ℕ) → get_or set k false ≡ true → new ≡ members ++ k ∷ [] → ListedBelow set k members → ListedBelow set (k + 1) new
one_member_at set k members new there pushed are = subst (ListedBelow set (k + 1)) (sym pushed) (record {
  increasing = increasing_push members k are.increasing (λ m i. ((are.each m).0 i).0);
  each = λ f. (
    λ i. elim (in_either members (k ∷ []) i) [
      | inl before ↦ (let h = (are.each f).0 before in let lt = h.0 in (omega (arith, lt), h.1))
      | inr last ↦ elim (in_or last) [
        | inl same ↦ (omega (arith, same), subst (Has set) (sym same) there)
        | inr none ↦ absurd (no_in none)
      ]
    ],
    λ h. elim (cases_eq f k) [
      | inl same ↦ in_right members (subst (λ (z : ℕ). In f (z ∷ [])) same in_first)
      | inr other ↦ in_left (k ∷ []) ((are.each f).1 (let lt = h.0 in omega (arith, lt, other), h.1))
    ],
  );
})

within_flags : (set : List Bool) (f : ℕ) → Has set f → f < length set
within_flags set f h = elim (cases_lt f (length set)) [
  | inl lt ↦ lt
  | inr past ↦ absurd (let none : get_or set f false ≡ false = get_or_past set f false past in let d : false ≡ true = sym none ∙ h in cc)
]

pub all_listed : (set : List Bool) (k : ℕ) (members : List ℕ) → length set ≤ k → ListedBelow set k members → AreMembers set members
all_listed set k members past are = record {
  increasing = are.increasing;
  each = λ f. (λ i. ((are.each f).0 i).1, λ h. (are.each f).1 (let lt = within_flags set f h in omega (arith, lt, past), h));
}

pub listed_ascend : {E : Type 0} (set : List Bool) (listed : List ℕ) (result : Result (Vec ℕ Global) E) → IfOk result (λ members. AreMembers set members.items) → HasOnly set listed
    → IfOk result (λ members. AreAscending listed members.items)
listed_ascend set listed (Ok v) are only = record {
  increasing = are.increasing;
  each = λ f. (λ i. (only f).0 ((are.each f).0 i), λ i. (are.each f).1 ((only f).1 i));
}
listed_ascend set listed (Err e) are only = are

-- ---- some symbols more

-- of the wanted symbols these are left
abbrev pub LeftOf : List Bool → List Bool → List ℕ → List ℕ → Type 0
LeftOf old set wanted rest =
    (f : ℕ) → (Has old f ⊎ In f wanted) ↔ (Has set f ⊎ In f rest)

pub root_added : (old set : List Bool) (f : ℕ) (rest : List ℕ) → ((g : ℕ) → Has set g ↔ (Has old g ⊎ (g ≡ f)))
    → LeftOf old set (f ∷ rest) rest
root_added old set f rest adds g = (
  λ h. elim h [
    | inl known ↦ inl ((adds g).1 (inl known))
    | inr i ↦ elim (in_or i) [ inl same ↦ inl ((adds g).1 (inr same)) | inr later ↦ inr later ]
  ],
  λ h. elim h [
    | inl known ↦ elim ((adds g).0 known) [ inl before ↦ inl before | inr same ↦ inr (subst (λ (x : ℕ). In g (x ∷ rest)) same in_first) ]
    | inr later ↦ inr (in_rest later)
  ],
)

pub more_added : (old set new : List Bool) (wanted xs rest : List ℕ) → LeftOf old set wanted (xs ++ rest) → Adds set new xs → LeftOf old new wanted rest
more_added old set new wanted xs rest left adds g = (
  λ h. elim ((left g).0 h) [
    | inl known ↦ inl ((adds g).1 (inl known))
    | inr i ↦ elim (in_either xs rest i) [ inl here ↦ inl ((adds g).1 (inr here)) | inr later ↦ inr later ]
  ],
  λ h. elim h [
    | inl known ↦ elim ((adds g).0 known) [ inl before ↦ (left g).1 (inl before) | inr here ↦ (left g).1 (inr (in_left rest here)) ]
    | inr later ↦ (left g).1 (inr (in_right xs later))
  ],
)

pub all_added : (old set : List Bool) (wanted rest : List ℕ) → rest ≡ [] → LeftOf old set wanted rest → Adds old set wanted
all_added old set wanted rest none left g = (
  λ known. (left g).1 (inl known),
  λ h. elim ((left g).0 h) [ inl known ↦ known | inr i ↦ absurd (no_in (subst (λ (l : List ℕ). In g l) none i)) ],
)

pub both_added : (old mid new : List Bool) (xs ys : List ℕ) → Adds old mid xs → Adds mid new ys → Adds old new (xs ++ ys)
both_added old mid new xs ys first second g = (
  λ h. elim ((second g).0 h) [
    | inl known ↦ elim ((first g).0 known) [ inl before ↦ inl before | inr i ↦ inr (in_left ys i) ]
    | inr i ↦ inr (in_right xs i)
  ],
  λ h. elim h [
    | inl before ↦ (second g).1 (inl ((first g).1 (inl before)))
    | inr i ↦ elim (in_either xs ys i) [ inl here ↦ (second g).1 (inl ((first g).1 (inr here))) | inr there ↦ (second g).1 (inr there) ]
  ],
)

pub none_added : (set : List Bool) → Adds set set []
none_added set g = (λ h. inl h, λ h. elim h [ inl known ↦ known | inr i ↦ absurd (no_in i) ])

-- ---- from no members

-- just these of the wanted symbols are not yet in the set
abbrev pub MissesOnly : List Bool → List ℕ → List ℕ → Type 0
MissesOnly set wanted rest = (f : ℕ) → In f wanted ↔ (Has set f ⊎ In f rest)

pub none_yet : (set : List Bool) (wanted : List ℕ) → set ≡ [] → MissesOnly set wanted wanted
none_yet set wanted e f = (
  λ i. inr i,
  λ h. elim h [
    | inl known ↦ absurd (let d : false ≡ true = ap (λ z. get_or z f false) (sym e) ∙ known in cc)
    | inr i ↦ i
  ],
)

pub fewer_missing : (set new : List Bool) (wanted xs rest : List ℕ) → MissesOnly set wanted (xs ++ rest) → Adds set new xs → MissesOnly new wanted rest
fewer_missing set new wanted xs rest left adds g = (
  λ i. elim ((left g).0 i) [
    | inl known ↦ inl ((adds g).1 (inl known))
    | inr j ↦ elim (in_either xs rest j) [ inl here ↦ inl ((adds g).1 (inr here)) | inr later ↦ inr later ]
  ],
  λ h. elim h [
    | inl known ↦ elim ((adds g).0 known) [ inl before ↦ (left g).1 (inl before) | inr here ↦ (left g).1 (inr (in_left rest here)) ]
    | inr later ↦ (left g).1 (inr (in_right xs later))
  ],
)

pub none_missing : (set : List Bool) (wanted rest : List ℕ) → rest ≡ [] → MissesOnly set wanted rest → HasOnly set wanted
none_missing set wanted rest none left g = (
  λ known. (left g).1 (inl known),
  λ i. elim ((left g).0 i) [ inl known ↦ known | inr j ↦ absurd (no_in (subst (λ (l : List ℕ). In g l) none j)) ],
)

pub sides_added : {A E : Type 0} (old mid new : List Bool) (xs ys : List ℕ) (result : Result A E) → Adds old mid xs → OnOk result (Adds mid new ys) → OnOk result (Adds old new (xs ++ ys))
sides_added old mid new xs ys (Ok u) first second = both_added old mid new xs ys first second
sides_added old mid new xs ys (Err e) first second = second

pub only_more : (set new : List Bool) (xs ys : List ℕ) → HasOnly set xs → Adds set new ys → HasOnly new (xs ++ ys)
only_more set new xs ys only adds f = (
  λ known. elim ((adds f).0 known) [ inl before ↦ in_left ys ((only f).0 before) | inr here ↦ in_right xs here ],
  λ i. elim (in_either xs ys i) [ inl before ↦ (adds f).1 (inl ((only f).1 before)) | inr here ↦ (adds f).1 (inr here) ],
)

pub all_left : (set : List Bool) (wanted : List ℕ) → LeftOf set set wanted wanted
all_left set wanted f = (λ h. h, λ h. h)
