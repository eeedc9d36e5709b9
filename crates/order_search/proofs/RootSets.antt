-- The set of the roots of pairs, and its members in order.
use Rattle.std.specs.Prelude.{◌≡◌, ◌<◌, ◌≤◌, ◌↔◌, ◌⊎◌, ℕ, ◌+◌, true, false, cond, List, [], ◌∷◌, length, drop, get_or, IsTrue, Vec, Result, Ok, Err, IfOk}
use Rattle.std.specs.declared.alloc.Global.{Global}
use Rattle.std.proofs.Common.{zero, suc, sym, ap, subst, arith, ◌∙◌, inl, inr, nat_cmp}
use Rattle.std.specs.BTreeMap.{is_at}
use Rattle.std.specs.BTreeSet.{BTreeSet, contains, Updates, IsOrdered}
use Rattle.std.specs.List.{Contains, list_any}
use Rattle.std.specs.Cmp.{nat_cmp_total}
use Rattle.std.proofs.Math.Decide.{ℕ_discrete}
use Rattle.std.proofs.lemmas.List.{drop_all}
use Rattle.std.proofs.lemmas.Map.Keys.{IsStrictlyIncreasing-from_sorted}
use Rattle.std.proofs.lemmas.Map.Lookups.{exact_unsigned}
use Rattle.std.proofs.lemmas.Map.Views.{btree_set_contains_iff}
use Rattle.trs_defs.specs.Member.{In, in_first, in_rest}
use Rattle.trs_defs.proofs.Members.{in_or, no_in}
use Rattle.trs_defs.proofs.ArgumentLists.{cell}
use Rattle.trs_core.proofs.NumberKeys.{at_same, at_other}
use Rattle.pair_theory.specs.DependencyPair.{DependencyPair}
use Rattle.dp_core.specs.SubtermConditions.{roots_of}
use Rattle.order_search.specs.Ascending.{AreAscending}

pub one_added : (old new : BTreeSet ℕ) (f : ℕ) → Updates nat_cmp old new f true → (g : ℕ) → IsTrue (contains nat_cmp new g) ↔ (IsTrue (contains nat_cmp old g) ⊎ (g ≡ f))
one_added old new f updates g = elim (ℕ_discrete f g) as (λ _. IsTrue (contains nat_cmp new g) ↔ (IsTrue (contains nat_cmp old g) ⊎ (g ≡ f))) [
  | yes same ↦ (λ _. inr (sym same), λ _. updates.0 g ∙ ap (λ b. cond b true (contains nat_cmp old g)) (subst (λ (x : ℕ). is_at (nat_cmp f) x ≡ true) same (at_same f)))
  | no other ↦
      let stays : contains nat_cmp new g ≡ contains nat_cmp old g = updates.0 g ∙ ap (λ b. cond b true (contains nat_cmp old g)) (at_other f g other) in
      (λ h. inl (sym stays ∙ h), λ h. elim h [ inl known ↦ stays ∙ known | inr same ↦ absurd (other (sym same)) ])
]

abbrev pub HasRoots : List DependencyPair → BTreeSet ℕ → ℕ → Type 0
HasRoots pairs set k = (f : ℕ) → In f (roots_of pairs) ↔ (IsTrue (contains nat_cmp set f) ⊎ In f (roots_of (drop k pairs)))

pub no_roots_yet : (pairs : List DependencyPair) (set : BTreeSet ℕ) → set.keys ≡ [] → HasRoots pairs set 0
no_roots_yet pairs set e f = (
  λ i. inr i,
  λ h. elim h [
    | inl known ↦ (let none : contains nat_cmp set f ≡ false = ap (λ (ks : List ℕ). list_any (is_at (nat_cmp f)) ks) e in absurd cc)
    | inr i ↦ i
  ],
)

-- the set has one member more
abbrev pub Adds : BTreeSet ℕ → BTreeSet ℕ → ℕ → Type 0
Adds old new f = (g : ℕ) → IsTrue (contains nat_cmp new g) ↔ (IsTrue (contains nat_cmp old g) ⊎ (g ≡ f))

pub two_roots : (pairs : List DependencyPair) (old mid new : BTreeSet ℕ) (k : ℕ) (p : DependencyPair) (a b : ℕ) → k < length pairs → p ≡ get_or pairs k p
    → a ≡ p.from.symbol → b ≡ p.to.symbol → Adds old mid a → Adds mid new b → HasRoots pairs old k → HasRoots pairs new (k + 1)
two_roots pairs old mid new k p a b below is from_is to_is adds_first adds_second before f =
    let first : Adds old mid p.from.symbol = subst (λ (x : ℕ). Adds old mid x) from_is adds_first in
    let second : Adds mid new p.to.symbol = subst (λ (x : ℕ). Adds mid new x) to_is adds_second in
    let next : drop k pairs ≡ p ∷ drop (k + 1) pairs = cell pairs k p below is in
    let here : In f (roots_of pairs) ↔ (IsTrue (contains nat_cmp old f) ⊎ In f (p.from.symbol ∷ p.to.symbol ∷ roots_of (drop (k + 1) pairs))) =
    subst (λ (l : List DependencyPair). In f (roots_of pairs) ↔ (IsTrue (contains nat_cmp old f) ⊎ In f (roots_of l))) next (before f) in (
      λ i. elim (here.0 i) [
        | inl known ↦ inl ((second f).1 (inl ((first f).1 (inl known))))
        | inr rest ↦ elim (in_or rest) [
          | inl from ↦ inl ((second f).1 (inl ((first f).1 (inr from))))
          | inr later ↦ elim (in_or later) [
            | inl to ↦ inl ((second f).1 (inr to))
            | inr more ↦ inr more
          ]
        ]
      ],
      λ h. here.1 (elim h [
        | inl known ↦ elim ((second f).0 known) [
          | inl mid_known ↦ elim ((first f).0 mid_known) [
            | inl old_known ↦ inl old_known
            | inr from ↦ inr (subst (λ (x : ℕ). In f (x ∷ p.to.symbol ∷ roots_of (drop (k + 1) pairs))) from in_first)
          ]
          | inr to ↦ inr (in_rest (subst (λ (x : ℕ). In f (x ∷ roots_of (drop (k + 1) pairs))) to in_first))
        ]
        | inr rest ↦ inr (in_rest (in_rest rest))
      ]),
    )

pub all_roots : (pairs : List DependencyPair) (set : BTreeSet ℕ) (k : ℕ) → length pairs ≤ k → HasRoots pairs set k → (f : ℕ) → IsTrue (contains nat_cmp set f) ↔ In f (roots_of pairs)
all_roots pairs set k past before f =
    let none : drop k pairs ≡ [] = drop_all k pairs past in (
      λ known. (before f).1 (inl known),
      λ i. elim ((before f).0 i) [
        | inl known ↦ known
        | inr rest ↦ absurd (no_in (subst (λ (l : List DependencyPair). In f (roots_of l)) none rest))
      ],
    )

-- ---- members in order

pub in_at : (xs : List ℕ) (k d x : ℕ) → k < length xs → get_or xs k d ≡ x → In x xs
in_at [] k d x below e = absurd (omega (arith, below))
in_at (y ∷ xs) zero d x below e = subst (λ (z : ℕ). In x (z ∷ xs)) (sym e) in_first
in_at (y ∷ xs) (suc k) d x below e = in_rest (in_at xs k d x (omega (arith, below)) e)

at_in : (xs : List ℕ) (x : ℕ) → In x xs → Contains xs x
at_in [] x i = absurd (no_in i)
at_in (y ∷ xs) x i = elim (in_or i) [
  | inl same ↦ (0, omega arith, sym same)
  | inr later ↦ (let (k, below, e) = at_in xs x later in (suc k, omega (arith, below), e))
]

pub members_ascend : (set : BTreeSet ℕ) (members listed : List ℕ) → members ≡ set.keys → IsOrdered nat_cmp set
    → ((f : ℕ) → IsTrue (contains nat_cmp set f) ↔ In f listed) → AreAscending listed members
members_ascend set members listed is ordered known = subst (λ (l : List ℕ). AreAscending listed l) (sym is) (record {
  increasing = IsStrictlyIncreasing-from_sorted set.keys ordered;
  each = λ f. (
    λ i. (known f).0 ((btree_set_contains_iff nat_cmp_total exact_unsigned set f).1 (at_in set.keys f i)),
    λ i. (let (k, below, e) = (btree_set_contains_iff nat_cmp_total exact_unsigned set f).0 ((known f).1 i) in in_at set.keys k f f below e),
  );
})

pub members_if_ok : {E : Type 0} (set : BTreeSet ℕ) (listed : List ℕ) (result : Result (Vec ℕ Global) E) → IfOk result (λ members. members.items ≡ set.keys) → IsOrdered nat_cmp set
    → ((f : ℕ) → IsTrue (contains nat_cmp set f) ↔ In f listed) → IfOk result (λ members. AreAscending listed members.items)
members_if_ok set listed (Ok v) is ordered known = members_ascend set v.items listed is ordered known
members_if_ok set listed (Err e) is ordered known = is
