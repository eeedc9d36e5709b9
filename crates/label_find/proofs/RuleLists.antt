-- Lists of rules along paths, made path by path.
use Rattle.std.specs.Prelude.{◌≡◌, ◌<◌, ◌≤◌, ◌⊎◌, ℕ, ◌+◌, Bool, true, false, ◌||◌, ◌==◌, List, [], ◌∷◌, ◌++◌, length, take, IsTrue, refl}
use Rattle.std.specs.List.{insert, HoldsAt}
use Rattle.std.specs.FinMap.{nat_cmp-IsAntisymmetric}
use Rattle.std.proofs.Common.{zero, suc, ap, sym, ◌∙◌, subst, get_or, drop, inl, inr, nat_cmp, Equal, append-nil, append_assoc, take-append-drop, arith}
use Rattle.std.proofs.Math.Seq.{take-suc}
use Rattle.std.proofs.Math.Decide.{ℕ_discrete}
use Rattle.std.proofs.lemmas.List.{take_all, map-append}
use Rattle.std.proofs.lemmas.Bool.Decides.{nat_tests}
use Rattle.std.proofs.lemmas.Bool.{or_right, or_left}
use Rattle.trs_defs.specs.Member.{In, in_first}
use Rattle.trs_defs.specs.Variable.{is_listed}
use Rattle.trs_defs.specs.Path.{PlacedRule}
use Rattle.trs_defs.proofs.Members.{in_left, in_right, in_either, in_or, no_in}
use Rattle.path_lists.specs.Adding.{Entry}
use Rattle.label_find.specs.LabelRow.{rules_along}
use Rattle.label_find.specs.Lists.{rules_in, IsWith}

-- ---- one item more

pub take_more : {A : Type 0} (xs : List A) (i : ℕ) (a : A) → i < length xs → a ≡ get_or xs i a → take (i + 1) xs ≡ take i xs ++ a ∷ []
take_more {A} xs i a below is =
    let n : i + 1 ≡ suc i = omega arith in
    let G : A → Type 0 = λ x. take (i + 1) xs ≡ take i xs ++ x ∷ [] in
    subst G (sym is) (ap (λ k. take k xs) n ∙ take-suc xs i a below)

pub one_of_pushed : {A : Type 0} (old new : List A) (a x : A) → new ≡ old ++ a ∷ [] → In x new → In x old ⊎ (x ≡ a)
one_of_pushed {A} old new a x is h = elim (in_either old (a ∷ []) (subst (λ (ys : List A). In x ys) is h)) [
  | inl there ↦ inl there
  | inr last ↦ elim (in_or last) [ inl same ↦ inr same | inr none ↦ absurd (no_in none) ]
]

pub old_in_pushed : {A : Type 0} (old new : List A) (a x : A) → new ≡ old ++ a ∷ [] → In x old → In x new
old_in_pushed {A} old new a x is h = subst (λ (ys : List A). In x ys) (sym is) (in_left (a ∷ []) h)

pub new_in_pushed : {A : Type 0} (old new : List A) (a : A) → new ≡ old ++ a ∷ [] → In a new
new_in_pushed {A} old new a is = subst (λ (ys : List A). In a ys) (sym is) (in_right old in_first)

-- ---- the rules that are used

pub listed_append : (k : ℕ) (xs ys : List ℕ) → is_listed k (xs ++ ys) ≡ is_listed k xs || is_listed k ys
listed_append k [] ys = refl
listed_append k (x ∷ xs) ys = ap (λ b. x == k || b) (listed_append k xs ys) ∙ sym (or_assoc (x == k) (is_listed k xs) (is_listed k ys))
  where
    or_assoc : (a b c : Bool) → (a || b) || c ≡ a || (b || c)
    or_assoc true b c = refl
    or_assoc false b c = refl

-- the rules of a peak, and those of its two sides
module _ (inner outer : ℕ) (lefts rights : List ℕ) (k : ℕ) where
  of_sides : IsTrue (is_listed k lefts || is_listed k rights) → IsTrue (is_listed k (inner ∷ outer ∷ (lefts ++ rights)))
  of_sides h =
      or_right (inner == k) (outer == k || is_listed k (lefts ++ rights)) (or_right (outer == k) (is_listed k (lefts ++ rights)) (listed_append k lefts rights ∙ h))

  pub of_left : IsTrue (is_listed k lefts) → IsTrue (is_listed k (inner ∷ outer ∷ (lefts ++ rights)))
  of_left l = of_sides (or_left (is_listed k lefts) (is_listed k rights) l)

  pub of_right : IsTrue (is_listed k rights) → IsTrue (is_listed k (inner ∷ outer ∷ (lefts ++ rights)))
  of_right r = of_sides (or_right (is_listed k lefts) (is_listed k rights) r)

pub with_none : (used : List ℕ) → IsWith used [] used
with_none used = record { each = λ k. ap (is_listed k) (sym (append-nil used)) }

with_then : (a xs b ys c : List ℕ) → IsWith a xs b → IsWith b ys c → IsWith a (xs ++ ys) c
with_then a xs b ys c h m = record {
  each = λ k. m.each k
      ∙ (listed_append k b ys ∙ (ap (λ t. t || is_listed k ys) (h.each k) ∙ (sym (listed_append k (a ++ xs) ys) ∙ ap (is_listed k) (append_assoc a xs ys))));
}

pub rule_there : (used : List ℕ) (rule : ℕ) → is_listed rule used ≡ true → IsWith used (rule ∷ []) used
rule_there used rule there = record { each = λ k. go k (is_listed k used) refl ∙ sym (listed_append k used (rule ∷ [])) }
  where
    go : (k : ℕ) (b : Bool) → is_listed k used ≡ b → is_listed k used ≡ is_listed k used || (rule == k || false)
    go k true e = rw e refl
    go k false e = elim (ℕ_discrete rule k) [
      | yes same ↦ (let known : is_listed k used ≡ true = subst (λ (n : ℕ). is_listed n used ≡ true) same there in absurd (cc (e, known)))
      | no other ↦ (let differ : (rule == k) ≡ false = grind (arith, nat_tests) in rw (e, differ) refl)
    ]

listed_at : (used : List ℕ) (place rule : ℕ) → place < length used → get_or used place rule ≡ rule → is_listed rule used ≡ true
listed_at [] place rule within is = absurd (omega (arith, within))
listed_at (k ∷ used) zero rule within is = or_left (k == rule) (is_listed rule used) (let same : (k == rule) ≡ true = grind (arith, nat_tests) in same)
listed_at (k ∷ used) (suc place) rule within is = or_right (k == rule) (is_listed rule used) (listed_at used place rule (omega (arith, within)) is)

-- a search has found the rule
pub rule_found : (used : List ℕ) (rule place : ℕ) → place < length used → HoldsAt (λ (k : ℕ). nat_cmp k rule ≡ Equal) used place → IsWith used (rule ∷ []) used
rule_found used rule place within found = rule_there used rule (listed_at used place rule within (nat_cmp-IsAntisymmetric (get_or used place rule) rule (found rule)))

moved : (a r d : Bool) → (a || (r || d)) ≡ ((a || d) || (r || false))
moved true r d = refl
moved false true true = refl
moved false true false = refl
moved false false true = refl
moved false false false = refl

-- the rule is put at a place among the others
pub rule_placed : (used new : List ℕ) (rule place : ℕ) → new ≡ insert used place rule → IsWith used (rule ∷ []) new
rule_placed used new rule place is = record {
  each = λ k.
      (let before = take place used in
      let after = drop place used in
      let both : is_listed k used ≡ is_listed k before || is_listed k after = ap (is_listed k) (sym (take-append-drop place used)) ∙ listed_append k before after in
      ap (is_listed k) is ∙ (listed_append k before (rule ∷ after) ∙ (moved (is_listed k before) (rule == k) (is_listed k after)
      ∙ (ap (λ t. t || (rule == k || false)) (sym both) ∙ sym (listed_append k used (rule ∷ []))))));
}

pub with_step : (old : List ℕ) (path : List PlacedRule) (i : ℕ) (s : PlacedRule) (used new : List ℕ) → i < length path → s ≡ get_or path i s
    → IsWith old (rules_along (take i path)) used → IsWith used (s.rule ∷ []) new → IsWith old (rules_along (take (i + 1) path)) new
with_step old path i s used new below is before adds =
    let along : rules_along (take (i + 1) path) ≡ rules_along (take i path) ++ s.rule ∷ [] =
    ap rules_along (take_more path i s below is) ∙ map-append (λ (x : PlacedRule). x.rule) (take i path) (s ∷ []) in
    let P : List ℕ → Type 0 = λ xs. IsWith old xs new in
    subst P (sym along) (with_then old (rules_along (take i path)) used (s.rule ∷ []) new before adds)

rules_append : (es fs : List Entry) → rules_in (es ++ fs) ≡ rules_in es ++ rules_in fs
rules_append [] fs = refl
rules_append (e ∷ es) fs = ap (λ xs. rules_along e.1.items ++ xs) (rules_append es fs) ∙ sym (append_assoc (rules_along e.1.items) (rules_in es) (rules_in fs))

pub with_entry : (old : List ℕ) (entries : List Entry) (i : ℕ) (e : Entry) (used new : List ℕ) → i < length entries → e ≡ get_or entries i e
    → IsWith old (rules_in (take i entries)) used → IsWith used (rules_along e.1.items) new → IsWith old (rules_in (take (i + 1) entries)) new
with_entry old entries i e used new below is before adds =
    let along : rules_in (take (i + 1) entries) ≡ rules_in (take i entries) ++ rules_along e.1.items =
    ap rules_in (take_more entries i e below is) ∙ (rules_append (take i entries) (e ∷ []) ∙ ap (λ xs. rules_in (take i entries) ++ xs) (append-nil (rules_along e.1.items))) in
    let P : List ℕ → Type 0 = λ xs. IsWith old xs new in
    subst P (sym along) (with_then old (rules_in (take i entries)) used (rules_along e.1.items) new before adds)

pub with_all_steps : (old : List ℕ) (path : List PlacedRule) (i : ℕ) (used : List ℕ) → length path ≤ i → IsWith old (rules_along (take i path)) used → IsWith old (rules_along path) used
with_all_steps old path i used all h = subst (λ (p : List PlacedRule). IsWith old (rules_along p) used) (take_all i path all) h

pub with_all_entries : (old : List ℕ) (entries : List Entry) (i : ℕ) (used : List ℕ) → length entries ≤ i → IsWith old (rules_in (take i entries)) used → IsWith old (rules_in entries) used
with_all_entries old entries i used all h = subst (λ (es : List Entry). IsWith old (rules_in es) used) (take_all i entries all) h
