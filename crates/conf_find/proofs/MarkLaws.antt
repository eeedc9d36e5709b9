-- Marks of the terms of a pool, as they are made and as they tell which terms never meet.
use Rattle.std.specs.Prelude.{◌≡◌, ◌≢◌, ◌<◌, ◌↔◌, ◌⊎◌, ℕ, nat_eq, Bool, true, false, List, [], Option, None, Some, is_some, length, IsTrue, refl}
use Rattle.std.proofs.Common.{ap, sym, ◌∙◌, subst, arith, inl, inr}
use Rattle.std.specs.Map.{lookup}
use Rattle.std.specs.HashMap.{HashMap, get, Updates}
use Rattle.std.proofs.lemmas.Option.{same_Some}
use native.Mathlib.Decide.{ℕ_discrete}
use Rattle.trs_defs.specs.Tree.{Tree}
use Rattle.trs_defs.specs.System.{RewriteRule}
use Rattle.trs_defs.specs.Step.{Step}
use Rattle.trs_defs.specs.NormalForm.{IsNormalForm}
use Rattle.term_pool.specs.Pooled.{AreDistinct, StandsFor, tree_at}
use Rattle.term_pool.proofs.PoolTrees.{stands}
use Rattle.term_pool.proofs.Extending.{same_tree_at}
use Rattle.trs_caps.specs.HoledCap.{IsHoledCap}
use Rattle.trs_caps.specs.Clash.{clash}
use Rattle.trs_caps.proofs.Compatible.{disjoint_where_clash}
use Rattle.cert_step.specs.nonjoin.Apart.{AreApart}
use Rattle.cert_step.proofs.nonjoin.ApartLaws.{apart_where_disjoint}
use Rattle.conf_find.specs.ForkRows.{AreDifferentNormalForms}
use Rattle.conf_find.specs.Marks.{Lasts, AreCaps, AreEndings}
use Rattle.conf_find.specs.SharedCaps.{cap_at}
use Rattle.conf_find.specs.declared.caps.CapMarks.{CapMarks}
use Rattle.conf_find.specs.declared.endings.Endings.{Endings}

-- ---- what is kept by numbers, with one more

pub nothing_there : {V : Type 0} (entries : List (ℕ × V)) (test : ℕ → Bool) (v : V) → entries ≡ [] → lookup test entries ≡ Some v → ⊥
nothing_there entries test v none h = let e : None ≡ Some v = rw none at h in absurd cc

-- what is kept is the new value, or was kept before
pub new_or_kept : {V : Type 0} (old new : ℕ → Option V) (id : ℕ) (value : V) → new id ≡ Some value → ((i : ℕ) → (i ≡ id → ⊥) → new i ≡ old i)
    → (i : ℕ) (v : V) → new i ≡ Some v → (old i ≡ Some v) ⊎ ((id ≡ i) × (value ≡ v))
new_or_kept old new id value here others i v at = elim (ℕ_discrete i id) [
  | yes same ↦ inr (sym same, same_Some value v (sym here ∙ subst (λ z. new z ≡ Some v) same at))
  | no other ↦ inl (sym (others i other) ∙ at)
]

unlike : (i j : ℕ) → (j ≡ i → ⊥) → nat_eq i j ≡ false
unlike i j other = grind arith

module _ {V S : Type 0} (old new : HashMap ℕ V S) (id : ℕ) (value : V) (updates : Updates nat_eq old new id (Some value)) where
  others_stay : (i : ℕ) → (i ≡ id → ⊥) → get nat_eq new i ≡ get nat_eq old i
  others_stay i other = updates.2 i (unlike id i other)

  pub new_or_before : (i : ℕ) (v : V) → get nat_eq new i ≡ Some v → (get nat_eq old i ≡ Some v) ⊎ ((id ≡ i) × (value ≡ v))
  new_or_before i v at = new_or_kept (get nat_eq old) (get nat_eq new) id value updates.1 others_stay i v at

  pub is_there : IsTrue (is_some (get nat_eq new id))
  is_there = ap is_some updates.1

  pub is_still_there : (i : ℕ) → IsTrue (is_some (get nat_eq old i)) → IsTrue (is_some (get nat_eq new i))
  is_still_there i h = elim (ℕ_discrete i id) [
    | yes same ↦ subst (λ z. IsTrue (is_some (get nat_eq new z))) (sym same) is_there
    | no other ↦ ap is_some (others_stay i other) ∙ h
  ]

-- ---- normal forms

pub endings_last : Lasts AreEndings
endings_last rules old new marks extends h = record {
  there = λ i b at. (let n = h.there i b at in omega (arith, extends.longer, n));
  normal = λ i b at. subst (λ t. IsTrue b ↔ IsNormalForm (Step rules) t) (sym (same_tree_at old new extends i (h.there i b at))) (h.normal i b at);
}

decides : {N M : Type 0} (b : Bool) → (IsTrue b → N) → (b ≡ false → M) → (N → M → ⊥) → IsTrue b ↔ N
decides true h k differ = (h, λ n. refl)
decides false h k differ = (h, λ n. absurd (differ n (k refl)))

-- whether one more term is a normal form is noted
pub one_more_ending : (rules : List RewriteRule) (pool : List Tree) (old new : Endings) (id : ℕ) (is_normal : Bool) → AreEndings rules pool old → id < length pool
    → (IsTrue is_normal → IsNormalForm (Step rules) (tree_at pool id)) → (is_normal ≡ false → (u : Tree) × Step rules (tree_at pool id) u)
    → Updates nat_eq old.normal new.normal id (Some is_normal) → AreEndings rules pool new
one_more_ending rules pool old new id is_normal h below normal reducible updates = record {
  there = λ i b at. elim (new_or_before old.normal new.normal id is_normal updates i b at) [
    | inl before ↦ h.there i b before
    | inr now ↦ subst (λ z. z < length pool) now.0 below
  ];
  normal = λ i b at. elim (new_or_before old.normal new.normal id is_normal updates i b at) [
    | inl before ↦ h.normal i b before
    | inr now ↦ subst (λ z. IsTrue b ↔ IsNormalForm (Step rules) (tree_at pool z)) now.0 (subst (λ z. IsTrue z ↔ IsNormalForm (Step rules) (tree_at pool id)) now.1
        (decides is_normal normal reducible (λ n (u, step). n u step)))
  ];
}

-- normal forms are different exactly where their ids are
pub endings_tell : (rules : List RewriteRule) (pool : List Tree) (marks : Endings) (left right : ℕ) (a b answer : Bool) → AreDistinct pool → AreEndings rules pool marks
    → get nat_eq marks.normal left ≡ Some a → get nat_eq marks.normal right ≡ Some b → IsTrue answer ↔ (IsTrue a × IsTrue b × (left ≢ right))
    → IsTrue answer ↔ AreDifferentNormalForms rules (tree_at pool left) (tree_at pool right)
endings_tell rules pool marks left right a b answer distinct h at_left at_right decided =
    let m = h.normal left a at_left in
    let n = h.normal right b at_right in
    let is_left : StandsFor pool left (tree_at pool left) = stands pool left (h.there left a at_left) in
    let is_right : StandsFor pool right (tree_at pool right) = stands pool right (h.there right b at_right) in (
      λ yes. (let all = decided.0 yes in ((m.0 all.0, n.0 all.1), λ same. all.2 (distinct.same left right (tree_at pool right) (subst (StandsFor pool left) same is_left) is_right))),
      λ both. decided.1 (m.1 both.0.0, n.1 both.0.1, λ same. both.1 (ap (tree_at pool) same)),
    )

-- ---- caps

pub caps_last : Lasts AreCaps
caps_last rules old new marks extends h = record {
  there = λ i k at. (let n = h.there i k at in omega (arith, extends.longer, n));
  number = h.number;
  cap = λ i k at. subst (λ t. IsHoledCap rules true t (cap_at marks.shared k)) (sym (same_tree_at old new extends i (h.there i k at))) (h.cap i k at);
}

-- terms are apart exactly where their caps clash
pub caps_tell : (rules : List RewriteRule) (pool : List Tree) (marks : CapMarks) (left right a b : ℕ) (answer : Bool) → AreCaps rules pool marks
    → get nat_eq marks.numbers left ≡ Some a → get nat_eq marks.numbers right ≡ Some b → answer ≡ clash (cap_at marks.shared a) (cap_at marks.shared b)
    → IsTrue answer ↔ AreApart rules (tree_at pool left) (tree_at pool right)
caps_tell rules pool marks left right a b answer h at_left at_right decided =
    let c = cap_at marks.shared a in
    let d = cap_at marks.shared b in
    apart_where_disjoint rules (tree_at pool left) (tree_at pool right) c d (h.cap left a at_left) (h.cap right b at_right) answer (disjoint_where_clash c d answer decided)

-- no caps
pub none_numbered : (rules : List RewriteRule) (pool : List Tree) (marks : CapMarks) → marks.numbers.entries ≡ [] → AreCaps rules pool marks
none_numbered rules pool marks none = record {
  there = λ i k at. absurd (nothing_there marks.numbers.entries (nat_eq i) k none at);
  number = λ i k at. absurd (nothing_there marks.numbers.entries (nat_eq i) k none at);
  cap = λ i k at. absurd (nothing_there marks.numbers.entries (nat_eq i) k none at);
}

pub none_ended : (rules : List RewriteRule) (pool : List Tree) (marks : Endings) → marks.normal.entries ≡ [] → AreEndings rules pool marks
none_ended rules pool marks none = record {
  there = λ i b at. absurd (nothing_there marks.normal.entries (nat_eq i) b none at);
  normal = λ i b at. absurd (nothing_there marks.normal.entries (nat_eq i) b none at);
}
