-- Ids whose instances are noted, and instances that are made of those of arguments.
use Rattle.std.proofs.Common.{◌≡◌, ◌≢◌, All, ℕ, zero, suc, ◌+◌, ◌<◌, ◌≤◌, Bool, true, List, [], ◌∷◌, ◌++◌, map, length, Some, None, IsTrue, Result, Ok, Err, OnOk, slice_get, get_or, refl, ap, sym, ◌∙◌, subst, arith}
use Rattle.std.proofs.lemmas.Bool.{or_left, or_right}
use Rattle.std.proofs.lemmas.List.Elements.{All-push, All-weaker}
use Rattle.std.proofs.lemmas.Option.{same_Some, slice_get_within, slice_get-get_or, get_or_from_slice_get}
use native.Mathlib.Decide.{dec_lt, ℕ_discrete}
use Rattle.trs_defs.specs.Tree.{Tree, var, app, trees, items, items_trees}
use Rattle.trs_defs.specs.Size.{size_of}
use Rattle.trs_defs.specs.Variable.{has_var, some_has_var}
use Rattle.trs_defs.specs.Substitution.{apply}
use Rattle.trs_defs.specs.Position.{argument_at}
use Rattle.trs_defs.proofs.ArgumentLists.{item_size, apply_all_trees}
use Rattle.trs_defs.proofs.ListItems.{last_item, old_item}
use Rattle.trs_defs.proofs.VariableLaws.{has_var_self}
use Rattle.trs_core.specs.declared.memory.OutOfMemory.{OutOfMemory}
use Rattle.term_pool.specs.Pooled.{AreDistinct, StandsFor, Extends, tree_at}
use Rattle.term_pool.specs.LeftSides.{AreGround, IsGround}
use Rattle.term_pool.specs.Instances.{AreInstances, HasNoted, HasVariable, IsInstanceId, IsNoted}
use Rattle.term_pool.specs.declared.noted_instances.Instances.{Instances}
use Rattle.term_pool.proofs.PoolTrees.{stands, stands_at}
use Rattle.term_pool.proofs.Extending.{same_tree_at}

-- ---- what is noted, as the pool grows

pub instances_on : (s : ℕ → Tree) (old new : List Tree) (made : Instances) → Extends old new → AreInstances s old made → AreInstances s new made
instances_on s old new made extends h = record {
  each = All-weaker (λ e. IsInstanceId s old e.0 e.1) (λ e. IsInstanceId s new e.0 e.1)
      (λ e is. (let (t, there, stand) = is in (t, extends.kept e.0 t there, extends.kept e.1 (apply s t) stand))) made.noted.items h.each;
}

pub variable_still : (old new : List Tree) (made next : Instances) (v : ℕ) → Extends old new → ((i : ℕ) → IsNoted made i → IsNoted next i) → HasVariable old made v → HasVariable new next v
variable_still old new made next v extends still h = let (i, there, noted) = h in (i, extends.kept i (var v) there, still i noted)

pub variable_on : (old new : List Tree) (made : Instances) (v : ℕ) → Extends old new → HasVariable old made v → HasVariable new made v
variable_on old new made v extends h = variable_still old new made made v extends (λ i noted. noted) h

-- an id with no term has the variable 0 in its place
past_end : {T : Type 0} (xs : List T) (i : ℕ) (d : T) → length xs ≤ i → get_or xs i d ≡ d
past_end [] i d h = refl
past_end (x ∷ xs) zero d h = absurd (omega (arith, h))
past_end (x ∷ xs) (suc i) d h = past_end xs i d (omega (arith, h))

pub ground_on : (old new : List Tree) (marks : List Bool) → Extends old new → AreGround old marks → AreGround new marks
ground_on old new marks extends ground = record {
  each = λ i at. elim (dec_lt i (length old)) as (λ _. IsGround (tree_at new i)) [
    | yes there ↦ subst IsGround (sym (same_tree_at old new extends i there)) (ground.each i at)
    | no past ↦
        let free = ground.each i at 0 in
        let is : tree_at old i ≡ var 0 = past_end old i (var 0) (omega (arith, past)) in
        let shown : has_var 0 (tree_at old i) ≡ true = ap (has_var 0) is in
        absurd (cc)
  ];
}

-- ---- what is noted

module _ (old new : Instances) (id own : ℕ) (more : new.noted.items ≡ old.noted.items ++ (id, own) ∷ []) where
  pub note_right : (s : ℕ → Tree) (pool : List Tree) (t : Tree) → AreInstances s pool old → StandsFor pool id t → StandsFor pool own (apply s t) → AreInstances s pool new
  note_right s pool t h there stand =
      let N : ℕ × ℕ → Type 0 = λ e. IsInstanceId s pool e.0 e.1 in
      record { each = subst (All N) (sym more) (All-push N old.noted.items (id, own) h.each (t, there, stand)) }

  module _ (here : slice_get new.places.items id ≡ Some (length old.noted.items)) where
    pub note_noted : IsNoted new id
    note_noted =
        let L : List (ℕ × ℕ) → Type 0 = λ es. slice_get es (length old.noted.items) ≡ Some (id, own) in
        (own, (length old.noted.items, here, subst L (sym more) (last_item old.noted.items (id, own) [])))

    pub note_kept : ((i k : ℕ) → i ≢ id → slice_get old.places.items i ≡ Some k → slice_get new.places.items i ≡ Some k) → (i : ℕ) → IsNoted old i → IsNoted new i
    note_kept others i h = elim (ℕ_discrete i id) as (λ _. IsNoted new i) [
      | yes same ↦ subst (IsNoted new) (sym same) note_noted
      | no ne ↦
          let (k, (place, at, entry)) = h in
          let L : List (ℕ × ℕ) → Type 0 = λ es. slice_get es place ≡ Some (i, k) in
          (k, (place, others i place ne at, subst L (sym more) (old_item old.noted.items (id, own) (i, k) place entry)))
    ]

pub noted_instance : (s : ℕ → Tree) (pool : List Tree) (made : Instances) (i own : ℕ) → AreInstances s pool made → HasNoted made i own → StandsFor pool own (apply s (tree_at pool i))
noted_instance s pool made i own h noted =
    let (place, at, entry) = noted in
    let N : ℕ × ℕ → Type 0 = λ e. IsInstanceId s pool e.0 e.1 in
    let same = get_or_from_slice_get made.noted.items place (i, own) (i, own) entry in
    let (t, there, stand) = subst N same (h.each place (i, own) (slice_get_within made.noted.items place (i, own) entry)) in
    let S : Tree → Type 0 = λ u. StandsFor pool own (apply s u) in
    subst S (sym (stands_at pool i t there)) stand

-- a variable that has an id of its own is noted
pub variable_noted : (pool : List Tree) (made : Instances) (id v : ℕ) → AreDistinct pool → id < length pool → tree_at pool id ≡ var v
    → ((w : ℕ) → IsTrue (has_var w (tree_at pool id)) → HasVariable pool made w) → IsNoted made id
variable_noted pool made id v distinct there is variables =
    let V : Tree → Type 0 = λ t. IsTrue (has_var v t) in
    let (i, stand, noted) = variables v (subst V (sym is) (has_var_self v)) in
    let same : i ≡ id = distinct.same i id (var v) stand (stands pool id there ∙ ap (λ t. Some t) is) in
    subst (IsNoted made) same noted

pub noted_on : (r : Result ℕ OutOfMemory) (first next last : Instances) → ((i : ℕ) → IsNoted first i → IsNoted next i) → OnOk r ((i : ℕ) → IsNoted next i → IsNoted last i)
    → OnOk r ((i : ℕ) → IsNoted first i → IsNoted last i)
noted_on (Ok own) first next last before after = λ i h. after i (before i h)
noted_on (Err e) first next last before after = tt

-- ---- the arguments of an id's term

abbrev pub argument_terms : Tree → List Tree
argument_terms (var v) = []
argument_terms (app f ts) = items ts

pub terms_over : (t : Tree) (f : ℕ) (ts : List Tree) → t ≡ app f (trees ts) → argument_terms t ≡ ts
terms_over t f ts is = ap argument_terms is ∙ items_trees ts

-- the instance is the symbol over those of the arguments
pub instance_over : (s : ℕ → Tree) (t : Tree) (f : ℕ) (ts : List Tree) → t ≡ app f (trees ts) → app f (trees (map (apply s) (argument_terms t))) ≡ apply s t
instance_over s t f ts is =
    ap (λ us. app f (trees (map (apply s) us))) (terms_over t f ts is) ∙ (ap (app f) (apply_all_trees s ts) ∙ sym (ap (apply s) is))

item_variable : (ts : List Tree) (i : ℕ) (u : Tree) (v : ℕ) → slice_get ts i ≡ Some u → IsTrue (has_var v u) → IsTrue (some_has_var v (trees ts))
item_variable [] i u v e h = absurd cc
item_variable (t ∷ ts) zero u v e h = or_left (has_var v t) (some_has_var v (trees ts)) (subst (λ (x : Tree). IsTrue (has_var v x)) (sym (same_Some t u e)) h)
item_variable (t ∷ ts) (suc i) u v e h = or_right (has_var v t) (some_has_var v (trees ts)) (item_variable ts i u v e h)

module _ (start now : List Tree) (id f : ℕ) (ts : List Tree) (there : id < length start) (is : tree_at start id ≡ app f (trees ts)) (kept : Extends start now) where
  argument_there : (i : ℕ) → argument_at (tree_at now id) (i + 1) ≡ slice_get ts i
  argument_there i =
      let n : i + 1 ≡ suc i = omega arith in
      ap (λ t. argument_at t (i + 1)) (same_tree_at start now kept id there ∙ is) ∙ (ap (argument_at (app f (trees ts))) n ∙ ap (λ xs. slice_get xs i) (items_trees ts))

  pub always_argument : (i : ℕ) → i < length ts → None ≡ argument_at (tree_at now id) (i + 1) → ⊥
  always_argument i within none =
      let e = none ∙ (argument_there i ∙ slice_get-get_or ts i (var 0) within) in
      absurd cc

  module _ (i a : ℕ) (at : Some (tree_at now a) ≡ argument_at (tree_at now id) (i + 1)) where
    argument_tree : slice_get ts i ≡ Some (tree_at now a)
    argument_tree = sym (at ∙ argument_there i)

    pub argument_term : slice_get (argument_terms (tree_at start id)) i ≡ Some (tree_at now a)
    argument_term = ap (λ xs. slice_get xs i) (terms_over (tree_at start id) f ts is) ∙ argument_tree

    pub argument_smaller : size_of (tree_at now a) < size_of (tree_at start id)
    argument_smaller =
        let part = item_size (trees ts) i (tree_at now a) (ap (λ xs. slice_get xs i) (items_trees ts) ∙ argument_tree) in
        let whole = ap size_of is in
        omega (arith, part, whole)

    pub argument_variable : (v : ℕ) → IsTrue (has_var v (tree_at now a)) → IsTrue (has_var v (tree_at start id))
    argument_variable v h =
        let V : Tree → Type 0 = λ t. IsTrue (has_var v t) in
        subst V (sym is) (item_variable ts i (tree_at now a) v argument_tree h)
