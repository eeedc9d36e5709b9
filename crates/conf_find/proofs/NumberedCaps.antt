-- The caps of ids, by their numbers, one after another.
use Rattle.std.specs.Prelude.{◌≡◌, ◌<◌, ◌≤◌, ◌+◌, ℕ, true, All, List, [], ◌∷◌, ◌++◌, map, take, length, Option, None, Some, get_or, slice_get, refl, Result, Ok, Err, IfOk, OnOk}
use Rattle.std.proofs.Common.{zero, suc, ap, sym, ◌∙◌, subst, arith, inl, inr, nat_eq, add-one}
use Rattle.std.specs.HashMap.{get, Updates}
use Rattle.std.specs.Option.{option_map}
use Rattle.std.proofs.lemmas.List.{take_all, take_more, map-append}
use Rattle.std.proofs.lemmas.List.Elements.{All-push, All-weaker}
use Rattle.trs_defs.specs.Tree.{Tree, Trees, var, app, nil, cons, trees, items, count, trees_items}
use Rattle.trs_defs.specs.Variable.{IsVariable}
use Rattle.trs_defs.specs.Size.{size_of, size_of_all}
use Rattle.trs_defs.specs.Position.{argument_at}
use Rattle.trs_defs.specs.System.{RewriteRule}
use Rattle.term_pool.specs.Pooled.{tree_at}
use Rattle.term_pool.specs.Redexes.{IsNarrow, AreNarrow}
use Rattle.join_find.proofs.ArgumentReads.{none_from, take_item}
use Rattle.trs_caps.specs.HoledTree.{HoledTree, own}
use Rattle.trs_caps.specs.HoledCap.{IsHoledCap, AreHoledCaps, fixed_variable, no_holed, one_holed}
use Rattle.conf_find.specs.Marks.{HasCap, AreCaps}
use Rattle.conf_find.specs.SharedCaps.{cap_at, parts_at, node_cap, IsOver, KeepsCaps}
use Rattle.conf_find.specs.declared.caps.CapMarks.{CapMarks}
use Rattle.conf_find.specs.declared.cap_node.CapNode.{CapNode}
use Rattle.conf_find.specs.declared.cap_node.CapNode.TheVariants.{Own}
use Rattle.conf_find.proofs.MarkLaws.{new_or_before, is_still_there}
use Rattle.conf_find.proofs.SharedCapLaws.{same_parts_at}

-- ---- arguments by their ids

module _ (pool : List Tree) where
  no_larger : (ids : List ℕ) (i k : ℕ) → i < length ids → k ≡ get_or ids i k → size_of (tree_at pool k) ≤ size_of_all (trees (map (tree_at pool) ids))
  no_larger [] i k below is = absurd (omega (arith, below))
  no_larger (x ∷ ids) zero k below is = let size = ap (λ z. size_of (tree_at pool z)) is in omega (arith, size)
  no_larger (x ∷ ids) (suc i) k below is = let rest = no_larger ids i k (omega (arith, below)) is in omega (arith, rest)

  each_narrow : (ids : List ℕ) (i k : ℕ) → i < length ids → k ≡ get_or ids i k → AreNarrow (trees (map (tree_at pool) ids)) → IsNarrow (tree_at pool k)
  each_narrow [] i k below is h = absurd (omega (arith, below))
  each_narrow (x ∷ ids) zero k below is h = subst (λ z. IsNarrow (tree_at pool z)) (sym is) h.0
  each_narrow (x ∷ ids) (suc i) k below is h = each_narrow ids i k (omega (arith, below)) is h.1

  pub term_is : (t : Tree) (f : ℕ) (ts : Trees) (ids : List ℕ) → t ≡ app f ts → map (tree_at pool) ids ≡ items ts → t ≡ app f (trees (map (tree_at pool) ids))
  term_is t f ts ids is same = is ∙ (ap (app f) (sym (trees_items ts)) ∙ ap (λ xs. app f (trees xs)) (sym same))

  module _ (t : Tree) (f : ℕ) (ids : List ℕ) (is : t ≡ app f (trees (map (tree_at pool) ids))) (i k : ℕ) (below : i < length ids) (at : k ≡ get_or ids i k) where
    pub argument_smaller : size_of (tree_at pool k) < size_of t
    argument_smaller = let size = ap size_of is in omega (arith, size, no_larger ids i k below at)

    pub argument_narrow : IsNarrow t → IsNarrow (tree_at pool k)
    argument_narrow narrow = each_narrow ids i k below at (subst IsNarrow is narrow).1

-- ---- caps of arguments, one after another

module _ (rules : List RewriteRule) (pool : List Tree) where
  abbrev pub AreParts : List HoledTree → List ℕ → List ℕ → Type 0
  AreParts caps ids parts = AreHoledCaps rules true (trees (map (tree_at pool) ids)) (parts_at caps parts)

  last_part : (caps : List HoledTree) (ids parts : List ℕ) (id k : ℕ) → AreParts caps ids parts → IsHoledCap rules true (tree_at pool id) (cap_at caps k) → AreParts caps (ids ++ id ∷ []) (parts ++ k ∷ [])
  last_part caps [] [] id k h one = one_holed one no_holed
  last_part caps [] (j ∷ parts) id k h one = elim h [ ]
  last_part caps (x ∷ ids) [] id k h one = elim h [ ]
  last_part caps (x ∷ ids) (j ∷ parts) id k (one_holed first rest) one = one_holed first (last_part caps ids parts id k rest one)

  pub no_parts : (caps : List HoledTree) (parts : List ℕ) → parts ≡ [] → AreParts caps [] parts
  no_parts caps parts none = rw none no_holed

  pub next_part : (old new : List HoledTree) (ids parts more : List ℕ) (i id k : ℕ) → i < length ids → id ≡ get_or ids i id → KeepsCaps old new → All (λ j. j < length old) parts
      → AreParts old (take i ids) parts → IsHoledCap rules true (tree_at pool id) (cap_at new k) → more ≡ parts ++ k ∷ [] → AreParts new (take (i + 1) ids) more
  next_part old new ids parts more i id k below is kept within h one made =
      let same : parts_at new parts ≡ parts_at old parts = same_parts_at old new (length old) parts within kept.kept in
      let still : AreParts new (take i ids) parts = subst (λ cs. AreHoledCaps rules true (trees (map (tree_at pool) (take i ids))) cs) (sym same) h in
      let taken : take (i + 1) ids ≡ take i ids ++ id ∷ [] = take_more ids i id below ∙ ap (λ z. take i ids ++ z ∷ []) (sym is) in
      rw (taken, made) (last_part new (take i ids) parts id k still one)

  pub all_parts : (caps : List HoledTree) (ids parts : List ℕ) (i : ℕ) → length ids ≤ i → AreParts caps (take i ids) parts → AreParts caps ids parts
  all_parts caps ids parts i all h = subst (λ xs. AreParts caps xs parts) (take_all i ids all) h

  pub below_still : (old new : List HoledTree) (parts more : List ℕ) (k : ℕ) → KeepsCaps old new → All (λ j. j < length old) parts → k < length new → more ≡ parts ++ k ∷ [] → All (λ j. j < length new) more
  below_still old new parts more k kept within below made =
      rw made (All-push (λ j. j < length new) parts k (All-weaker (λ j. j < length old) (λ j. j < length new) (λ j l. omega (arith, l, kept.longer)) parts within) below)

  -- ---- numbers that are noted

  abbrev marks_over : List HoledTree → CapMarks → CapMarks
  marks_over shared old = record { shared = shared; numbers = old.numbers }

  pub caps_grown : (old : CapMarks) (shared : List HoledTree) → AreCaps rules pool old → KeepsCaps old.shared shared → AreCaps rules pool (marks_over shared old)
  caps_grown old shared h kept = record {
    there = h.there;
    number = λ i k at. (let n = h.number i k at in omega (arith, n, kept.longer));
    cap = λ i k at. subst (λ c. IsHoledCap rules true (tree_at pool i) c) (sym (kept.kept k (h.number i k at))) (h.cap i k at);
  }

  module _ (old new : CapMarks) (id number : ℕ) (same : new.shared ≡ old.shared) where
    one_more_numbered : AreCaps rules pool old → id < length pool → number < length old.shared → IsHoledCap rules true (tree_at pool id) (cap_at old.shared number)
        → Updates nat_eq old.numbers new.numbers id (Some number) → AreCaps rules pool new
    one_more_numbered h below there cap updates = record {
      there = λ i k at. elim (new_or_before old.numbers new.numbers id number updates i k at) as (λ _. i < length pool) [
        | inl before ↦ h.there i k before
        | inr now ↦ subst (λ z. z < length pool) now.0 below
      ];
      number = λ i k at. subst (λ cs. k < length cs) (sym same) (elim (new_or_before old.numbers new.numbers id number updates i k at) as (λ _. k < length old.shared) [
        | inl before ↦ h.number i k before
        | inr now ↦ subst (λ z. z < length old.shared) now.1 there
      ]);
      cap = λ i k at. subst (λ cs. IsHoledCap rules true (tree_at pool i) (cap_at cs k)) (sym same) (elim (new_or_before old.numbers new.numbers id number updates i k at) as (λ _. IsHoledCap rules true (tree_at pool i) (cap_at old.shared k)) [
        | inl before ↦ h.cap i k before
        | inr now ↦ subst (λ z. IsHoledCap rules true (tree_at pool z) (cap_at old.shared k)) now.0 (subst (λ z. IsHoledCap rules true (tree_at pool id) (cap_at old.shared z)) now.1 cap)
      ]);
    }

    pub caps_noted : {E : Type 0} (result : Result ℕ E) → OnOk result (Updates nat_eq old.numbers new.numbers id (Some number)) → AreCaps rules pool old → id < length pool → number < length old.shared
        → IsHoledCap rules true (tree_at pool id) (cap_at old.shared number) → OnOk result (AreCaps rules pool new)
    caps_noted (Ok k) updates h below there cap = one_more_numbered h below there cap updates
    caps_noted (Err e) updates h below there cap = tt

    pub number_noted : {E : Type 0} (result : Result ℕ E) → IfOk result (λ k. k ≡ number) → OnOk result (Updates nat_eq old.numbers new.numbers id (Some number)) → IfOk result (λ k. get nat_eq new.numbers id ≡ Some k)
    number_noted (Ok k) is updates = updates.1 ∙ ap (λ z. Some z) (sym is)
    number_noted (Err e) is updates = tt

    pub still_noted : {E : Type 0} (first : CapMarks) (result : Result ℕ E) → OnOk result (Updates nat_eq old.numbers new.numbers id (Some number)) → ((i : ℕ) → HasCap first i → HasCap old i)
        → OnOk result ((i : ℕ) → HasCap first i → HasCap new i)
    still_noted first (Ok k) updates still = λ i h. is_still_there old.numbers new.numbers id number updates i (still i h)
    still_noted first (Err e) updates still = tt

    pub caps_kept : {E : Type 0} (first : List HoledTree) (result : Result ℕ E) → KeepsCaps first old.shared → OnOk result (KeepsCaps first new.shared)
    caps_kept first (Ok k) kept = subst (KeepsCaps first) (sym same) kept
    caps_kept first (Err e) kept = tt

  -- the cap of a variable
  pub own_cap : (id k : ℕ) (node : CapNode) (old new : List HoledTree) → (v : ℕ) × (tree_at pool id ≡ var v) × (node ≡ Own v) → cap_at new k ≡ node_cap old node → IsHoledCap rules true (tree_at pool id) (cap_at new k)
  own_cap id k node old new (v, is, node_is) cap =
      let here : cap_at new k ≡ own v = cap ∙ ap (node_cap old) node_is in
      rw (is, here) (fixed_variable refl)

pub own_over : (pool : List Tree) (id n : ℕ) (node : CapNode) → (v : ℕ) × (tree_at pool id ≡ var v) × (node ≡ Own v) → IsOver n node
own_over pool id n node (v, is, node_is) = rw node_is tt

-- ---- arguments by their places

count_items : (ts : Trees) → length (items ts) ≡ count ts
count_items nil = refl
count_items (cons t ts) = omega (arith, count_items ts)

module _ (pool : List Tree) (id i : ℕ) (found : Option ℕ) (at : option_map (tree_at pool) found ≡ argument_at (tree_at pool id) (i + 1))
    (f : ℕ) (ts : Trees) (term : tree_at pool id ≡ app f ts) where
  item_at : option_map (tree_at pool) found ≡ slice_get (items ts) i
  item_at =
      let argument : argument_at (app f ts) (i + 1) ≡ slice_get (items ts) i = rw add-one refl in
      at ∙ (ap (λ t. argument_at t (i + 1)) term ∙ argument)

  pub no_more_items : (ids : List ℕ) → found ≡ None → map (tree_at pool) ids ≡ take i (items ts) → map (tree_at pool) ids ≡ items ts
  no_more_items ids none so_far =
      let gone : None ≡ slice_get (items ts) i = subst (λ o. option_map (tree_at pool) o ≡ slice_get (items ts) i) none item_at in
      so_far ∙ take_all i (items ts) (none_from (items ts) i gone)

  pub one_more_item : (ids more : List ℕ) (k : ℕ) → found ≡ Some k → map (tree_at pool) ids ≡ take i (items ts) → more ≡ ids ++ k ∷ [] → map (tree_at pool) more ≡ take (i + 1) (items ts)
  one_more_item ids more k some so_far made =
      let there : slice_get (items ts) i ≡ Some (tree_at pool k) = sym (subst (λ o. option_map (tree_at pool) o ≡ slice_get (items ts) i) some item_at) in
      let longer = take_item (items ts) i (tree_at pool k) there in
      rw made (map-append (tree_at pool) ids (k ∷ []) ∙ (ap (λ xs. xs ++ tree_at pool k ∷ []) so_far ∙ sym longer))

pub all_items : (pool : List Tree) (t : Tree) (f : ℕ) (ts : Trees) (ids : List ℕ) (i : ℕ) → 255 ≤ i → IsNarrow t → t ≡ app f ts → map (tree_at pool) ids ≡ take i (items ts) → map (tree_at pool) ids ≡ items ts
all_items pool t f ts ids i end narrow is so_far =
    let few = (subst IsNarrow is narrow).0 in
    so_far ∙ take_all i (items ts) (omega (arith, count_items ts, few, end))

pub no_symbol : (pool : List Tree) (id : ℕ) → IsVariable (tree_at pool id) → (f : ℕ) (ts : Trees) → tree_at pool id ≡ app f ts → ⊥
no_symbol pool id (v, is) f ts other = let wrong : var v ≡ app f ts = sym is ∙ other in absurd cc
