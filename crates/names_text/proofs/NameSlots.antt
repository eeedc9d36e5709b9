-- Names that are found by slots, and by trees where other names have the slots.
use Rattle.std.proofs.Common.{◌≡◌, ◌≢◌, ◌⊎◌, inl, inr, ⊎_elim, ℕ, zero, suc, ◌+◌, Bool, true, false, cond, List, [], ◌∷◌, ◌++◌, Option, Some, None, ◌^◌, slice_get, refl, ap, ap₂, sym, subst, ◌∙◌, ◌<◌, length, length-append, length-set, replicate, set, take, take-suc, add-one, get_or, Vec, Global, arith}
use native.Mathlib.Decide.{ℕ_discrete}
use Rattle.std.specs.Str.{bytes_eq}
use Rattle.std.specs.Option.{option_or, option_and_then}
use Rattle.std.specs.Ordering.{nat_cmp}
use Rattle.std.specs.BTreeMap.{get}
use Rattle.std.proofs.lemmas.Bool.{false_from_ne_true}
use Rattle.std.proofs.lemmas.Option.{slice_get_past, slice_get_within, same_Some}
use Rattle.std.proofs.lemmas.Slice.Eq.{bytes_eq-Decides}
use Rattle.names_text.specs.Names.{number_among}
use Rattle.names_text.specs.NameTable.{hash_of, second_hash_of, IsTrueOf, own_number, number_by_trees, AreWithin, HaveMore, free, slot_of, slot_for, number_by_slot, number_behind_slot, number_by_index, IsNumber, IsIndex, IsNameTable}
use Rattle.names_text.specs.declared.index.Index.{Index}
use Rattle.names_text.specs.declared.trees.NameTrees.{NameTrees}
use Rattle.names_text.proofs.NameLists.{absent, distinct_last, number_behind}
use Rattle.names_text.proofs.NameKeys.{number_if, still_there, last_there, found_stays, or_nothing}

-- ---- slots of no names

all_free : (n k i : ℕ) → slice_get (replicate n free) k ≡ Some i → i ≡ free
all_free zero k i e = absurd cc
all_free (suc n) zero i e = sym (same_Some free i e)
all_free (suc n) (suc k) i e = all_free n k i e

no_number : (slot others : Option ℕ) (q : List ℕ) → others ≡ None → number_by_slot [] slot others q ≡ None
no_number None others q e = e
no_number (Some i) others q e = refl

-- the index of no names: slots that are all free, and trees with no names
pub no_names : (index : Index) (n : ℕ) → index.slots.items ≡ replicate n free → AreWithin [] index.trees
    → ((q : List ℕ) → number_by_trees [] index.trees q ≡ None) → IsIndex [] index
no_names index n e within none = record {
  slots = λ k i there. inl (all_free n k i (ap (λ s. slice_get s k) (sym e) ∙ there));
  within = within;
  true_of = λ q. inl (none q);
  found = λ q. no_number _ _ q (no_number _ _ q (none q));
}

-- an index whose trees say what they said before
pub same_trees : (ns : List (List ℕ)) (index : Index) (trees : NameTrees) → IsIndex ns index → AreWithin ns trees
    → ((q : List ℕ) → number_by_trees ns trees q ≡ number_by_trees ns index.trees q) → IsIndex ns (record { slots = index.slots; trees = trees })
same_trees ns index trees is within same = record {
  slots = is.slots;
  within = within;
  true_of = λ q. subst (IsTrueOf ns q) (sym (same q)) (is.true_of q);
  found = λ q. ap (λ o. number_by_slot ns (slot_for index (hash_of q)) (number_by_slot ns (slot_for index (second_hash_of q)) o q) q) (same q) ∙ is.found q;
}

-- ---- what is said of a name

-- what is said of names before stays true
true_still : (l a m : Option ℕ) → (l ≡ None) ⊎ (l ≡ a) → (l ≡ None) ⊎ (l ≡ option_or a m)
true_still l a m (inl e) = inl e
true_still l None m (inr e) = inl e
true_still l (Some i) m (inr e) = inr e

true_more : (l a m : Option ℕ) → (l ≡ None) ⊎ (l ≡ a) → (m ≡ None) ⊎ (a ≡ None) → (option_or l m ≡ None) ⊎ (option_or l m ≡ option_or a m)
true_more l a m (inr e) h = inr (ap (λ x. option_or x m) e)
true_more l a m (inl e) (inl h) = inl (ap₂ option_or e h)
true_more l a m (inl e) (inr h) = inr (ap (λ x. option_or x m) (e ∙ sym h))

-- a number that was said is said still
abbrev Keeps : Option ℕ → Option ℕ → Type 0
Keeps said later = (said ≡ None) ⊎ (later ≡ said)

keeps_by : (a b a' b' : Option ℕ) → a ≡ b → a' ≡ b' → Keeps b b' → Keeps a a'
keeps_by a b a' b' e f (inl k) = inl (e ∙ k)
keeps_by a b a' b' e f (inr k) = inr (f ∙ k ∙ sym e)

keeps_more : (l m : Option ℕ) → Keeps l (option_or l m)
keeps_more None m = inl refl
keeps_more (Some i) m = inr refl

-- ---- what a slot says of a name

module _ (names : List (List ℕ)) where
  abbrev IsFreeOrNumber : ℕ → Type 0
  IsFreeOrNumber i = (i ≡ free) ⊎ IsNumber names i

  by_name : (i : ℕ) (n q : List ℕ) (others : Option ℕ) → slice_get names i ≡ Some n → number_by_slot names (Some i) others q ≡ cond (bytes_eq n q) (Some i) others
  by_name i n q others there = ap (option_and_then (λ n. cond (bytes_eq n q) (Some i) others)) there

  by_free : (i : ℕ) (q : List ℕ) (others : Option ℕ) → length names < free + 1 → i ≡ free → number_by_slot names (Some i) others q ≡ None
  by_free i q others small e =
      ap (option_and_then (λ n. cond (bytes_eq n q) (Some i) others)) (slice_get_past names i (omega (arith, small, e)))

  module _ (small : length names < free + 1) (q : List ℕ) where
    true_name : (i : ℕ) (n : List ℕ) (b : Bool) (others : Option ℕ) → bytes_eq n q ≡ b → number_among names n ≡ Some i → IsTrueOf names q others
        → IsTrueOf names q (cond b (Some i) others)
    true_name i n true others e is t = inr (sym is ∙ ap (number_among names) ((bytes_eq-Decides n q).0 e))
    true_name i n false others e is t = t

    true_number : (i : ℕ) (others : Option ℕ) → IsFreeOrNumber i → IsTrueOf names q others → IsTrueOf names q (number_by_slot names (Some i) others q)
    true_number i others (inl e) t = inl (by_free i q others small e)
    true_number i others (inr (n, there, is)) t = rw (by_name i n q others there) (true_name i n (bytes_eq n q) others refl is t)

    true_slot : (slot others : Option ℕ) → ((i : ℕ) → slot ≡ Some i → IsFreeOrNumber i) → IsTrueOf names q others → IsTrueOf names q (number_by_slot names slot others q)
    true_slot None others is t = t
    true_slot (Some i) others is t = true_number i others (is i refl) t

-- ---- set slots

set_same : (slots : List ℕ) (s n : ℕ) → s < length slots → slice_get (set slots s n) s ≡ Some n
set_same [] s n lt = absurd (omega arith)
set_same (x ∷ slots) zero n lt = refl
set_same (x ∷ slots) (suc s) n lt = set_same slots s n (omega arith)

set_other : (slots : List ℕ) (s n k : ℕ) → k ≢ s → slice_get (set slots s n) k ≡ slice_get slots k
set_other [] s n k ne = refl
set_other (x ∷ slots) zero n zero ne = absurd (ne refl)
set_other (x ∷ slots) zero n (suc k) ne = refl
set_other (x ∷ slots) (suc s) n zero ne = refl
set_other (x ∷ slots) (suc s) n (suc k) ne = set_other slots s n k (λ e. ne (ap suc e))

-- ---- one more name

module _ (ns : List (List ℕ)) (name : List ℕ) (small : length ns < free) where
  abbrev all : List (List ℕ)
  all = ns ++ name ∷ []

  all_small : length all < free + 1
  all_small = omega (arith, small, length-append ns (name ∷ []))

  ns_small : length ns < free + 1
  ns_small = omega (arith, small)

  -- a slot stays as it is, or was free and gets the name
  abbrev Changes : Option ℕ → Option ℕ → Type 0
  Changes slot later = (later ≡ slot) ⊎ ((slot ≡ Some free) × (later ≡ Some (length ns)))

  still_number : (i : ℕ) → IsFreeOrNumber ns i → IsFreeOrNumber all i
  still_number i (inl e) = inl e
  still_number i (inr (n, there, is)) =
      inr (n, still_there ns name i (slice_get_within ns i n there) ∙ there, number_behind ns name n ∙ ap (λ m. option_or m (number_if name n (length ns))) is)

  module _ (q : List ℕ) where
    kept_name : (i : ℕ) (b : Bool) (others later : Option ℕ) → Keeps others later → Keeps (cond b (Some i) others) (cond b (Some i) later)
    kept_name i true others later k = inr refl
    kept_name i false others later k = k

    kept_number : (i : ℕ) (others later : Option ℕ) → IsFreeOrNumber ns i → Keeps others later
        → Keeps (number_by_slot ns (Some i) others q) (number_by_slot all (Some i) later q)
    kept_number i others later (inl e) k = inl (by_free ns i q others ns_small e)
    kept_number i others later (inr (n, there, is)) k =
        keeps_by _ _ _ _ (by_name ns i n q others there)
        (by_name all i n q later (still_there ns name i (slice_get_within ns i n there) ∙ there))
        (kept_name i (bytes_eq n q) others later k)

    kept_slot : (slot others later : Option ℕ) → ((i : ℕ) → slot ≡ Some i → IsFreeOrNumber ns i) → Keeps others later
        → Keeps (number_by_slot ns slot others q) (number_by_slot all slot later q)
    kept_slot None others later is k = k
    kept_slot (Some i) others later is k = kept_number i others later (is i refl) k

    -- what was said by a slot is said by what it becomes
    kept : (slot slot' others later : Option ℕ) → ((i : ℕ) → slot ≡ Some i → IsFreeOrNumber ns i) → Changes slot slot' → Keeps others later
        → Keeps (number_by_slot ns slot others q) (number_by_slot all slot' later q)
    kept slot slot' others later is (inl e) k =
        keeps_by _ _ _ _ refl (ap (λ x. number_by_slot all x later q) e) (kept_slot slot others later is k)
    kept slot slot' others later is (inr (empty, gets)) k =
        inl (ap (λ x. number_by_slot ns x others q) empty ∙ by_free ns free q others ns_small refl)

  module _ (fresh : number_among ns name ≡ None) where
    itself : bytes_eq name name ≡ true
    itself = (bytes_eq-Decides name name).1 refl

    last_number : number_among all name ≡ Some (length ns)
    last_number = number_behind ns name name ∙ ap₂ (λ m b. option_or m (cond b (Some (length ns)) None)) fresh itself

    -- the slot that the name gets
    own_slot : (others : Option ℕ) → number_by_slot all (Some (length ns)) others name ≡ Some (length ns)
    own_slot others = by_name all (length ns) name name others (last_there ns name) ∙ ap (λ b. cond b (Some (length ns)) others) itself

    other_name : (n : List ℕ) (i : ℕ) → number_among ns n ≡ Some i → bytes_eq n name ≡ false
    other_name n i is = false_from_ne_true (bytes_eq n name)
        (λ t. let same = (bytes_eq-Decides n name).0 t in let none = ap (number_among ns) same ∙ fresh in absurd cc)

    passed_number : (i : ℕ) (others : Option ℕ) → IsFreeOrNumber ns i → (i ≡ free → ⊥) → number_by_slot all (Some i) others name ≡ others
    passed_number i others (inl e) taken = absurd (taken e)
    passed_number i others (inr (n, there, is)) taken =
        by_name all i n name others (still_there ns name i (slice_get_within ns i n there) ∙ there)
        ∙ ap (λ b. cond b (Some i) others) (other_name n i is)

    -- a slot that another name has
    passed : (slot others : Option ℕ) → ((i : ℕ) → slot ≡ Some i → IsFreeOrNumber ns i) → (slot ≡ Some free → ⊥) → number_by_slot all slot others name ≡ others
    passed None others is taken = refl
    passed (Some i) others is taken = passed_number i others (is i refl) (λ e. taken (ap (λ x. Some x) e))

    more_or_new : (q : List ℕ) (b : Bool) → bytes_eq q name ≡ b → (number_if name q (length ns) ≡ None) ⊎ (number_among ns q ≡ None)
    more_or_new q true e = inr (ap (number_among ns) ((bytes_eq-Decides q name).0 e) ∙ fresh)
    more_or_new q false e = inl (ap (λ b. cond b (Some (length ns)) None) e)

    module _ (old : Index) (is : IsIndex ns old) where
      -- what the trees said is said still
      trees_still : (q : List ℕ) → number_by_trees all old.trees q ≡ number_by_trees ns old.trees q
      trees_still q = found_stays ns name q (own_number old.trees.others q) (get nat_cmp old.trees.first (second_hash_of q)) (is.within (second_hash_of q))

      -- a new name is not in the trees
      pub new_to_trees : number_by_trees ns old.trees name ≡ None
      new_to_trees = ⊎_elim (λ (none : number_by_trees ns old.trees name ≡ None). none)
          (λ (same : number_by_trees ns old.trees name ≡ number_among ns name). same ∙ fresh) (is.true_of name)

      -- an index that has the name too
      module _ (new : Index) (count : length new.slots.items ≡ length old.slots.items)
          (changes : (k : ℕ) → Changes (slice_get old.slots.items k) (slice_get new.slots.items k)) where
        number_of : (k i : ℕ) → Changes (slice_get old.slots.items k) (slice_get new.slots.items k) → slice_get new.slots.items k ≡ Some i → IsFreeOrNumber all i
        number_of k i (inl e) there = still_number i (is.slots k i (sym e ∙ there))
        number_of k i (inr (empty, gets)) there =
            subst (λ i. IsFreeOrNumber all i) (same_Some (length ns) i (sym gets ∙ there)) (inr (name, last_there ns name, last_number))

        changes_for : (hash : ℕ) → Changes (slot_for old hash) (slot_for new hash)
        changes_for hash = subst (λ l. Changes (slot_for old hash) (slice_get new.slots.items (slot_of l hash))) (sym count) (changes (slot_of (length old.slots.items) hash))

        numbers : (hash i : ℕ) → slot_for new hash ≡ Some i → IsFreeOrNumber all i
        numbers hash i there = number_of (slot_of (length new.slots.items) hash) i (changes (slot_of (length new.slots.items) hash)) there

        numbers_before : (hash i : ℕ) → slot_for old hash ≡ Some i → IsFreeOrNumber ns i
        numbers_before hash i there = is.slots (slot_of (length old.slots.items) hash) i there

        -- a slot that another name had
        passed_for : (hash : ℕ) (others : Option ℕ) → (slot_for old hash ≡ Some free → ⊥) → number_by_slot all (slot_for new hash) others name ≡ others
        passed_for hash others taken = ⊎_elim
            (λ (same : slot_for new hash ≡ slot_for old hash).
            ap (λ x. number_by_slot all x others name) same ∙ passed (slot_for old hash) others (numbers_before hash) taken)
            (λ (gets : (slot_for old hash ≡ Some free) × (slot_for new hash ≡ Some (length ns))). absurd (taken gets.0))
            (changes_for hash)

        kept_all : (q : List ℕ) → Keeps (number_by_trees ns old.trees q) (number_by_trees all new.trees q) → Keeps (number_by_index ns old q) (number_by_index all new q)
        kept_all q trees =
            kept q (slot_for old (hash_of q)) (slot_for new (hash_of q)) _ _ (numbers_before (hash_of q)) (changes_for (hash_of q))
            (kept q (slot_for old (second_hash_of q)) (slot_for new (second_hash_of q)) _ _ (numbers_before (second_hash_of q)) (changes_for (second_hash_of q)) trees)

        true_all : (q : List ℕ) → IsTrueOf all q (number_by_trees all new.trees q) → IsTrueOf all q (number_by_index all new q)
        true_all q t = true_slot all all_small q _ _ (numbers (hash_of q)) (true_slot all all_small q _ _ (numbers (second_hash_of q)) t)

        settled : (q : List ℕ) → number_among all q ≡ number_among ns q → Keeps (number_by_index ns old q) (number_by_index all new q)
            → IsTrueOf all q (number_by_index all new q) → number_by_index all new q ≡ number_among all q
        settled q same (inr k) t = k ∙ is.found q ∙ sym same
        settled q same (inl k) (inr t) = t
        settled q same (inl k) (inl t) = t ∙ sym k ∙ is.found q ∙ sym same

        with_more : AreWithin all new.trees → ((q : List ℕ) → IsTrueOf all q (number_by_trees all new.trees q))
            → ((q : List ℕ) → Keeps (number_by_trees ns old.trees q) (number_by_trees all new.trees q))
            → number_by_index all new name ≡ Some (length ns) → IsIndex all new
        with_more within true_of trees own = record {
          slots = λ k i there. number_of k i (changes k) there;
          within = within;
          true_of = true_of;
          found = λ q. found_by q (bytes_eq q name) refl;
        }
          where
            found_by : (q : List ℕ) (b : Bool) → bytes_eq q name ≡ b → number_by_index all new q ≡ number_among all q
            found_by q true e =
                let same = (bytes_eq-Decides q name).0 e in
                ap (number_by_index all new) same ∙ own ∙ sym last_number ∙ ap (number_among all) (sym same)
            found_by q false e =
                settled q (number_behind ns name q ∙ ap (λ b. option_or (number_among ns q) (cond b (Some (length ns)) None)) e ∙ or_nothing (number_among ns q))
                (kept_all q (trees q)) (true_all q (true_of q))

      -- behind a name that gets a slot
      module _ (slots : Vec ℕ Global) (s n : ℕ) (count : length ns ≡ n) (empty : slice_get old.slots.items s ≡ Some free) (put : slots.items ≡ set old.slots.items s n) where
        abbrev new : Index
        new = record { slots = slots; trees = old.trees }

        count_set : length slots.items ≡ length old.slots.items
        count_set = ap length put ∙ length-set old.slots.items s n

        gets : slice_get slots.items s ≡ Some (length ns)
        gets = ap (λ l. slice_get l s) put ∙ set_same old.slots.items s n (slice_get_within old.slots.items s free empty) ∙ ap (λ x. Some x) (sym count)

        change : (k : ℕ) → Dec (k ≡ s) → Changes (slice_get old.slots.items k) (slice_get slots.items k)
        change k (yes e) = inr (ap (slice_get old.slots.items) e ∙ empty, ap (slice_get slots.items) e ∙ gets)
        change k (no ne) = inl (ap (λ l. slice_get l k) put ∙ set_other old.slots.items s n k ne)

        gets_for : (hash : ℕ) → s ≡ slot_of (length old.slots.items) hash → slot_for new hash ≡ Some (length ns)
        gets_for hash own = ap (λ l. slice_get slots.items (slot_of l hash)) count_set ∙ ap (slice_get slots.items) (sym own) ∙ gets

        changed : (k : ℕ) → Changes (slice_get old.slots.items k) (slice_get slots.items k)
        changed k = change k (ℕ_discrete k s)

        in_one : number_by_index all new name ≡ Some (length ns) → IsIndex all new
        in_one =
            with_more new count_set changed (λ hash i there. omega (arith, length-append ns (name ∷ []), is.within hash i there))
            (λ q. rw (trees_still q, number_behind ns name q) (true_still _ _ (number_if name q (length ns)) (is.true_of q)))
            (λ q. inr (trees_still q))

        pub in_first : s ≡ slot_of (length old.slots.items) (hash_of name) → IsIndex all new
        in_first own = in_one (ap (λ x. number_by_slot all x (number_behind_slot all new name) name) (gets_for (hash_of name) own) ∙ own_slot _)

        pub in_second : s ≡ slot_of (length old.slots.items) (second_hash_of name) → (slot_for old (hash_of name) ≡ Some free → ⊥) → IsIndex all new
        in_second own taken = in_one
            (passed_for new count_set changed (hash_of name) _ taken
            ∙ ap (λ x. number_by_slot all x (number_by_trees all new.trees name) name) (gets_for (second_hash_of name) own) ∙ own_slot _)

      -- behind a name that the trees get
      pub in_trees : (trees : NameTrees) → (slot_for old (hash_of name) ≡ Some free → ⊥) → (slot_for old (second_hash_of name) ≡ Some free → ⊥)
          → HaveMore ns name old.trees trees → IsIndex all (record { slots = old.slots; trees = trees })
      in_trees trees first second have =
          let new : Index = record { slots = old.slots; trees = trees } in
          with_more new refl (λ k. inl refl) have.within
          (λ q. rw (have.found q, number_behind ns name q) (true_more _ _ _ (is.true_of q) (more_or_new q (bytes_eq q name) refl)))
          (λ q. rw (have.found q) (keeps_more (number_by_trees ns old.trees q) _))
          (passed_for new refl (λ k. inl refl) (hash_of name) _ first ∙ passed_for new refl (λ k. inl refl) (second_hash_of name) _ second
          ∙ have.found name ∙ ap₂ (λ m b. option_or m (cond b (Some (length ns)) None)) new_to_trees itself)

-- behind the next of names
pub next_in : (ns : List (List ℕ)) (i : ℕ) (name : List ℕ) (index : Index) → i < length ns → name ≡ get_or ns i []
    → IsIndex (take i ns ++ name ∷ []) index → IsIndex (take (i + 1) ns) index
next_in ns i name index lt e is =
    rw add-one (subst (λ l. IsIndex l index) (ap (λ n. take i ns ++ n ∷ []) e ∙ sym (take-suc ns i [] lt)) is)

-- one more name in a table
pub table_more : (ns : List (List ℕ)) (name added : List ℕ) (old new : Index) → IsNameTable ns old → length ns + 1 < 2 ^ 32 → number_among ns name ≡ None → added ≡ name
    → IsIndex (ns ++ added ∷ []) new → IsNameTable (ns ++ name ∷ []) new
table_more ns name added old new table room fresh same is = record {
  distinct = distinct_last ns name table.distinct (absent ns name fresh);
  small = omega (arith, length-append ns (name ∷ []), room);
  indexed = subst (λ n. IsIndex (ns ++ n ∷ []) new) same is;
}
