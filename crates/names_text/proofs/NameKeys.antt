-- Names that are found by slots and trees.
use Rattle.std.proofs.Common.{◌≡◌, ℕ, zero, suc, ◌+◌, Bool, true, false, cond, List, [], ◌∷◌, ◌++◌, Option, Some, None, unwrap_or, is_some, map, slice_get, Vec, Global, refl, ap, ap₂, sym, subst, ◌∙◌, ◌<◌, length, length-append, arith}
use Rattle.std.specs.Str.{bytes_eq}
use Rattle.std.specs.Option.{option_or, option_map_or}
use Rattle.std.specs.Ordering.{is_eq, nat_cmp, eq_by_cmp, MatchOrdering}
use Rattle.std.specs.declared.cmp.Ordering.{Ordering}
use Rattle.std.specs.declared.cmp.Ordering.TheVariants.{Less, Equal, Greater}
use Rattle.std.specs.Cmp.Lexicographic.{slice_cmp}
use Rattle.std.specs.BTreeMap.{BTreeMap, get, UpdatesBy, is_at as tested}
use Rattle.std.specs.Map.{KeepsOthers, lookup}
use Rattle.std.proofs.lemmas.Bool.{false_from_ne_true, false≢true}
use Rattle.std.proofs.lemmas.Cmp.{nat_list_eq_equiv, nat_list_cmp_total, nat_cmp_total, eq_by_cmp_equiv, tied_itself, ranked}
use Rattle.std.proofs.lemmas.Map.Text.{is_eq-slice_cmp}
use Rattle.std.proofs.lemmas.Slice.Eq.{bytes_eq-Decides}
use Rattle.names_text.specs.NameTable.{second_hash_of, number_by, own_number, number_by_trees, AreWithin, HaveMore}
use Rattle.names_text.specs.declared.trees.NameTrees.{NameTrees}

-- ---- what is found

pub still_there : (ns : List (List ℕ)) (name : List ℕ) (i : ℕ) → i < length ns → slice_get (ns ++ name ∷ []) i ≡ slice_get ns i
still_there [] name i lt = absurd (omega arith)
still_there (n ∷ ns) name zero lt = refl
still_there (n ∷ ns) name (suc i) lt = still_there ns name i (omega arith)

pub last_there : (ns : List (List ℕ)) (name : List ℕ) → slice_get (ns ++ name ∷ []) (length ns) ≡ Some name
last_there [] name = refl
last_there (n ∷ ns) name = last_there ns name

or_twice : (o p : Option ℕ) → option_or o p ≡ option_or (option_or o None) p
or_twice None p = refl
or_twice (Some i) p = refl

pub or_nothing : (o : Option ℕ) → option_or o None ≡ o
or_nothing None = refl
or_nothing (Some i) = refl

same_number : (a b : ℕ) (r : Ordering) → MatchOrdering r (a < b) (a ≡ b) (b < a) → is_eq r ≡ true → a ≡ b
same_number a b Less h e = absurd cc
same_number a b Equal h e = h
same_number a b Greater h e = absurd cc

-- the number of a name that is put in, for this name alone
abbrev pub number_if : List ℕ → List ℕ → ℕ → Option ℕ
number_if name q n = cond (bytes_eq q name) (Some n) None

module _ (ns : List (List ℕ)) (name q : List ℕ) where
  nothing_more : (m : Option ℕ) → bytes_eq q name ≡ false → m ≡ option_or m (number_if name q (length ns))
  nothing_more m e = sym (ap (λ b. option_or m (cond b (Some (length ns)) None)) e ∙ or_nothing m)

  pub found_stays : (own first : Option ℕ) → ((i : ℕ) → first ≡ Some i → i < length ns) → number_by (ns ++ name ∷ []) own first q ≡ number_by ns own first q
  found_stays own None w = refl
  found_stays own (Some i) w =
      ap (λ s. option_or own (cond (option_map_or (λ n. bytes_eq n q) s false) (Some i) None)) (still_there ns name i (w i refl))

  first_found : (own first : Option ℕ) (b : Bool) → ((i : ℕ) → first ≡ Some i → i < length ns)
      → (b ≡ true → first ≡ None) → (bytes_eq q name ≡ true → b ≡ true)
      → number_by (ns ++ name ∷ []) own (cond b (Some (length ns)) first) q ≡ option_or (number_by ns own first q) (number_if name q (length ns))
  first_found own first true w none same =
      ap (λ b. option_or own (cond b (Some (length ns)) None))
      (ap (λ s. option_map_or (λ n. bytes_eq n q) s false) (last_there ns name) ∙ nat_list_eq_equiv.symm name q)
      ∙ or_twice own (number_if name q (length ns))
      ∙ ap (λ f. option_or (number_by ns own f q) (number_if name q (length ns))) (sym (none refl))
  first_found own first false w none same =
      found_stays own first w ∙ nothing_more (number_by ns own first q) (false_from_ne_true (bytes_eq q name) (λ e. false≢true (same e)))

  -- what is found after a name is put in as the first of its hash
  first_added : (own first more : Option ℕ) → ((i : ℕ) → first ≡ Some i → i < length ns)
      → (second_hash_of name ≡ second_hash_of q → first ≡ None) → more ≡ cond (is_eq (nat_cmp (second_hash_of name) (second_hash_of q))) (Some (length ns)) first
      → number_by (ns ++ name ∷ []) own more q ≡ option_or (number_by ns own first q) (number_if name q (length ns))
  first_added own first more w none e =
      ap (λ f. number_by (ns ++ name ∷ []) own f q) e
      ∙ first_found own first (is_eq (nat_cmp (second_hash_of name) (second_hash_of q))) w
      (λ t. none (same_number (second_hash_of name) (second_hash_of q) _ (ranked (second_hash_of name) (second_hash_of q) _ refl) t))
      (λ t. ap (λ n. is_eq (nat_cmp (second_hash_of name) (second_hash_of n))) ((bytes_eq-Decides q name).0 t) ∙ ap is_eq (tied_itself nat_cmp_total (second_hash_of name)))

  other_found : (own first : Option ℕ) (b : Bool) → bytes_eq name q ≡ b → (name ≡ q → number_by ns own first q ≡ None)
      → ((i : ℕ) → first ≡ Some i → i < length ns)
      → number_by (ns ++ name ∷ []) (cond b (Some (length ns)) own) first q ≡ option_or (number_by ns own first q) (number_if name q (length ns))
  other_found own first true e new w =
      sym (ap₂ (λ m b. option_or m (cond b (Some (length ns)) None)) (new ((bytes_eq-Decides name q).0 e)) (nat_list_eq_equiv.symm q name ∙ e))
  other_found own first false e new w = found_stays own first w ∙ nothing_more (number_by ns own first q) (nat_list_eq_equiv.symm q name ∙ e)

  -- what is found after a name is put in by itself
  other_added : (own first more : Option ℕ) → (name ≡ q → number_by ns own first q ≡ None)
      → ((i : ℕ) → first ≡ Some i → i < length ns) → more ≡ cond (bytes_eq name q) (Some (length ns)) own
      → number_by (ns ++ name ∷ []) more first q ≡ option_or (number_by ns own first q) (number_if name q (length ns))
  other_added own first more new w e =
      ap (λ o. number_by (ns ++ name ∷ []) o first q) e ∙ other_found own first (bytes_eq name q) refl new w

-- ---- the tree of names

abbrev pub Key : Type 0
Key = Vec ℕ Global

abbrev pub texts : List Key → List (List ℕ)
texts ks = map (λ k. k.items) ks

apart : (name q key : List ℕ) → bytes_eq name q ≡ false → is_eq (slice_cmp nat_cmp name key) ≡ true → is_eq (slice_cmp nat_cmp q key) ≡ false
apart name q key n y =
    is_eq-slice_cmp q key ∙ nat_list_eq_equiv.symm q key
    ∙ sym (nat_list_eq_equiv.congr name key q (sym (is_eq-slice_cmp name key) ∙ y)) ∙ n

other_keys : (name q : List ℕ) (old new : List (Key × ℕ))
    → KeepsOthers (eq_by_cmp (λ x y. slice_cmp nat_cmp x.items y.items)) (tested (λ k. slice_cmp nat_cmp name k.items)) old new → bytes_eq name q ≡ false
    → lookup (tested (λ k. slice_cmp nat_cmp q k.items)) new ≡ lookup (tested (λ k. slice_cmp nat_cmp q k.items)) old
unfolding KeepsOthers
other_keys name q old new h n = h _ (λ x y. (eq_by_cmp_equiv nat_list_cmp_total).congr q x.items y.items) (λ k. apart name q k.items n)

own_behind : (name q : List ℕ) (b : Bool) (m n : BTreeMap Key ℕ) (w : Option ℕ) → bytes_eq name q ≡ b
    → UpdatesBy (λ x y. slice_cmp nat_cmp x.items y.items) (λ k. slice_cmp nat_cmp name k.items) m n w → own_number n q ≡ cond b w (own_number m q)
own_behind name q true m n w e h = subst (λ l. own_number n l ≡ w) ((bytes_eq-Decides name q).0 e) h.1
own_behind name q false m n w e h = other_keys name q m.entries n.entries h.3 e

-- the numbers of names after one is put in
pub own_after : (name q : List ℕ) (m n : BTreeMap Key ℕ) (w : Option ℕ) → UpdatesBy (λ x y. slice_cmp nat_cmp x.items y.items) (λ k. slice_cmp nat_cmp name k.items) m n w
    → own_number n q ≡ cond (bytes_eq name q) w (own_number m q)
own_after name q m n w h = own_behind name q (bytes_eq name q) m n w refl h

-- ---- one more name

pub not_there : (o : Option ℕ) (b : Bool) → b ≡ is_some o → b ≡ false → o ≡ None
not_there None b e f = refl
not_there (Some i) b e f = absurd cc

within_more : (b : Bool) (old new : Option ℕ) (n l i : ℕ) → new ≡ cond b (Some n) old → n ≡ l → ((j : ℕ) → old ≡ Some j → j < l) → new ≡ Some i → i < l + 1
within_more true old new n l i f nl h e = omega (arith, ap (λ p. unwrap_or p 0) (sym f ∙ e), nl)
within_more false old new n l i f nl h e = omega (arith, h i (sym f ∙ e))

module _ (ns : List (List ℕ)) (name : List ℕ) (old new : NameTrees) (within : AreWithin ns old) (n : ℕ) (count : length ns ≡ n) where
  -- behind a name that is put in by itself
  pub with_other : (key : List ℕ) → key ≡ name → number_by_trees ns old name ≡ None → new.first ≡ old.first
      → UpdatesBy (λ x y. slice_cmp nat_cmp x.items y.items) (λ k. slice_cmp nat_cmp key k.items) old.others new.others (Some n) → HaveMore ns name old new
  with_other key is none same h = record {
    within = λ hash i e. omega (arith, length-append ns (name ∷ []), within hash i (ap (λ f. get nat_cmp f hash) (sym same) ∙ e));
    found = λ q.
        ap (λ f. number_by (ns ++ name ∷ []) (own_number new.others q) (get nat_cmp f (second_hash_of q)) q) same
        ∙ other_added ns name q (own_number old.others q) (get nat_cmp old.first (second_hash_of q)) (own_number new.others q)
        (λ e. ap (number_by_trees ns old) (sym e) ∙ none) (within (second_hash_of q))
        (own_after key q old.others new.others (Some n) h ∙ ap₂ (λ k m. cond (bytes_eq k q) (Some m) (own_number old.others q)) is (sym count));
  }

  -- behind a name that is put in as the first of its hash
  pub with_first : (hash : ℕ) → hash ≡ second_hash_of name → get nat_cmp old.first hash ≡ None → new.others ≡ old.others
      → UpdatesBy nat_cmp (nat_cmp hash) old.first new.first (Some n) → HaveMore ns name old new
  with_first hash is none same h = record {
    within = λ k i e.
        omega (arith, length-append ns (name ∷ []), within_more (is_eq (nat_cmp hash k)) (get nat_cmp old.first k) (get nat_cmp new.first k) n (length ns) i (h.0 k) (sym count) (within k) e);
    found = λ q.
        ap (λ o. number_by (ns ++ name ∷ []) (own_number o q) (get nat_cmp new.first (second_hash_of q)) q) same
        ∙ first_added ns name q (own_number old.others q) (get nat_cmp old.first (second_hash_of q)) (get nat_cmp new.first (second_hash_of q)) (within (second_hash_of q))
        (λ e. ap (get nat_cmp old.first) (sym e ∙ sym is) ∙ none)
        (h.0 (second_hash_of q) ∙ ap₂ (λ k m. cond (is_eq (nat_cmp k (second_hash_of q))) (Some m) (get nat_cmp old.first (second_hash_of q))) is (sym count));
  }
