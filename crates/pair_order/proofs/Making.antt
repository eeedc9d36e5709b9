-- A table that is made, entry by entry, and its first fault.
use Rattle.std.proofs.Common.{◌≡◌, ℕ, ◌+◌, ◌<◌, ◌≤◌, inl, inr, List, [], ◌∷◌, ◌++◌, map, length, take, Some, slice_get, zero, suc, refl, ap, sym, subst, ◌∙◌, arith, add-one}
use Rattle.std.proofs.lemmas.Bool.{cases_lt}
use Rattle.std.proofs.lemmas.List.{map-append}
use Rattle.std.proofs.lemmas.Option.{slice_get_within}
use Rattle.pair_order.specs.FirstFault.{HasFaultAt, IsFirstOfEntry, IsFirstFault}

pub take_next : {T : Type 0} (xs : List T) (i : ℕ) (x : T) → slice_get xs i ≡ Some x → take (suc i) xs ≡ take i xs ++ x ∷ []
take_next [] i x e = absurd cc
take_next (y ∷ xs) zero x e = let same : y ≡ x = cc in ap (λ z. z ∷ []) same
take_next (y ∷ xs) (suc i) x e = ap (λ zs. y ∷ zs) (take_next xs i x e)

module _ {E F : Type 0} (symbol_of : E → ℕ) (has_fault : List ℕ → E → F → Type 0) (table : List E) where
  -- the symbols of the entries before number i, none of which has a fault
  pub record Made (i : ℕ) (symbols : List ℕ) : Type 0 where
    pub symbols_are : symbols ≡ map symbol_of (take i table)
    pub none_before : (k : ℕ) (fault : F) → k < i → HasFaultAt symbol_of has_fault table k fault → ⊥

  pub made_none : Made 0 []
  made_none = record { symbols_are = refl; none_before = λ k fault h. absurd (omega arith) }

  at_place : (i : ℕ) (symbols : List ℕ) (e : E) (fault : F) → Made i symbols → slice_get table i ≡ Some e
      → HasFaultAt symbol_of has_fault table i fault → has_fault symbols e fault
  at_place i symbols e fault h there (d, found, has) =
      let same : d ≡ e = cc in
      subst (λ z. has_fault symbols z fault) same (subst (λ gs. has_fault gs d fault) (sym h.symbols_are) has)

  pub made_more : (i : ℕ) (symbols next : List ℕ) (e : E) → Made i symbols → slice_get table i ≡ Some e → next ≡ symbols ++ symbol_of e ∷ []
      → ((fault : F) → has_fault symbols e fault → ⊥) → Made (i + 1) next
  made_more i symbols next e h there is none = record {
    symbols_are =
        is ∙ ap (λ gs. gs ++ symbol_of e ∷ []) h.symbols_are ∙ sym (map-append symbol_of (take i table) (e ∷ []))
        ∙ ap (map symbol_of) (sym (take_next table i e there)) ∙ ap (λ n. map symbol_of (take n table)) (sym (add-one i));
    none_before = λ k fault below has. elim (cases_lt k i) [
      | inl less ↦ h.none_before k fault less has
      | inr more ↦ let same : k ≡ i = omega arith in
          none fault (at_place i symbols e fault h there (subst (λ n. HasFaultAt symbol_of has_fault table n fault) same has))
    ];
  }

  pub first_fault : (number : F → ℕ) (i : ℕ) (symbols : List ℕ) (e : E) (fault : F) → Made i symbols → slice_get table i ≡ Some e
      → IsFirstOfEntry has_fault number symbols e fault → IsFirstFault (HasFaultAt symbol_of has_fault table) number fault
  first_fault number i symbols e fault h there is = record {
    place = i;
    holds = (e, there, subst (λ gs. has_fault gs e fault) h.symbols_are is.holds);
    first = λ k other has. elim (cases_lt k i) [
      | inl less ↦ absurd (h.none_before k other less has)
      | inr more ↦ elim (cases_lt i k) [
        | inl less ↦ inl less
        | inr least ↦ let same : k ≡ i = omega arith in
            inr (sym same, is.first other (at_place i symbols e other h there (subst (λ n. HasFaultAt symbol_of has_fault table n other) same has)))
      ]
    ];
  }

  pub no_fault : (i : ℕ) (symbols : List ℕ) → Made i symbols → length table ≤ i → (k : ℕ) (fault : F) → HasFaultAt symbol_of has_fault table k fault → ⊥
  no_fault i symbols h le k fault (e, there, has) =
      let inside = slice_get_within table k e there in
      h.none_before k fault (omega arith) (e, there, has)
