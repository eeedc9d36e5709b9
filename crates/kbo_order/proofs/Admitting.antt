-- Entries with no fault make an admissible order.
use Rattle.std.proofs.Common.{◌≡◌, ◌≢◌, ℕ, ◌+◌, ◌<◌, ◌≤◌, suc, List, [], ◌∷◌, ◌++◌, map, take, length, get_or, All, Option, Some, None, option_map, slice_get, refl, sym, ap, subst, ◌∙◌, arith, Bool, true, false, cond, ◌==◌, add-one}
use native.Mathlib.Decide.{dec_lt, ℕ_discrete}
use Rattle.std.proofs.lemmas.Bool.{eqb-true}
use Rattle.std.proofs.lemmas.List.{map-append, take_all}
use Rattle.std.proofs.lemmas.Option.{slice_get_within, get_or_from_slice_get, slice_get_read}
use Rattle.order_theory.specs.KnuthBendix.{IsAdmissible}
use Rattle.pair_order.specs.Entries.{entry_of}
use Rattle.pair_order.specs.FirstFault.{IsFirstOfEntry}
use Rattle.pair_order.specs.FirstFault as first
use Rattle.pair_order.proofs.Making.{take_next}
use Rattle.kbo_order.specs.declared.entries.KboEntry.{KboEntry}
use Rattle.kbo_order.specs.declared.faults.KboFault.{KboFault}
use Rattle.kbo_order.specs.declared.faults.KboFault.TheVariants.{Twice, ConstantTooLight, TooBig, UnaryNotTop, OutOfMemory}
use Rattle.kbo_order.specs.Table.{symbol_of, arity_of, arity_in, weight_in, rank_in, weight_of, rank_of}
use Rattle.kbo_order.specs.Faults.{IsTopFault, IsOnTop, IsRankedBelow, HasFaultAt, IsFaultless, IsFirstFault, number}

-- where the entry of a symbol stands
pub record Stands (es : List KboEntry) (f : ℕ) (e : KboEntry) : Type 0 where
  pub place : ℕ
  pub there : slice_get es place ≡ Some e
  pub symbol : e.symbol ≡ f

stands : (es : List KboEntry) (f : ℕ) (e : KboEntry) → entry_of symbol_of es f ≡ Some e → Stands es f e
stands [] f e h = absurd cc
stands (d ∷ es) f e h = go (d.symbol == f) refl h (stands es f e)
  where
    behind : Stands es f e → Stands (d ∷ es) f e
    behind s = record { place = suc s.place; there = s.there; symbol = s.symbol }

    go : (b : Bool) → (d.symbol == f) ≡ b → cond b (Some d) (entry_of symbol_of es f) ≡ Some e → (entry_of symbol_of es f ≡ Some e → Stands es f e) → Stands (d ∷ es) f e
    go true t k rest = let same : d ≡ e = cc in record { place = 0; there = k; symbol = sym (ap symbol_of same) ∙ eqb-true d.symbol f t }
    go false t k rest = behind (rest k)

module _ (es : List KboEntry) (h : IsFaultless es) where
  heavy_constant : (f : ℕ) (o : Option KboEntry) → entry_of symbol_of es f ≡ o → option_map arity_of o ≡ Some 0 → 1 ≤ weight_of o
  heavy_constant f None e k = absurd cc
  heavy_constant f (Some d) e k = go (ℕ_discrete d.weight 0)
    where
      go : Dec (d.weight ≡ 0) → 1 ≤ d.weight
      go (yes z) = let s = stands es f d e in let none : d.arity ≡ 0 = cc in
          absurd (h.none s.place (ConstantTooLight d.symbol) (d, s.there, (refl, none, z)))
      go (no n) = omega (arith, n)

  ranked : (f g n : ℕ) (o p : Option KboEntry) → entry_of symbol_of es f ≡ o → entry_of symbol_of es g ≡ p → option_map arity_of o ≡ Some 1 → weight_of o ≡ 0
      → option_map arity_of p ≡ Some n → f ≢ g → rank_of p < rank_of o
  ranked f g n None p e k one z many differ = absurd cc
  ranked f g n (Some d) None e k one z many differ = absurd cc
  ranked f g n (Some d) (Some c) e k one z many differ = go (dec_lt c.rank d.rank)
    where
      s : Stands es f d
      s = stands es f d e

      r : Stands es g c
      r = stands es g c k

      below : IsOnTop es d → c.rank < d.rank
      below top =
          let unary : d.arity ≡ 1 = cc in
          let all : All (IsRankedBelow d) es = top unary z in
          let here : IsRankedBelow d (get_or es r.place c) = all r.place c (slice_get_within es r.place c r.there) in
          (subst (IsRankedBelow d) (get_or_from_slice_get es r.place c c r.there) here) (λ same. differ (sym s.symbol ∙ sym same ∙ r.symbol))

      go : Dec (c.rank < d.rank) → c.rank < d.rank
      go (yes lt) = lt
      go (no nlt) = absurd (h.none_on_top s.place (UnaryNotTop d.symbol) (d, s.there, (refl, λ top. nlt (below top))))

  pub admissible : IsAdmissible (arity_in es) (weight_in es) (rank_in es)
  admissible = record {
    constants_weigh = λ f k. heavy_constant f (entry_of symbol_of es f) refl k;
    on_top = λ f g n one z many differ. ranked f g n (entry_of symbol_of es f) (entry_of symbol_of es g) refl refl one z many differ;
  }

-- the symbols of the entries before a number, and of one more
pub next_symbols : (es : List KboEntry) (i : ℕ) (e : KboEntry) → slice_get es i ≡ Some e → map symbol_of (take (i + 1) es) ≡ map symbol_of (take i es) ++ symbol_of e ∷ []
next_symbols es i e there =
    ap (λ n. map symbol_of (take n es)) (add-one i) ∙ ap (map symbol_of) (take_next es i e there) ∙ map-append symbol_of (take i es) (e ∷ [])

pub top_made : (es : List KboEntry) (i : ℕ) (e : KboEntry) → IsOnTop es e → (fault : KboFault) → IsTopFault es (map symbol_of (take i es)) e fault → ⊥
top_made es i e top (Twice f) is = is
top_made es i e top (ConstantTooLight f) is = is
top_made es i e top (TooBig f) is = is
top_made es i e top (UnaryNotTop f) is = is.1 top
top_made es i e top OutOfMemory is = is

top_least : (es : List KboEntry) (earlier : List ℕ) (e : KboEntry) (other : KboFault) → IsTopFault es earlier e other → 4 ≤ number other
top_least es earlier e (Twice f) is = absurd is
top_least es earlier e (ConstantTooLight f) is = absurd is
top_least es earlier e (TooBig f) is = absurd is
top_least es earlier e (UnaryNotTop f) is = omega arith
top_least es earlier e OutOfMemory is = absurd is

pub first_of_top : (es : List KboEntry) (earlier : List ℕ) (e : KboEntry) → (IsOnTop es e → ⊥) → IsFirstOfEntry (IsTopFault es) number earlier e (UnaryNotTop e.symbol)
first_of_top es earlier e n = record { holds = (refl, n); first = λ other is. top_least es earlier e other is }

pub read_item : (es : List KboEntry) (i : ℕ) (e : KboEntry) → i < length es → e ≡ get_or es i e → slice_get es i ≡ Some e
read_item es i e h is = slice_get_read es (length es) i e refl h is

pub as_first : (es : List KboEntry) (fault : KboFault) → first.IsFirstFault (HasFaultAt es) number fault → IsFirstFault es fault
as_first es (Twice f) h = h
as_first es (ConstantTooLight f) h = h
as_first es (TooBig f) h = h
as_first es (UnaryNotTop f) h = absurd h.holds.2
as_first es OutOfMemory h = h

pub whole_index : (es : List KboEntry) (i : ℕ) (symbols : List ℕ) → length es ≤ i → symbols ≡ map symbol_of (take i es) → symbols ≡ map symbol_of es
whole_index es i symbols le e = e ∙ ap (map symbol_of) (take_all i es le)
