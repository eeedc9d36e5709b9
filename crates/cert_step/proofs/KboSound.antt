-- The kind `kbo` is sound.
use Rattle.std.specs.Prelude.{◌≡◌, ℕ, Bool, true, false, List, [], ◌∷◌, Some, option_map, ◌==◌, refl}
use Rattle.std.specs.List.{AllByRecursion}
use Rattle.std.proofs.Common.{cond, ap, subst, arith, ◌∙◌}
use Rattle.std.proofs.lemmas.Bool.{eqb-true}
use Rattle.trs_defs.specs.System.{System}
use Rattle.pair_theory.specs.Over.{IsOver}
use Rattle.order_theory.specs.KnuthBendix.{arity_with_marks}
use Rattle.order_theory.proofs.KnuthPair.{knuth_pair}
use Rattle.kbo_order.specs.pair_order.Entries.{entry_of, has_entry}
use Rattle.kbo_order.specs.declared.entries.KboEntry.{KboEntry}
use Rattle.kbo_order.specs.Table.{symbol_of, arity_of, arity_in, weight_in, rank_in, has_arity}
use Rattle.kbo_order.specs.Laws.{AgreesWith, spoken}
use Rattle.kbo_order.specs.WellMade.{IsKboEntry}
use Rattle.kbo_order.proofs.Admitting.{admissible}
use Rattle.cert_step.specs.Entries.{AreKboEntries}
use Rattle.cert_step.specs.Kind.{IsSound}
use Rattle.cert_step.specs.KboKind.{kbo_comparing, kbo_kind}
use Rattle.cert_step.proofs.OrderSound.{order_sound}

-- the arity of a symbol that has an entry is that of the system
same_arity : (arities : List ℕ) (entries : List KboEntry) → AllByRecursion (IsKboEntry arities) entries → (f n : ℕ) → arity_in entries f ≡ Some n
    → arity_with_marks arities f ≡ Some n
same_arity arities [] made f n h = absurd cc
same_arity arities (e ∷ entries) made f n h = go (e.symbol == f) refl h (λ later. same_arity arities entries made.1 f n later)
  where
    go : (b : Bool) → (e.symbol == f) ≡ b → option_map arity_of (cond b (Some e) (entry_of symbol_of entries f)) ≡ Some n
        → (arity_in entries f ≡ Some n → arity_with_marks arities f ≡ Some n) → arity_with_marks arities f ≡ Some n
    go true is here rest =
        let same : e.arity ≡ n = cc in
        subst (λ g. arity_with_marks arities g ≡ Some n) (eqb-true e.symbol f is) (made.0.0 ∙ ap (λ k. Some k) same)
    go false is later rest = rest later

agrees : (system : System) (entries : List KboEntry) → AreKboEntries system.arities entries → AgreesWith (arity_in entries) system.arities
agrees system entries made =
    let few = made.few in
    record { few = omega (arith, few); same = same_arity system.arities entries made.each }

pub kbo_sound : (entries : List KboEntry) → IsSound (kbo_kind entries)
kbo_sound entries =
    order_sound (kbo_comparing entries) (IsOver (arity_in entries)) (λ arities. AreKboEntries arities entries)
    (λ system valid made. (
      knuth_pair (arity_in entries) (weight_in entries) (rank_in entries) (admissible entries made.faultless),
      spoken (arity_in entries) (has_entry symbol_of entries) (has_arity entries) system.arities (agrees system entries made),
    ))
