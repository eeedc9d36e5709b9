-- Counts by name, as they lie in a map and as clauses see them.
use Rattle.std.proofs.Common.{◌≡◌, ◌≢◌, ◌≤◌, ℕ, List, [], ◌∷◌, String, Global, refl, sym, subst, ⊎_elim, ◌⊎◌, inl, inr, ◌∙◌, arith}
use Rattle.std.specs.BTreeMap.{BTreeMap, get_by_text, is_at}
use Rattle.std.specs.Ordering.{nat_cmp}
use Rattle.std.specs.Cmp.Lexicographic.{slice_cmp}
use Rattle.std.specs.Prelude.{string_bytes}
use Rattle.std.specs.Map.{lookup}
use Rattle.std.specs.Str.{bytes_eq}
use Rattle.std.proofs.lemmas.Map.Text.{is_eq-slice_cmp}
use Rattle.std.proofs.lemmas.Slice.Eq.{bytes_eq-Decides}
use Rattle.std.proofs.lemmas.Bool.{cases_Bool, false≢true}
use Rattle.io_edge.specs.declared.counts.Tally.{Tally}
use Rattle.io_edge.specs.Shelf.{CountsRise}
use Rattle.io_edge.specs.Named.{first_under, by_name}

-- texts are the same, or differ
pub same_or_not : (p q : List ℕ) → (p ≡ q) ⊎ (p ≢ q)
same_or_not p q =
    ⊎_elim (λ e. inl ((bytes_eq-Decides p q).0 e)) (λ e. inr (λ same. false≢true (sym e ∙ (bytes_eq-Decides p q).1 same))) (cases_Bool (bytes_eq p q))

-- a count that rose beside others that stand
pub rises_at : (before now : List ℕ → ℕ) (name : List ℕ) → before name ≤ now name → ((q : List ℕ) → q ≢ name → now q ≡ before q) → CountsRise before now name
rises_at before now name rise others = record {
  later = λ q. ⊎_elim (λ e. subst (λ (p : List ℕ). before p ≤ now p) (sym e) rise) (λ ne. omega (arith, others q ne)) (same_or_not q name);
  others = others;
}

found : {X : Type 0} (q : List ℕ) (es : List (String Global × X)) → first_under (by_name es) q ≡ lookup (is_at (λ k. slice_cmp nat_cmp q (string_bytes k))) es
found q [] = refl
found q (e ∷ es) = rw (is_eq-slice_cmp q (string_bytes e.0), found q es) refl

pub found_by_name : (q : List ℕ) (m : BTreeMap (String Global) Tally) → first_under (by_name m.entries) q ≡ get_by_text m q
found_by_name q m = found q m.entries
