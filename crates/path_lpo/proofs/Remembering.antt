-- Comparisons that are remembered stay true.
use Rattle.std.proofs.Common.{◌≡◌, refl, ℕ, List, Option, Some, ap, ap₂, subst, sym, ◌∙◌, slice_get, get_or, replicate, set}
use Rattle.std.specs.Borrow.{Bor}
use Rattle.std.specs.Option.{option_copied}
use Rattle.std.specs.Slice.{IsItemAt}
use Rattle.std.proofs.lemmas.List.Elements.{All-set, All-get_or, All-replicate}
use Rattle.std.proofs.lemmas.Option.{slice_get_within, get_or_from_slice_get}
use Rattle.pair_order.proofs.Placing.{copied_item}
use Rattle.path_lpo.specs.Memo.{IsTrueOf, AreTrueOf, AreAlwaysTrue, StaysTrue, IsKnown, Remembers}
use Rattle.path_lpo.specs.declared.memo.Known.{Known}
use Rattle.path_lpo.specs.declared.comparison.Comparison.{Comparison}
use Rattle.path_lpo.specs.declared.comparison.Comparison.TheVariants.{Same}

abbrev known_as : ℕ → ℕ → Comparison → Known
known_as s t c = record { left = s; right = t; comparison = c }

pub nothing_false : (places : ℕ) (known : List Known) → known ≡ replicate places (known_as 0 0 Same) → AreAlwaysTrue known
nothing_false places known e rank nodes = subst (AreTrueOf rank nodes) (sym e) (All-replicate (IsTrueOf rank nodes) places (known_as 0 0 Same) refl)

pub grown_true : (old new : List Known) → AreAlwaysTrue new → StaysTrue old new
grown_true old new h rank nodes k = h rank nodes

pub found_known : (known ms : List Known) (i : ℕ) (r : Option (Bor Known)) (x : Bor Known) (s t : ℕ) → ms ≡ known → IsItemAt ms i r → r ≡ Some x
    → x.now.left ≡ s → x.now.right ≡ t → IsKnown known s t x.now.comparison
found_known known ms i r x s t e h is left right rank nodes true =
    let there : slice_get known i ≡ Some x.now = sym (copied_item known i r (subst (λ ks. IsItemAt ks i r) e h)) ∙ ap option_copied is in
    let at : get_or known i x.now ≡ x.now = get_or_from_slice_get known i x.now x.now there in
    let same : x.now ≡ known_as s t x.now.comparison = ap₂ (λ a b. known_as a b x.now.comparison) left right in
    subst (IsTrueOf rank nodes) (at ∙ same) (All-get_or (IsTrueOf rank nodes) known i x.now (slice_get_within known i x.now there) true)

pub put_known : (old new : List Known) (i s t : ℕ) (c : Comparison) → new ≡ set old i (known_as s t c) → Remembers old s t c new
put_known old new i s t c e rank nodes true is = subst (AreTrueOf rank nodes) (sym e) (All-set (IsTrueOf rank nodes) old i (known_as s t c) is true)
