-- The number of a path is that of its text.
use Rattle.std.proofs.Common.{◌≡◌, ℕ, suc, ◌==◌, ◌&&◌, Bool, true, cond, List, [], ◌∷◌, map, Option, Some, option_map, refl, ap, ap₂, subst, ◌∙◌}
use Rattle.std.specs.List.{AllByRecursion}
use Rattle.std.specs.Str.{bytes_eq}
use Rattle.std.proofs.lemmas.Bool.{and_parts, eqb-true, eq-eqb}
use Rattle.std.proofs.lemmas.Slice.Eq.{bytes_eq-Decides}
use Rattle.std.proofs.lemmas.Bool.Decides.{same_from_decides}
use Rattle.trs_defs.specs.Path.{PlacedRule}
use Rattle.names_text.specs.Names.{number_among}
use Rattle.path_text.specs.PathNames.{is_same_path, path_number}
use Rattle.path_text.specs.PathTexts.{path_text, HasTexts}
use Rattle.path_text.specs.Ranges.{IsPlacedInRange}
use Rattle.path_text.proofs.PathAgain.{one_path}

pub same_path : (p q : List PlacedRule) → is_same_path p q ≡ true → p ≡ q
same_path [] [] e = refl
same_path [] (t ∷ q) e = absurd cc
same_path (s ∷ p) [] e = absurd cc
same_path (s ∷ p) (t ∷ q) e =
    let outer = and_parts (bytes_eq s.place t.place && (s.rule == t.rule)) (is_same_path p q) e in
    let inner = and_parts (bytes_eq s.place t.place) (s.rule == t.rule) outer.0 in
    let place : s.place ≡ t.place = (bytes_eq-Decides s.place t.place).0 inner.0 in
    let rule : s.rule ≡ t.rule = eqb-true s.rule t.rule inner.1 in
    let step : s ≡ t = ap₂ (λ (p : List ℕ) (r : ℕ). (let x : PlacedRule = record { place = p; rule = r } in x)) place rule in
    ap₂ (λ (x : PlacedRule) xs. x ∷ xs) step (same_path p q outer.1)

pub is_itself : (p : List PlacedRule) → is_same_path p p ≡ true
is_itself [] = refl
is_itself (s ∷ p) = rw ((bytes_eq-Decides s.place s.place).1 refl, eq-eqb s.rule s.rule refl, is_itself p) refl

pub texts_tell : (p q : List PlacedRule) → AllByRecursion IsPlacedInRange p → AllByRecursion IsPlacedInRange q → bytes_eq (path_text p) (path_text q) ≡ is_same_path p q
texts_tell p q in_p in_q =
    same_from_decides {P = p ≡ q} (bytes_eq (path_text p) (path_text q)) (is_same_path p q)
    ((λ e. one_path p q in_p in_q ((bytes_eq-Decides (path_text p) (path_text q)).0 e)), (λ same. (bytes_eq-Decides (path_text p) (path_text q)).1 (ap path_text same)))
    (same_path p q, (λ same. let T : List PlacedRule → Type 0 = λ r. is_same_path p r ≡ true in subst T same (is_itself p)))

pub number_by_text : (names : List (List PlacedRule)) (p : List PlacedRule) → AllByRecursion (AllByRecursion IsPlacedInRange) names → AllByRecursion IsPlacedInRange p
    → number_among (map path_text names) (path_text p) ≡ path_number names p
number_by_text [] p h k = refl
number_by_text (q ∷ names) p h k =
    ap₂ (λ (b : Bool) (o : Option ℕ). cond b (Some 0) (option_map suc o)) (texts_tell p q k h.0) (number_by_text names p h.1 k)

-- as the table has them
pub number_found : (texts : List (List ℕ)) (paths names : List (List PlacedRule)) (text : List ℕ) (p : List PlacedRule) → HasTexts texts paths → paths ≡ names
    → AllByRecursion IsPlacedInRange p → text ≡ path_text p → number_among texts text ≡ path_number names p
number_found texts paths names text p h is k t =
    ap₂ number_among h.same t ∙ number_by_text paths p h.range k ∙ ap (λ (l : List (List PlacedRule)). path_number l p) is
