-- The parts of a term, as they are noted in preorder.
use Rattle.std.specs.Prelude.{Bool}
use Rattle.std.specs.List.{filter}
use Rattle.std.proofs.Common.{All, subst, ◌≡◌, ◌<◌, ◌≤◌, ℕ, ◌+◌, List, [], ◌∷◌, ◌++◌, map, length, drop, get_or, Some, ap, sym, ◌∙◌, append_assoc, append-nil}
use Rattle.std.proofs.lemmas.List.{drop_all, map-append}
use Rattle.std.proofs.lemmas.List.Elements.{All-nil, filter-append}
use Rattle.trs_defs.specs.Tree.{Tree, Trees, app}
use Rattle.trs_defs.specs.Position.{subterm_at}
use Rattle.trs_defs.specs.System.{RewriteRule}
use Rattle.trs_defs.proofs.ArgumentLists.{cell}
use Rattle.trs_core.specs.declared.terms.Term.{Term}
use Rattle.trs_core.specs.View.{tree, forest}
use Rattle.crit_pairs.specs.PeakList.{symbol_places, symbol_places_of_all, spots_at, spots_of}
use Rattle.crit_pairs.specs.Parts.{IsPartIn, place_of_part, has_rule_at, rooted_places}
use Rattle.crit_pairs.specs.declared.parts.Part.{Part}
use Rattle.crit_pairs.proofs.SpotWalk.{below_below, below_root}

-- the places of the arguments of a term at p
abbrev pub places_below : List ℕ → ℕ → Trees → List (List ℕ)
places_below p k ts = map (λ q. p ++ q) (symbol_places_of_all k ts)

-- the term itself comes first
pub itself_first : (test : List ℕ → Bool) (p : List ℕ) (f : ℕ) (ts : Trees) (t : Tree) (old new : List (List ℕ)) → t ≡ app f ts → new ≡ old ++ filter test (p ∷ [])
    → new ++ filter test (places_below p 1 ts) ≡ old ++ filter test (map (λ q. p ++ q) (symbol_places t))
itself_first test p f ts t old new is noted =
    ap (λ ps. ps ++ filter test (places_below p 1 ts)) noted
    ∙ (append_assoc old (filter test (p ∷ [])) (filter test (places_below p 1 ts))
    ∙ (ap (λ z. old ++ z) (sym (filter-append test (p ∷ []) (places_below p 1 ts)))
    ∙ (ap (λ z. old ++ filter test (z ∷ places_below p 1 ts)) (sym (append-nil p))
    ∙ ap (λ u. old ++ filter test (map (λ q. p ++ q) (symbol_places u))) (sym is))))

-- the next argument
pub argument_next : (p q : List ℕ) (ts : List Term) (i : ℕ) (t : Term) → i < length ts → t ≡ get_or ts i t → q ≡ p ++ (i + 1) ∷ []
    → places_below p (i + 1) (forest (drop i ts)) ≡ map (λ u. q ++ u) (symbol_places (tree t)) ++ places_below p (i + 1 + 1) (forest (drop (i + 1) ts))
argument_next p q ts i t h e is =
    let first : List (List ℕ) = map (λ u. (i + 1) ∷ u) (symbol_places (tree t)) in
    let rest : List (List ℕ) = symbol_places_of_all (i + 1 + 1) (forest (drop (i + 1) ts)) in
    ap (λ us. places_below p (i + 1) (forest us)) (cell ts i t h e)
    ∙ (map-append (λ u. p ++ u) first rest
    ∙ ap (λ ps. ps ++ map (λ u. p ++ u) rest) (below_below p (i + 1) (symbol_places (tree t)) ∙ ap (λ z. map (λ u. z ++ u) (symbol_places (tree t))) (sym is)))

pub one_argument_on : (test : List ℕ → Bool) (p q : List ℕ) (ts : List Term) (i : ℕ) (t : Term) (now new whole : List (List ℕ)) → i < length ts → t ≡ get_or ts i t → q ≡ p ++ (i + 1) ∷ []
    → new ≡ now ++ filter test (map (λ u. q ++ u) (symbol_places (tree t))) → now ++ filter test (places_below p (i + 1) (forest (drop i ts))) ≡ whole
    → new ++ filter test (places_below p (i + 1 + 1) (forest (drop (i + 1) ts))) ≡ whole
one_argument_on test p q ts i t now new whole h e is added was =
    let here : List (List ℕ) = map (λ u. q ++ u) (symbol_places (tree t)) in
    let rest : List (List ℕ) = places_below p (i + 1 + 1) (forest (drop (i + 1) ts)) in
    ap (λ z. z ++ filter test rest) added
    ∙ (append_assoc now (filter test here) (filter test rest)
    ∙ (ap (λ z. now ++ z) (sym (filter-append test here rest)) ∙ (ap (λ z. now ++ filter test z) (sym (argument_next p q ts i t h e is)) ∙ was)))

pub no_argument_left : (test : List ℕ → Bool) (p : List ℕ) (ts : List Term) (i : ℕ) (now whole : List (List ℕ)) → length ts ≤ i
    → now ++ filter test (places_below p (i + 1) (forest (drop i ts))) ≡ whole → now ≡ whole
no_argument_left test p ts i now whole h was =
    sym (append-nil now) ∙ (sym (ap (λ us. now ++ filter test (places_below p (i + 1) (forest us))) (drop_all i ts h)) ∙ was)

-- all parts, where none was noted before
pub all_places : (rules : List RewriteRule) (p : List ℕ) (t : Tree) (old new : List Part) → p ≡ [] → old ≡ []
    → (subterm_at p t ≡ Some t → map place_of_part new ≡ map place_of_part old ++ filter (has_rule_at rules t) (map (λ q. p ++ q) (symbol_places t)))
    → map place_of_part new ≡ rooted_places rules t
all_places rules p t old new root none noted =
    let test : List ℕ → Bool = has_rule_at rules t in
    noted (ap (λ q. subterm_at q t) root)
    ∙ (ap (λ ps. map place_of_part ps ++ filter test (map (λ q. p ++ q) (symbol_places t))) none
    ∙ (ap (λ z. filter test (map (λ q. z ++ q) (symbol_places t))) root ∙ ap (filter test) (below_root (symbol_places t))))

pub all_parts : (p : List ℕ) (t : Tree) (old new : List Part) → p ≡ [] → old ≡ [] → (subterm_at p t ≡ Some t → All (IsPartIn t) old → All (IsPartIn t) new) → All (IsPartIn t) new
all_parts p t old new root none noted = noted (ap (λ q. subterm_at q t) root) (subst (All (IsPartIn t)) (sym none) (All-nil (IsPartIn t)))

-- the spots at the next part
pub next_part : (rules : List RewriteRule) (j : ℕ) (parts : List Part) (k : ℕ) (part : Part) → k < length parts → part ≡ get_or parts k part
    → spots_of rules j (map place_of_part (drop k parts)) ≡ spots_at j part.place 0 rules ++ spots_of rules j (map place_of_part (drop (k + 1) parts))
next_part rules j parts k part h e = ap (λ ps. spots_of rules j (map place_of_part ps)) (cell parts k part h e)

pub no_part_left : (rules : List RewriteRule) (j : ℕ) (parts : List Part) (k : ℕ) → length parts ≤ k → spots_of rules j (map place_of_part (drop k parts)) ≡ []
no_part_left rules j parts k h = ap (λ ps. spots_of rules j (map place_of_part ps)) (drop_all k parts h)
