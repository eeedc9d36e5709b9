-- Subterms as they get their numbers, and values of subterms by their numbers.
use Rattle.std.proofs.Common.{◌≡◌, ℕ, ◌+◌, ◌*◌, ◌-◌, ◌<◌, ◌^◌, List, [], ◌∷◌, ◌++◌, map, take, drop, length, min, inl, inr, zero, suc, refl, sym, ap, ap₂, subst, ◌∙◌, Some, slice_get, get_or, add-one, drop-cons}
use Rattle.std.specs.Option.{option_map}
use Rattle.std.proofs.lemmas.List.{map-append, take_more}
use Rattle.std.proofs.lemmas.Option.{slice_get-map, slice_get-get_or, same_Some}
use Rattle.trs_defs.specs.Tree.{Tree, Trees, var, app, nil, cons}
use Rattle.trs_defs.proofs.ListItems.{item_of_more, old_item, last_item}
use Rattle.trs_core.specs.declared.terms.Term.{Term}
use Rattle.trs_core.specs.View.{tree, forest}
use Rattle.poly_lin.specs.declared.listing.Subterm.{Subterm}
use Rattle.poly_lin.specs.Subterms.{term_of, terms, IsNumberOf, Keeps, AreAt, AreOfArguments, itself, AreOverEarlier, value_at_one, HaveOneRoot}
use Rattle.poly_lin.proofs.Saturation.{Partly, added, ended}

pub next_number : (ns : List ℕ) (i : ℕ) → i < length ns → drop i ns ≡ get_or ns i 0 ∷ drop (i + 1) ns
next_number ns i within = rw add-one (drop-cons ns i 0 within)

still_at : (xs ys : List Tree) (ns : List ℕ) (ts : Trees) → ((n : ℕ) (t : Tree) → slice_get xs n ≡ Some t → slice_get ys n ≡ Some t) → AreAt itself xs ns ts → AreAt itself ys ns ts
still_at xs ys [] nil keeps h = tt
still_at xs ys [] (cons t ts) keeps h = absurd h
still_at xs ys (n ∷ ns) nil keeps h = absurd h
still_at xs ys (n ∷ ns) (cons t ts) keeps h = (keeps n t h.0, still_at xs ys ns ts keeps h.1)

more_at : (xs : List Tree) (ns : List ℕ) (us : List Term) (n : ℕ) (u : Term) → AreAt itself xs ns (forest us) → slice_get xs n ≡ Some (tree u) → AreAt itself xs (ns ++ n ∷ []) (forest (us ++ u ∷ []))
more_at xs [] [] n u h is = (is, tt)
more_at xs [] (t ∷ us) n u h is = absurd h
more_at xs (m ∷ ns) [] n u h is = absurd h
more_at xs (m ∷ ns) (t ∷ us) n u h is = (h.0, more_at xs ns us n u h.1 is)

same_at : (xs : List Tree) (ns : List ℕ) (ss ts : Trees) → AreAt itself xs ns ss → AreAt itself xs ns ts → ss ≡ ts
same_at xs [] nil nil h k = refl
same_at xs [] nil (cons t ts) h k = absurd k
same_at xs [] (cons s ss) ts h k = absurd h
same_at xs (n ∷ ns) nil ts h k = absurd h
same_at xs (n ∷ ns) (cons s ss) nil h k = absurd k
same_at xs (n ∷ ns) (cons s ss) (cons t ts) h k = ap₂ cons (same_Some s t (sym h.0 ∙ k.0)) (same_at xs ns ss ts h.1 k.1)

said_at : (said : Tree → ℕ) (xs : List Tree) (ns : List ℕ) (ts : Trees) → AreAt itself xs ns ts → AreAt said (map said xs) ns ts
said_at said xs [] nil h = tt
said_at said xs [] (cons t ts) h = absurd h
said_at said xs (n ∷ ns) nil h = absurd h
said_at said xs (n ∷ ns) (cons t ts) h = (slice_get-map said xs n ∙ ap (option_map said) h.0, said_at said xs ns ts h.1)

-- the first terms
of_first : (i : ℕ) (nodes : List Subterm) (n : ℕ) (t : Tree) → IsNumberOf (take i nodes) n t → IsNumberOf nodes n t
of_first zero nodes n t e = absurd cc
of_first (suc i) [] n t e = absurd cc
of_first (suc i) (m ∷ nodes) zero t e = e
of_first (suc i) (m ∷ nodes) (suc n) t e = of_first i nodes n t e

first_of_more : (i : ℕ) (nodes more : List Subterm) (n : ℕ) (t : Tree) → IsNumberOf (take i nodes) n t → IsNumberOf (take i (nodes ++ more)) n t
first_of_more zero nodes more n t e = absurd cc
first_of_more (suc i) [] more n t e = absurd cc
first_of_more (suc i) (m ∷ nodes) more zero t e = e
first_of_more (suc i) (m ∷ nodes) more (suc n) t e = first_of_more i nodes more n t e

all_first : (nodes more : List Subterm) (n : ℕ) (t : Tree) → IsNumberOf nodes n t → IsNumberOf (take (length nodes) (nodes ++ more)) n t
all_first [] more n t e = absurd cc
all_first (m ∷ nodes) more zero t e = e
all_first (m ∷ nodes) more (suc n) t e = all_first nodes more n t e

pub keeps_more : (nodes : List Subterm) (node : Subterm) → Keeps nodes (nodes ++ node ∷ [])
keeps_more nodes node n t e = ap (λ ts. slice_get ts n) (map-append term_of nodes (node ∷ [])) ∙ old_item (terms nodes) (term_of node) t n e

pub number_there : (nodes : List Subterm) (n : ℕ) (node : Subterm) → slice_get nodes n ≡ Some node → IsNumberOf nodes n (term_of node)
number_there nodes n node e = slice_get-map term_of nodes n ∙ ap (option_map term_of) e

pub number_behind : (nodes : List Subterm) (node : Subterm) → IsNumberOf (nodes ++ node ∷ []) (length nodes) (term_of node)
number_behind nodes node = number_there (nodes ++ node ∷ []) (length nodes) node (last_item nodes node [])

pub earlier_more : (nodes : List Subterm) (node : Subterm) → AreOverEarlier nodes → AreOfArguments itself (terms nodes) node.args.items (term_of node) → AreOverEarlier (nodes ++ node ∷ [])
earlier_more nodes node h own i m e = elim (item_of_more nodes node m i e) as (λ _. AreOfArguments itself (terms (take i (nodes ++ node ∷ []))) m.args.items (term_of m)) [
  | inl k ↦ λ f ts is. still_at (terms (take i nodes)) (terms (take i (nodes ++ node ∷ []))) m.args.items ts (first_of_more i nodes (node ∷ [])) (h i m k f ts is)
  | inr k ↦ rw (k.0, k.1) (λ f ts is. still_at (terms nodes) (terms (take (length nodes) (nodes ++ node ∷ []))) node.args.items ts (all_first nodes (node ∷ [])) (own f ts is))
]

-- terms over equal numbers are equal
same_term : (xs earlier : List Tree) (ns : List ℕ) (s t : Tree) → HaveOneRoot s t → ((n : ℕ) (u : Tree) → slice_get earlier n ≡ Some u → slice_get xs n ≡ Some u)
    → AreOfArguments itself earlier ns s → AreOfArguments itself xs ns t → s ≡ t
same_term xs earlier ns (var x) (var y) root keeps h k = ap var root
same_term xs earlier ns (var x) (app g ts) root keeps h k = absurd root
same_term xs earlier ns (app f ss) (var y) root keeps h k = absurd root
same_term xs earlier ns (app f ss) (app g ts) root keeps h k =
    ap₂ app root (same_at xs ns ss ts (still_at earlier xs ns ss keeps (h f ss refl)) (k g ts refl))

pub found_number : (nodes : List Subterm) (n : ℕ) (node : Subterm) (ns : List ℕ) (t : Tree) → AreOverEarlier nodes → slice_get nodes n ≡ Some node → HaveOneRoot (term_of node) t
    → node.args.items ≡ ns → AreOfArguments itself (terms nodes) ns t → IsNumberOf nodes n t
found_number nodes n node ns t h there root args k =
    let own = subst (λ ms. AreOfArguments itself (terms (take n nodes)) ms (term_of node)) args (h n node there) in
    number_there nodes n node there ∙ ap (λ u. Some u) (same_term (terms nodes) (terms (take n nodes)) ns (term_of node) t root (of_first n nodes) own k)

-- the first arguments of a term have these numbers
pub record AreNumbered (start now : List Subterm) (args : List Term) (ns : List ℕ) (k : ℕ) : Type 0 where
  pub kept : Keeps start now
  pub numbers : AreAt itself (terms now) ns (forest (take k args))

pub none_numbered : (start : List Subterm) (args : List Term) (ns : List ℕ) → ns ≡ [] → AreNumbered start start args ns 0
none_numbered start args ns e = rw e (record { kept = λ n t h. h; numbers = tt })

pub one_numbered : (start now next : List Subterm) (args : List Term) (ns : List ℕ) (k : ℕ) (arg : Term) (n : ℕ) → k < length args → arg ≡ get_or args k arg
    → AreNumbered start now args ns k → Keeps now next → IsNumberOf next n (tree arg) → AreNumbered start next args (ns ++ n ∷ []) (k + 1)
one_numbered start now next args ns k arg n within is so_far keeps new = record {
  kept = λ m t h. keeps m t (so_far.kept m t h);
  numbers =
      let more : take (k + 1) args ≡ take k args ++ arg ∷ [] = take_more args k arg within ∙ ap (λ a. take k args ++ a ∷ []) (sym is) in
      subst (λ us. AreAt itself (terms next) (ns ++ n ∷ []) (forest us)) (sym more)
      (more_at (terms next) ns (take k args) n arg (still_at (terms now) (terms next) ns (forest (take k args)) keeps so_far.numbers) new);
}

module _ (c : ℕ → ℕ → ℕ) where
  pub value_there : (nodes : List Subterm) (values : List ℕ) (n : ℕ) (t : Tree) → values ≡ map (value_at_one c) (terms nodes) → IsNumberOf nodes n t
      → slice_get values n ≡ Some (value_at_one c t)
  value_there nodes values n t e h = ap (λ vs. slice_get vs n) e ∙ slice_get-map (value_at_one c) (terms nodes) n ∙ ap (option_map (value_at_one c)) h

  -- values of the first nodes are those of the arguments of the next one
  pub values_of_arguments : (nodes : List Subterm) (i : ℕ) (node : Subterm) (values : List ℕ) → AreOverEarlier nodes → i < length nodes → node ≡ get_or nodes i node
      → values ≡ map (value_at_one c) (terms (take i nodes)) → AreOfArguments (value_at_one c) values node.args.items (term_of node)
  values_of_arguments nodes i node values h within is e f ts whole =
      let there : slice_get nodes i ≡ Some node = slice_get-get_or nodes i node within ∙ ap (λ m. Some m) (sym is) in
      subst (λ vs. AreAt (value_at_one c) vs node.args.items ts) (sym e)
      (said_at (value_at_one c) (terms (take i nodes)) node.args.items ts (h i node there f ts whole))

  pub one_more_value : (nodes : List Subterm) (i : ℕ) (node : Subterm) (values : List ℕ) (new : ℕ) → i < length nodes → node ≡ get_or nodes i node
      → values ≡ map (value_at_one c) (terms (take i nodes)) → new ≡ value_at_one c (term_of node) → values ++ new ∷ [] ≡ map (value_at_one c) (terms (take (i + 1) nodes))
  one_more_value nodes i node values new within is e d =
      let more : take (i + 1) nodes ≡ take i nodes ++ node ∷ [] = take_more nodes i node within ∙ ap (λ m. take i nodes ++ m ∷ []) (sym is) in
      let listed : terms (take i nodes ++ node ∷ []) ≡ terms (take i nodes) ++ term_of node ∷ [] = map-append term_of (take i nodes) (node ∷ []) in
      let valued = map-append (value_at_one c) (terms (take i nodes)) (term_of node ∷ []) in
      ap₂ (λ vs v. vs ++ v ∷ []) e d ∙ sym (ap (λ ms. map (value_at_one c) (terms ms)) more ∙ ap (map (value_at_one c)) listed ∙ valued)

  -- what a walk over the numbers of arguments has come to
  abbrev pub Summed : List ℕ → List ℕ → Tree → ℕ → ℕ → Type 0
  Summed values ns t i sum =
      (f : ℕ) (ts : Trees) → t ≡ app f ts → (rest : Trees) × AreAt (value_at_one c) values ns rest × Partly c (λ x. 1) f ts rest i sum

  step : (values : List ℕ) (n : ℕ) (ns : List ℕ) (f : ℕ) (ts rest : Trees) (i sum k v new : ℕ) → k ≡ c f i → ((x : ℕ) → slice_get values n ≡ Some x → v ≡ x)
      → new ≡ min (sum + min (k * v) (2 ^ 64 - 1)) (2 ^ 64 - 1) → AreAt (value_at_one c) values (n ∷ ns) rest → Partly c (λ x. 1) f ts rest i sum
      → (us : Trees) × AreAt (value_at_one c) values ns us × Partly c (λ x. 1) f ts us (i + 1) new
  step values n ns f ts nil i sum k v new is reads e h so_far = absurd h
  step values n ns f ts (cons t us) i sum k v new is reads e h so_far =
      (us, h.1, added c (λ x. 1) f ts t us i sum k is so_far v new (reads (value_at_one c t) h.0) e)

  last : (values : List ℕ) (f : ℕ) (ts rest : Trees) (t : Tree) (i sum : ℕ) → t ≡ app f ts → AreAt (value_at_one c) values [] rest → Partly c (λ x. 1) f ts rest i sum
      → sum ≡ value_at_one c t
  last values f ts nil t i sum is h so_far = ended c (λ x. 1) f ts i sum t is so_far
  last values f ts (cons u us) t i sum is h so_far = absurd h

  pub more_summed : (values : List ℕ) (n : ℕ) (ns : List ℕ) (t : Tree) (i sum : ℕ) (k v new : ℕ) → ((f : ℕ) (ts : Trees) → t ≡ app f ts → k ≡ c f i)
      → ((x : ℕ) → slice_get values n ≡ Some x → v ≡ x) → new ≡ min (sum + min (k * v) (2 ^ 64 - 1)) (2 ^ 64 - 1) → Summed values (n ∷ ns) t i sum → Summed values ns t (i + 1) new
  more_summed values n ns t i sum k v new is reads e h f ts whole =
      let (rest, at, so_far) = h f ts whole in
      step values n ns f ts rest i sum k v new (is f ts whole) reads e at so_far

  pub all_summed : (values : List ℕ) (t : Tree) (f : ℕ) (ts : Trees) (i sum : ℕ) → t ≡ app f ts → Summed values [] t i sum → sum ≡ value_at_one c t
  all_summed values t f ts i sum whole h = let (rest, at, so_far) = h f ts whole in last values f ts rest t i sum whole at so_far
