-- A list of redexes that grows as a term is walked. The arguments are seen by `value`: terms as trees, or ids as their terms.
use Rattle.std.proofs.Common.{◌≡◌, ℕ, ◌+◌, ◌<◌, ◌≤◌, ◌⊎◌, inl, inr, Bool, true, false, cond, List, [], ◌∷◌, ◌++◌, map, length, drop, get_or, take, ◌-◌, All, Some, IsTrue, slice_get, slice_index, length-append, refl, sym, ap, subst, ◌∙◌, append_assoc, zero, suc, arith}
use Rattle.std.proofs.lemmas.List.{drop_all, drop_more, map-append, append-nil, length-map}
use Rattle.std.proofs.lemmas.List.Elements.{All-push}
use Rattle.std.proofs.Math.Seq.{take-append_seam}
use Rattle.trs_defs.specs.Tree.{Tree, Trees, var, app, cons, trees}
use Rattle.trs_defs.specs.Substitution.{IsInstance}
use Rattle.trs_defs.specs.System.{RewriteRule, has_root}
use Rattle.trs_defs.specs.Path.{PlacedRule}
use Rattle.trs_defs.proofs.ArgumentLists.{cell, count_trees}
use Rattle.term_pool.specs.Tried.{IsTried}
use Rattle.term_pool.specs.Numbers.{numbers_where}
use Rattle.term_pool.specs.Roots.{with_root}
use Rattle.term_pool.proofs.RootRules.{AreProper, IsSuch, Matches, such_by, root_of_match}
use Rattle.term_pool.specs.Redexes.{IsNarrow, AreNarrow, AreRootRedexes, AreRedexes, AreRedexesOfAll, Grows, below}

pub grown_by_one : (place : List ℕ) (i : ℕ) (items new rest : List PlacedRule) → new ≡ items ++ record { place = place; rule = i } ∷ []
    → items ++ map (below place) (record { place = []; rule = i } ∷ rest) ≡ new ++ map (below place) rest
grown_by_one place i items new rest grown =
    rw (grown, append-nil place, append_assoc items (record { place = place; rule = i } ∷ []) (map (below place) rest)) refl

pub grown_same : (place : List ℕ) (P : List PlacedRule → Type 0) (old items new : List PlacedRule) → items ≡ new → Grows place P old items → Grows place P old new
grown_same place P old items new e g = subst (λ l. Grows place P old l) e g

pub grown_all : (place : List ℕ) (P : List PlacedRule → Type 0) (old new : List PlacedRule) → Grows place P old (new ++ map (below place) []) → Grows place P old new
grown_all place P old new g = grown_same place P old (new ++ []) new (append-nil new) g

pub nothing_grown : (place : List ℕ) (P : List PlacedRule → Type 0) (old : List PlacedRule) → P [] → Grows place P old old
nothing_grown place P old none = ([], none, sym (append-nil old))

-- the list has those of these rules, by their numbers, of whose left sides t is an instance, at the root
abbrev pub AreMatches : List RewriteRule → Tree → List ℕ → List PlacedRule → Type 0
AreMatches rules t [] ss = ss ≡ []
AreMatches rules t (k ∷ ks) ss =
    (rest : List PlacedRule) × AreMatches rules t ks rest
    × ((IsSuch (Matches t) rules k × (ss ≡ record { place = []; rule = k } ∷ rest)) ⊎ ((IsSuch (Matches t) rules k → ⊥) × (ss ≡ rest)))

-- one more rule was tried
pub rule_tried : (rules : List RewriteRule) (t : Tree) (ks : List ℕ) (i : ℕ) (rule : RewriteRule) → i < length ks → slice_get rules (slice_index ks i) ≡ Some rule
    → (place : List ℕ) (P : List PlacedRule → Type 0) (old items new : List PlacedRule) → IsTried rule.left t (record { place = place; rule = slice_index ks i }) items new
    → ((rest : List PlacedRule) → AreMatches rules t (drop i ks) rest → Grows place P old (items ++ map (below place) rest))
    → (rest : List PlacedRule) → AreMatches rules t (drop (i + 1) ks) rest → Grows place P old (new ++ map (below place) rest)
rule_tried rules t ks i rule within there place P old items new tried before rest left = go tried
  where
    k : ℕ
    k = slice_index ks i

    next : (ss : List PlacedRule) → AreMatches rules t (k ∷ drop (i + 1) ks) ss → Grows place P old (items ++ map (below place) ss)
    next ss h = before ss (rw (drop_more ks i 0 within) h)

    go : IsTried rule.left t (record { place = place; rule = k }) items new → Grows place P old (new ++ map (below place) rest)
    go (inl h) =
        grown_same place P old (items ++ map (below place) (record { place = []; rule = k } ∷ rest)) (new ++ map (below place) rest) (grown_by_one place k items new rest h.1)
        (next (record { place = []; rule = k } ∷ rest) (rest, left, inl ((rule, there, h.0), refl)))
    go (inr h) =
        grown_same place P old (items ++ map (below place) rest) (new ++ map (below place) rest) (ap (λ l. l ++ map (below place) rest) (sym h.1))
        (next rest (rest, left, inr (λ m. h.0 (such_by (Matches t) rules k rule there m), refl)))

-- the rules of another root do not match
root_matches : (all : List RewriteRule) (t : Tree) (f : ℕ) → ((k : ℕ) (r : RewriteRule) → slice_get all k ≡ Some r → IsInstance r.left t → IsTrue (has_root f r.left))
    → (m : ℕ) (rules : List RewriteRule) → ((i k : ℕ) (r : RewriteRule) → k ≡ m + i → slice_get rules i ≡ Some r → slice_get all k ≡ Some r)
    → (ss : List PlacedRule) → AreMatches all t (numbers_where (λ (r : RewriteRule). has_root f r.left) m rules) ss → AreRootRedexes rules m t ss
root_matches all t f rooted m [] at ss h = h
root_matches all t f rooted m (rule ∷ rules) at ss h = go (has_root f rule.left) refl h (λ more g. root_matches all t f rooted (m + 1) rules (λ i k r e read. at (suc i) k r (omega (arith, e)) read) more g)
  where
    there : slice_get all m ≡ Some rule
    there = at zero m rule (omega arith) refl

    rest : List ℕ
    rest = numbers_where (λ (r : RewriteRule). has_root f r.left) (m + 1) rules

    go : (b : Bool) → has_root f rule.left ≡ b → AreMatches all t (cond b (m ∷ rest) rest) ss
        → ((more : List PlacedRule) → AreMatches all t rest more → AreRootRedexes rules (m + 1) t more) → AreRootRedexes (rule ∷ rules) m t ss
    go true same (more, h, either) later = (
      more,
      later more h,
      elim either [
        | inl e ↦ inl (such_by (Matches t) all m rule there e.0, e.1)
        | inr e ↦ inr (λ inst. e.0 (rule, there, inst), e.1)
      ],
    )
    go false other h later = (ss, later ss h, inr (λ inst. (let same : has_root f rule.left ≡ true = rooted m rule there inst in absurd cc), refl))

pub root_redexes : (rules : List RewriteRule) (t : Tree) (f : ℕ) (ts : Trees) → AreProper rules → t ≡ app f ts → (ss : List PlacedRule) → AreMatches rules t (with_root f rules) ss → AreRootRedexes rules 0 t ss
root_redexes rules t f ts proper is ss h =
    root_matches rules t f (root_of_match rules t f ts proper is) 0 rules (λ i k r e read. let same : k ≡ i = omega (arith, e) in rw same read) ss h

pub none_left : (rules : List RewriteRule) (t : Tree) (ks : List ℕ) (i : ℕ) → length ks ≤ i → AreMatches rules t (drop i ks) []
none_left rules t ks i h = rw (drop_all i ks h) refl

-- a variable has no arguments
pub root_alone : (rules : List RewriteRule) (place : List ℕ) (t : Tree) (n : ℕ) (old new : List PlacedRule) → t ≡ var n → Grows place (AreRootRedexes rules 0 t) old new → Grows place (AreRedexes rules t) old new
root_alone rules place t n old new is g =
    let P : Tree → Type 0 = λ u. AreRedexes rules u g.0 in
    let root : AreRootRedexes rules 0 (var n) g.0 = subst (λ u. AreRootRedexes rules 0 u g.0) is g.1 in
    (g.0, subst P (sym is) root, g.2)

pub positive_below : (place new : List ℕ) (i : ℕ) → new ≡ place ++ (i + 1) ∷ [] → All (λ n. 0 < n) place → All (λ n. 0 < n) new
positive_below place new i e h = subst (All (λ n. 0 < n)) (sym e) (All-push (λ n. 0 < n) place (i + 1) h (omega arith))

-- a place that was pushed is taken away again
pub popped : (place pushed given new : List ℕ) (k n : ℕ) → pushed ≡ place ++ k ∷ [] → given ≡ pushed → n ≡ length given → new ≡ take (n - 1) given → new ≡ place
popped place pushed given new k n e same counted is =
    let count : length (place ++ k ∷ []) - 1 ≡ length place = omega (arith, length-append place (k ∷ [])) in
    is ∙ rw (counted, same, e, count, take-append_seam place (k ∷ [])) refl

pub below_below : (p : List ℕ) (k : ℕ) (ss : List PlacedRule) → map (below (p ++ k ∷ [])) ss ≡ map (below p) (map (below (k ∷ [])) ss)
below_below p k [] = refl
below_below p k (s ∷ ss) = rw (append_assoc p (k ∷ []) s.place, below_below p k ss) refl

module _ {X : Type 0} (value : X → Tree) (xs : List X) where
  -- the next argument
  pub next_argument : (i : ℕ) (x : X) → i < length xs → x ≡ get_or xs i x → trees (map value (drop i xs)) ≡ cons (value x) (trees (map value (drop (i + 1) xs)))
  next_argument i x h e = ap (λ ys. trees (map value ys)) (cell xs i x h e)

  pub narrow_next : (i : ℕ) (x : X) → i < length xs → x ≡ get_or xs i x → AreNarrow (trees (map value (drop i xs))) → IsNarrow (value x) × AreNarrow (trees (map value (drop (i + 1) xs)))
  narrow_next i x h e n = rw (next_argument i x h e) at n

  pub narrow_app : (f : ℕ) (t : Tree) → t ≡ app f (trees (map value xs)) → IsNarrow t → (length xs ≤ 255) × AreNarrow (trees (map value xs))
  narrow_app f t is n =
      let h : IsNarrow (app f (trees (map value xs))) = subst IsNarrow is n in
      let count = h.0 in
      (omega (arith, count, count_trees (map value xs), length-map xs value), h.1)

  -- after the root the arguments are left
  pub root_then_arguments : (rules : List RewriteRule) (place : List ℕ) (f : ℕ) (t : Tree) (old new rest : List PlacedRule)
      → t ≡ app f (trees (map value xs)) → Grows place (AreRootRedexes rules 0 t) old new → AreRedexesOfAll rules 1 (trees (map value xs)) rest
      → Grows place (AreRedexes rules t) old (new ++ map (below place) rest)
  root_then_arguments rules place f t old new rest is g h =
      let root : AreRootRedexes rules 0 (app f (trees (map value xs))) g.0 = subst (λ u. AreRootRedexes rules 0 u g.0) is g.1 in
      let all : AreRedexes rules (app f (trees (map value xs))) (g.0 ++ rest) = (g.0, rest, root, h, refl) in (
        g.0 ++ rest,
        subst (λ u. AreRedexes rules u (g.0 ++ rest)) (sym is) all,
        rw (g.2, map-append (below place) g.0 rest, append_assoc old (map (below place) g.0) (map (below place) rest)) refl,
      )

  -- one argument after another
  pub argument_then_rest : (rules : List RewriteRule) (place inner : List ℕ) (i : ℕ) (x : X) (P : List PlacedRule → Type 0) (old new newer rest : List PlacedRule)
      → i < length xs → x ≡ get_or xs i x → inner ≡ place ++ (i + 1) ∷ []
      → ((rest : List PlacedRule) → AreRedexesOfAll rules (i + 1) (trees (map value (drop i xs))) rest → Grows place P old (new ++ map (below place) rest))
      → Grows inner (AreRedexes rules (value x)) new newer → AreRedexesOfAll rules (i + 1 + 1) (trees (map value (drop (i + 1) xs))) rest
      → Grows place P old (newer ++ map (below place) rest)
  argument_then_rest rules place inner i x P old new newer rest within read is before g h =
      let first = map (below ((i + 1) ∷ [])) g.0 in
      let all : AreRedexesOfAll rules (i + 1) (trees (map value (drop i xs))) (first ++ rest) = rw (next_argument i x within read) (g.0, rest, g.1, h, refl) in
      let grown : newer ≡ new ++ map (below place) first = g.2 ∙ rw (is, below_below place (i + 1) g.0) refl in
      let e : new ++ map (below place) (first ++ rest) ≡ newer ++ map (below place) rest =
      rw (grown, map-append (below place) first rest, append_assoc new (map (below place) first) (map (below place) rest)) refl in
      grown_same place P old (new ++ map (below place) (first ++ rest)) (newer ++ map (below place) rest) e (before (first ++ rest) all)

  pub no_argument_left : (rules : List RewriteRule) (i : ℕ) → length xs ≤ i → AreRedexesOfAll rules (i + 1) (trees (map value (drop i xs))) []
  no_argument_left rules i h = rw (drop_all i xs h) refl
