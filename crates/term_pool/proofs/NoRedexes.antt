-- Terms with no redex are those whose list of redexes is empty.
use Rattle.std.proofs.Common.{◌≡◌, ℕ, ◌+◌, inl, inr, List, [], ◌∷◌, ◌++◌, map, length, length-append, refl, sym, ap, ◌∙◌, arith}
use Rattle.std.proofs.lemmas.List.{length-map}
use Rattle.trs_defs.specs.Member.{In, in_first, in_rest}
use Rattle.trs_defs.specs.Tree.{Tree, Trees, var, app, nil, cons}
use Rattle.trs_defs.specs.Substitution.{IsInstance}
use Rattle.trs_defs.specs.System.{RewriteRule}
use Rattle.trs_defs.specs.Path.{PlacedRule}
use Rattle.term_pool.specs.Redex.{IsRedex, HasRedex, SomeHasRedex}
use Rattle.term_pool.specs.Redexes.{AreRootRedexes, AreRedexes, AreRedexesOfAll, Grows, below}
use Rattle.term_pool.proofs.RedexWalk.{nothing_grown}

no_root_redexes : (rules : List RewriteRule) (k : ℕ) (t : Tree) → (IsRedex rules t → ⊥) → AreRootRedexes rules k t []
no_root_redexes [] k t none = refl
no_root_redexes (rule ∷ rules) k t none =
    ([], no_root_redexes rules (k + 1) t (λ r. none (r.0, in_rest r.1, r.2)), inr ((λ is. none (rule, in_first, is)), refl))

mutual
  pub no_redexes : (rules : List RewriteRule) (t : Tree) → (HasRedex rules t → ⊥) → AreRedexes rules t []
  no_redexes rules (var n) none = no_root_redexes rules 0 (var n) none
  no_redexes rules (app f ts) none =
      ([], [], no_root_redexes rules 0 (app f ts) (λ r. none (inl r)), no_redexes_in rules 1 ts (λ r. none (inr r)), refl)

  no_redexes_in : (rules : List RewriteRule) (place : ℕ) (ts : Trees) → (SomeHasRedex rules ts → ⊥) → AreRedexesOfAll rules place ts []
  no_redexes_in rules place nil none = refl
  no_redexes_in rules place (cons t ts) none =
      ([], [], no_redexes rules t (λ r. none (inl r)), no_redexes_in rules (place + 1) ts (λ r. none (inr r)), refl)

-- nothing is added for a term with no redex
pub none_grown : (rules : List RewriteRule) (t : Tree) (place : List ℕ) (old : List PlacedRule) → (HasRedex rules t → ⊥) → Grows place (AreRedexes rules t) old old
none_grown rules t place old none = nothing_grown place (AreRedexes rules t) old (no_redexes rules t none)

both_empty : {X : Type 0} (xs ys zs : List X) → zs ≡ xs ++ ys → zs ≡ [] → (xs ≡ []) × (ys ≡ [])
both_empty [] ys zs is none = (refl, sym is ∙ none)
both_empty (x ∷ xs) ys zs is none = absurd (cc (is, none))

nothing_below : (p : List ℕ) (ss : List PlacedRule) → map (below p) ss ≡ [] → ss ≡ []
nothing_below p [] e = refl
nothing_below p (s ∷ ss) e = absurd cc

root_redex_listed : (rules : List RewriteRule) (k : ℕ) (t : Tree) (ss : List PlacedRule) → AreRootRedexes rules k t ss → ss ≡ [] → (r : RewriteRule) → In r rules → IsInstance r.left t → ⊥
root_redex_listed [] k t ss h none r i is = elim i [ ]
root_redex_listed (rule ∷ rules) k t ss (rest, others, inl c) none r i is = absurd (let e = c.1 in cc (e, none))
root_redex_listed (rule ∷ rules) k t ss (rest, others, inr c) none r i is = go r i is (λ j. root_redex_listed rules (k + 1) t rest others (sym c.1 ∙ none) r j is)
  where
    go : (r : RewriteRule) → In r (rule ∷ rules) → IsInstance r.left t → (In r rules → ⊥) → ⊥
    go r in_first is later = c.0 is
    go r (in_rest j) is later = later j

mutual
  redex_listed : (rules : List RewriteRule) (t : Tree) (ss : List PlacedRule) → AreRedexes rules t ss → ss ≡ [] → HasRedex rules t → ⊥
  redex_listed rules (var n) ss h none r = root_redex_listed rules 0 (var n) ss h none r.0 r.1 r.2
  redex_listed rules (app f ts) ss h none (inl r) = root_redex_listed rules 0 (app f ts) h.0 h.2 (both_empty h.0 h.1 ss h.4 none).0 r.0 r.1 r.2
  redex_listed rules (app f ts) ss h none (inr r) = redex_listed_in rules 1 ts h.1 h.3 (both_empty h.0 h.1 ss h.4 none).1 r

  redex_listed_in : (rules : List RewriteRule) (place : ℕ) (ts : Trees) (ss : List PlacedRule) → AreRedexesOfAll rules place ts ss → ss ≡ [] → SomeHasRedex rules ts → ⊥
  redex_listed_in rules place nil ss h none r = r
  redex_listed_in rules place (cons t ts) ss h none (inl r) =
      redex_listed rules t h.0 h.2 (nothing_below (place ∷ []) h.0 (both_empty (map (below (place ∷ [])) h.0) h.1 ss h.4 none).0) r
  redex_listed_in rules place (cons t ts) ss h none (inr r) =
      redex_listed_in rules (place + 1) ts h.1 h.3 (both_empty (map (below (place ∷ [])) h.0) h.1 ss h.4 none).1 r

empty_list : {X : Type 0} (xs : List X) → length xs ≡ 0 → xs ≡ []
empty_list [] e = refl
empty_list (x ∷ xs) e = absurd (omega (arith, e))

-- a term for which nothing was added has no redex
pub none_listed : (rules : List RewriteRule) (t : Tree) (place : List ℕ) (old new : List PlacedRule) → Grows place (AreRedexes rules t) old new → length new ≡ length old → HasRedex rules t → ⊥
none_listed rules t place old new g same =
    let grown = ap length g.2 in
    let counted = length-append old (map (below place) g.0) in
    let few : length g.0 ≡ 0 = omega (arith, grown, counted, same, length-map g.0 (below place)) in
    redex_listed rules t g.0 g.1 (empty_list g.0 few)
