-- Lists of variants have attempts at the same places, with the same rules.
use Rattle.std.specs.Prelude.{◌≡◌, ◌<◌, ℕ, ◌+◌, List, [], ◌∷◌, ◌++◌, map, length, refl}
use Rattle.std.proofs.Common.{suc, ap, ap₂, sym, ◌∙◌, subst, append_assoc, arith}
use Rattle.trs_defs.specs.Tree.{Tree, Trees, var, app, nil, cons}
use Rattle.trs_defs.specs.Substitution.{apply_all}
use Rattle.trs_defs.specs.System.{RewriteRule}
use Rattle.loop_find.specs.crit_pairs.PeakList.{symbol_places, symbol_places_of_all}
use Rattle.loop_find.specs.Closures.{Closure, Attempt, attempts_at, attempts_of, attempts_in}
use Rattle.text_determinism.proofs.Renamed.{named}
use Rattle.text_determinism.proofs.Variants.{AreVariants, same_variant}

mutual
  named_places : (f : ℕ → ℕ) (t : Tree) → symbol_places (named f t) ≡ symbol_places t
  named_places f (var v) = refl
  named_places f (app g ts) = ap (λ ps. [] ∷ ps) (all_named_places f 1 ts)

  all_named_places : (f : ℕ → ℕ) (k : ℕ) (ts : Trees) → symbol_places_of_all k (apply_all (λ v. var (f v)) ts) ≡ symbol_places_of_all k ts
  all_named_places f k nil = refl
  all_named_places f k (cons t ts) =
      ap₂ (λ (ps qs : List (List ℕ)). map (λ p. k ∷ p) ps ++ qs) (named_places f t) (all_named_places f (k + 1) ts)

-- ---- lists of variants

pub data AllVariants : List Closure → List Closure → Type 0 where
  no_variants : AllVariants [] []
  more_variants : {c d : Closure} {cs ds : List Closure} → AreVariants c d → AllVariants cs ds → AllVariants (c ∷ cs) (d ∷ ds)

pub all_joined : {cs ds es fs : List Closure} → AllVariants cs ds → AllVariants es fs → AllVariants (cs ++ es) (ds ++ fs)
all_joined no_variants k = k
all_joined (more_variants v h) k = more_variants v (all_joined h k)

pub all_same : (cs : List Closure) → AllVariants cs cs
all_same [] = no_variants
all_same (c ∷ cs) = more_variants (same_variant c) (all_same cs)

-- ---- attempts at variants

pub record AreAlike (a b : Attempt) : Type 0 where
  pub closures : AreVariants a.closure b.closure
  pub at : a.at ≡ b.at

pub data AllAlike : List Attempt → List Attempt → Type 0 where
  none_alike : AllAlike [] []
  more_alike : {a b : Attempt} {ps qs : List Attempt} → AreAlike a b → AllAlike ps qs → AllAlike (a ∷ ps) (b ∷ qs)

alike_joined : {ps qs ts us : List Attempt} → AllAlike ps qs → AllAlike ts us → AllAlike (ps ++ ts) (qs ++ us)
alike_joined none_alike k = k
alike_joined (more_alike a h) k = more_alike a (alike_joined h k)

pub alike_length : {ps qs : List Attempt} → AllAlike ps qs → length ps ≡ length qs
alike_length none_alike = refl
alike_length (more_alike a h) = ap suc (alike_length h)

module _ (c d : Closure) (v : AreVariants c d) where
  alike_at_place : (p : List ℕ) (k : ℕ) (rules : List RewriteRule) → AllAlike (attempts_at c p k rules) (attempts_at d p k rules)
  alike_at_place p k [] = none_alike
  alike_at_place p k (r ∷ rules) = more_alike (record { closures = v; at = refl }) (alike_at_place p (k + 1) rules)

  alike_at_places : (rules : List RewriteRule) (ps : List (List ℕ)) → AllAlike (attempts_of rules c ps) (attempts_of rules d ps)
  alike_at_places rules [] = none_alike
  alike_at_places rules (p ∷ ps) = alike_joined (alike_at_place p 0 rules) (alike_at_places rules ps)

  same_places : symbol_places c.right ≡ symbol_places d.right
  same_places = sym (named_places v.to c.right) ∙ ap symbol_places v.right_to

  alike_of : (rules : List RewriteRule) → AllAlike (attempts_of rules c (symbol_places c.right)) (attempts_of rules d (symbol_places d.right))
  alike_of rules =
      let places : List (List ℕ) = symbol_places c.right in
      subst (λ ps. AllAlike (attempts_of rules c places) (attempts_of rules d ps)) same_places (alike_at_places rules places)

pub alike_in : (rules : List RewriteRule) {cs ds : List Closure} → AllVariants cs ds → AllAlike (attempts_in rules cs) (attempts_in rules ds)
alike_in rules no_variants = none_alike
alike_in rules (more_variants {c = c} {d = d} v h) = alike_joined (alike_of c d v rules) (alike_in rules h)

pub attempts_joined : (rules : List RewriteRule) (cs ds : List Closure) → attempts_in rules (cs ++ ds) ≡ attempts_in rules cs ++ attempts_in rules ds
attempts_joined rules [] ds = refl
attempts_joined rules (c ∷ cs) ds =
    ap (λ (more : List Attempt). attempts_of rules c (symbol_places c.right) ++ more) (attempts_joined rules cs ds)
    ∙ sym (append_assoc (attempts_of rules c (symbol_places c.right)) (attempts_in rules cs) (attempts_in rules ds))

-- those that come after as many others are alike
pub alike_next : {ps qs : List Attempt} → AllAlike ps qs → (ts us more others later latest : List Attempt) (a b : Attempt)
    → length ts ≡ length us → length ts < length ps
    → ps ++ more ≡ ts ++ a ∷ later → qs ++ others ≡ us ++ b ∷ latest → AreAlike a b
alike_next none_alike ts us more others later latest a b same less e h = absurd (omega (arith, less))
alike_next (more_alike {a = x} {b = y} r rs) [] [] more others later latest a b same less e h =
    let first : x ≡ a = cc (e) in
    let second : y ≡ b = cc (h) in
    subst (λ z. AreAlike z b) first (subst (λ z. AreAlike x z) second r)
alike_next (more_alike r rs) [] (u ∷ us) more others later latest a b same less e h = absurd (omega (arith, same))
alike_next (more_alike r rs) (t ∷ ts) [] more others later latest a b same less e h = absurd (omega (arith, same))
alike_next (more_alike r rs) (t ∷ ts) (u ∷ us) more others later latest a b same less e h =
    alike_next rs ts us more others later latest a b (omega (arith, same)) (omega (arith, less)) (cc (e)) (cc (h))
