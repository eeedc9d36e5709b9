-- Terms and their tokens.
use Rattle.std.specs.Prelude.{slice_range}
use Rattle.std.proofs.Common.{◌≡◌, ℕ, ◌+◌, ◌-◌, ◌<◌, ◌≤◌, List, [], ◌∷◌, ◌++◌, map, reverse, length, take, drop, get_or, refl, ap, sym, ◌∙◌, zero, suc, arith, length-append, length-drop, append_assoc, append-nil}
use Rattle.std.proofs.lemmas.List.{take_at, drop_at, drop-append-le, reverse-append, reverse-reverse, length-reverse, length-map, take-append-drop, take-map, drop-map, drop_all, map_push}
use Rattle.trs_defs.specs.Tree.{Tree, Trees, var, app, nil, cons, trees, items, count}
use Rattle.trs_defs.specs.Size.{size_of, size_of_all}
use Rattle.trs_defs.specs.Substitution.{apply, apply_all}
use Rattle.trs_defs.proofs.ArgumentLists.{cell, count_apply_all}
use Rattle.trs_core.specs.declared.terms.Term.{Term}
use Rattle.trs_core.specs.View.{tree, forest}
use Rattle.loop_find.specs.declared.tokens.Token.{Token}
use Rattle.loop_find.specs.declared.tokens.Token.TheVariants.{App}
use Rattle.loop_find.specs.Flat.{tokens_of, tokens_of_all, terms_with, terms_of, first_term, term_of, images}
use Rattle.loop_find.specs.Links.{term_from, StandsFrom}

-- ---- what tokens say

taken : (ts : Trees) (us : List Tree) → trees (take (count ts) (items ts ++ us)) ≡ ts
taken nil us = refl
taken (cons t ts) us = let e : 1 + count ts ≡ suc (count ts) = omega arith in rw e (ap (cons t) (taken ts us))

dropped : (ts : Trees) (us : List Tree) → drop (count ts) (items ts ++ us) ≡ us
dropped nil us = refl
dropped (cons t ts) us = let e : 1 + count ts ≡ suc (count ts) = omega arith in rw e (dropped ts us)

node_said : (f : ℕ) (ts : Trees) (us : List Tree) → terms_with (App f (count ts)) (items ts ++ us) ≡ app f ts ∷ us
node_said f ts us = ap (λ z. app f z ∷ drop (count ts) (items ts ++ us)) (taken ts us) ∙ ap (λ z. app f ts ∷ z) (dropped ts us)

mutual
  pub said : (t : Tree) (ks : List Token) → terms_of (tokens_of t ++ ks) ≡ t ∷ terms_of ks
  said (var v) ks = refl
  said (app f ts) ks = ap (terms_with (App f (count ts))) (all_said ts ks) ∙ node_said f ts (terms_of ks)

  pub all_said : (ts : Trees) (ks : List Token) → terms_of (tokens_of_all ts ++ ks) ≡ items ts ++ terms_of ks
  all_said nil ks = refl
  all_said (cons t ts) ks =
      ap terms_of (append_assoc (tokens_of t) (tokens_of_all ts) ks)
      ∙ (said t (tokens_of_all ts ++ ks) ∙ ap (λ z. t ∷ z) (all_said ts ks))

pub first_said : (t : Tree) (ks : List Token) → term_of (tokens_of t ++ ks) ≡ t
first_said t ks = ap first_term (said t ks)

pub said_alone : (t : Tree) → term_of (tokens_of t) ≡ t
said_alone t = ap term_of (sym (append-nil (tokens_of t))) ∙ first_said t []

-- ---- as many tokens as nodes

mutual
  pub count_tokens : (t : Tree) → length (tokens_of t) ≡ size_of t
  count_tokens (var v) = refl
  count_tokens (app f ts) = omega (arith, count_all_tokens ts)

  pub count_all_tokens : (ts : Trees) → length (tokens_of_all ts) ≡ size_of_all ts
  count_all_tokens nil = refl
  count_all_tokens (cons t ts) = omega (arith, length-append (tokens_of t) (tokens_of_all ts), count_tokens t, count_all_tokens ts)

pub some_token : (t : Tree) → 1 ≤ length (tokens_of t)
some_token (var v) = omega arith
some_token (app f ts) = omega arith

pub count_le_tokens : (ts : Trees) → count ts ≤ length (tokens_of_all ts)
count_le_tokens nil = omega arith
count_le_tokens (cons t ts) = omega (arith, some_token t, count_le_tokens ts, length-append (tokens_of t) (tokens_of_all ts))

-- ---- terms that stand among tokens

pub begins_within : (tokens : List Token) (i : ℕ) (t : Tree) (rest : List Token) → drop i tokens ≡ tokens_of t ++ rest → i + length (tokens_of t) + length rest ≡ length tokens
begins_within tokens i t rest e =
    let a = ap length e in
    omega (arith, a, length-drop i tokens, length-append (tokens_of t) rest, some_token t)

pub term_there : (tokens : List Token) (i j : ℕ) (t : Tree) → StandsFrom tokens i j t → term_from tokens i ≡ t
term_there tokens i j t h = ap term_of h.here ∙ first_said t h.rest

pub part_there : (tokens : List Token) (i j : ℕ) (t : Tree) → StandsFrom tokens i j t → slice_range tokens i j ≡ tokens_of t
part_there tokens i j t h =
    let e = h.ends in
    let few : length (tokens_of t) ≡ j - i = omega (arith, e) in
    ap (take (j - i)) h.here ∙ take_at (tokens_of t) h.rest (j - i) few

pub stands_within : (tokens : List Token) (i j : ℕ) (t : Tree) → StandsFrom tokens i j t → (i ≤ j) × (j ≤ length tokens)
stands_within tokens i j t h =
    let e = h.ends in
    let all = begins_within tokens i t h.rest h.here in
    (omega (arith, e), omega (arith, e, all))

pub stands_still : (tokens more : List Token) (i j : ℕ) (t : Tree) → StandsFrom tokens i j t → StandsFrom (tokens ++ more) i j t
stands_still tokens more i j t h =
    let all = begins_within tokens i t h.rest h.here in
    record {
      rest = h.rest ++ more;
      here = drop-append-le i tokens more (omega (arith, all)) ∙ (ap (λ z. z ++ more) h.here ∙ append_assoc (tokens_of t) h.rest more);
      ends = h.ends;
    }

pub stands_last : (tokens : List Token) (t : Tree) (more : List Token) (i j : ℕ) → i ≡ length tokens → j ≡ i + length (tokens_of t) → StandsFrom (tokens ++ (tokens_of t ++ more)) i j t
stands_last tokens t more i j a b = record { rest = more; here = drop_at tokens (tokens_of t ++ more) i (sym a); ends = b }

-- ---- images

mutual
  pub tokens_of_instance : (σ : ℕ → Tree) (t : Tree) (ks : List Token) → tokens_of (apply σ t) ++ images σ ks ≡ images σ (tokens_of t ++ ks)
  tokens_of_instance σ (var v) ks = refl
  tokens_of_instance σ (app f ts) ks =
      ap (λ n. App f n ∷ (tokens_of_all (apply_all σ ts) ++ images σ ks)) (count_apply_all σ ts)
      ∙ ap (λ z. App f (count ts) ∷ z) (tokens_of_instances σ ts ks)

  pub tokens_of_instances : (σ : ℕ → Tree) (ts : Trees) (ks : List Token) → tokens_of_all (apply_all σ ts) ++ images σ ks ≡ images σ (tokens_of_all ts ++ ks)
  tokens_of_instances σ nil ks = refl
  tokens_of_instances σ (cons t ts) ks =
      append_assoc (tokens_of (apply σ t)) (tokens_of_all (apply_all σ ts)) (images σ ks)
      ∙ (ap (λ z. tokens_of (apply σ t) ++ z) (tokens_of_instances σ ts ks)
      ∙ (tokens_of_instance σ t (tokens_of_all ts ++ ks) ∙ ap (images σ) (sym (append_assoc (tokens_of t) (tokens_of_all ts) ks))))

pub instance_tokens : (σ : ℕ → Tree) (t : Tree) → tokens_of (apply σ t) ≡ images σ (tokens_of t)
instance_tokens σ t = sym (append-nil (tokens_of (apply σ t))) ∙ (tokens_of_instance σ t [] ∙ ap (images σ) (append-nil (tokens_of t)))

-- ---- a loop over the arguments of a symbol

pub next_tokens : (ts : List Term) (i : ℕ) (t : Term) → i < length ts → t ≡ get_or ts i t → tokens_of_all (forest (drop i ts)) ≡ tokens_of (tree t) ++ tokens_of_all (forest (drop (i + 1) ts))
next_tokens ts i t h e = ap (λ us. tokens_of_all (forest us)) (cell ts i t h e)

pub few_arguments : (ts : List Term) → length ts ≤ size_of_all (forest ts)
few_arguments [] = omega arith
few_arguments (t ∷ ts) = omega (arith, few_arguments ts, count_tokens (tree t), some_token (tree t))

-- ---- reading from the last token on

pub begins_tokens : (all : List Token) → terms_of (drop (length all) all) ≡ []
begins_tokens [] = refl
begins_tokens (k ∷ ks) = begins_tokens ks

pub read_on : (all : List Token) (at : ℕ) (k : Token) → at < length all → k ≡ get_or all at k → terms_of (drop at all) ≡ terms_with k (terms_of (drop (at + 1) all))
read_on all at k h e = ap terms_of (cell all at k h e)

-- the terms are cut before the last ones
module _ (ts : List Tree) (n kept : ℕ) (kept_is : kept ≡ length ts - n) where
  turned : reverse ts ≡ reverse (drop n ts) ++ reverse (take n ts)
  turned = ap reverse (sym (take-append-drop n ts)) ∙ reverse-append (take n ts) (drop n ts)

  long : length (reverse (drop n ts)) ≡ kept
  long = length-reverse (drop n ts) ∙ (length-drop n ts ∙ sym kept_is)

  pub front_of_reverse : take kept (reverse ts) ≡ reverse (drop n ts)
  front_of_reverse = ap (take kept) turned ∙ take_at (reverse (drop n ts)) (reverse (take n ts)) kept long

  pub back_of_reverse : reverse (drop kept (reverse ts)) ≡ take n ts
  back_of_reverse = ap (λ z. reverse (drop kept z)) turned ∙ (ap reverse (drop_at (reverse (drop n ts)) (reverse (take n ts)) kept long) ∙ reverse-reverse (take n ts))

pub map_reverse : {X Y : Type 0} (f : X → Y) (xs : List X) → map f (reverse xs) ≡ reverse (map f xs)
map_reverse f [] = refl
map_reverse f (x ∷ xs) = ap (map f) (reverse-append (x ∷ []) xs) ∙ (append_map f (reverse xs) (x ∷ []) ∙ (ap (λ z. z ++ f x ∷ []) (map_reverse f xs) ∙ sym (reverse-append (f x ∷ []) (map f xs))))
  where
    append_map : {X Y : Type 0} (f : X → Y) (xs ys : List X) → map f (xs ++ ys) ≡ map f xs ++ map f ys
    append_map f [] ys = refl
    append_map f (x ∷ xs) ys = ap (λ z. f x ∷ z) (append_map f xs ys)

-- a symbol takes its arguments from the terms, which stand in reverse order
pub symbol_put : (f n : ℕ) (token : Token) (old front back args new : List Term) (ts : List Tree) (kept : ℕ) → kept ≡ length old - n → token ≡ App f n → front ≡ take kept old → back ≡ drop kept old → args ≡ reverse back
    → (node : Term) → tree node ≡ app f (forest args) → new ≡ front ++ node ∷ [] → map tree old ≡ reverse ts → map tree new ≡ reverse (terms_with token ts)
symbol_put f n token old front back args new ts kept kept_is is is_front is_back is_args node is_node is_new e =
    let long : length old ≡ length ts = sym (length-map old tree) ∙ (ap length e ∙ length-reverse ts) in
    let cut : kept ≡ length ts - n = omega (arith, kept_is, long) in
    let a : map tree front ≡ reverse (drop n ts) = ap (map tree) is_front ∙ (sym (take-map tree kept old) ∙ (ap (take kept) e ∙ front_of_reverse ts n kept cut)) in
    let b : map tree back ≡ drop kept (reverse ts) = ap (map tree) is_back ∙ (sym (drop-map tree kept old) ∙ ap (drop kept) e) in
    let d : map tree args ≡ take n ts = ap (map tree) is_args ∙ (map_reverse tree back ∙ (ap reverse b ∙ back_of_reverse ts n kept cut)) in
    let last : tree node ≡ app f (trees (take n ts)) = is_node ∙ ap (λ z. app f (trees z)) d in
    ap (map tree) is_new
    ∙ (map_push tree front node
    ∙ (ap (λ z. z ++ tree node ∷ []) a
    ∙ (ap (λ z. reverse (drop n ts) ++ z ∷ []) last
    ∙ (sym (reverse-append (app f (trees (take n ts)) ∷ []) (drop n ts)) ∙ ap (λ z. reverse (terms_with z ts)) (sym is)))))

-- ---- the tokens of a symbol with its arguments

pub symbol_first : (u : Tree) (f : ℕ) (us : Trees) (n : ℕ) → u ≡ app f us → n ≡ count us → tokens_of u ≡ App f n ∷ tokens_of_all us
symbol_first u f us n is e = ap tokens_of is ∙ ap (λ k. App f k ∷ tokens_of_all us) (sym e)

pub put_begins : (old new : List Token) (f n : ℕ) (us : Trees) (t : Tree) → new ≡ old ++ App f n ∷ [] → n ≡ count us → t ≡ app f us → new ++ tokens_of_all us ≡ old ++ tokens_of t
put_begins old new f n us t a e is =
    ap (λ z. z ++ tokens_of_all us) a ∙ (append_assoc old (App f n ∷ []) (tokens_of_all us) ∙ ap (λ z. old ++ z) (sym (symbol_first t f us n is e)))

pub put_goes_on : (old whole mid new ks rest rest2 : List Token) → rest ≡ ks ++ rest2 → new ≡ mid ++ ks → mid ++ rest ≡ old ++ whole → new ++ rest2 ≡ old ++ whole
put_goes_on old whole mid new ks rest rest2 is a h = ap (λ z. z ++ rest2) a ∙ (append_assoc mid ks rest2 ∙ (ap (λ z. mid ++ z) (sym is) ∙ h))

pub put_ends : (old whole new rest : List Token) → rest ≡ [] → new ++ rest ≡ old ++ whole → new ≡ old ++ whole
put_ends old whole new rest none h = sym (append-nil new) ∙ (ap (λ z. new ++ z) (sym none) ∙ h)

pub symbol_too_many : (old : List Token) (u : Tree) (f : ℕ) (us : Trees) (n : ℕ) → u ≡ app f us → n ≡ count us → 256 < length old + (1 + n) → 256 < length old + length (tokens_of u)
symbol_too_many old u f us n is e h =
    let long : length (tokens_of u) ≡ suc (length (tokens_of_all us)) = ap (λ z. length (tokens_of z)) is in
    omega (arith, h, e, long, count_le_tokens us)

pub next_written : (σ : ℕ → Tree) (ts : List Term) (i : ℕ) (t : Term) → i < length ts → t ≡ get_or ts i t
    → tokens_of_all (apply_all σ (forest (drop i ts))) ≡ tokens_of (apply σ (tree t)) ++ tokens_of_all (apply_all σ (forest (drop (i + 1) ts)))
next_written σ ts i t h e = ap (λ us. tokens_of_all (apply_all σ (forest us))) (cell ts i t h e)

pub none_written : (σ : ℕ → Tree) (ts : List Term) (i : ℕ) → length ts ≤ i → tokens_of_all (apply_all σ (forest (drop i ts))) ≡ []
none_written σ ts i h = ap (λ us. tokens_of_all (apply_all σ (forest us))) (drop_all i ts h)
