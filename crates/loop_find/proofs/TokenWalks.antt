-- Walks over the tokens of terms.
use Rattle.std.specs.Option.{option_and_then}
use Rattle.std.proofs.Common.{◌≡◌, ℕ, ◌+◌, ◌-◌, ◌<◌, ◌≤◌, min, List, [], ◌∷◌, ◌++◌, reverse, length, drop, get_or, Option, Some, None, refl, ap, sym, ◌∙◌, zero, suc, arith, slice_get, length-append, length-drop, append_assoc, append-nil}
use Rattle.std.proofs.lemmas.List.{drop_at, drop_all, drop-append-le, drop-drop, reverse-append, reverse-reverse}
use Rattle.trs_defs.specs.Tree.{Tree, Trees, var, app, nil, cons, items, count}
use Rattle.trs_defs.specs.Position.{subterm_at}
use Rattle.trs_defs.proofs.ArgumentLists.{cell}
use Rattle.loop_find.specs.declared.tokens.Token.{Token}
use Rattle.loop_find.specs.declared.tokens.Token.TheVariants.{Var, App}
use Rattle.loop_find.specs.Flat.{tokens_of, tokens_of_all, first_term, image, images, arguments}
use Rattle.loop_find.specs.LoopRow.{Recurs}
use Rattle.loop_find.proofs.FlatTerms.{some_token, count_le_tokens, instance_tokens}

-- ---- behind a term

join : Trees → Trees → Trees
join nil us = us
join (cons t ts) us = cons t (join ts us)

tokens_join : (ts us : Trees) → tokens_of_all (join ts us) ≡ tokens_of_all ts ++ tokens_of_all us
unfolding join
tokens_join nil us = refl
tokens_join (cons t ts) us = ap (λ z. tokens_of t ++ z) (tokens_join ts us) ∙ sym (append_assoc (tokens_of t) (tokens_of_all ts) (tokens_of_all us))

count_join : (ts us : Trees) → count (join ts us) ≡ count ts + count us
unfolding join
count_join nil us = omega arith
count_join (cons t ts) us = omega (arith, count_join ts us)

-- so many terms are ahead, and then the rest
pub record IsAhead (tokens : List Token) (at ahead : ℕ) (rest : List Token) : Type 0 where
  pub todo : Trees
  pub here : drop at tokens ≡ tokens_of_all todo ++ rest
  pub many : count todo ≡ ahead

pub one_ahead : (tokens : List Token) (at : ℕ) (t : Tree) (rest : List Token) → drop at tokens ≡ tokens_of t ++ rest → IsAhead tokens at 1 rest
one_ahead tokens at t rest e = record { todo = cons t nil; here = e ∙ ap (λ z. z ++ rest) (sym (append-nil (tokens_of t))); many = refl }

first_token : (k l : Token) (ks ls : List Token) → k ∷ ks ≡ l ∷ ls → (k ≡ l) × (ks ≡ ls)
first_token k l ks ls e = (cc (e), cc (e))

few_ahead : (tokens : List Token) (at most : ℕ) (todo : Trees) (rest : List Token) → length tokens ≤ most → drop at tokens ≡ tokens_of_all todo ++ rest → count todo ≤ most
few_ahead tokens at most todo rest few e =
    let a = ap length e in omega (arith, few, a, length-drop at tokens, length-append (tokens_of_all todo) rest, count_le_tokens todo)

pub goes_ahead : (tokens : List Token) (at most ahead next : ℕ) (k : Token) (rest : List Token) → length tokens ≤ most → at < length tokens → k ≡ get_or tokens at k → 0 < ahead
    → next ≡ min (ahead - 1 + arguments k) most → IsAhead tokens at ahead rest → IsAhead tokens (at + 1) next rest
goes_ahead tokens at most ahead next k rest few within read some is h = go h.todo h.here h.many
  where
    go : (todo : Trees) → drop at tokens ≡ tokens_of_all todo ++ rest → count todo ≡ ahead → IsAhead tokens (at + 1) next rest
    go nil e many = absurd (omega (arith, many, some))
    go (cons (var v) ts) e many =
        let p = first_token k (Var v) (drop (at + 1) tokens) (tokens_of_all ts ++ rest) (sym (cell tokens at k within read) ∙ e) in
        let n : arguments k ≡ 0 = ap arguments p.0 in
        let low = few_ahead tokens (at + 1) most ts rest few p.1 in
        record { todo = ts; here = p.1; many = omega (arith, many, is, n, low) }
    go (cons (app f us) ts) e many =
        let p = first_token k (App f (count us)) (drop (at + 1) tokens) ((tokens_of_all us ++ tokens_of_all ts) ++ rest) (sym (cell tokens at k within read) ∙ e) in
        let n : arguments k ≡ count us = ap arguments p.0 in
        let here : drop (at + 1) tokens ≡ tokens_of_all (join us ts) ++ rest = p.1 ∙ ap (λ z. z ++ rest) (sym (tokens_join us ts)) in
        let low = few_ahead tokens (at + 1) most (join us ts) rest few here in
        record { todo = join us ts; here = here; many = omega (arith, many, is, n, low, count_join us ts) }

no_token_left : (todo : Trees) (rest : List Token) → [] ≡ tokens_of_all todo ++ rest → [] ≡ rest
no_token_left nil rest e = e
no_token_left (cons (var v) ts) rest e = absurd cc
no_token_left (cons (app f us) ts) rest e = absurd cc

pub ends_at_last : (tokens : List Token) (at ahead : ℕ) (rest : List Token) → length tokens ≤ at → IsAhead tokens at ahead rest → drop at tokens ≡ rest
ends_at_last tokens at ahead rest past h = let none = drop_all at tokens past in none ∙ no_token_left h.todo rest (sym none ∙ h.here)

pub none_ahead : (tokens : List Token) (at ahead : ℕ) (rest : List Token) → ahead ≤ 0 → IsAhead tokens at ahead rest → drop at tokens ≡ rest
none_ahead tokens at ahead rest none h = h.here ∙ go h.todo h.many
  where
    go : (todo : Trees) → count todo ≡ ahead → tokens_of_all todo ++ rest ≡ rest
    go nil e = refl
    go (cons t ts) e = absurd (omega (arith, e, none))

-- ---- an image of a token

pub no_image : (tokens : List Token) (at : ℕ) (σ : ℕ → Tree) (k : Token) (rest : List Token) → length tokens ≤ at → drop at tokens ≡ image σ k ++ rest → ⊥
no_image tokens at σ (Var v) rest past e = let a = ap length e in omega (arith, a, past, length-drop at tokens, length-append (tokens_of (σ v)) rest, some_token (σ v))
no_image tokens at σ (App f n) rest past e = let a = ap length e in omega (arith, a, past, length-drop at tokens)

pub symbol_at : (tokens : List Token) (at : ℕ) (σ : ℕ → Tree) (k l : Token) (f n : ℕ) (rest : List Token) → k ≡ App f n → at < length tokens → l ≡ get_or tokens at l
    → drop at tokens ≡ image σ k ++ rest → (l ≡ App f n) × (drop (at + 1) tokens ≡ rest)
symbol_at tokens at σ k l f n rest is within read e = first_token l (App f n) (drop (at + 1) tokens) rest (sym (cell tokens at l within read) ∙ (e ∙ ap (λ z. image σ z ++ rest) is))

pub variable_at : (tokens : List Token) (at : ℕ) (σ : ℕ → Tree) (k : Token) (v : ℕ) (rest : List Token) → k ≡ Var v → drop at tokens ≡ image σ k ++ rest → drop at tokens ≡ tokens_of (σ v) ++ rest
variable_at tokens at σ k v rest is e = e ∙ ap (λ z. image σ z ++ rest) is

pub next_images : (σ : ℕ → Tree) (pattern : List Token) (i : ℕ) (k : Token) (rest : List Token) → i < length pattern → k ≡ get_or pattern i k
    → images σ (drop i pattern) ++ rest ≡ image σ k ++ (images σ (drop (i + 1) pattern) ++ rest)
next_images σ pattern i k rest h e = ap (λ z. images σ z ++ rest) (cell pattern i k h e) ∙ append_assoc (image σ k) (images σ (drop (i + 1) pattern)) rest

-- ---- a part among the tokens of a term

pub record HasTokens (all : List Token) (part : Tree) : Type 0 where
  pub place : ℕ
  pub rest : List Token
  pub within : place < length all
  pub here : drop place all ≡ tokens_of part ++ rest

record HasArgument (ts : Trees) (a : Tree) : Type 0 where
  before : List Token
  after : List Token
  split : tokens_of_all ts ≡ before ++ (tokens_of a ++ after)

argument_tokens : (ts : Trees) (i : ℕ) (a : Tree) → slice_get (items ts) i ≡ Some a → HasArgument ts a
argument_tokens nil i a e = absurd cc
argument_tokens (cons t ts) zero a e = let same : t ≡ a = cc (e) in record { before = []; after = tokens_of_all ts; split = ap (λ z. tokens_of z ++ tokens_of_all ts) same }
argument_tokens (cons t ts) (suc i) a e =
    let h = argument_tokens ts i a e in
    record { before = tokens_of t ++ h.before; after = h.after; split = ap (λ z. tokens_of t ++ z) h.split ∙ sym (append_assoc (tokens_of t) h.before (tokens_of a ++ h.after)) }

below_argument : (f : ℕ) (ts : Trees) (a part : Tree) → HasArgument ts a → HasTokens (tokens_of a) part → HasTokens (tokens_of (app f ts)) part
below_argument f ts a part h k =
    let within = k.within in
    let whole : tokens_of (app f ts) ≡ (App f (count ts) ∷ h.before) ++ (tokens_of a ++ h.after) = ap (λ z. App f (count ts) ∷ z) h.split in
    let first : length (App f (count ts) ∷ h.before) ≡ 1 + length h.before = omega arith in
    record {
      place = (1 + length h.before) + k.place;
      rest = k.rest ++ h.after;
      within = let e = ap length whole in omega (arith, within, e, length-append (App f (count ts) ∷ h.before) (tokens_of a ++ h.after), length-append (tokens_of a) h.after);
      here =
          ap (drop ((1 + length h.before) + k.place)) whole
          ∙ (sym (drop-drop k.place (1 + length h.before) ((App f (count ts) ∷ h.before) ++ (tokens_of a ++ h.after)))
          ∙ (ap (drop k.place) (drop_at (App f (count ts) ∷ h.before) (tokens_of a ++ h.after) (1 + length h.before) first)
          ∙ (drop-append-le k.place (tokens_of a) h.after (omega (arith, within)) ∙ (ap (λ z. z ++ h.after) k.here ∙ append_assoc (tokens_of part) k.rest h.after))));
    }

no_part : (part : Tree) → ◌≡◌ {A = Option Tree} None (Some part) → ⊥
no_part part e = cc

part_tokens : (q : List ℕ) (t part : Tree) → subterm_at q t ≡ Some part → HasTokens (tokens_of t) part
part_tokens [] t part e =
    let same : t ≡ part = cc (e) in
    record { place = 0; rest = []; within = some_token t; here = ap tokens_of same ∙ sym (append-nil (tokens_of part)) }
part_tokens (n ∷ q) (var v) part e = absurd (no_part part e)
part_tokens (zero ∷ q) (app f ts) part e = absurd (no_part part e)
part_tokens (suc i ∷ q) (app f ts) part e = go (λ a h. part_tokens q a part h) (slice_get (items ts) i) refl e
  where
    go : ((a : Tree) → subterm_at q a ≡ Some part → HasTokens (tokens_of a) part) → (o : Option Tree) → slice_get (items ts) i ≡ o → option_and_then (subterm_at q) o ≡ Some part
        → HasTokens (tokens_of (app f ts)) part
    go rec None k h = absurd (no_part part h)
    go rec (Some a) k h = below_argument f ts a part (argument_tokens ts i a k) (rec a h)

-- no image of the pattern begins before a place
pub record NoneBefore (pattern tokens : List Token) (n : ℕ) : Type 0 where
  pub none : (i : ℕ) → i < n → (σ : ℕ → Tree) (rest : List Token) → drop i tokens ≡ images σ pattern ++ rest → ⊥

pub never_recurs : (pattern tokens : List Token) (n : ℕ) → length tokens ≤ n → NoneBefore pattern tokens n → (p t : Tree) (q : List ℕ) → pattern ≡ tokens_of p → tokens ≡ tokens_of t → Recurs p t q → ⊥
never_recurs pattern tokens n past h p t q is_p is_t (part, there, (σ, same)) =
    let k = part_tokens q t part there in
    let within = k.within in
    let long = ap length is_t in
    let image_is : tokens_of part ≡ images σ pattern = ap tokens_of (sym same) ∙ (instance_tokens σ p ∙ ap (images σ) (sym is_p)) in
    h.none k.place (omega (arith, within, long, past)) σ k.rest (ap (drop k.place) is_t ∙ (k.here ∙ ap (λ z. z ++ k.rest) image_is))

-- ---- the last term of those in reverse order

pub first_of_reverse : (ts us : List Tree) (t : Tree) → us ++ t ∷ [] ≡ reverse ts → t ≡ first_term ts
first_of_reverse ts us t e = ap first_term (sym (reverse-append us (t ∷ [])) ∙ (ap reverse e ∙ reverse-reverse ts))

pub first_of_none : (ts : List Tree) → [] ≡ reverse ts → var 0 ≡ first_term ts
first_of_none ts e = ap first_term (ap reverse e ∙ reverse-reverse ts)

pub read_same : (tokens : List Token) (i : ℕ) (d : Token) → i < length tokens → get_or tokens i d ≡ get_or tokens i (get_or tokens i d)
read_same [] i d h = absurd (omega arith)
read_same (x ∷ xs) zero d h = refl
read_same (x ∷ xs) (suc i) d h = read_same xs i d (omega (arith, h))
