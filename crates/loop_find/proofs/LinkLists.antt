-- The closures of links.
use Rattle.std.specs.Prelude.{reverse, slice_range}
use Rattle.std.proofs.Common.{◌≡◌, ℕ, ◌+◌, ◌-◌, ◌<◌, ◌≤◌, drop, List, [], ◌∷◌, ◌++◌, length, Option, None, Some, refl, ap, sym, ◌∙◌, subst, zero, suc, arith, slice_get, get_or, length-append, length-drop, append_assoc, append-nil, inl, inr}
use Rattle.std.proofs.lemmas.Option.{same_Some, slice_get_within, slice_get_read}
use Rattle.std.proofs.lemmas.List.{reverse-append, length-take}
use Rattle.trs_defs.specs.Tree.{Tree}
use Rattle.trs_defs.specs.Path.{PlacedRule}
use Rattle.trs_defs.proofs.ListItems.{item_there, item_of_more, kept_item, last_item}
use Rattle.loop_find.specs.Flat.{tokens_of, term_of}
use Rattle.loop_find.specs.declared.tokens.Token.{Token}
use Rattle.loop_find.proofs.FlatTerms.{said_alone, term_there, part_there, stands_within, stands_still, stands_last}
use Rattle.loop_find.specs.Closures.{Closure}
use Rattle.loop_find.specs.Links.{path_of_found, path_to, term_from, StandsFrom, link_closure, closures_after, closures_of, IsFit, IsLink, IsSound}
use Rattle.loop_find.specs.declared.closures.Link.{Link}
use Rattle.loop_find.specs.declared.closures.Closures.{Closures}

-- ---- closures of links

pub one_link_more : (pool : List Token) (cs : List Closure) (ls : List Link) (l : Link)
    → closures_after pool cs (ls ++ l ∷ []) ≡ closures_after pool cs ls ++ link_closure pool (closures_after pool cs ls) l ∷ []
one_link_more pool cs [] l = refl
one_link_more pool cs (x ∷ ls) l = one_link_more pool (cs ++ link_closure pool cs x ∷ []) ls l

length_after : (pool : List Token) (cs : List Closure) (ls : List Link) → length (closures_after pool cs ls) ≡ length cs + length ls
length_after pool cs [] = omega arith
length_after pool cs (l ∷ ls) =
    let rest = length_after pool (cs ++ link_closure pool cs l ∷ []) ls in
    let one = length-append cs (link_closure pool cs l ∷ []) in
    omega (arith, rest, one)

pub length_of : (k : Closures) → length (closures_of k) ≡ length k.links.items
length_of k = omega (arith, length_after k.tokens.items [] k.links.items)

begins_with : (pool : List Token) (cs : List Closure) (ls : List Link) → (more : List Closure) × (closures_after pool cs ls ≡ cs ++ more)
begins_with pool cs [] = ([], sym (append-nil cs))
begins_with pool cs (l ∷ ls) =
    let (more, is) = begins_with pool (cs ++ link_closure pool cs l ∷ []) ls in
    (link_closure pool cs l ∷ more, is ∙ append_assoc cs (link_closure pool cs l ∷ []) more)

-- the closure of this link among closures
abbrev pub closure_at : List Token → List Closure → Link → Closure
closure_at pool cs l = record { left = term_from pool l.left; right = term_from pool l.right; path = path_to cs l.before ++ l.step ∷ [] }

abbrev with_path : List Token → Link → List PlacedRule → Closure
with_path pool l q = record { left = term_from pool l.left; right = term_from pool l.right; path = q ++ l.step ∷ [] }

same_path_to : (cs more : List Closure) (o : Option ℕ) → ((b : ℕ) → o ≡ Some b → b < length cs) → path_to (cs ++ more) o ≡ path_to cs o
same_path_to cs more None h = refl
same_path_to cs more (Some b) h =
    let (c, is) = item_there cs b (h b refl) in
    ap path_of_found (kept_item cs more b c is ∙ sym is)

at_link : (pool : List Token) (cs : List Closure) (ls : List Link) (i : ℕ) (l : Link) → slice_get ls i ≡ Some l → ((b : ℕ) → l.before ≡ Some b → b < length cs + i)
    → slice_get (closures_after pool cs ls) (length cs + i) ≡ Some (closure_at pool (closures_after pool cs ls) l)
at_link pool cs [] i l e h = absurd cc
at_link pool cs (x ∷ ls) zero l e h =
    let same : x ≡ l = same_Some x l e in
    let (more, is) = begins_with pool (cs ++ link_closure pool cs x ∷ []) ls in
    let whole : closures_after pool cs (x ∷ ls) ≡ cs ++ link_closure pool cs x ∷ more = is ∙ append_assoc cs (link_closure pool cs x ∷ []) more in
    let place : length cs + zero ≡ length cs = omega arith in
    let here : slice_get (closures_after pool cs (x ∷ ls)) (length cs + zero) ≡ Some (link_closure pool cs x) =
    ap (λ n. slice_get (closures_after pool cs (x ∷ ls)) n) place ∙ (ap (λ z. slice_get z (length cs)) whole ∙ last_item cs (link_closure pool cs x) more) in
    let path : path_to (closures_after pool cs (x ∷ ls)) x.before ≡ path_to cs x.before =
    ap (λ z. path_to z x.before) whole ∙ same_path_to cs (link_closure pool cs x ∷ more) x.before (λ b k. let low = h b (subst (λ z. z.before ≡ Some b) same k) in omega (arith, low)) in
    let closure : link_closure pool cs x ≡ closure_at pool (closures_after pool cs (x ∷ ls)) x = ap (with_path pool x) (sym path) in
    here ∙ ap (λ z. Some z) (closure ∙ ap (closure_at pool (closures_after pool cs (x ∷ ls))) same)
at_link pool cs (x ∷ ls) (suc i) l e h =
    let one : length (cs ++ link_closure pool cs x ∷ []) ≡ length cs + 1 = omega (arith, length-append cs (link_closure pool cs x ∷ [])) in
    let rest = at_link pool (cs ++ link_closure pool cs x ∷ []) ls i l e (λ b k. let low = h b k in omega (arith, low, one)) in
    let place : length cs + suc i ≡ length (cs ++ link_closure pool cs x ∷ []) + i = omega (arith, one) in
    ap (λ n. slice_get (closures_after pool cs (x ∷ ls)) n) place ∙ rest

-- the closure of a link, by its number
pub closure_is : (arities : List ℕ) (k : Closures) → IsSound arities k → (i : ℕ) (l : Link) → slice_get k.links.items i ≡ Some l
    → slice_get (closures_of k) i ≡ Some (closure_at k.tokens.items (closures_of k) l)
closure_is arities k sound i l e =
    let none : length {A = Closure} [] + i ≡ i = omega arith in
    subst (λ n. slice_get (closures_of k) n ≡ Some (closure_at k.tokens.items (closures_of k) l)) none
    (at_link k.tokens.items [] k.links.items i l e (λ b h. let low = (sound.each i l e).earlier b h in omega (arith, low)))

pub closure_of_link : (arities : List ℕ) (k : Closures) → IsSound arities k → (i : ℕ) (l : Link) (c : Closure) → slice_get k.links.items i ≡ Some l
    → slice_get (closures_of k) i ≡ Some c → closure_at k.tokens.items (closures_of k) l ≡ c
closure_of_link arities k sound i l c e h = same_Some (closure_at k.tokens.items (closures_of k) l) c (sym (closure_is arities k sound i l e) ∙ h)

pub link_read : (ls : List Link) (i : ℕ) (l : Link) → i < length ls → l ≡ get_or ls i l → slice_get ls i ≡ Some l
link_read ls i l h e = slice_get_read ls (length ls) i l refl h e

-- ---- tokens to which more were added

same_link : (p q : List Token) (cs : List Closure) (l : Link) → term_from q l.left ≡ term_from p l.left → term_from q l.right ≡ term_from p l.right → link_closure q cs l ≡ link_closure p cs l
same_link p q cs l a b = cc (a, b)

same_after : (p q : List Token) (cs : List Closure) (ls : List Link)
    → ((i : ℕ) (l : Link) → slice_get ls i ≡ Some l → (term_from q l.left ≡ term_from p l.left) × (term_from q l.right ≡ term_from p l.right))
    → closures_after q cs ls ≡ closures_after p cs ls
same_after p q cs [] h = refl
same_after p q cs (l ∷ ls) h =
    let one = h zero l refl in
    ap (λ c. closures_after q (cs ++ c ∷ []) ls) (same_link p q cs l one.0 one.1) ∙ same_after p q (cs ++ link_closure p cs l ∷ []) ls (λ i x e. h (suc i) x e)

same_term : (p more : List Token) (i j : ℕ) → StandsFrom p i j (term_from p i) → term_from (p ++ more) i ≡ term_from p i
same_term p more i j h = term_there (p ++ more) i j (term_from p i) (stands_still p more i j (term_from p i) h)

moved : (p more : List Token) (i j : ℕ) → StandsFrom p i j (term_from p i) → StandsFrom (p ++ more) i j (term_from (p ++ more) i)
moved p more i j h = subst (StandsFrom (p ++ more) i j) (sym (same_term p more i j h)) (stands_still p more i j (term_from p i) h)

there_too : (q : List Token) (i j : ℕ) (t : Tree) → StandsFrom q i j t → StandsFrom q i j (term_from q i)
there_too q i j t h = subst (StandsFrom q i j) (sym (term_there q i j t h)) h

module _ (old new : Closures) (left right : Tree) (tokens : new.tokens.items ≡ old.tokens.items ++ (tokens_of left ++ tokens_of right)) (link : Link) (links : new.links.items ≡ old.links.items ++ link ∷ [])
    (begins : link.left ≡ length old.tokens.items) (middle : link.right ≡ link.left + length (tokens_of left)) (ends : link.end ≡ link.right + length (tokens_of right))
    (earlier : (b : ℕ) → link.before ≡ Some b → b < length old.links.items) where
  abbrev more : List Token
  more = tokens_of left ++ tokens_of right

  left_stands : StandsFrom new.tokens.items link.left link.right left
  left_stands = subst (λ z. StandsFrom z link.left link.right left) (sym tokens) (stands_last old.tokens.items left (tokens_of right) link.left link.right begins middle)

  right_stands : StandsFrom new.tokens.items link.right link.end right
  right_stands =
      let whole : new.tokens.items ≡ (old.tokens.items ++ tokens_of left) ++ (tokens_of right ++ []) =
      tokens ∙ (sym (append_assoc old.tokens.items (tokens_of left) (tokens_of right)) ∙ ap (λ z. (old.tokens.items ++ tokens_of left) ++ z) (sym (append-nil (tokens_of right)))) in
      subst (λ z. StandsFrom z link.right link.end right) (sym whole)
      (stands_last (old.tokens.items ++ tokens_of left) right [] link.right link.end (omega (arith, begins, middle, length-append old.tokens.items (tokens_of left))) ends)

  module _ (arities : List ℕ) (sound : IsSound arities old) where
    grown : closures_after new.tokens.items [] old.links.items ≡ closures_of old
    grown = same_after old.tokens.items new.tokens.items [] old.links.items (λ i l e.
        let s = sound.each i l e in (
          ap (λ z. term_from z l.left) tokens ∙ same_term old.tokens.items more l.left l.right s.left_there,
          ap (λ z. term_from z l.right) tokens ∙ same_term old.tokens.items more l.right l.end s.right_there,
        ))

    pub link_added : closures_of new ≡ closures_of old ++ (record { left = left; right = right; path = path_to (closures_of old) link.before ++ link.step ∷ [] }) ∷ []
    link_added =
        let a : term_from new.tokens.items link.left ≡ left = term_there new.tokens.items link.left link.right left left_stands in
        let b : term_from new.tokens.items link.right ≡ right = term_there new.tokens.items link.right link.end right right_stands in
        let last : link_closure new.tokens.items (closures_of old) link ≡ record { left = left; right = right; path = path_to (closures_of old) link.before ++ link.step ∷ [] } = cc (a, b) in
        ap (closures_after new.tokens.items []) links ∙ (one_link_more new.tokens.items [] old.links.items link
        ∙ (ap (λ cs. cs ++ link_closure new.tokens.items cs link ∷ []) grown ∙ ap (λ c. closures_of old ++ c ∷ []) last))

    moved_link : (i : ℕ) (l : Link) → IsLink arities old.tokens.items i l → IsLink arities new.tokens.items i l
    moved_link i l s = subst (λ z. IsLink arities z i l) (sym tokens) (record {
      left_there = moved old.tokens.items more l.left l.right s.left_there;
      right_there = moved old.tokens.items more l.right l.end s.right_there;
      earlier = s.earlier;
      left_fit = subst (IsFit arities) (sym (same_term old.tokens.items more l.left l.right s.left_there)) s.left_fit;
      right_fit = subst (IsFit arities) (sym (same_term old.tokens.items more l.right l.end s.right_there)) s.right_fit;
    })

    pub still_sound : IsFit arities left → IsFit arities right → IsSound arities new
    still_sound left_fit right_fit = record {
      each = λ i l e. elim (item_of_more old.links.items link l i (subst (λ z. slice_get z i ≡ Some l) links e)) as (λ _. IsLink arities new.tokens.items i l) [
        | inl h ↦ moved_link i l (sound.each i l h)
        | inr h ↦ subst (λ z. IsLink arities new.tokens.items i z) (sym h.1) (record {
          left_there = there_too new.tokens.items link.left link.right left left_stands;
          right_there = there_too new.tokens.items link.right link.end right right_stands;
          earlier = λ b k. let low = earlier b k in let place = h.0 in omega (arith, low, place);
          left_fit = subst (IsFit arities) (sym (term_there new.tokens.items link.left link.right left left_stands)) left_fit;
          right_fit = subst (IsFit arities) (sym (term_there new.tokens.items link.right link.end right right_stands)) right_fit;
        })
      ];
    }

-- ---- the path, step by step from its end

pub path_begins : (cs : List Closure) (i : ℕ) (c : Closure) (steps : List PlacedRule) (o : Option ℕ) → slice_get cs i ≡ Some c → o ≡ Some i → steps ≡ [] → c.path ≡ path_to cs o ++ reverse steps
path_begins cs i c steps o e at none =
    let whole : path_to cs o ≡ c.path = ap (path_to cs) at ∙ ap path_of_found e in
    let last : path_to cs o ++ reverse steps ≡ path_to cs o = ap (λ xs. path_to cs o ++ reverse xs) none ∙ append-nil (path_to cs o) in
    sym (last ∙ whole)

pub path_goes_on : (arities : List ℕ) (k : Closures) → IsSound arities k → (i : ℕ) (l : Link) (o : Option ℕ) (path steps new : List PlacedRule) (s : PlacedRule) → o ≡ Some i → slice_get k.links.items i ≡ Some l → s ≡ l.step
    → new ≡ steps ++ s ∷ [] → path ≡ path_to (closures_of k) o ++ reverse steps → path ≡ path_to (closures_of k) l.before ++ reverse new
path_goes_on arities k sound i l o path steps new s at e same longer before =
    let here : path_to (closures_of k) o ≡ path_to (closures_of k) l.before ++ l.step ∷ [] = ap (path_to (closures_of k)) at ∙ ap path_of_found (closure_is arities k sound i l e) in
    let back : reverse new ≡ l.step ∷ reverse steps = ap reverse longer ∙ (reverse-append steps (s ∷ []) ∙ ap (λ z. z ∷ reverse steps) same) in
    before ∙ (ap (λ p. p ++ reverse steps) here ∙ (append_assoc (path_to (closures_of k) l.before) (l.step ∷ []) (reverse steps) ∙ ap (λ q. path_to (closures_of k) l.before ++ q) (sym back)))

pub path_ends : (cs : List Closure) (o : Option ℕ) (path steps new : List PlacedRule) → o ≡ None → new ≡ reverse steps → path ≡ path_to cs o ++ reverse steps → new ≡ path
path_ends cs o path steps new none is before = is ∙ sym (before ∙ ap (λ z. path_to cs z ++ reverse steps) none)

-- ---- the sides, as they are read

module _ (arities : List ℕ) (k : Closures) (sound : IsSound arities k) (i : ℕ) (l : Link) (link : slice_get k.links.items i ≡ Some l) where
  pub left_within : (l.left ≤ l.right) × (l.right ≤ length k.tokens.items)
  left_within = stands_within k.tokens.items l.left l.right (term_from k.tokens.items l.left) (sound.each i l link).left_there

  pub right_within : (l.right ≤ l.end) × (l.end ≤ length k.tokens.items)
  right_within = stands_within k.tokens.items l.right l.end (term_from k.tokens.items l.right) (sound.each i l link).right_there

  module _ (c : Closure) (at : slice_get (closures_of k) i ≡ Some c) where
    is : closure_at k.tokens.items (closures_of k) l ≡ c
    is = closure_of_link arities k sound i l c link at

    pub left_tokens : slice_range k.tokens.items l.left l.right ≡ tokens_of c.left
    left_tokens = part_there k.tokens.items l.left l.right (term_from k.tokens.items l.left) (sound.each i l link).left_there ∙ ap (λ (z : Closure). tokens_of z.left) is

    pub right_tokens : slice_range k.tokens.items l.right l.end ≡ tokens_of c.right
    right_tokens = part_there k.tokens.items l.right l.end (term_from k.tokens.items l.right) (sound.each i l link).right_there ∙ ap (λ (z : Closure). tokens_of z.right) is

    pub sides_of : (t u : Tree) (xs ys : List Token) → xs ≡ slice_range k.tokens.items l.left l.right → ys ≡ slice_range k.tokens.items l.right l.end → t ≡ term_of xs → u ≡ term_of ys → (t ≡ c.left) × (u ≡ c.right)
    sides_of t u xs ys a b e f = (e ∙ (ap term_of (a ∙ left_tokens) ∙ said_alone c.left), f ∙ (ap term_of (b ∙ right_tokens) ∙ said_alone c.right))

-- a part is no longer than the whole
pub part_short : (tokens : List Token) (i j : ℕ) → length (slice_range tokens i j) ≤ length tokens
part_short tokens i j = omega (arith, length-take (j - i) (drop i tokens), length-drop i tokens)

-- ---- the way back, from a closure to the rule that it begins with

abbrev pub steps_left : Option ℕ → ℕ
steps_left None = 0
steps_left (Some i) = i + 1

pub number_below : (k : Closures) (n : ℕ) → n < length k.links.items → (b : ℕ) → ◌≡◌ {A = Option ℕ} (Some n) (Some b) → b < length k.links.items
number_below k n h b e = subst (λ z. z < length k.links.items) (same_Some n b e) h

module _ (arities : List ℕ) (k : Closures) (sound : IsSound arities k) (i : ℕ) (l : Link) where
  pub earlier_below : slice_get k.links.items i ≡ Some l → (b : ℕ) → l.before ≡ Some b → b < length k.links.items
  earlier_below e b h = let low = (sound.each i l e).earlier b h in let within = slice_get_within k.links.items i l e in omega (arith, low, within)

  pub fewer_left : (o : Option ℕ) → o ≡ Some i → slice_get k.links.items i ≡ Some l → steps_left l.before < steps_left o
  fewer_left o at e = subst (λ z. steps_left l.before < steps_left z) (sym at) (go l.before (λ b h. (sound.each i l e).earlier b h))
    where
      go : (p : Option ℕ) → ((b : ℕ) → p ≡ Some b → b < i) → steps_left p < i + 1
      go None h = omega arith
      go (Some b) h = let low = h b refl in omega (arith, low)

-- ---- the sides of a closure are fit

pub fit_sides : (arities : List ℕ) (k : Closures) → IsSound arities k → (n : ℕ) → n < length k.links.items → (t u : Tree)
    → ((c : Closure) → slice_get (closures_of k) n ≡ Some c → (t ≡ c.left) × (u ≡ c.right)) → IsFit arities t × IsFit arities u
fit_sides arities k sound n there t u sides =
    let (l, at) = item_there k.links.items n there in
    let s = sound.each n l at in
    let same = sides (closure_at k.tokens.items (closures_of k) l) (closure_is arities k sound n l at) in
    (subst (IsFit arities) (sym same.0) s.left_fit, subst (IsFit arities) (sym same.1) s.right_fit)

-- ---- the closure of a number

pub closure_of_number : (k : Closures) (n : ℕ) → n < length k.links.items → (c : Closure) × (slice_get (closures_of k) n ≡ Some c)
closure_of_number k n h = item_there (closures_of k) n (omega (arith, h, length_of k))

-- the tokens of both sides, one after the other
pub tokens_added : (old mid new left right : List Token) (l r : Tree) → mid ≡ old ++ left → left ≡ tokens_of l → new ≡ mid ++ right → right ≡ tokens_of r → new ≡ old ++ (tokens_of l ++ tokens_of r)
tokens_added old mid new left right l r a is_l b is_r =
    b ∙ (ap (λ z. z ++ right) a ∙ (append_assoc old left right ∙ (ap (λ z. old ++ (z ++ right)) is_l ∙ ap (λ z. old ++ (tokens_of l ++ z)) is_r)))
