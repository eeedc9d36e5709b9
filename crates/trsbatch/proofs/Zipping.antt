-- Facts of two lists, place by place.
use Rattle.std.proofs.Common.{◌≡◌, ◌<◌, ◌+◌, ℕ, zero, suc, List, [], ◌∷◌, ◌++◌, length, arith, get_or, slice_set, take, sym, ap, subst, ◌∙◌}
use Rattle.std.proofs.lemmas.List.{take_more}
use Rattle.std.specs.List.{AllZip}

pub zip_push : {A B : Type 0} (R : A → B → Type 0) (xs : List A) (ys : List B) (x : A) (y : B) → AllZip R xs ys → R x y → AllZip R (xs ++ x ∷ []) (ys ++ y ∷ [])
zip_push R [] [] x y h r = (r, tt)
zip_push R [] (z ∷ zs) x y h r = absurd h
zip_push R (z ∷ zs) [] x y h r = absurd h
zip_push R (z ∷ zs) (w ∷ ws) x y (h, hs) r = (h, zip_push R zs ws x y hs r)

pub zip_more : {A B : Type 0} (R : A → B → Type 0) (xs : List A) (ys : List B) (i : ℕ) (x : A) (y : B) → i < length xs → x ≡ get_or xs i x
    → AllZip R (take i xs) ys → R x y → AllZip R (take (i + 1) xs) (ys ++ y ∷ [])
zip_more R xs ys i x y within is h r =
    subst (λ zs. AllZip R zs (ys ++ y ∷ [])) (sym (take_more xs i x within ∙ ap (λ z. take i xs ++ z ∷ []) (sym is))) (zip_push R (take i xs) ys x y h r)

-- the relation at a place, and after a write there
pub zip_set : {A B : Type 0} (R : A → B → Type 0) (xs : List A) (ys : List B) (i : ℕ) (y : B) → i < length xs
    → ((d : A) → R (get_or xs i d) y) → AllZip R xs ys → AllZip R xs (slice_set ys i y)
zip_set R [] ys i y within r h = absurd (omega arith)
zip_set R (x ∷ xs) [] i y within r h = absurd h
zip_set R (x ∷ xs) (z ∷ zs) zero y within r (h, hs) = (r x, hs)
zip_set R (x ∷ xs) (z ∷ zs) (suc i) y within r (h, hs) = (h, zip_set R xs zs i y (omega arith) r hs)

pub zip_get : {A B : Type 0} (R : A → B → Type 0) (xs : List A) (ys : List B) (i : ℕ) (d : A) (e : B) → AllZip R xs ys → i < length xs
    → R (get_or xs i d) (get_or ys i e)
zip_get R [] ys i d e h within = absurd (omega arith)
zip_get R (x ∷ xs) [] i d e h within = absurd h
zip_get R (x ∷ xs) (y ∷ ys) zero d e (h, hs) within = h
zip_get R (x ∷ xs) (y ∷ ys) (suc i) d e (h, hs) within = zip_get R xs ys i d e hs (omega arith)

pub zip_long : {A B : Type 0} (R : A → B → Type 0) (xs : List A) (ys : List B) → AllZip R xs ys → length ys ≡ length xs
zip_long R [] [] h = omega arith
zip_long R [] (y ∷ ys) h = absurd h
zip_long R (x ∷ xs) [] h = absurd h
zip_long R (x ∷ xs) (y ∷ ys) (h, hs) = let e = zip_long R xs ys hs in omega (arith, e)
