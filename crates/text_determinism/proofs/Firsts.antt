-- The first item of a list of which a fact holds is one, and so is what stands along a list where each item has one.
use Rattle.std.specs.Prelude.{◌≡◌, List, ◌∷◌, refl}
use Rattle.std.proofs.Common.{ap₂}
use Rattle.trs_defs.specs.Member.{In, in_first, in_rest}
use Rattle.trs_defs.proofs.Members.{no_in}
use Rattle.conclusion.specs.report_text.strategies.join_find.First.{First, first_here, first_later, Some_in, Along, along_end, along_item}

pub first_once : {A : Type 0} (fact : A → Type 0) {xs : List A} {a b : A} → First fact xs a → First fact xs b → a ≡ b
first_once fact (first_here h) (first_here k) = refl
first_once fact (first_here h) (first_later not k) = absurd (not h)
first_once fact (first_later not h) (first_here k) = absurd (not k)
first_once fact (first_later not h) (first_later none k) = first_once fact h k

-- where there is a first item, the fact holds of some item
pub first_is_some : {A : Type 0} {fact : A → Type 0} {xs : List A} {a : A} → First fact xs a → Some_in fact xs
first_is_some (first_here {a = a} h) = (a, in_first, h)
first_is_some (first_later not h) = let (b, there, holds) = first_is_some h in (b, in_rest there, holds)

pub along_once : {A B : Type 0} (related : A → B → Type 0) → ((a : A) (b c : B) → related a b → related a c → b ≡ c)
    → {xs : List A} {ys zs : List B} → Along related xs ys → Along related xs zs → ys ≡ zs
along_once related once along_end along_end = refl
along_once related once (along_item {a = a} {b = b} h hs) (along_item {b = c} k ks) =
    ap₂ (λ y rest. y ∷ rest) (once a b c h k) (along_once related once hs ks)

-- each item has what stands along it
pub along_at : {A B : Type 0} (related : A → B → Type 0) {xs : List A} {ys : List B} {a : A} → Along related xs ys → In a xs → (b : B) × related a b
along_at related along_end i = absurd (no_in i)
along_at related (along_item {b = b} h hs) in_first = (b, h)
along_at related (along_item h hs) (in_rest i) = along_at related hs i
