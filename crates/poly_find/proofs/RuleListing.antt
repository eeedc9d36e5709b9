-- The subterms of rules, as they are listed and looked up.
use Rattle.std.proofs.Common.{◌≡◌, ℕ, ◌+◌, ◌<◌, zero, suc, List, [], ◌∷◌, ◌++◌, length, Option, Some, None, IfSome, inl, inr, ap, sym, ◌∙◌, arith, get_or, slice_get}
use Rattle.std.specs.Borrow.{Bor}
use Rattle.std.proofs.lemmas.Option.{same_Some, slice_get-get_or, slice_get_within}
use Rattle.trs_defs.specs.System.{RewriteRule}
use Rattle.trs_defs.proofs.ListItems.{item_of_longer, item_of_more}
use Rattle.poly_lin.specs.declared.subterms.Subterms.{Subterms}
use Rattle.poly_find.specs.RuleSubterms.{AreOf, AreOfEach}

pub each_with_more : (rules more : List RewriteRule) (listed : List (Option Subterms)) → length listed ≡ length rules → AreOfEach rules listed → AreOfEach (rules ++ more) listed
each_with_more rules more listed count h k subterms r there at =
    let within : k < length rules = omega (arith, slice_get_within listed k (Some subterms) there, count) in
    h k subterms r there (item_of_longer rules more k r within at)

pub of_this : (rules : List RewriteRule) (listed : List (Option Subterms)) (k : ℕ) (r : RewriteRule) (found : Option (Bor Subterms)) → AreOfEach rules listed
    → IfSome found (λ s. slice_get listed k ≡ Some (Some s.now)) → slice_get rules k ≡ Some r → IfSome found (λ s. AreOf r s.now)
of_this rules listed k r None h there at = tt
of_this rules listed k r (Some s) h there at = h k s.now r there at

pub one_longer : {T : Type 0} (xs : List T) (x : T) (k : ℕ) → length xs ≡ k → length (xs ++ x ∷ []) ≡ k + 1
one_longer [] x k e = omega (arith, e)
one_longer (y ∷ xs) x zero e = absurd (omega (arith, e))
one_longer (y ∷ xs) x (suc k) e = omega (arith, one_longer xs x k (omega (arith, e)))

-- one more
pub more_of_each : (rules : List RewriteRule) (listed : List (Option Subterms)) (k : ℕ) (r : RewriteRule) (new : Option Subterms) → length listed ≡ k → k < length rules → r ≡ get_or rules k r
    → IfSome new (AreOf r) → AreOfEach rules listed → AreOfEach rules (listed ++ new ∷ [])
more_of_each rules listed k r new count within is own h j subterms q there at = elim (item_of_more listed new (Some subterms) j there) as (λ _. AreOf q subterms) [
  | inl old ↦ h j subterms q old at
  | inr last ↦
      (let this : slice_get rules k ≡ Some r = slice_get-get_or rules k r within ∙ ap (λ s. Some s) (sym is) in
      let same : r ≡ q = same_Some r q (sym this ∙ ap (λ i. slice_get rules i) (sym (last.0 ∙ count)) ∙ at) in
      own_of new subterms r q last.1 same own)
]
  where
    own_of : (new : Option Subterms) (s : Subterms) (r q : RewriteRule) → Some s ≡ new → r ≡ q → IfSome new (AreOf r) → AreOf q s
    own_of None s r q e same own = absurd cc
    own_of (Some u) s r q e same own = rw (← same, same_Some s u e) own
