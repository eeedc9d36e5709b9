-- The first of several faults does not depend on which two are compared first.
use Rattle.std.proofs.Common.{◌≡◌, ℕ, suc, Bool, true, false, cond, not, ◌||◌, ◌&&◌, nat_lt, Option, Some, None, refl, sym, ap₂, ◌∙◌, arith}
use Rattle.std.proofs.lemmas.Bool.Decides.{nat_tests}
use Rattle.ari_text.specs.declared.fault.AriFault.{AriFault}
use Rattle.ari_text.specs.FaultParts.{shown_place}
use Rattle.ari_text.specs.Least.{stands_before, comes_before, number_of_fault, lesser}

-- ---- the order

-- places as numbers, with none before all
rank : Option ℕ → ℕ
rank None = 0
rank (Some p) = suc p

stands_by_rank : (o q : Option ℕ) → stands_before o q ≡ nat_lt (rank o) (rank q)
unfolding rank
stands_by_rank (Some p) (Some q) = grind (arith, nat_tests)
stands_by_rank None (Some q) = grind (arith, nat_tests)
stands_by_rank (Some p) None = grind (arith, nat_tests)
stands_by_rank None None = grind (arith, nat_tests)

abbrev lex : ℕ → ℕ → ℕ → ℕ → Bool
lex p m q n = nat_lt p q || (not (nat_lt q p) && nat_lt m n)

before_by_rank : (f g : AriFault) → comes_before f g ≡ lex (rank (shown_place f)) (number_of_fault f) (rank (shown_place g)) (number_of_fault g)
unfolding comes_before
before_by_rank f g =
    ap₂ (λ b c. b || (not c && nat_lt (number_of_fault f) (number_of_fault g)))
    (stands_by_rank (shown_place f) (shown_place g)) (stands_by_rank (shown_place g) (shown_place f))

lex_self : (p m : ℕ) → lex p m p m ≡ false
lex_self p m = grind (arith, nat_tests)

-- f is not after h, and h is before g: g is not before f
lex_less : (p m q n r k : ℕ) → lex q n r k ≡ true → lex q n p m ≡ false → lex r k p m ≡ false
lex_less p m q n r k e f = grind (arith, nat_tests)

-- g is not before f, and h is not before g: h is not before f
lex_keep : (p m q n r k : ℕ) → lex q n r k ≡ false → lex r k p m ≡ false → lex q n p m ≡ false
lex_keep p m q n r k e f = grind (arith, nat_tests)

-- h is before g, and g is before f: h is before f
lex_both : (p m q n r k : ℕ) → lex q n r k ≡ true → lex r k p m ≡ true → lex q n p m ≡ true
lex_both p m q n r k e f = grind (arith, nat_tests)

pub before_self : (f : AriFault) → comes_before f f ≡ false
before_self f = before_by_rank f f ∙ lex_self (rank (shown_place f)) (number_of_fault f)

module _ (f g h : AriFault) where
  abbrev by : AriFault → AriFault → Bool
  by x y = lex (rank (shown_place x)) (number_of_fault x) (rank (shown_place y)) (number_of_fault y)

  pub less : comes_before h g ≡ true → comes_before h f ≡ false → comes_before g f ≡ false
  less e k =
      before_by_rank g f ∙ lex_less (rank (shown_place f)) (number_of_fault f) (rank (shown_place h)) (number_of_fault h) (rank (shown_place g)) (number_of_fault g)
      (sym (before_by_rank h g) ∙ e) (sym (before_by_rank h f) ∙ k)

  pub keep : comes_before h g ≡ false → comes_before g f ≡ false → comes_before h f ≡ false
  keep e k =
      before_by_rank h f ∙ lex_keep (rank (shown_place f)) (number_of_fault f) (rank (shown_place h)) (number_of_fault h) (rank (shown_place g)) (number_of_fault g)
      (sym (before_by_rank h g) ∙ e) (sym (before_by_rank g f) ∙ k)

  follows : comes_before h g ≡ true → comes_before g f ≡ true → comes_before h f ≡ true
  follows e k =
      before_by_rank h f ∙ lex_both (rank (shown_place f)) (number_of_fault f) (rank (shown_place h)) (number_of_fault h) (rank (shown_place g)) (number_of_fault g)
      (sym (before_by_rank h g) ∙ e) (sym (before_by_rank g f) ∙ k)

-- ---- the first of three

-- by the tests of g before f, of h before g, and of h before f
first_by : (f g h : AriFault) (a b c : Bool) → comes_before g f ≡ a → comes_before h g ≡ b → comes_before h f ≡ c
    → lesser (cond a g f) h ≡ lesser f (cond b h g)
first_by f g h true true c x y z = rw (y, follows f g h y x) refl
first_by f g h true false c x y z = rw (y, x) refl
first_by f g h false true true x y z = rw z refl
first_by f g h false true false x y z = rw z refl
first_by f g h false false c x y z = rw (x, keep f g h y x) refl

pub lesser_associative : (f g h : AriFault) → lesser (lesser f g) h ≡ lesser f (lesser g h)
lesser_associative f g h = first_by f g h (comes_before g f) (comes_before h g) (comes_before h f) refl refl refl
