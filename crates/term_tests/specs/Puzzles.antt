use Rattle.std.proofs.Common.{◌≡◌, ℕ, ◌+◌, ◌<◌, Bool, true, false, cond, eqb, get_or, refl, ap, subst, arith, Option, Some, None}
use Rattle.std.proofs.lemmas.Bool.Decides.{nat_tests}
use Rattle.assign_search.specs.Puzzle.{Puzzle, IsLawful}

-- two slots: "slot 0 is a", "slot 1 is b"
abbrev pub pair_puzzle : ℕ → ℕ → ℕ → ℕ → Puzzle
pair_puzzle a b m n = record {
  slots = 2;
  domain = λ s. cond (eqb s 0) m n;
  constraints = 2;
  uses = λ c s. eqb c s;
  truth = λ c p. eqb (get_or p c 0) (cond (eqb c 0) a b);
}

same_from_eqb : (c s : ℕ) → eqb c s ≡ true → c ≡ s
same_from_eqb c s h = grind (arith, nat_tests)

eqb_self : (c : ℕ) → eqb c c ≡ true
eqb_self c = grind (arith, nat_tests)

pub pair_lawful : (a b m n : ℕ) → IsLawful (pair_puzzle a b m n)
pair_lawful a b m n = record {
  within = λ c s l u. (let e = same_from_eqb c s u in subst (λ (k : ℕ). k < 2) e l);
  depends = λ c p q l cp cq h. ap (λ (v : ℕ). eqb v (cond (eqb c 0) a b)) (h c (eqb_self c));
}

-- slots with two values each, and one constraint, on the last slot
abbrev pub deep_puzzle : ℕ → Option Bool → Puzzle
deep_puzzle n t = record {
  slots = n;
  domain = λ s. 2;
  constraints = 1;
  uses = λ c s. eqb (s + 1) n;
  truth = λ c p. elim t [ Some b ↦ b | None ↦ false ];
}

pub deep_lawful : (n : ℕ) (t : Option Bool) → IsLawful (deep_puzzle n t)
deep_lawful n t = record {
  within = λ c s l u. (let e : s + 1 ≡ n = same_from_eqb (s + 1) n u in omega (arith, e));
  depends = λ c p q l cp cq h. refl;
}
