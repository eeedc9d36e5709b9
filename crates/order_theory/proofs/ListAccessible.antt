-- Lists of accessible terms, compared at the first place where they differ: such lists of one length are accessible.
use Rattle.std.proofs.Common.{◌≡◌, ℕ, zero, suc, sym, arith, ◌∙◌}
use Rattle.trs_defs.specs.Tree.{Tree, Trees, nil, cons, count}
use Rattle.pair_theory.specs.Accessible.{Acc, acc}
use Rattle.trs_defs.specs.Every.{Every, every_cons}
use Rattle.pair_theory.proofs.Accessibility.{acc_induction}
use Rattle.pair_theory.proofs.Subterms.{every_tail}

module _ (Falls : Tree → Tree → Type 0) (Lex : Trees → Trees → Type 0) (no_lex : (ts : Trees) → Lex nil ts → ⊥)
    (lex_case : (P : Trees → Type 0) (s : Tree) (ss us : Trees) → Lex (cons s ss) us
    → ((t : Tree) (ts : Trees) → Falls s t → count ss ≡ count ts → P (cons t ts)) → ((ts : Trees) → Lex ss ts → P (cons s ts)) → P us)
    (lex_count : (ss ts : Trees) → Lex ss ts → count ss ≡ count ts) where
  -- lexicographically smaller, with accessible members
  abbrev pub LexTo : Trees → Trees → Type 0
  LexTo ss ts = Lex ss ts × Every (Acc Falls) ts

  nil_acc : Acc LexTo nil
  nil_acc = acc (λ us l. absurd (no_lex us l.0))

  lex_cons : (n : ℕ) → ((ts : Trees) → count ts ≡ n → Every (Acc Falls) ts → Acc LexTo ts)
      → {s : Tree} → Acc Falls s → (ss : Trees) → count ss ≡ n → Acc LexTo ss → Acc LexTo (cons s ss)
  lex_cons n shorter a =
      acc_induction {P = λ s. (ss : Trees) → count ss ≡ n → Acc LexTo ss → Acc LexTo (cons s ss)}
      (λ s below rec ss e b. acc_induction {P = λ ss. count ss ≡ n → Acc LexTo (cons s ss)}
      (λ ss' below' rec' e'. acc (λ us l. lex_case (λ us. Every (Acc Falls) us → Acc LexTo us) s ss' us l.0
      (λ t ts g same h. let m : count ts ≡ n = sym same ∙ e' in rec t g ts m (shorter ts m (every_tail h)))
      (λ ts l' h. rec' ts (l', every_tail h) (sym (lex_count ss' ts l') ∙ e')) l.1))
      b e)
      a

  pub lex_acc : (n : ℕ) (ss : Trees) → count ss ≡ n → Every (Acc Falls) ss → Acc LexTo ss
  lex_acc n nil e h = nil_acc
  lex_acc zero (cons s ss) e h = absurd (omega arith)
  lex_acc (suc n) (cons s ss) e (every_cons h hs) =
      let m : count ss ≡ n = omega arith in lex_cons n (lex_acc n) h ss m (lex_acc n ss m hs)
