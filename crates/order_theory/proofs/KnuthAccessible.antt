-- The Knuth-Bendix order is well-founded on well-formed terms.
use Rattle.std.proofs.Common.{◌≡◌, ℕ, zero, suc, ◌+◌, ◌≤◌, ◌<◌, refl, sym, ap, subst, arith, ◌∙◌, Option, Some, None}
use native.Mathlib.Decide.{dec_lt, ℕ_discrete}
use Rattle.trs_defs.specs.Tree.{Tree, var, app, Trees, nil, cons, count}
use Rattle.pair_theory.specs.Accessible.{Acc, acc}
use Rattle.trs_defs.specs.Every.{Every, every_nil, every_cons}
use Rattle.order_theory.specs.KnuthBendix.{IsAdmissible, weigh, weigh_all, KnuthGreater, by_weight, by_tower, by_head, by_args, KnuthLexGreater, heavier_here, heavier_later}
use Rattle.pair_theory.specs.Over.{IsOver, AreOver}
use Rattle.pair_theory.proofs.Accessibility.{down, acc_induction}
use Rattle.order_theory.proofs.ListAccessible.{LexTo, lex_acc}

pub some_same : {m n : ℕ} → Some m ≡ Some n → m ≡ n
some_same e = cc

is_some : (o : Option ℕ) (n : ℕ) → Dec (o ≡ Some n)
is_some None n = no (λ e. cc)
is_some (Some m) n = go (ℕ_discrete m n)
  where
    go : Dec (m ≡ n) → Dec (Some m ≡ Some n)
    go (yes e) = yes (ap Some e)
    go (no d) = no (λ e. d (some_same e))

pub lex_count : {w rank : ℕ → ℕ} {ss ts : Trees} → KnuthLexGreater w rank ss ts → count ss ≡ count ts
lex_count (heavier_here g e) = ap (λ n. 1 + n) e
lex_count (heavier_later l) = ap (λ n. 1 + n) (lex_count l)

module _ (arity : ℕ → Option ℕ) (w rank : ℕ → ℕ) (admissible : IsAdmissible arity w rank) where
  -- heavier, among well-formed terms
  abbrev Falls : Tree → Tree → Type 0
  Falls s t = KnuthGreater w rank s t × IsOver arity t

  -- lists that fall, with terms of the arity function
  abbrev Lists : Trees → Trees → Type 0
  Lists ss ts = KnuthLexGreater w rank ss ts × AreOver arity ts

  lex_case : (P : Trees → Type 0) (s : Tree) (ss us : Trees) → Lists (cons s ss) us
      → ((t : Tree) (ts : Trees) → Falls s t → count ss ≡ count ts → P (cons t ts)) → ((ts : Trees) → Lists ss ts → P (cons s ts)) → P us
  lex_case P s ss us (heavier_here g e, v) a b = a _ _ (g, v.0) e
  lex_case P s ss us (heavier_later l, v) a b = b _ (l, v.1)

  no_lex : (ts : Trees) → Lists nil ts → ⊥
  no_lex ts (l, v) = elim l [ ]

  abbrev Lexes : Trees → Trees → Type 0
  Lexes = LexTo Falls Lists no_lex lex_case (λ ss ts l. lex_count l.0)

  lexes_acc : (ss : Trees) → Every (Acc Falls) ss → Acc Lexes ss
  lexes_acc ss h = lex_acc Falls Lists no_lex lex_case (λ ss ts l. lex_count l.0) (count ss) ss refl h

  pub weigh_pos : (t : Tree) → IsOver arity t → 1 ≤ weigh w t
  weigh_pos (var x) v = omega arith
  weigh_pos (app f nil) v = let h : 1 ≤ w f = admissible.constants_weigh f v.0 in omega arith
  weigh_pos (app f (cons t ts)) v = let h : 1 ≤ weigh w t = weigh_pos t v.1.0 in omega arith

  abbrev Light : ℕ → Tree → Type 0
  Light n t = IsOver arity t × (weigh w t < n)

  count_weighs : (ts : Trees) → AreOver arity ts → count ts ≤ weigh_all w ts
  count_weighs nil v = omega arith
  count_weighs (cons t ts) v = let h : 1 ≤ weigh w t = weigh_pos t v.0 in let k : count ts ≤ weigh_all w ts = count_weighs ts v.1 in omega arith

  each_light : (n : ℕ) (ts : Trees) → AreOver arity ts → weigh_all w ts + 1 < n + count ts → Every (Light n) ts
  each_light n nil v lt = every_nil
  each_light n (cons t ts) v lt =
      let h : 1 ≤ weigh w t = weigh_pos t v.0 in let k : count ts ≤ weigh_all w ts = count_weighs ts v.1 in
      every_cons (v.0, omega arith) (each_light n ts v.1 (omega arith))

  -- but for a unary symbol of weight 0, each argument weigh_all less than the term
  args_light : (f : ℕ) (ts : Trees) → IsOver arity (app f ts) → (arity f ≡ Some 1 → w f ≡ 0 → ⊥) → Every (Light (weigh w (app f ts))) ts
  args_light f nil v not = every_nil
  args_light f (cons t nil) v not = every_cons (v.1.0, let h : w f ≡ 0 → ⊥ = not v.0 in omega (arith, h)) every_nil
  args_light f (cons t (cons u us)) v not = each_light (weigh w (app f (cons t (cons u us)))) (cons t (cons u us)) v.1 (omega arith)

  var_acc : (x : ℕ) → Acc Falls (var x)
  var_acc x = acc (λ t h. absurd (no_fall h.0 h.1))
    where
      no_fall : {t : Tree} → KnuthGreater w rank (var x) t → IsOver arity t → ⊥
      no_fall {t = t} (by_weight k lt) v = let h : 1 ≤ weigh w t = weigh_pos t v in omega arith
      no_fall (by_tower p e) v = elim p [ ]

  heavier_case : (P : Type 0) {f : ℕ} {ss : Trees} {t : Tree} → KnuthGreater w rank (app f ss) t
      → (weigh w t < weigh w (app f ss) → P)
      → ((x : ℕ) → t ≡ var x → P)
      → ((g : ℕ) (ts : Trees) → t ≡ app g ts → weigh w (app f ss) ≡ weigh w (app g ts) → rank g < rank f → P)
      → ((ts : Trees) → t ≡ app f ts → weigh w (app f ss) ≡ weigh w (app f ts) → KnuthLexGreater w rank ss ts → P) → P
  heavier_case P (by_weight k lt) a b c d = a lt
  heavier_case P (by_tower p e) a b c d = b _ refl
  heavier_case P (by_head k e r) a b c d = c _ _ refl e r
  heavier_case P (by_args k e l) a b c d = d _ refl e l

  single : (f : ℕ) {ss ts : Trees} → count ts ≡ 1 → KnuthLexGreater w rank ss ts → Every (Acc Falls) ss → AreOver arity ts → Every (Acc Falls) ts
  single f {ts = ts} e (heavier_here {ts = ts'} g e') (every_cons h hs) v = every_cons (down h (g, v.0)) (none ts' (omega arith))
    where
      none : (ts : Trees) → count ts ≡ 0 → Every (Acc Falls) ts
      none nil e = every_nil
      none (cons t ts) e = absurd (omega arith)
  single f e (heavier_later {ts = ts'} l) (every_cons h hs) v = every_cons h (none ts' (omega arith) l)
    where
      none : {ss : Trees} (ts : Trees) → count ts ≡ 0 → KnuthLexGreater w rank ss ts → Every (Acc Falls) ts
      none nil e l = every_nil
      none (cons t ts) e l = absurd (omega arith)

  module _ (n : ℕ) (lighter : (t : Tree) → IsOver arity t → weigh w t < n → Acc Falls t) where
    light_acc : {m : ℕ} → m ≡ n → {ts : Trees} → Every (Light m) ts → Every (Acc Falls) ts
    light_acc e every_nil = every_nil
    light_acc {m} e (every_cons {t = t} h hs) = every_cons (lighter t h.0 (subst (λ k. weigh w t < k) e h.1)) (light_acc e hs)

    unary_zero : (f : ℕ) → Dec ((arity f ≡ Some 1) × (w f ≡ 0))
    unary_zero f = both (is_some (arity f) 1) (ℕ_discrete (w f) 0)
      where
        both : {A B : Type 0} → Dec A → Dec B → Dec (A × B)
        both (yes a) (yes b) = yes (a, b)
        both (yes a) (no m) = no (λ p. m p.1)
        both (no m) b = no (λ p. m p.0)

    app_acc : (f : ℕ) → ((g : ℕ) → rank g < rank f → (ts : Trees) → IsOver arity (app g ts) → weigh w (app g ts) ≡ n → Every (Acc Falls) ts → Acc Falls (app g ts))
        → (ss : Trees) → IsOver arity (app f ss) → weigh w (app f ss) ≡ n → Every (Acc Falls) ss → Acc Falls (app f ss)
    app_acc f lower ss v is small =
        acc_induction {P = λ ss. IsOver arity (app f ss) → weigh w (app f ss) ≡ n → Every (Acc Falls) ss → Acc Falls (app f ss)}
        (λ ss below rec v is small. acc (λ t h. heavier_case (Acc Falls t) h.0
        (λ lt. lighter t h.1 (subst (λ k. weigh w t < k) is lt))
        (λ x e. subst (Acc Falls) (sym e) (var_acc x))
        (λ g ts e same r. let v' : IsOver arity (app g ts) = subst (IsOver arity) e h.1 in let is' : weigh w (app g ts) ≡ n = sym same ∙ is in
        subst (Acc Falls) (sym e) (lower g r ts v' is' (light_acc is' (args_light g ts v' (λ one zero'. not_top g r one zero')))))
        (λ ts e same l. let v' : IsOver arity (app f ts) = subst (IsOver arity) e h.1 in let is' : weigh w (app f ts) ≡ n = sym same ∙ is in
        let each : Every (Acc Falls) ts = each_acc ss ts v' is' l small (unary_zero f) in
        subst (Acc Falls) (sym e) (rec ts ((l, v'.1), each) v' is' each))))
        (lexes_acc ss small) v is small
      where
        not_top : (g : ℕ) → rank g < rank f → arity g ≡ Some 1 → w g ≡ 0 → ⊥
        not_top g r one zero' = go (ℕ_discrete g f)
          where
            go : Dec (g ≡ f) → ⊥
            go (yes e) = let h : rank g ≡ rank f = ap rank e in omega arith
            go (no m) = let h : rank f < rank g = admissible.on_top g f (count ss) one zero' v.0 m in omega arith

        each_acc : (ss ts : Trees) → IsOver arity (app f ts) → weigh w (app f ts) ≡ n → KnuthLexGreater w rank ss ts → Every (Acc Falls) ss
            → Dec ((arity f ≡ Some 1) × (w f ≡ 0)) → Every (Acc Falls) ts
        each_acc ss ts v' is' l small (yes p) = let one : count ts ≡ 1 = some_same (sym v'.0 ∙ p.0) in single f one l small v'.1
        each_acc ss ts v' is' l small (no m) = light_acc is' (args_light f ts v' (λ one zero'. m (one, zero')))

    rank_acc : (k f : ℕ) → rank f < k → (ss : Trees) → IsOver arity (app f ss) → weigh w (app f ss) ≡ n → Every (Acc Falls) ss → Acc Falls (app f ss)
    rank_acc zero f lt = absurd (omega arith)
    rank_acc (suc k) f lt = app_acc f (λ g r. rank_acc k g (omega arith))

    by_dec : (f : ℕ) (ts : Trees) → IsOver arity (app f ts) → weigh w (app f ts) ≤ n → Every (Acc Falls) ts → Dec (weigh w (app f ts) < n) → Acc Falls (app f ts)
    by_dec f ts v le small (yes p) = lighter (app f ts) v p
    by_dec f ts v le small (no m) = rank_acc (suc (rank f)) f (omega arith) ts v (omega arith) small

    mutual
      at_weight : (t : Tree) → IsOver arity t → weigh w t ≤ n → Acc Falls t
      at_weight (var x) v le = var_acc x
      at_weight (app f ts) v le = by_dec f ts v le (at_weights ts v.1 (omega arith)) (dec_lt (weigh w (app f ts)) n)

      at_weights : (ts : Trees) → AreOver arity ts → weigh_all w ts ≤ n → Every (Acc Falls) ts
      at_weights nil v le = every_nil
      at_weights (cons t ts) v le = every_cons (at_weight t v.0 (omega arith)) (at_weights ts v.1 (omega arith))

  below_weight : (n : ℕ) (t : Tree) → IsOver arity t → weigh w t < n → Acc Falls t
  below_weight zero t v lt = absurd (omega arith)
  below_weight (suc n) t v lt = at_weight n (below_weight n) t v (omega arith)

  pub knuth_acc : (t : Tree) → IsOver arity t → Acc Falls t
  knuth_acc t v = below_weight (suc (weigh w t)) t v (omega arith)
