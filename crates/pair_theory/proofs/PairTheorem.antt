-- The dependency pair theorem: where each marked term with terminating arguments is accessible, each well-formed term terminates.
use Rattle.std.proofs.Common.{◌≡◌, ℕ, refl, sym, ap, subst, ◌∙◌, List}
use Rattle.trs_defs.specs.Tree.{Tree, var, app, Trees, nil, cons}
use Rattle.trs_defs.specs.Substitution.{apply, apply_all}
use Rattle.pair_theory.specs.Accessible.{Acc, acc}
use Rattle.trs_defs.specs.Step.{StepBy, here, deep}
use Rattle.pair_theory.specs.Terminates.{ArgumentStep, Terminates}
use Rattle.pair_theory.specs.Subterm.{Sub, itself, under, Subs, in_head, in_tail}
use Rattle.trs_defs.specs.Every.{Every, every_nil, every_cons}
use Rattle.trs_defs.specs.Run.{Run, Stay}
use Rattle.trs_defs.specs.WellFormed.{IsWellFormed, AreWellFormed}
use Rattle.pair_theory.specs.Marked.{Marked, marked, plain}
use Rattle.pair_theory.specs.Chain.{ChainStep, link}
use Rattle.pair_theory.specs.DependencyPair.{IsDependencyPair, from_rule}
use Rattle.trs_defs.specs.System.{IsDefined}
use Rattle.pair_theory.specs.PairProblem.{ChainsEnd}
use Rattle.trs_defs.proofs.EqualTerms.{app_root, app_args}
use Rattle.trs_defs.proofs.Runs.{one, then}
use Rattle.pair_theory.proofs.Accessibility.{acc_induction, terminating_args, each_terminates, args_terminate}
use Rattle.pair_theory.proofs.Subterms.{args_sub}
use Rattle.pair_theory.proofs.Chains.{chain_small}

step_case : (P : Type 0) {rule : Tree → Tree → Type 0} {f : ℕ} {ss : Trees} {u : Tree} → StepBy rule (app f ss) u
    → ((l r : Tree) (σ : ℕ → Tree) → rule l r → app f ss ≡ apply σ l → u ≡ apply σ r → P)
    → ((us : Trees) → ArgumentStep rule ss us → u ≡ app f us → P) → P
step_case P (here (l, r, σ, h, e, e')) a b = a l r σ h e e'
step_case P (deep s) a b = b _ s refl

module _ (rule : Tree → Tree → Type 0)
    (rooted : (l r : Tree) → rule l r → (x : ℕ) → l ≡ var x → ⊥)
    (vars : (l r : Tree) → rule l r → (x : ℕ) → Sub (var x) r → Sub (var x) l)
    (decide : (g : ℕ) → Dec (IsDefined rule g)) where
  mutual
    value_terminates : (x : ℕ) (σ : ℕ → Tree) {t : Tree} → Sub (var x) t → Terminates rule (apply σ t) → Terminates rule (σ x)
    value_terminates x σ itself h = h
    value_terminates x σ (under {f = f} {ts = ts} p) h = value_terminates_in_all x σ p (each_terminates rule (apply_all σ ts) (terminating_args rule f (apply_all σ ts) h))

    value_terminates_in_all : (x : ℕ) (σ : ℕ → Tree) {ts : Trees} → Subs (var x) ts → Every (Terminates rule) (apply_all σ ts) → Terminates rule (σ x)
    value_terminates_in_all x σ (in_head p) (every_cons h hs) = value_terminates x σ p h
    value_terminates_in_all x σ (in_tail p) (every_cons h hs) = value_terminates_in_all x σ p hs

  root_left : {f : ℕ} {ss : Trees} {l r : Tree} {σ : ℕ → Tree} → rule l r → app f ss ≡ apply σ l
      → (P : Type 0) → ((ls : Trees) → l ≡ app f ls → ss ≡ apply_all σ ls → P) → P
  root_left {l = var x} h e P k = absurd (rooted _ _ h x refl)
  root_left {l = app g ls} h e P k = k ls (ap (λ n. app n ls) (sym (app_root e))) (app_args e)

  var_no_left : {x : ℕ} (l : Tree) {r : Tree} (σ : ℕ → Tree) → rule l r → var x ≡ apply σ l → ⊥
  var_no_left (var y) σ h e = rooted _ _ h y refl
  var_no_left (app f ls) σ h e = cc

  var_step : {x : ℕ} {s u : Tree} → s ≡ var x → StepBy rule s u → ⊥
  var_step e (here (l, r, σ, h, e', e'')) = var_no_left l σ h (sym e ∙ e')
  var_step e (deep s) = cc

  pub var_normal : (x : ℕ) → Terminates rule (var x)
  var_normal x = acc (λ u s. absurd (var_step refl s))

  -- a term whose root is no rule's root steps inside only
  constructor_terminates : (f : ℕ) → (IsDefined rule f → ⊥) → {ss : Trees} → Acc (ArgumentStep rule) ss → Terminates rule (app f ss)
  constructor_terminates f not a = acc_induction {P = λ ss. Terminates rule (app f ss)}
      (λ ss below rec. acc (λ u s. step_case (Terminates rule u) s
      (λ l r σ h e e'. root_left h e (Terminates rule u) (λ ls is same. absurd (not (ls, r, subst (λ l. rule l r) is h))))
      (λ us s' e. subst (Terminates rule) (sym e) (rec us s'))))
      a

  -- a right side under a substitution that terminates on the left side's arguments
  module _ (start : Marked) (calls : (v : Marked) → ChainStep rule (IsDependencyPair rule) start v → Terminates rule (plain v))
      (f : ℕ) (ls : Trees) (r : Tree) (σ : ℕ → Tree) (h : rule (app f ls) r) (symbol : start.symbol ≡ f)
      (reach : Run (ArgumentStep rule) start.args (apply_all σ ls)) (small : Every (Terminates rule) (apply_all σ ls)) where
    var_terminates : (x : ℕ) → Sub (var x) (app f ls) → Terminates rule (σ x)
    var_terminates x (under p) = value_terminates_in_all x σ p small

    call : (g : ℕ) (us : Trees) → Sub (app g us) r → Dec (IsDefined rule g) → Every (Terminates rule) (apply_all σ us) → Terminates rule (app g (apply_all σ us))
    call g us p (yes d) hs = calls (marked g (apply_all σ us)) (link (marked f ls) (marked g us) σ (from_rule r h p d) symbol reach refl hs)
    call g us p (no not) hs = constructor_terminates g not (args_terminate rule hs)

    mutual
      right_terminates : (t : Tree) → Sub t r → Terminates rule (apply σ t)
      right_terminates (var x) p = var_terminates x (vars _ _ h x p)
      right_terminates (app g us) p = call g us p (decide g) (rights_terminate us (args_sub p))

      rights_terminate : (ts : Trees) → Every (λ u. Sub u r) ts → Every (Terminates rule) (apply_all σ ts)
      rights_terminate nil every_nil = every_nil
      rights_terminate (cons t ts) (every_cons p ps) = every_cons (right_terminates t p) (rights_terminate ts ps)

  plain_terminates : (u : Marked) → ((v : Marked) → ChainStep rule (IsDependencyPair rule) u v → Terminates rule (plain v))
      → {ss : Trees} → Acc (ArgumentStep rule) ss → Run (ArgumentStep rule) u.args ss → Every (Terminates rule) ss → Terminates rule (app u.symbol ss)
  plain_terminates u calls a =
      acc_induction {P = λ ss. Run (ArgumentStep rule) u.args ss → Every (Terminates rule) ss → Terminates rule (app u.symbol ss)}
      (λ ss below rec reach small. acc (λ t s. step_case (Terminates rule t) s
      (λ l r σ h e e'. root_left h e (Terminates rule t) (λ ls is same.
      subst (Terminates rule) (sym e') (right_terminates u calls u.symbol ls r σ (subst (λ l. rule l r) is h) refl
      (subst (Run (ArgumentStep rule) u.args) same reach) (subst (Every (Terminates rule)) same small) r itself)))
      (λ us s' e. subst (Terminates rule) (sym e)
      (rec us s' (then reach (one s')) (each_terminates rule us (below us s'))))))
      a

  pub call_terminates : {u : Marked} → Acc (ChainStep rule (IsDependencyPair rule)) u → Every (Terminates rule) u.args → Terminates rule (plain u)
  call_terminates a = acc_induction {P = λ u. Every (Terminates rule) u.args → Terminates rule (plain u)}
      (λ u below rec small. plain_terminates u (λ v c. rec v c (chain_small c)) (args_terminate rule small) Stay small)
      a

  module _ (arities : List ℕ) (all : ChainsEnd arities rule (IsDependencyPair rule)) where
    mutual
      pub terminating : (t : Tree) → IsWellFormed arities t → Terminates rule t
      terminating (var x) w = var_normal x
      terminating (app f ts) w = let hs : Every (Terminates rule) ts = all_terminating ts w.1 in call_terminates (all (marked f ts) w hs) hs

      pub all_terminating : (ts : Trees) → AreWellFormed arities ts → Every (Terminates rule) ts
      all_terminating nil w = every_nil
      all_terminating (cons t ts) w = every_cons (terminating t w.0) (all_terminating ts w.1)
