-- Usable rules: bounded terms go to terms that list their reducts, where the root is defined and not usable.
use Rattle.std.proofs.Common.{◌≡◌, ℕ, zero, suc, ◌+◌, ◌≤◌, refl, sym, ap, subst, arith, ◌⊎◌, inl, inr, List, [], ◌∷◌, Bool, true, false}
use mathlib.Core.Path.{fun_ext}
use Rattle.trs_defs.specs.Tree.{Tree, var, app, Trees, nil, cons}
use Rattle.trs_defs.specs.Substitution.{apply, apply_all}
use Rattle.pair_theory.specs.Accessible.{Acc, acc}
use Rattle.trs_defs.specs.Step.{StepBy, here, deep, first, later}
use Rattle.pair_theory.specs.Terminates.{ArgumentStep, Terminates}
use Rattle.trs_defs.specs.System.{RewriteRule, Among}
use Rattle.trs_defs.specs.Member.{In, in_first, in_rest}
use Rattle.pair_theory.specs.Subterm.{proper, Sub, itself, under, Subs, in_head, in_tail}
use Rattle.trs_defs.specs.Every.{Every, every_nil, every_cons}
use Rattle.trs_defs.specs.Run.{Run, Stay, Go}
use Rattle.pair_theory.specs.Marked.{Marked, plain, mark}
use Rattle.pair_theory.specs.Chain.{ChainStep, link}
use Rattle.pair_theory.specs.Moves.{Moves, no_moves, weakly, strictly}
use Rattle.trs_defs.proofs.EqualTerms.{join_cons}
use Rattle.trs_defs.proofs.Runs.{then}
use Rattle.trs_defs.proofs.StepLaws.{run_in_app, run_in_cons}
use Rattle.pair_theory.proofs.Accessibility.{down}
use Rattle.pair_theory.proofs.Matching.{occurs}
use Rattle.pair_theory.proofs.Reducts.{NoNewVariables, reducts}
use Rattle.pair_theory.proofs.Chains.{chain_map}
use Rattle.pair_theory.proofs.Removal.{removal_by}
use Rattle.pair_theory.proofs.Subterms.{sub_apply, subs_apply}
use Rattle.pair_theory.proofs.SubtermCriterion.{Down, down_acc}

-- two proofs that an element is accessible are equal
pub acc_prop : {A : Type 0} {r : A → A → Type 0} {x : A} (a b : Acc r x) → a ≡ b
acc_prop (acc h) (acc k) = ap acc (fun_ext (λ y. fun_ext (λ s. acc_prop (h y s) (k y s))))

abbrev map_args : (ts : Trees) → ((u : Tree) → Subs u ts → Tree) → Trees
map_args nil k = nil
map_args (cons t ts) k = cons (k t (in_head itself)) (map_args ts (λ u m. k u (in_tail m)))

abbrev map_in : (us : List Tree) → ((u : Tree) → In u us → Tree) → List Tree
map_in [] k = []
map_in (u ∷ us) k = k u in_first ∷ map_in us (λ v i. k v (in_rest i))

-- the list b1, .., bn, a as pairs
abbrev listed : ℕ → Tree → List Tree → Tree
listed c a [] = a
listed c a (b ∷ bs) = app c (cons b (cons (listed c a bs) nil))

abbrev top : ℕ → Bool → ℕ → Trees → List Tree → Tree
top c true f is js = listed c (app f is) js
top c false f is js = app f is

pick : {A : Type 0} → Dec A → (A → Tree) → Tree → Tree
pick (yes a) x y = x a
pick (no n) x y = y

pick_yes : {A : Type 0} (d : Dec A) (x : A → Tree) (y z : Tree) → A → ((a : A) → z ≡ x a) → z ≡ pick d x y
unfolding pick
pick_yes (yes a) x y z p k = k a
pick_yes (no n) x y z p k = absurd (n p)

pub bool_case : {P : Type 0} (b : Bool) → (b ≡ true → P) → (b ≡ false → P) → P
bool_case true f g = f refl
bool_case false f g = g refl

module _ (c : ℕ) (hidden : ℕ → Bool) (rs : List RewriteRule) (fine : (p : RewriteRule) → In p rs → NoNewVariables p) where
  abbrev To : Tree → Tree → Type 0
  To = Down (Among rs)

  abbrev body : (t : Tree) → ((u : Tree) → To t u → Tree) → Tree
  body (var x) rec = var x
  body (app f ts) rec = top c (hidden f) f (map_args ts (λ u m. rec u (inr (proper m))))
      (map_in (reducts rs fine (app f ts)).0 (λ u i. rec u (inl ((reducts rs fine (app f ts)).2 u i))))

  abbrev pub interpretation : (t : Tree) → Acc To t → Tree
  interpretation t (acc h) = body t (λ u d. interpretation u (h u d))

  same_interpretation : (t : Tree) (a b : Acc To t) → interpretation t a ≡ interpretation t b
  same_interpretation t a b = ap (interpretation t) (acc_prop a b)

  -- no hidden symbol
  abbrev mutual
    pub Free : Tree → Type 0
    Free (var x) = Unit {0}
    Free (app f ts) = (hidden f ≡ false) × FreeEach ts

    pub FreeEach : Trees → Type 0
    FreeEach nil = Unit {0}
    FreeEach (cons t ts) = Free t × FreeEach ts

  module _ (σ vs : ℕ → Tree) where
    abbrev Agrees : ℕ → Type 0
    Agrees x = (a : Acc To (σ x)) → interpretation (σ x) a ≡ vs x

    mutual
      free_interpretation : (t : Tree) → Free t → ((x : ℕ) → Sub (var x) t → Agrees x) → (a : Acc To (apply σ t)) → interpretation (apply σ t) a ≡ apply vs t
      free_interpretation (var x) fr k a = k x itself a
      free_interpretation (app f ts) fr k (acc h) = rw fr.0 (ap (app f) (free_each ts fr.1 (λ x p. k x (under p)) (λ u m. h u (inr (proper m)))))

      free_each : (ts : Trees) → FreeEach ts → ((x : ℕ) → Subs (var x) ts → Agrees x) → (k : (u : Tree) → Subs u (apply_all σ ts) → Acc To u)
          → map_args (apply_all σ ts) (λ u m. interpretation u (k u m)) ≡ apply_all vs ts
      free_each nil fr k h = refl
      free_each (cons t ts) fr k h = join_cons (free_interpretation t fr.0 (λ x p. k x (in_head p)) (h _ (in_head itself)))
          (free_each ts fr.1 (λ x p. k x (in_tail p)) (λ u m. h u (in_tail m)))

  abbrev pub chooses : List RewriteRule
  chooses = record { left = app c (cons (var 0) (cons (var 1) nil)); right = var 0 } ∷ record { left = app c (cons (var 0) (cons (var 1) nil)); right = var 1 } ∷ []

  module _ (ws : List RewriteRule) (chosen : (p : RewriteRule) → In p chooses → In p ws) where
    abbrev Goes : Tree → Tree → Type 0
    Goes = Run (StepBy (Among ws))

    two : Tree → Tree → ℕ → Tree
    two s t zero = s
    two s t (suc n) = t

    choose_left : (s t : Tree) → StepBy (Among ws) (app c (cons s (cons t nil))) s
    unfolding two
    choose_left s t = here (_, _, two s t, chosen _ in_first, refl, refl)

    choose_right : (s t : Tree) → StepBy (Among ws) (app c (cons s (cons t nil))) t
    unfolding two
    choose_right s t = here (_, _, two s t, chosen _ (in_rest in_first), refl, refl)

    listed_last : (a : Tree) (bs : List Tree) → Goes (listed c a bs) a
    listed_last a [] = Stay
    listed_last a (b ∷ bs) = Go (choose_right b (listed c a bs)) (listed_last a bs)

    listed_member : (a : Tree) (us : List Tree) (k : (u : Tree) → In u us → Tree) (u : Tree) (i : In u us) → Goes (listed c a (map_in us k)) (k u i)
    listed_member a [] k u i = elim i [ ]
    listed_member a (v ∷ us) k u in_first = Go (choose_left (k v in_first) (listed c a (map_in us (λ w j. k w (in_rest j))))) Stay
    listed_member a (v ∷ us) k u (in_rest j) = Go (choose_right (k v in_first) (listed c a (map_in us (λ w j. k w (in_rest j)))))
        (listed_member a us (λ w j. k w (in_rest j)) u j)

    top_goes : (b : Bool) (f : ℕ) (is : Trees) (js : List Tree) → Goes (top c b f is js) (app f is)
    top_goes true f is js = listed_last (app f is) js
    top_goes false f is js = Stay

    module _ (σ vs : ℕ → Tree) where
      mutual
        goes_interpretation : (t : Tree) → ((x : ℕ) → Sub (var x) t → Agrees σ vs x) → (a : Acc To (apply σ t)) → Goes (interpretation (apply σ t) a) (apply vs t)
        goes_interpretation (var x) k a = subst (Goes (interpretation (σ x) a)) (k x itself a) Stay
        goes_interpretation (app f ts) k (acc h) = then (top_goes (hidden f) f _ _) (run_in_app f (goes_each ts (λ x p. k x (under p)) (λ u m. h u (inr (proper m)))))

        goes_each : (ts : Trees) → ((x : ℕ) → Subs (var x) ts → Agrees σ vs x) → (k : (u : Tree) → Subs u (apply_all σ ts) → Acc To u)
            → Run (ArgumentStep (Among ws)) (map_args (apply_all σ ts) (λ u m. interpretation u (k u m))) (apply_all vs ts)
        goes_each nil k h = Stay
        goes_each (cons t ts) k h = run_in_cons (goes_interpretation t (λ x p. k x (in_head p)) (h _ (in_head itself)))
            (goes_each ts (λ x p. k x (in_tail p)) (λ u m. h u (in_tail m)))

    same_each : (ts : Trees) (k k' : (u : Tree) → Subs u ts → Acc To u) → map_args ts (λ u m. interpretation u (k u m)) ≡ map_args ts (λ u m. interpretation u (k' u m))
    same_each nil k k' = refl
    same_each (cons t ts) k k' = join_cons (same_interpretation t (k t (in_head itself)) (k' t (in_head itself))) (same_each ts (λ u m. k u (in_tail m)) (λ u m. k' u (in_tail m)))

    sub_acc : {s t : Tree} → Sub s t → Acc To t → Acc To s
    sub_acc itself a = a
    sub_acc (under p) a = down a (inr (proper p))

    hidden_goes : (f : ℕ) (ts : Trees) → hidden f ≡ true → (a : Acc To (app f ts)) (t : Tree) → StepBy (Among rs) (app f ts) t → (b : Acc To t) → Goes (interpretation (app f ts) a) (interpretation t b)
    hidden_goes f ts e (acc h) t s b =
        let k : (u : Tree) → In u (reducts rs fine (app f ts)).0 → Tree = λ u i. interpretation u (h u (inl ((reducts rs fine (app f ts)).2 u i))) in
        let is : Trees = map_args ts (λ u m. interpretation u (h u (inr (proper m)))) in
        let i : In t (reducts rs fine (app f ts)).0 = (reducts rs fine (app f ts)).1 t s in
        subst (λ z. Goes (top c z f is (map_in (reducts rs fine (app f ts)).0 k)) (interpretation t b)) (sym e)
        (subst (λ z. Goes (listed c (app f is) (map_in (reducts rs fine (app f ts)).0 k)) z) (same_interpretation t (h t (inl ((reducts rs fine (app f ts)).2 t ((reducts rs fine (app f ts)).1 t s)))) b)
        (listed_member (app f is) (reducts rs fine (app f ts)).0 k t i))

    module _ (usable : (f : ℕ) (ls : Trees) (r : Tree) → Among rs (app f ls) r → hidden f ≡ false → Among ws (app f ls) r × Free r)
        (rooted : (l r : Tree) → Among rs l r → (x : ℕ) → l ≡ var x → ⊥) where
      module _ (σ : ℕ → Tree) (l : Tree) (a : (x : ℕ) → Sub (var x) l → Acc To (σ x)) where
        -- the interpretation of what the variables of l stand for
        chosen_at : ℕ → Tree
        chosen_at x = pick (occurs x l) (λ p. interpretation (σ x) (a x p)) (var x)

        agrees : (x : ℕ) → Sub (var x) l → Agrees σ chosen_at x
        unfolding chosen_at
        agrees x p b = pick_yes (occurs x l) (λ p. interpretation (σ x) (a x p)) (var x) (interpretation (σ x) b) p (λ q. same_interpretation (σ x) b (a x q))

      root_goes : (l r : Tree) (σ : ℕ → Tree) → Among rs l r → (a : Acc To (apply σ l)) (b : Acc To (apply σ r)) → Goes (interpretation (apply σ l) a) (interpretation (apply σ r) b)
      root_goes (var x) r σ i a b = absurd (rooted _ _ i x refl)
      root_goes (app f ls) r σ i a b = bool_case (hidden f)
          (λ e. hidden_goes f (apply_all σ ls) e a (apply σ r) (here (app f ls, r, σ, i, refl, refl)) b)
          (λ e. let u : Among ws (app f ls) r × Free r = usable f ls r i e in
          let at_var : (x : ℕ) → Sub (var x) (app f ls) → Acc To (σ x) = λ x p. sub_acc (sub_apply σ p) a in
          let vs : ℕ → Tree = chosen_at σ (app f ls) at_var in
          then (goes_interpretation σ vs (app f ls) (agrees σ (app f ls) at_var) a)
          (Go (here (app f ls, r, vs, u.0, refl, refl))
          (subst (Goes (apply vs r)) (sym (free_interpretation σ vs r u.1 (λ x p. agrees σ (app f ls) at_var x (fine _ i x p)) b)) Stay)))

      same_goes : {s t : Tree} → s ≡ t → Goes s t
      same_goes {s} e = subst (Goes s) e Stay

      same_run : {ss ts : Trees} → ss ≡ ts → Run (ArgumentStep (Among ws)) ss ts
      same_run {ss} e = subst (Run (ArgumentStep (Among ws)) ss) e Stay

      inner_goes : (f : ℕ) (ss ts : Trees) → hidden f ≡ false → (h : (u : Tree) → To (app f ss) u → Acc To u) (h' : (u : Tree) → To (app f ts) u → Acc To u)
          → Run (ArgumentStep (Among ws)) (map_args ss (λ u m. interpretation u (h u (inr (proper m))))) (map_args ts (λ u m. interpretation u (h' u (inr (proper m)))))
          → Goes (interpretation (app f ss) (acc h)) (interpretation (app f ts) (acc h'))
      inner_goes f ss ts e h h' st = rw e (run_in_app f st)

      mutual
        step_interpretation : {s t : Tree} → StepBy (Among rs) s t → (a : Acc To s) (b : Acc To t) → Goes (interpretation s a) (interpretation t b)
        step_interpretation (here {s = s} {t = t} (l, r, σ, i, e, e')) a b =
            subst (λ s. (a : Acc To s) → Goes (interpretation s a) (interpretation t b)) (sym e)
            (λ a. subst (λ t. (b : Acc To t) → Goes (interpretation (apply σ l) a) (interpretation t b)) (sym e') (λ b. root_goes l r σ i a b) b) a
        step_interpretation (deep {f = f} {ss = ss} {ts = ts} st) (acc h) (acc h') = bool_case (hidden f)
            (λ e. hidden_goes f ss e (acc h) (app f ts) (deep st) (acc h'))
            (λ e. inner_goes f ss ts e h h' (steps_interpretation st (λ u m. h u (inr (proper m))) (λ u m. h' u (inr (proper m)))))

        steps_interpretation : {ss ts : Trees} → ArgumentStep (Among rs) ss ts → (k : (u : Tree) → Subs u ss → Acc To u) (k' : (u : Tree) → Subs u ts → Acc To u)
            → Run (ArgumentStep (Among ws)) (map_args ss (λ u m. interpretation u (k u m))) (map_args ts (λ u m. interpretation u (k' u m)))
        steps_interpretation (first {ts = ts} s) k k' = run_in_cons (step_interpretation s (k _ (in_head itself)) (k' _ (in_head itself)))
            (same_run (same_each ts (λ u m. k u (in_tail m)) (λ u m. k' u (in_tail m))))
        steps_interpretation (later {t = s} st) k k' = run_in_cons (same_goes (same_interpretation s (k _ (in_head itself)) (k' _ (in_head itself))))
            (steps_interpretation st (λ u m. k u (in_tail m)) (λ u m. k' u (in_tail m)))

      step_keys : {ss ts : Trees} → ArgumentStep (Among rs) ss ts → ((u : Tree) → Subs u ss → Acc To u) → (u : Tree) → Subs u ts → Acc To u
      step_keys (first s) k u (in_head p) = sub_acc p (down (k _ (in_head itself)) (inl s))
      step_keys (first s) k u (in_tail m) = k u (in_tail m)
      step_keys (later s) k u (in_head p) = k u (in_head p)
      step_keys (later s) k u (in_tail m) = step_keys s (λ u m. k u (in_tail m)) u m

      run_keys : {ss ts : Trees} → Run (ArgumentStep (Among rs)) ss ts → ((u : Tree) → Subs u ss → Acc To u) → (u : Tree) → Subs u ts → Acc To u
      run_keys Stay k = k
      run_keys (Go s p) k = run_keys p (step_keys s k)

      run_interpretation : {ss ts : Trees} → Run (ArgumentStep (Among rs)) ss ts → (k : (u : Tree) → Subs u ss → Acc To u) (k' : (u : Tree) → Subs u ts → Acc To u)
          → Run (ArgumentStep (Among ws)) (map_args ss (λ u m. interpretation u (k u m))) (map_args ts (λ u m. interpretation u (k' u m)))
      run_interpretation {ss} Stay k k' = same_run (same_each ss k k')
      run_interpretation (Go s p) k k' = then (steps_interpretation s k (step_keys s k)) (run_interpretation p (step_keys s k) k')

      -- the interpretation of a marked term
      abbrev marked_interpretation : (u : Marked) → ((t : Tree) → Subs t u.args → Acc To t) → Tree
      marked_interpretation u k = app (u.symbol + 4096) (map_args u.args (λ t m. interpretation t (k t m)))

      moves_goes : (ss : List RewriteRule) {s t u : Tree} {n : ℕ} → Goes s t → Moves ws ss n t u → Moves ws ss n s u
      moves_goes ss Stay ms = ms
      moves_goes ss (Go s p) ms = weakly s (moves_goes ss p ms)

      module _ (ss : List RewriteRule) (P : Marked → Marked → Type 0) (free : (l r : Marked) → P l r → FreeEach r.args)
          (vars : (l r : Marked) → P l r → (x : ℕ) → Subs (var x) r.args → Subs (var x) l.args) where
        -- a chain step, as moves before its pair and the pair's instance
        chain_moves : {u v : Marked} → ChainStep (Among rs) P u v → (ku : (t : Tree) → Subs t u.args → Acc To t) (kv : (t : Tree) → Subs t v.args → Acc To t)
            → (l r : Marked) × (vs : ℕ → Tree) × P l r × Goes (marked_interpretation u ku) (apply vs (mark l)) × (apply vs (mark r) ≡ marked_interpretation v kv)
        chain_moves {u} {v} (link l r σ h e reach to small) ku kv = (
          l,
          r,
          vs,
          h,
          subst (λ n. Goes (app (n + 4096) (map_args u.args (λ t m. interpretation t (ku t m)))) (apply vs (mark l))) (sym e)
              (run_in_app (l.symbol + 4096) (then (run_interpretation reach ku k2) (goes_each σ vs l.args agree k2))),
          subst (λ v. (kv : (t : Tree) → Subs t v.args → Acc To t) → apply vs (mark r) ≡ marked_interpretation v kv) (sym to)
              (λ kv. ap (app (r.symbol + 4096)) (sym (free_each σ vs r.args (free l r h) (λ x p. agree x (vars l r h x p)) kv))) kv,
        )
          where
            k2 : (t : Tree) → Subs t (apply_all σ l.args) → Acc To t
            k2 = run_keys reach ku

            at_var : (x : ℕ) → Sub (var x) (plain l) → Acc To (σ x)
            at_var x (under p) = k2 (σ x) (subs_apply σ p)

            vs : ℕ → Tree
            vs = chosen_at σ (plain l) at_var

            agree : (x : ℕ) → Subs (var x) l.args → Agrees σ vs x
            agree x p = agrees σ (plain l) at_var x (under p)

      module _ (ss : List RewriteRule) (stay gone : Marked → Marked → Type 0)
          (free_stay : (l r : Marked) → stay l r → FreeEach r.args) (free_gone : (l r : Marked) → gone l r → FreeEach r.args)
          (vars_stay : (l r : Marked) → stay l r → (x : ℕ) → Subs (var x) r.args → Subs (var x) l.args)
          (vars_gone : (l r : Marked) → gone l r → (x : ℕ) → Subs (var x) r.args → Subs (var x) l.args)
          (stay_in : (l r : Marked) → stay l r → Among ws (mark l) (mark r)) (gone_in : (l r : Marked) → gone l r → Among ss (mark l) (mark r))
          (Ok : Marked → Type 0) (keeps : (u v : Marked) → Ok u → ChainStep (Among rs) (λ l r. stay l r ⊎ gone l r) u v → Ok v)
          (small : (u : Marked) → Ok u → Every (Terminates (Among rs)) u.args)
          (rest : (u : Marked) → Ok u → Acc (ChainStep (Among rs) stay) u)
          (bounds : (t : Tree) → (n : ℕ) × ((m : ℕ) (u : Tree) → Moves ws ss m t u → m ≤ n)) where
        each_k : {us : Trees} → Every (Terminates (Among rs)) us → (t : Tree) → Subs t us → Acc To t
        each_k every_nil t p = elim p [ ]
        each_k (every_cons h hs) t (in_head p) = sub_acc p (down_acc (Among rs) h)
        each_k (every_cons h hs) t (in_tail p) = each_k hs t p

        ok_k : (u : Marked) → Ok u → (t : Tree) → Subs t u.args → Acc To t
        ok_k u ok = each_k (small u ok)

        abbrev Bound : ℕ → Marked → Type 0
        Bound n u = (k : (t : Tree) → Subs t u.args → Acc To t) (m : ℕ) (t : Tree) → Moves ws ss m (marked_interpretation u k) t → m ≤ n

        stay_moves : {u v : Marked} {m : ℕ} {t : Tree} → ChainStep (Among rs) stay u v → (ku : (t : Tree) → Subs t u.args → Acc To t) (kv : (t : Tree) → Subs t v.args → Acc To t)
            → Moves ws ss m (marked_interpretation v kv) t → Moves ws ss m (marked_interpretation u ku) t
        stay_moves {m = m} {t = t} c' ku kv ms = let w : _ = chain_moves ss stay free_stay vars_stay c' ku kv in
            moves_goes ss w.4 (weakly (here (mark w.0, mark w.1, w.2, stay_in w.0 w.1 w.3, refl, refl)) (subst (λ z. Moves ws ss m z t) (sym w.5) ms))

        gone_moves : {u v : Marked} {m : ℕ} {t : Tree} → ChainStep (Among rs) gone u v → (ku : (t : Tree) → Subs t u.args → Acc To t) (kv : (t : Tree) → Subs t v.args → Acc To t)
            → Moves ws ss m (marked_interpretation v kv) t → Moves ws ss (suc m) (marked_interpretation u ku) t
        gone_moves {m = m} {t = t} c' ku kv ms = let w : _ = chain_moves ss gone free_gone vars_gone c' ku kv in
            moves_goes ss w.4 (strictly (mark w.0, mark w.1, w.2, gone_in w.0 w.1 w.3, refl, refl) (subst (λ z. Moves ws ss m z t) (sym w.5) ms))

        moves_k : (v : Marked) (k k' : (t : Tree) → Subs t v.args → Acc To t) (m : ℕ) (t : Tree) → Moves ws ss m (marked_interpretation v k) t → Moves ws ss m (marked_interpretation v k') t
        moves_k v k k' m t ms = subst (λ z. Moves ws ss m (app (v.symbol + 4096) z) t) (same_each v.args k k') ms

        pub usable_removal : (u : Marked) → Ok u → Acc (ChainStep (Among rs) (λ l r. stay l r ⊎ gone l r)) u
        usable_removal u ok =
            let b : (n : ℕ) × ((m : ℕ) (t : Tree) → Moves ws ss m (marked_interpretation u (ok_k u ok)) t → m ≤ n) = bounds (marked_interpretation u (ok_k u ok)) in
            removal_by (Among rs) stay gone Ok keeps rest Bound
            (λ n u v ok c' bound kv m t ms. bound (ok_k u ok) m t (stay_moves c' (ok_k u ok) kv ms))
            (λ n u v ok c' bound kv m t ms. let h : suc m ≤ suc n = bound (ok_k u ok) (suc m) t (gone_moves c' (ok_k u ok) kv ms) in omega arith)
            (λ u v ok c' bound. let h : 1 ≤ 0 = bound (ok_k u ok) 1 _ (gone_moves c' (ok_k u ok) (ok_k v (keeps u v ok (chain_map (λ l r h. inr h) c'))) no_moves) in omega arith)
            b.0 u ok (λ k m t ms. b.1 m t (moves_k u k (ok_k u ok) m t ms))
