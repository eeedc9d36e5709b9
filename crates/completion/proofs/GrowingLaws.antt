-- Systems to which rules are added: their rules, the numbers of these by their roots, and the steps by them.
use Rattle.std.proofs.Common.{◌≡◌, ◌<◌, ◌≤◌, ℕ, zero, suc, ◌+◌, min, inl, inr, Bool, true, false, cond, append-nil, List, [], ◌∷◌, ◌++◌, length, length-append, get_or, map, Option, Some, None, Result, Ok, Err, OnOk, slice_get, slice_set, refl, sym, ap, subst, ◌∙◌, arith}
use Rattle.std.specs.Prelude.{IsSome, Vec}
use Rattle.std.specs.declared.alloc.Global.{Global}
use Rattle.std.specs.Option.{option_map}
use Rattle.std.proofs.lemmas.Bool.Decides.{eqb_tells}
use Rattle.std.proofs.lemmas.List.{map-append}
use Rattle.std.proofs.lemmas.List.Elements.{All-nil, All-push, All-head}
use Rattle.std.proofs.lemmas.Option.{slice_get-map, slice_get_past, slice_get_read, same_Some}
use Rattle.trs_defs.specs.Tree.{Tree, Trees, var, app}
use Rattle.trs_defs.specs.Size.{size_of}
use Rattle.trs_defs.specs.System.{RewriteRule, System, IsRule, IsSystem, has_root}
use Rattle.trs_defs.specs.Path.{StepsAt}
use Rattle.trs_defs.proofs.ListItems.{item_of_more}
use Rattle.trs_core.specs.SystemLimits.{AreBytes, HasSmallVariables, HaveSmallVariables, IsShallow, IsWithinLimits, nodes_of}
use Rattle.trs_core.specs.Valid.{system}
use Rattle.term_pool.specs.Numbers.{numbers_where}
use Rattle.term_pool.specs.Roots.{with_root}
use Rattle.term_pool.specs.Steps.{IsStepFault}
use Rattle.term_pool.specs.declared.steps.StepFault.{StepFault}
use Rattle.term_pool.specs.declared.steps.StepFault.TheVariants as fault
use Rattle.completion.specs.Growing.{single, numbers_in, numbers_at, HasNumber, IsGrowing}
use Rattle.completion.proofs.Room.{nodes_append}

-- ---- rules

-- no rules
pub none_grown : (trs : System) (arities : List ℕ) (rules : List RewriteRule) (singles : List System) (by_root : List (Vec ℕ Global)) → arities ≡ trs.arities
    → rules ≡ [] → singles ≡ [] → by_root ≡ [] → IsWithinLimits trs → AreBytes trs.arities → IsGrowing arities rules singles by_root 0
none_grown trs arities rules singles by_root e no_rules no_singles no_numbers limits bytes =
    let A : List ℕ → Type 0 = λ table. IsGrowing table rules singles by_root 0 in
    let R : List RewriteRule → Type 0 = λ rs. IsGrowing trs.arities rs singles by_root 0 in
    let S : List System → Type 0 = λ ss. IsGrowing trs.arities [] ss by_root 0 in
    let N : List (Vec ℕ Global) → Type 0 = λ ns. IsGrowing trs.arities [] [] ns 0 in
    subst A (sym e) (subst R (sym no_rules) (subst S (sym no_singles) (subst N (sym no_numbers) (record {
      valid = record { each = λ k r there. absurd cc };
      limits = record { symbols = limits.symbols; rules = omega arith; nodes = omega arith; shallow = All-nil IsShallow };
      bytes = bytes;
      variables = All-nil (λ (r : RewriteRule). HasSmallVariables r.left × HasSmallVariables r.right);
      each_single = refl;
      numbers = λ f. refl;
      counted = refl;
    }))))

-- the numbers of one item more
numbers_more : {T : Type 0} (test : T → Bool) (m : ℕ) (xs : List T) (x : T) (n : ℕ) → n ≡ m + length xs
    → numbers_where test m (xs ++ x ∷ []) ≡ numbers_where test m xs ++ cond (test x) (n ∷ []) []
numbers_more test m [] x n e = let same : m ≡ n = omega (arith, e) in ap (λ k. cond (test x) (k ∷ []) []) same
numbers_more test m (y ∷ xs) x n e = go (test y) (numbers_more test (m + 1) xs x n (omega (arith, e)))
  where
    go : (b : Bool) → numbers_where test (m + 1) (xs ++ x ∷ []) ≡ numbers_where test (m + 1) xs ++ cond (test x) (n ∷ []) []
        → cond b (m ∷ numbers_where test (m + 1) (xs ++ x ∷ [])) (numbers_where test (m + 1) (xs ++ x ∷ []))
        ≡ cond b (m ∷ numbers_where test (m + 1) xs) (numbers_where test (m + 1) xs) ++ cond (test x) (n ∷ []) []
    go true rest = ap (λ ks. m ∷ ks) rest
    go false rest = rest

module _ (arities : List ℕ) (rules : List RewriteRule) (singles : List System) (by_root : List (Vec ℕ Global)) (nodes : ℕ)
    (h : IsGrowing arities rules singles by_root nodes) (r : RewriteRule) where
  each_rule : IsSystem (single arities r) → (k : ℕ) (q : RewriteRule) → slice_get (rules ++ r ∷ []) k ≡ Some q → IsRule arities q
  each_rule one k q there = elim (item_of_more rules r q k there) as (λ _. IsRule arities q) [
    | inl old ↦ h.valid.each k q old
    | inr last ↦ one.each 0 q (ap (λ x. Some x) (sym last.1))
  ]

  numbers_grown : (new : List (Vec ℕ Global)) (number : ℕ) → number ≡ length rules → HasNumber by_root new r.left number → (f : ℕ) → numbers_at new f ≡ with_root f (rules ++ r ∷ [])
  numbers_grown new number e put f =
      put f ∙ (ap (λ ks. ks ++ cond (has_root f r.left) (number ∷ []) []) (h.numbers f)
      ∙ sym (numbers_more (λ (q : RewriteRule). has_root f q.left) 0 rules r number (omega (arith, e))))

  abbrev Small : RewriteRule → Type 0
  Small q = HasSmallVariables q.left × HasSmallVariables q.right

  -- one rule more
  pub one_grown : (more : List RewriteRule) (one : System) (others : List System) (new : List (Vec ℕ Global)) (number sum : ℕ) → more ≡ rules ++ r ∷ [] → one ≡ single arities r
      → others ≡ singles ++ one ∷ [] → IsSystem one → HaveSmallVariables one.rules → IsWithinLimits (system arities (rules ++ r ∷ [])) → number ≡ length rules → HasNumber by_root new r.left number
      → (most : ℕ) → 65536 ≤ most → sum ≡ min (nodes + (size_of r.left + size_of r.right)) most → IsGrowing arities more others new sum
  one_grown more one others new number sum grown is put valid small limits last numbered most high total =
      let R : List RewriteRule → Type 0 = λ rs. IsGrowing arities rs others new sum in
      let counted : nodes ≡ nodes_of rules = h.counted in
      let few : nodes_of (rules ++ r ∷ []) ≤ 65536 = limits.nodes in
      subst R (sym grown) (record {
        valid = record { each = each_rule (subst IsSystem is valid) };
        limits = limits;
        bytes = h.bytes;
        variables = All-push Small rules r h.variables (All-head Small r [] (subst (λ (s : System). HaveSmallVariables s.rules) is small));
        each_single = put ∙ (ap (λ ss. ss ++ one ∷ []) h.each_single ∙ (ap (λ s. map (single arities) rules ++ s ∷ []) is ∙ sym (map-append (single arities) rules (r ∷ []))));
        numbers = numbers_grown new number last numbered;
        counted = omega (arith, total, counted, few, high, nodes_append rules (r ∷ []));
      })

-- one rule as a system of its own is the system
pub only_single : (arities : List ℕ) (rules : List RewriteRule) (singles : List System) (one : System) → singles ≡ map (single arities) rules → 1 ≤ length singles → length singles < 2
    → one ≡ get_or singles 0 one → one ≡ system arities rules
only_single arities [] singles one are some few first = absurd (let none = ap length are in omega (arith, none, some))
only_single arities (r ∷ []) singles one are some few first = first ∙ ap (λ ss. get_or ss 0 one) are
only_single arities (r ∷ q ∷ rules) singles one are some few first = absurd (let two = ap length are in omega (arith, two, few))

-- the same of the last one, which is the only one
pub last_single : (arities : List ℕ) (rules : List RewriteRule) (singles before : List System) (one : System) → singles ≡ map (single arities) rules → length singles ≡ 1
    → singles ≡ before ++ one ∷ [] → one ≡ system arities rules
last_single arities rules singles [] one are count last = only_single arities rules singles one are (omega (arith, count)) (omega (arith, count)) (sym (ap (λ ss. get_or ss 0 one) last))
last_single arities rules singles (s ∷ before) one are count last = absurd (let more = ap length last in omega (arith, more, count, length-append before (one ∷ [])))

-- ---- numbers

-- the numbers in a list that is read
pub numbers_read : (lists : List (Vec ℕ Global)) (f : ℕ) (list : Vec ℕ Global) → f < length lists → list ≡ get_or lists f list → numbers_at lists f ≡ list.items
numbers_read lists f list below is = ap numbers_in (slice_get_read lists (length lists) f list refl below is)

pub no_numbers_past : (lists : List (Vec ℕ Global)) (f : ℕ) → length lists ≤ f → [] ≡ numbers_at lists f
no_numbers_past lists f past = ap numbers_in (sym (slice_get_past lists f past))

-- a list without numbers behind the others
numbers_behind : (lists : List (Vec ℕ Global)) (list : Vec ℕ Global) → list.items ≡ [] → (g : ℕ) → numbers_at (lists ++ list ∷ []) g ≡ numbers_at lists g
numbers_behind [] list none zero = none
numbers_behind [] list none (suc g) = sym (no_numbers_past (list ∷ []) (suc g) (omega arith)) ∙ no_numbers_past [] (suc g) (omega arith)
numbers_behind (x ∷ lists) list none zero = refl
numbers_behind (x ∷ lists) list none (suc g) = numbers_behind lists list none g

pub numbers_longer : (lists new : List (Vec ℕ Global)) (list : Vec ℕ Global) → new ≡ lists ++ list ∷ [] → list.items ≡ [] → (g : ℕ) → numbers_at new g ≡ numbers_at lists g
numbers_longer lists new list grown none g = ap (λ ls. numbers_at ls g) grown ∙ numbers_behind lists list none g

-- a number behind the others of a list
pub put_here : (lists : List (Vec ℕ Global)) (f number : ℕ) (list new : Vec ℕ Global) → f < length lists → list ≡ get_or lists f list → new.items ≡ list.items ++ number ∷ []
    → numbers_at (slice_set lists f new) f ≡ numbers_at lists f ++ number ∷ []
put_here lists f number list new below is put = set_here lists f below ∙ (put ∙ ap (λ ks. ks ++ number ∷ []) (sym (numbers_read lists f list below is)))
  where
    set_here : (ls : List (Vec ℕ Global)) (i : ℕ) → i < length ls → numbers_at (slice_set ls i new) i ≡ new.items
    set_here [] i h = absurd (omega (arith, h))
    set_here (x ∷ ls) zero h = refl
    set_here (x ∷ ls) (suc i) h = set_here ls i (omega (arith, h))

pub put_elsewhere : (lists : List (Vec ℕ Global)) (f g : ℕ) (new : Vec ℕ Global) → (g ≡ f → ⊥) → numbers_at (slice_set lists f new) g ≡ numbers_at lists g
put_elsewhere [] f g new other = refl
put_elsewhere (x ∷ lists) zero zero new other = absurd (other refl)
put_elsewhere (x ∷ lists) zero (suc g) new other = refl
put_elsewhere (x ∷ lists) (suc f) zero new other = refl
put_elsewhere (x ∷ lists) (suc f) (suc g) new other = put_elsewhere lists f g new (λ e. other (ap suc e))

number_here : (old new : List (Vec ℕ Global)) (t : Tree) (g : ℕ) (ts : Trees) (number : ℕ) → t ≡ app g ts → numbers_at new g ≡ numbers_at old g ++ number ∷ []
    → ((f : ℕ) → (f ≡ g → ⊥) → numbers_at new f ≡ numbers_at old f) → HasNumber old new t number
number_here old new t g ts number is here others f =
    let P : Tree → Type 0 = λ u. numbers_at new f ≡ numbers_at old f ++ cond (has_root f u) (number ∷ []) [] in
    let A : ℕ → Type 0 = λ v. numbers_at new v ≡ numbers_at old v ++ number ∷ [] in
    subst P (sym is) (elim (eqb_tells g f) as (λ _. P (app g ts)) [
      | inl same ↦ subst A same.1 here ∙ ap (λ b. numbers_at old f ++ cond b (number ∷ []) []) (sym same.0)
      | inr other ↦ others f (λ e. other.1 (sym e)) ∙ (sym (append-nil (numbers_at old f)) ∙ ap (λ b. numbers_at old f ++ cond b (number ∷ []) []) (sym other.0))
    ])

pub number_if_ok : {A E : Type 0} (answer : Result A E) (old new : List (Vec ℕ Global)) (t : Tree) (g : ℕ) (ts : Trees) (number : ℕ) → t ≡ app g ts
    → OnOk answer (numbers_at new g ≡ numbers_at old g ++ number ∷ []) → OnOk answer ((f : ℕ) → (f ≡ g → ⊥) → numbers_at new f ≡ numbers_at old f)
    → OnOk answer (HasNumber old new t number)
number_if_ok (Ok x) old new t g ts number is here others = number_here old new t g ts number is here others
number_if_ok (Err e) old new t g ts number is here others = tt

pub no_number : (old new : List (Vec ℕ Global)) (t : Tree) (n number : ℕ) → t ≡ var n → new ≡ old → HasNumber old new t number
no_number old new t n number is same f =
    let P : Tree → Type 0 = λ u. numbers_at new f ≡ numbers_at old f ++ cond (has_root f u) (number ∷ []) [] in
    subst P (sym is) (ap (λ lists. numbers_at lists f) same ∙ sym (append-nil (numbers_at old f)))

-- ---- steps

-- where no rule has the number, none is there as a system of its own
pub no_rule : (arities : List ℕ) (rules : List RewriteRule) (k : ℕ) → slice_get (map (single arities) rules) k ≡ None → slice_get rules k ≡ None
no_rule arities rules k none = go (slice_get rules k) refl
  where
    go : (o : Option RewriteRule) → slice_get rules k ≡ o → slice_get rules k ≡ None
    go None e = e
    go (Some r) e = absurd (not_both (single arities r) (sym none ∙ (slice_get-map (single arities) rules k ∙ ap (option_map (single arities)) e)))
      where
        not_both : (s : System) → ◌≡◌ {A = Option System} None (Some s) → ⊥
        not_both s h = absurd cc

-- what a rule does as a system of its own it does by its number
module _ (arities : List ℕ) (rules : List RewriteRule) (k : ℕ) (one : System) (there : slice_get (map (single arities) rules) k ≡ Some one) where
  of_single : (r : RewriteRule) × (slice_get rules k ≡ Some r) × (one ≡ single arities r)
  of_single = go (slice_get rules k) refl
    where
      seen : (o : Option RewriteRule) → slice_get rules k ≡ o → option_map (single arities) o ≡ Some one
      seen o e = sym (slice_get-map (single arities) rules k ∙ ap (option_map (single arities)) e) ∙ there

      not_both : ◌≡◌ {A = Option System} None (Some one) → ⊥
      not_both h = absurd cc

      go : (o : Option RewriteRule) → slice_get rules k ≡ o → (r : RewriteRule) × (slice_get rules k ≡ Some r) × (one ≡ single arities r)
      go None e = absurd (not_both (seen None e))
      go (Some r) e = (r, e, sym (same_Some (single arities r) one (seen (Some r) e)))

  numbered : (q : RewriteRule) → slice_get one.rules 0 ≡ Some q → slice_get rules k ≡ Some q
  numbered q e =
      let (r, at, is) = of_single in
      let S : System → Type 0 = λ s. slice_get s.rules 0 ≡ Some q in
      at ∙ subst S is e

  pub steps_by : (p : List ℕ) (t u : Tree) → StepsAt one.rules p 0 t u → StepsAt rules p k t u
  steps_by p t u s = record { rule = s.rule; numbered = numbered s.rule s.numbered; substitution = s.substitution; from = s.from; to = s.to }

  not_missing : slice_get one.rules 0 ≡ None → ⊥
  not_missing e =
      let (r, at, is) = of_single in
      let S : System → Type 0 = λ s. slice_get s.rules 0 ≡ None in
      never r (subst S is e)
    where
      never : (r : RewriteRule) → ◌≡◌ {A = Option RewriteRule} (Some r) None → ⊥
      never r h = absurd cc

  pub fault_by : (p : List ℕ) (t : Tree) (why : StepFault) → IsStepFault one.rules p 0 t why → IsStepFault rules p k t why
  fault_by p t fault.NoRule h = absurd (not_missing h)
  fault_by p t fault.NoPosition h = let (r, at, is) = of_single in (subst (λ (o : Option RewriteRule). IsSome o) (sym at) refl, h.1)
  fault_by p t fault.NoMatch h = record { rule = h.rule; numbered = numbered h.rule h.numbered; part = h.part; there = h.there; none = h.none }
  fault_by p t fault.TooLarge h = record { result = h.result; steps = steps_by p t h.result h.steps; large = h.large }
  fault_by p t fault.OutOfMemory h = tt
