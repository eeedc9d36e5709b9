-- The rules with one root, and what it says of a term with that root.
use Rattle.std.proofs.Common.{◌≡◌, ℕ, ◌+◌, ◌<◌, ◌≤◌, inr, List, [], ◌∷◌, Some, IsTrue, All, length, take, get_or, slice_get, slice_index, refl, sym, ap, ◌∙◌, subst, arith}
use Rattle.std.proofs.lemmas.Bool.{eq-eqb}
use Rattle.std.proofs.lemmas.List.Elements.{All-more}
use Rattle.std.proofs.lemmas.List.{take_all}
use Rattle.std.proofs.lemmas.Option.{same_Some, slice_get_within, slice_get_read}
use Rattle.trs_defs.specs.Member.{In, in_first, in_rest}
use Rattle.trs_defs.specs.Tree.{Tree, Trees, var, app}
use Rattle.trs_defs.specs.Variable.{IsVariable}
use Rattle.trs_defs.specs.Substitution.{IsInstance}
use Rattle.trs_defs.specs.System.{RewriteRule, System, IsSystem, has_root}
use Rattle.trs_defs.proofs.Members.{get_of_in}
use Rattle.term_pool.specs.Redex.{IsRedex}
use Rattle.term_pool.specs.Redexes.{AreRootRedexes}
use Rattle.term_pool.specs.Roots.{with_root, AreRoots}
use Rattle.term_pool.proofs.NumberLaws.{all_numbers, each_number, no_numbers}

pub within_rules : (f : ℕ) (rules : List RewriteRule) → All (λ k. k < length rules) (with_root f rules)
within_rules f rules =
    all_numbers (λ (r : RewriteRule). has_root f r.left) (λ k. k < length rules) 0 rules (λ i k r e there h. omega (arith, e, slice_get_within rules i r there))

pub have_root : (f : ℕ) (rules : List RewriteRule) → All (λ k. (r : RewriteRule) → slice_get rules k ≡ Some r → IsTrue (has_root f r.left)) (with_root f rules)
have_root f rules =
    all_numbers (λ (r : RewriteRule). has_root f r.left) (λ k. (r : RewriteRule) → slice_get rules k ≡ Some r → IsTrue (has_root f r.left)) 0 rules (λ i k q e at h r there.
    let same : i ≡ k = omega (arith, e) in
    let is : q ≡ r = same_Some q r (sym at ∙ subst (λ n. slice_get rules n ≡ Some r) (sym same) there) in
    subst (λ (p : RewriteRule). IsTrue (has_root f p.left)) is h)

-- a symbol that no table has is no root
pub no_such_root : (rules : List RewriteRule) (symbols f : ℕ) → AreRoots rules symbols → symbols ≤ f + 1 → [] ≡ with_root f rules
no_such_root rules symbols f roots past = no_numbers (λ (r : RewriteRule). has_root f r.left) 0 rules (λ i r there h. omega (arith, past, roots.each i f r there h))

-- ---- looking for a rule

-- rule number k is such
abbrev pub IsSuch : (RewriteRule → Type 0) → List RewriteRule → ℕ → Type 0
IsSuch P rules k = (r : RewriteRule) × (slice_get rules k ≡ Some r) × P r

pub such_by : (P : RewriteRule → Type 0) (rules : List RewriteRule) (k : ℕ) (rule : RewriteRule) → slice_get rules k ≡ Some rule → IsSuch P rules k → P rule
such_by P rules k rule there (r, at, h) = let same : r ≡ rule = cc (at, there) in subst P same h

-- none of the rules of these numbers is such
abbrev pub NoneSuch : (RewriteRule → Type 0) → List RewriteRule → List ℕ → Type 0
NoneSuch P rules ks = All (λ k. IsSuch P rules k → ⊥) ks

pub one_more_not : (P : RewriteRule → Type 0) (rules : List RewriteRule) (ks : List ℕ) (i : ℕ) (rule : RewriteRule) → i < length ks → slice_get rules (slice_index ks i) ≡ Some rule
    → (P rule → ⊥) → NoneSuch P rules (take i ks) → NoneSuch P rules (take (i + 1) ks)
one_more_not P rules ks i rule within there fails none =
    All-more (λ k. IsSuch P rules k → ⊥) ks i 0 within none (λ h. fails (such_by P rules (slice_index ks i) rule there h))

-- the rule of the next number
pub rule_read : (all rules : List RewriteRule) (ks : List ℕ) (i : ℕ) (rule : RewriteRule) → rules ≡ all → All (λ k. k < length all) ks → i < length ks
    → rule ≡ get_or rules (slice_index ks i) rule → slice_get rules (slice_index ks i) ≡ Some rule
rule_read all rules ks i rule same within below read =
    slice_get_read rules (length rules) (slice_index ks i) rule refl (let h = within i 0 below in rw same h) read

-- all rules with the root were looked at
pub none_at_end : (P : RewriteRule → Type 0) (f : ℕ) (all rules : List RewriteRule) (ks : List ℕ) (i : ℕ) → rules ≡ all → ks ≡ with_root f all → length ks ≤ i
    → NoneSuch P rules (take i ks) → NoneSuch P rules (with_root f rules)
none_at_end P f all rules ks i same is past none = subst (NoneSuch P rules) (take_all i ks past ∙ (is ∙ ap (with_root f) (sym same))) none

-- if those that are such have the root f, all with this root are looked at
pub none_such : (P : RewriteRule → Type 0) (f : ℕ) (rules : List RewriteRule) → ((k : ℕ) (r : RewriteRule) → slice_get rules k ≡ Some r → P r → IsTrue (has_root f r.left))
    → NoneSuch P rules (with_root f rules) → (r : RewriteRule) → In r rules → P r → ⊥
none_such P f rules rooted none r there h =
    let (k, at) = get_of_in there in
    each_number (λ (q : RewriteRule). has_root f q.left) (λ k. IsSuch P rules k → ⊥) r (rooted k r at h) k 0 rules none k at (omega arith) (r, at, h)

-- ---- instances of their left sides

-- the term is an instance of the left side of the rule
abbrev pub Matches : Tree → RewriteRule → Type 0
Matches t rule = IsInstance rule.left t

-- no left side is a variable
pub AreProper : List RewriteRule → Type 0
AreProper rules = (i : ℕ) (r : RewriteRule) → slice_get rules i ≡ Some r → IsVariable r.left → ⊥

pub proper_sides : (system : System) (rules : List RewriteRule) → rules ≡ system.rules → IsSystem system → AreProper rules
unfolding AreProper
proper_sides system rules same valid i r there = (valid.each i r (rw same at there)).left_no_variable

-- an instance has the root of the left side
pub root_of_instance : (left t : Tree) (f : ℕ) (ts : Trees) → (IsVariable left → ⊥) → t ≡ app f ts → IsInstance left t → IsTrue (has_root f left)
root_of_instance (var n) t f ts proper is h = absurd (proper (n, refl))
root_of_instance (app g ls) t f ts proper is h = let same : g ≡ f = (let e = h.1 in cc) in eq-eqb g f same

pub no_rule_at_variable : (left : Tree) (n : ℕ) → (IsVariable left → ⊥) → IsInstance left (var n) → ⊥
no_rule_at_variable (var m) n proper h = proper (m, refl)
no_rule_at_variable (app g ls) n proper h = let e = h.1 in cc

pub no_redex_at_variable : (rules : List RewriteRule) (t : Tree) (n : ℕ) → AreProper rules → t ≡ var n → IsRedex rules t → ⊥
unfolding AreProper
no_redex_at_variable rules t n proper is r =
    let numbered = get_of_in r.1 in
    no_rule_at_variable r.0.left n (proper numbered.0 r.0 numbered.1) (rw is at r.2)

pub no_roots_at_variable : (rules : List RewriteRule) (t : Tree) (n : ℕ) → AreProper rules → t ≡ var n → AreRootRedexes rules 0 t []
unfolding AreProper
no_roots_at_variable rules t n proper is = go rules 0 (λ r h. let numbered = get_of_in h in rw is (no_rule_at_variable r.left n (proper numbered.0 r numbered.1)))
  where
    go : (rs : List RewriteRule) (k : ℕ) → ((r : RewriteRule) → In r rs → IsInstance r.left t → ⊥) → AreRootRedexes rs k t []
    go [] k none = refl
    go (r ∷ rs) k none = ([], go rs (k + 1) (λ q h. none q (in_rest h)), inr (none r in_first, refl))

pub root_of_match : (rules : List RewriteRule) (t : Tree) (f : ℕ) (ts : Trees) → AreProper rules → t ≡ app f ts
    → (k : ℕ) (rule : RewriteRule) → slice_get rules k ≡ Some rule → Matches t rule → IsTrue (has_root f rule.left)
unfolding AreProper
root_of_match rules t f ts proper is k rule at inst = root_of_instance rule.left t f ts (proper k rule at) is inst

-- where no rule with its root matches, a term is no redex
pub no_redex : (rules : List RewriteRule) (t : Tree) (f : ℕ) (ts : Trees) → AreProper rules → t ≡ app f ts → NoneSuch (Matches t) rules (with_root f rules) → IsRedex rules t → ⊥
no_redex rules t f ts proper is none r = none_such (Matches t) f rules (root_of_match rules t f ts proper is) none r.0 r.1 r.2
