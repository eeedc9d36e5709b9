-- The list of the dependency pairs has each of them, and pairs over the system's arities alone.
use Rattle.std.proofs.Common.{◌≡◌, ℕ, refl, sym, ap, subst, ◌∙◌, ◌⊎◌, inl, inr, List, [], ◌∷◌, ◌++◌, Bool, true, false, ◌||◌, ◌==◌}
use Rattle.std.proofs.lemmas.Bool.{eqb-true, eq-eqb, or_right}
use Rattle.trs_defs.specs.Member.{In, in_first, in_rest}
use Rattle.trs_defs.specs.Tree.{Tree, Trees, var, app, nil, cons}
use Rattle.trs_defs.specs.WellFormed.{IsWellFormed, AreWellFormed}
use Rattle.trs_defs.specs.System.{RewriteRule, System, IsSystem, Among, IsDefined, has_root, is_defined}
use Rattle.pair_theory.specs.Subterm.{Sub, itself, under, Subs, in_head, in_tail}
use Rattle.pair_theory.specs.Marked.{Marked, marked, plain}
use Rattle.pair_theory.specs.DependencyPair.{IsDependencyPair, from_rule, DependencyPair, subterms, subterms_of_all, keep_if, pairs_to, pairs_of, pairs_of_each, dependency_pairs}
use Rattle.pair_theory.specs.PairProblem.{PairAmong, IsPair}
use Rattle.trs_defs.proofs.Members.{in_left, in_right, in_either, no_in, in_or}
use Rattle.pair_theory.proofs.Subterms.{below_root, subs_of_has, has_of_subs, sub_trans}
use Rattle.pair_theory.proofs.Systems.{left_over, right_over, no_new_variables}

first_one : (t : Tree) → In t (subterms t)
first_one (var x) = in_first
first_one (app f ts) = in_first

mutual
  sub_listed : {s t : Tree} → Sub s t → In s (subterms t)
  sub_listed {t = t} itself = first_one t
  sub_listed (under p) = in_rest (subs_listed p)

  subs_listed : {s : Tree} {ts : Trees} → Subs s ts → In s (subterms_of_all ts)
  subs_listed (in_head {ts = ts} p) = in_left (subterms_of_all ts) (sub_listed p)
  subs_listed (in_tail {t = t} p) = in_right (subterms t) (subs_listed p)

keep_here : {A : Type 0} {b : Bool} (x : A) (xs : List A) → b ≡ true → In x (keep_if b x xs)
keep_here x xs e = rw e in_first

keep_rest : {A : Type 0} (b : Bool) {y : A} (x : A) {xs : List A} → In y xs → In y (keep_if b x xs)
keep_rest true x i = in_rest i
keep_rest false x i = i

pub defined_true : (rs : List RewriteRule) (g : ℕ) → IsDefined (Among rs) g → is_defined rs g ≡ true
defined_true [] g d = absurd (no_in d.2)
defined_true (p ∷ rs) g d = go (in_or d.2) (λ d. defined_true rs g d)
  where
    go : (record { left = app g d.0; right = d.1 } ≡ p) ⊎ In (record { left = app g d.0; right = d.1 }) rs → (IsDefined (Among rs) g → is_defined rs g ≡ true) → (has_root g p.left || is_defined rs g) ≡ true
    go (inl e) k = subst (λ q. (has_root g q.left || is_defined rs g) ≡ true) e (rw (eq-eqb g g refl) refl)
    go (inr i) k = or_right (has_root g p.left) (is_defined rs g) (k (d.0, d.1, i))

pub true_defined : (rs : List RewriteRule) (g : ℕ) → is_defined rs g ≡ true → IsDefined (Among rs) g
true_defined [] g e = absurd cc
true_defined (p ∷ rs) g e = go p.left p.right refl refl (true_defined rs g)
  where
    go : (l r : Tree) → p.left ≡ l → p.right ≡ r → (is_defined rs g ≡ true → IsDefined (Among rs) g) → IsDefined (Among (p ∷ rs)) g
    go (var x) r el er k = rest (k (sym (ap (λ l. has_root g l || is_defined rs g) el) ∙ e))
      where
        rest : IsDefined (Among rs) g → IsDefined (Among (p ∷ rs)) g
        rest d = (d.0, d.1, in_rest d.2)
    go (app f ls) r el er k = root (f == g) refl (sym (ap (λ l. has_root g l || is_defined rs g) el) ∙ e)
      where
        rest : IsDefined (Among rs) g → IsDefined (Among (p ∷ rs)) g
        rest d = (d.0, d.1, in_rest d.2)

        root : (b : Bool) → (f == g) ≡ b → (b || is_defined rs g) ≡ true → IsDefined (Among (p ∷ rs)) g
        root true same h = let is : f ≡ g = eqb-true f g same in (ls, p.right, subst (λ l. In (record { left = l; right = p.right }) (p ∷ rs)) (el ∙ ap (λ n. app n ls) is) in_first)
        root false same h = rest (k h)

called : (rs : List RewriteRule) (l t : Marked) → is_defined rs t.symbol ≡ true → (ts : List Tree) → In (plain t) ts → In (record { from = l; to = t }) (pairs_to rs l ts)
called rs l t e [] i = elim i [ ]
called rs l t e (u ∷ ts) i = go u (in_or i) (called rs l t e ts)
  where
    rest : (u : Tree) → In (record { from = l; to = t }) (pairs_to rs l ts) → In (record { from = l; to = t }) (pairs_to rs l (u ∷ ts))
    rest (var x) j = j
    rest (app g us) j = keep_rest (is_defined rs g) (record { from = l; to = marked g us }) j

    go : (u : Tree) → (plain t ≡ u) ⊎ In (plain t) ts → (In (plain t) ts → In (record { from = l; to = t }) (pairs_to rs l ts)) → In (record { from = l; to = t }) (pairs_to rs l (u ∷ ts))
    go u (inl same) k = subst (λ u. In (record { from = l; to = t }) (pairs_to rs l (u ∷ ts))) same (keep_here (record { from = l; to = t }) (pairs_to rs l ts) e)
    go u (inr j) k = rest u (k j)

among_pairs : (rs ps : List RewriteRule) (l t : Marked) (r : Tree) → In (record { left = plain l; right = r }) ps → Sub (plain t) r → is_defined rs t.symbol ≡ true → In (record { from = l; to = t }) (pairs_of_each rs ps)
among_pairs rs [] l t r i p e = elim i [ ]
among_pairs rs (q ∷ ps) l t r i p e = go (in_or i) (λ j. among_pairs rs ps l t r j p e)
  where
    go : (record { left = plain l; right = r } ≡ q) ⊎ In (record { left = plain l; right = r }) ps → (In (record { left = plain l; right = r }) ps → In (record { from = l; to = t }) (pairs_of_each rs ps))
        → In (record { from = l; to = t }) (pairs_of rs q.left q.right ++ pairs_of_each rs ps)
    go (inl same) k = subst (λ q. In (record { from = l; to = t }) (pairs_of rs q.left q.right ++ pairs_of_each rs ps)) same
        (in_left (pairs_of_each rs ps) (called rs l t e (subterms r) (sub_listed p)))
    go (inr j) k = in_right (pairs_of rs q.left q.right) (k j)

-- the list has each dependency pair
pub pairs_listed : (rs : List RewriteRule) (l t : Marked) → IsDependencyPair (Among rs) l t → PairAmong (dependency_pairs rs) l t
pairs_listed rs l t (from_rule r h p d) = among_pairs rs rs l t r h p (defined_true rs t.symbol d)

mutual
  sub_of_listed : {s : Tree} (t : Tree) → In s (subterms t) → Sub s t
  sub_of_listed (var x) i = elim (in_or i) [ inl e ↦ subst (λ z. Sub z (var x)) (sym e) itself | inr j ↦ absurd (no_in j) ]
  sub_of_listed (app f ts) i = elim (in_or i) [ inl e ↦ subst (λ z. Sub z (app f ts)) (sym e) itself | inr j ↦ under (subs_of_listed ts j) ]

  subs_of_listed : {s : Tree} (ts : Trees) → In s (subterms_of_all ts) → Subs s ts
  subs_of_listed nil i = absurd (no_in i)
  subs_of_listed (cons t ts) i = elim (in_either (subterms t) (subterms_of_all ts) i) [ inl j ↦ in_head (sub_of_listed t j) | inr j ↦ in_tail (subs_of_listed ts j) ]

of_kept : {A : Type 0} (b : Bool) {y : A} (x : A) (xs : List A) → In y (keep_if b x xs) → (y ≡ x) ⊎ In y xs
of_kept true x xs i = in_or i
of_kept false x xs i = inr i

of_called : (rs : List RewriteRule) (l : Marked) (ts : List Tree) (p : DependencyPair) → In p (pairs_to rs l ts) → (p.from ≡ l) × In (plain p.to) ts
of_called rs l [] p i = absurd (no_in i)
of_called rs l (var x ∷ ts) p i = let h : (p.from ≡ l) × In (plain p.to) ts = of_called rs l ts p i in (h.0, in_rest h.1)
of_called rs l (app g us ∷ ts) p i = go (of_kept (is_defined rs g) (record { from = l; to = marked g us }) (pairs_to rs l ts) i) (of_called rs l ts p)
  where
    go : (p ≡ record { from = l; to = marked g us }) ⊎ In p (pairs_to rs l ts) → (In p (pairs_to rs l ts) → (p.from ≡ l) × In (plain p.to) ts) → (p.from ≡ l) × In (plain p.to) (app g us ∷ ts)
    go (inl e) k = (ap (λ q. q.from) e, subst (λ q. In (plain q.to) (app g us ∷ ts)) (sym e) in_first)
    go (inr j) k = let h : (p.from ≡ l) × In (plain p.to) ts = k j in (h.0, in_rest h.1)

-- the right side's subterm, of a rule with the pair's left side
abbrev pub ComesFrom : List RewriteRule → DependencyPair → Type 0
ComesFrom rules p = (r : Tree) × Among rules (plain p.from) r × Sub (plain p.to) r

of_pair_of : (rs ps : List RewriteRule) (l r : Tree) → Among ps l r → (p : DependencyPair) → In p (pairs_of rs l r) → ComesFrom ps p
of_pair_of rs ps (var x) r a p i = absurd (no_in i)
of_pair_of rs ps (app f ls) r a p i =
    let h : (p.from ≡ marked f ls) × In (plain p.to) (subterms r) = of_called rs (marked f ls) (subterms r) p i in
    (r, subst (λ m. Among ps (plain m) r) (sym h.0) a, sub_of_listed r h.1)

of_each : (rs ps : List RewriteRule) (p : DependencyPair) → In p (pairs_of_each rs ps) → ComesFrom ps p
of_each rs [] p i = absurd (no_in i)
of_each rs (q ∷ ps) p i = elim (in_either (pairs_of rs q.left q.right) (pairs_of_each rs ps) i) [
  | inl j ↦ of_pair_of rs (q ∷ ps) q.left q.right in_first p j
  | inr j ↦ let h : ComesFrom ps p = of_each rs ps p j in (h.0, in_rest h.1, h.2)
]

-- subterms of well-formed terms are well-formed
module _ (arities : List ℕ) where
  mutual
    pub sub_well_formed : {s t : Tree} → Sub s t → IsWellFormed arities t → IsWellFormed arities s
    sub_well_formed itself w = w
    sub_well_formed (under p) w = subs_well_formed p w.1

    pub subs_well_formed : {s : Tree} {ts : Trees} → Subs s ts → AreWellFormed arities ts → IsWellFormed arities s
    subs_well_formed (in_head p) w = sub_well_formed p w.0
    subs_well_formed (in_tail p) w = subs_well_formed p w.1

-- each listed pair is one over the arities
pub listed_are_pairs : (system : System) → IsSystem system → (p : DependencyPair) → In p (dependency_pairs system.rules) → IsPair system.arities p
listed_are_pairs system ok p i = let h : ComesFrom system.rules p = of_each system.rules system.rules p i in record {
  from_well_formed = left_over system ok (plain p.from) h.0 h.1;
  to_well_formed = sub_well_formed system.arities h.2 (right_over system ok (plain p.from) h.0 h.1);
  variables = λ v k. has_of_subs v p.from.args (below_root (no_new_variables system ok (plain p.from) h.0 h.1 v (sub_trans (under (subs_of_has v p.to.args k)) h.2)));
}
