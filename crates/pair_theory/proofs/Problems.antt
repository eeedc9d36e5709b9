-- The steps on problems that are lists of pairs.
use Rattle.std.proofs.Common.{ℕ, Bool, true, refl, sym, subst, ◌⊎◌, inl, inr, List, [], ◌∷◌, ◌++◌, map}
use Rattle.trs_defs.specs.Tree.{Tree, var}
use Rattle.pair_theory.specs.Accessible.{Acc, acc}
use Rattle.trs_defs.specs.System.{RewriteRule, Among, System, IsSystem}
use Rattle.trs_defs.specs.Member.{In, in_first, in_rest}
use Rattle.pair_theory.specs.Subterm.{under, Subs}
use Rattle.trs_defs.specs.Every.{Every}
use Rattle.pair_theory.specs.Terminates.{Terminates}
use Rattle.trs_defs.specs.WellFormed.{IsWellFormed}
use Rattle.pair_theory.specs.Marked.{Marked, plain, mark}
use Rattle.pair_theory.specs.Chain.{ChainStep}
use Rattle.pair_theory.specs.DependencyPair.{IsDependencyPair, DependencyPair, dependency_pairs}
use Rattle.pair_theory.specs.PairProblem.{ChainsEnd, PairAmong, IsFiniteProblem, IsPair}
use Rattle.pair_theory.specs.Moves.{IsWellFounded, IsOrdered}
use Rattle.trs_defs.specs.Claims.{IsTerminating}
use Rattle.pair_theory.proofs.Accessibility.{acc_image}
use Rattle.pair_theory.proofs.Chains.{chain_map, chain_small, pair_of_chain, chain_over}
use Rattle.pair_theory.proofs.Over.{declared, over_of_well_formed, well_formed_of_over}
use Rattle.pair_theory.proofs.Removal.{removal}
use Rattle.pair_theory.proofs.Termination.{pair_theorem}
use Rattle.pair_theory.proofs.PairList.{pairs_listed}
use Rattle.trs_defs.proofs.Members.{in_left, in_right, no_in, in_or, each_of_both, in_map, of_map}
use Rattle.pair_theory.proofs.Subterms.{below_root, subs_of_has, has_of_subs}
use Rattle.pair_theory.proofs.Systems.{left_over, right_over, no_new_variables}
use Rattle.pair_theory.specs.ReductionPair.{Speaks, SpeaksOfSides, SpeaksErased, marked_rule}
use Rattle.pair_theory.specs.Erased.{HasEntries, erased}
use Rattle.pair_theory.proofs.Erasing.{bound_of_erased, erased_same, all_have}

-- fewer pairs have fewer chains
pub fewer : (rule : Tree → Tree → Type 0) (p q : Marked → Marked → Type 0) → ((l r : Marked) → p l r → q l r) → {u : Marked} → Acc (ChainStep rule q) u → Acc (ChainStep rule p) u
fewer rule p q f {u} a = acc_image (λ x. x) (ChainStep rule p) (ChainStep rule q) (λ x y c. chain_map f c) a u refl

pub listed_theorem : (system : System) → IsSystem system → IsFiniteProblem system (dependency_pairs system.rules) → IsTerminating system
listed_theorem system ok all = pair_theorem system ok
    (λ u v small. fewer (Among system.rules) (IsDependencyPair (Among system.rules)) (PairAmong (dependency_pairs system.rules)) (pairs_listed system.rules) (all u v small))

pub more_pairs_end : (system : System) (pairs more : List DependencyPair) → ((p : DependencyPair) → In p pairs → In p more)
    → IsFiniteProblem system more → IsFiniteProblem system pairs
more_pairs_end system pairs more within ends u w small =
    fewer (Among system.rules) (PairAmong pairs) (PairAmong more) (λ l r i. within (record { from = l; to = r }) i) (ends u w small)

pub no_pairs_end : (system : System) (pairs : List DependencyPair) → ((p : DependencyPair) → In p pairs → ⊥) → IsFiniteProblem system pairs
no_pairs_end system pairs none u w small = acc (λ v c. let h : (l : Marked) × (r : Marked) × PairAmong pairs l r = pair_of_chain c in absurd (none (record { from = h.0; to = h.1 }) h.2))

-- the pairs as rules that orders see
abbrev pub mark_rules : List DependencyPair → List RewriteRule
mark_rules ps = map marked_rule ps

pub each_mark : (P : RewriteRule → Type 0) (ps : List DependencyPair) → ((p : DependencyPair) → In p ps → P (marked_rule p)) → (q : RewriteRule) → In q (mark_rules ps) → P q
each_mark P ps k q i = let (p, j, e) = of_map marked_rule ps i in subst P (sym e) (k p j)

abbrev Either : List DependencyPair → List DependencyPair → Marked → Marked → Type 0
Either stays goes l r = PairAmong stays l r ⊎ PairAmong goes l r

-- the pairs of one list and those of another, each with what is known of it
pub record Parted (A : Type 0) (P Q : A → Type 0) (xs : List A) : Type 0 where
  pub ones : List A
  pub others : List A
  pub each_one : (x : A) → In x ones → In x xs × P x
  pub each_other : (x : A) → In x others → In x xs × Q x
  pub covers : (x : A) → In x xs → In x ones ⊎ In x others

pub parted : {A : Type 0} (P Q : A → Type 0) (xs : List A) → ((x : A) → In x xs → P x ⊎ Q x) → Parted A P Q xs
parted P Q [] k = record { ones = []; others = []; each_one = λ x i. absurd (no_in i); each_other = λ x i. absurd (no_in i); covers = λ x i. absurd (no_in i) }
parted {A} P Q (y ∷ xs) k = go (k y in_first) (parted P Q xs (λ x i. k x (in_rest i)))
  where
    with_first : (R : A → Type 0) (zs : List A) → R y → ((x : A) → In x zs → In x xs × R x) → (x : A) → In x (y ∷ zs) → In x (y ∷ xs) × R x
    with_first R zs r f x i = elim (in_or i) [
      | inl e ↦ (subst (λ z. In z (y ∷ xs)) (sym e) in_first, subst R (sym e) r)
      | inr j ↦ (in_rest (f x j).0, (f x j).1)
    ]

    go : P y ⊎ Q y → Parted A P Q xs → Parted A P Q (y ∷ xs)
    go (inl p) r = record {
      ones = y ∷ r.ones;
      others = r.others;
      each_one = with_first P r.ones p r.each_one;
      each_other = λ x i. (in_rest (r.each_other x i).0, (r.each_other x i).1);
      covers = λ x i. elim (in_or i) [
        | inl e ↦ inl (subst (λ z. In z (y ∷ r.ones)) (sym e) in_first)
        | inr j ↦ elim (r.covers x j) [ inl m ↦ inl (in_rest m) | inr m ↦ inr m ]
      ];
    }
    go (inr q) r = record {
      ones = r.ones;
      others = y ∷ r.others;
      each_one = λ x i. (in_rest (r.each_one x i).0, (r.each_one x i).1);
      each_other = with_first Q r.others q r.each_other;
      covers = λ x i. elim (in_or i) [
        | inl e ↦ inr (subst (λ z. In z (y ∷ r.others)) (sym e) in_first)
        | inr j ↦ elim (r.covers x j) [ inl m ↦ inl m | inr m ↦ inr (in_rest m) ]
      ];
    }

-- the variables of a pair's right side are in its left side
pub pair_variables : (arities : List ℕ) (p : DependencyPair) → IsPair arities p → (x : ℕ) → Subs (var x) p.to.args → Subs (var x) p.from.args
pair_variables arities p good x q = subs_of_has x p.from.args (good.variables x (has_of_subs x p.to.args q))

-- a pair whose sides an order speaks of and orders
pub pair_ordered : (arities : List ℕ) (speaks_of : Tree → Type 0) (order : Tree → Tree → Type 0) (p : DependencyPair) → IsPair arities p
    → speaks_of (mark p.from) → speaks_of (mark p.to) → order (mark p.from) (mark p.to) → IsOrdered speaks_of order (marked_rule p)
pair_ordered arities speaks_of order p good left right h = record {
  left_spoken = left;
  right_spoken = right;
  ordered = h;
  variables = λ v q. under (pair_variables arities p good v (below_root q));
}

-- each pair is weak and stays, or is strict
abbrev pub Classed : (Tree → Tree → Type 0) → (Tree → Tree → Type 0) → List DependencyPair → List DependencyPair → Type 0
Classed weak strict pairs stays =
    (p : DependencyPair) → In p pairs → (In p stays × weak (mark p.from) (mark p.to)) ⊎ strict (mark p.from) (mark p.to)

-- a well-formed marked term with terminating arguments
abbrev pub Ready : System → Marked → Type 0
Ready system u = IsWellFormed system.arities (plain u) × Every (Terminates (Among system.rules)) u.args

-- chains of pairs over the arities keep to such terms
pub chain_ready : (system : System) → IsSystem system → (pair : Marked → Marked → Type 0)
    → ((l r : Marked) → pair l r → IsPair system.arities (record { from = l; to = r }))
    → (u v : Marked) → Ready system u → ChainStep (Among system.rules) pair u v → Ready system v
chain_ready system ok pair good u v ready c = (
  well_formed_of_over system.arities (plain v)
      (chain_over (declared system.arities) (Among system.rules) (λ l r h. over_of_well_formed system.arities r (right_over system ok l r h))
      (no_new_variables system ok) (λ l r h. over_of_well_formed system.arities (plain r) (good l r h).to_well_formed)
      (λ l r h. pair_variables system.arities (record { from = l; to = r }) (good l r h)) c (over_of_well_formed system.arities (plain u) ready.0)),
  chain_small c,
)

module _ (system : System) (ok : IsSystem system) (weak strict : Tree → Tree → Type 0) (speaks_of : Tree → Type 0)
    (wf : IsWellFounded weak strict speaks_of) (falls : (p : RewriteRule) → In p system.rules → weak p.left p.right) where
  module _ (entry : ℕ → Bool) (speaks : SpeaksErased system entry speaks_of) where
    -- a pair over the arities of whose sides the order speaks
    abbrev pub Spoken : DependencyPair → Type 0
    Spoken p = IsPair system.arities p × SpeaksOfSides entry speaks_of (marked_rule p)

    ordered_rule : (p : RewriteRule) → In p system.rules → IsOrdered speaks_of weak p
    ordered_rule p i = record {
      left_spoken = (speaks.of_rules p i).0;
      right_spoken = (speaks.of_rules p i).1;
      ordered = falls p i;
      variables = no_new_variables system ok p.left p.right i;
    }

    ordered_pair : (order : Tree → Tree → Type 0) (p : DependencyPair) → Spoken p → order (mark p.from) (mark p.to) → IsOrdered speaks_of order (marked_rule p)
    ordered_pair order p good h = pair_ordered system.arities speaks_of order p good.0 good.1.0 good.1.1 h

    abbrev Sides : RewriteRule → Type 0
    Sides p = HasEntries entry p.left × HasEntries entry p.right

    -- with an order, the strict pairs go
    pub order_step : (stays goes : List DependencyPair) → ((p : DependencyPair) → In p stays → Spoken p × weak (mark p.from) (mark p.to))
        → ((p : DependencyPair) → In p goes → Spoken p × strict (mark p.from) (mark p.to))
        → IsFiniteProblem system stays → ChainsEnd system.arities (Among system.rules) (Either stays goes)
    order_step stays goes stay go all u v small =
        removal (Among system.rules) (PairAmong stays) (PairAmong goes) ws ss (λ l r i. in_left (mark_rules stays) i)
        (λ l r i. in_right system.rules (in_map marked_rule i)) (λ l r i. in_map marked_rule i)
        (Ready system) (chain_ready system ok (Either stays goes) good) (λ u ready. all u ready.0 ready.1)
        (λ u ready. speaks.of_erased u ready.0)
        (λ t w. bound_of_erased entry ws ss
        (each_of_both Sides system.rules (mark_rules stays) (λ p i. ((speaks.of_rules p i).2, (speaks.of_rules p i).3))
        (each_mark Sides stays (λ p i. ((stay p i).0.1.2, (stay p i).0.1.3))))
        (each_mark Sides goes (λ p i. ((go p i).0.1.2, (go p i).0.1.3)))
        t
        (wf ws ss
        (each_of_both (IsOrdered speaks_of weak) system.rules (mark_rules stays) ordered_rule
        (each_mark (IsOrdered speaks_of weak) stays (λ p i. ordered_pair weak p (stay p i).0 (stay p i).1)))
        (each_mark (IsOrdered speaks_of strict) goes (λ p i. ordered_pair strict p (go p i).0 (go p i).1))
        (erased entry t) w))
        u (v, small)
      where
        ws : List RewriteRule
        ws = system.rules ++ mark_rules stays

        ss : List RewriteRule
        ss = mark_rules goes

        good : (l r : Marked) → Either stays goes l r → IsPair system.arities (record { from = l; to = r })
        good l r (inl i) = (stay _ i).0.0
        good l r (inr i) = (go _ i).0.0

    pub removal_erased : (pairs stays : List DependencyPair) → ((p : DependencyPair) → In p pairs → Spoken p)
        → Classed weak strict pairs stays → IsFiniteProblem system stays → IsFiniteProblem system pairs
    removal_erased pairs stays good class rest =
        let split : Parted DependencyPair (λ p. In p stays × weak (mark p.from) (mark p.to)) (λ p. strict (mark p.from) (mark p.to)) pairs =
        parted (λ p. In p stays × weak (mark p.from) (mark p.to)) (λ p. strict (mark p.from) (mark p.to)) pairs class in
        λ u w small. fewer (Among system.rules) (PairAmong pairs) (Either split.ones split.others) (λ l r i. split.covers _ i)
        (order_step split.ones split.others
        (λ p i. let h : In p pairs × (In p stays × weak (mark p.from) (mark p.to)) = split.each_one p i in (good p h.0, h.1.1))
        (λ p i. let h : In p pairs × strict (mark p.from) (mark p.to) = split.each_other p i in (good p h.0, h.1))
        (λ u w small. fewer (Among system.rules) (PairAmong split.ones) (PairAmong stays) (λ l r i. (split.each_one _ i).1.0) (rest u w small))
        u w small)

  -- an order that speaks of all terms has an entry for each symbol
  module _ (speaks : Speaks system.arities speaks_of) where
    abbrev always : ℕ → Bool
    always f = true

    speaks_erased : SpeaksErased system always speaks_of
    speaks_erased = record {
      of_erased = λ u w. subst speaks_of (sym (erased_same always (mark u) (all_have (mark u)))) (speaks.of_marked u w);
      of_rules = λ p i. (
        speaks.of_terms p.left (left_over system ok p.left p.right i),
        speaks.of_terms p.right (right_over system ok p.left p.right i),
        all_have p.left,
        all_have p.right,
      );
    }

    pub removal_theorem : (pairs stays : List DependencyPair) → ((p : DependencyPair) → In p pairs → IsPair system.arities p)
        → Classed weak strict pairs stays → IsFiniteProblem system stays → IsFiniteProblem system pairs
    removal_theorem pairs stays good class rest = removal_erased always speaks_erased pairs stays
        (λ p i. (
          good p i,
          (
            speaks.of_marked p.from (good p i).from_well_formed,
            speaks.of_marked p.to (good p i).to_well_formed,
            all_have (mark p.from),
            all_have (mark p.to),
          ),
        ))
        class rest
