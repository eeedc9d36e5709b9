-- The pairs of earlier items: what is answered of those that are kept is answered of all.
use Rattle.std.specs.Prelude.{◌≡◌, ◌≤◌, ◌↔◌, ◌⊎◌, ℕ, List, [], ◌∷◌, ◌++◌, length, Option, Some, None, Vec, Result, Ok, Err, slice_get}
use Rattle.std.specs.declared.alloc.Global.{Global}
use Rattle.std.specs.Ordering.{nat_cmp}
use Rattle.std.specs.BTreeMap.{BTreeMap, get, is_at}
use Rattle.std.specs.Map.{lookup}
use Rattle.std.proofs.Common.{inl, inr, sym, ap, subst, ◌∙◌}
use Rattle.std.proofs.lemmas.Option.{same_Some}
use native.Mathlib.Decide.{ℕ_discrete}
use Rattle.trs_defs.specs.Member.{In, in_first}
use Rattle.trs_defs.proofs.Members.{in_left, in_right}
use Rattle.trs_defs.specs.System.{System, IsSystem}
use Rattle.trs_caps.specs.HoledCap.{MeetsLeft}
use Rattle.pair_theory.specs.Marked.{mark}
use Rattle.pair_theory.specs.DependencyPair.{DependencyPair, dependency_pairs}
use Rattle.rewrite_core.specs.declared.checks.refusals.StepRefused.{StepRefused}
use Rattle.rewrite_core.specs.declared.checks.refusals.StepRefused.TheVariants.{EdgeBack}
use Rattle.rewrite_core.specs.Check.{Check, Forbids, absent, returned}
use Rattle.dp_graph.specs.GraphConditions.{HasEdge}
use Rattle.dp_graph.specs.ByRoot.{entry_items, items_at}
use Rattle.dp_core.specs.PlacedPairs.{IsOfRule}
use Rattle.dp_core.proofs.LeftNumbering.{same_left}
use Rattle.dp_graph.specs.EarlierPairs.{leads_to_none_of, first_led_to, IsKept, IsEarlier}
use Rattle.dp_graph.specs.GraphNodes.{IsNodeFor}
use Rattle.dp_graph.specs.declared.graph.Node.{Node}
use Rattle.dp_graph.specs.declared.earlier.Earlier.{Earlier}
use Rattle.dp_graph.proofs.Covering.{edges_by_arguments}
use Rattle.dp_graph.specs.FlagRows.{IsSet}
use Rattle.dp_graph.proofs.FlagLaws.{none_set}
use Rattle.dp_graph.proofs.EachOfList.{first_refuses, with_last, last_or_before, each_passes, each_passed, it_is_absent}

module _ (system : System) (valid : IsSystem system) (few : length system.arities ≤ 4095) where
  abbrev all : List DependencyPair
  all = dependency_pairs system.rules

  abbrev Edge : ℕ → ℕ → Type 0
  Edge m n = HasEdge system.rules all m n

  abbrev to_one : ℕ → ℕ → Check (Unit {0})
  to_one m n = Forbids (Edge m n) (EdgeBack m n)

  -- an edge leads from a pair to pairs with the root of its right side
  pub edge_root : (m n : ℕ) (p q : DependencyPair) → slice_get all m ≡ Some p → slice_get all n ≡ Some q → Edge m n → p.to.symbol ≡ q.from.symbol
  edge_root m n p q at there e =
      let from : e.from ≡ p = same_Some e.from p (sym e.from_numbered ∙ at) in
      let to : e.to ≡ q = same_Some e.to q (sym e.to_numbered ∙ there) in
      let root : e.from.to.symbol ≡ e.to.from.symbol = ((edges_by_arguments system e.from e.to valid few).0 e.edge).0 in
      ap (λ (x : DependencyPair). x.to.symbol) (sym from) ∙ (root ∙ ap (λ (x : DependencyPair). x.from.symbol) to)

  -- an edge to a pair is one to each other pair with its left side
  pub edge_to_alike : (m n k : ℕ) (p q : DependencyPair) → slice_get all n ≡ Some p → slice_get all k ≡ Some q → mark p.from ≡ mark q.from → Edge m n → Edge m k
  edge_to_alike m n k p q at there alike e =
      let to : e.to ≡ p = same_Some e.to p (sym e.to_numbered ∙ at) in
      record {
        from = e.from;
        to = q;
        from_numbered = e.from_numbered;
        to_numbered = there;
        edge = (e.edge.0, e.edge.1, subst (MeetsLeft e.edge.0) (ap (λ (x : DependencyPair). mark x.from) to ∙ alike) e.edge.2);
      }

  -- an edge to a pair of a rule is one to each other pair of it
  edge_to_kept : (m n r : ℕ) (q : DependencyPair) (by_root : BTreeMap ℕ (Vec ℕ Global)) → slice_get all n ≡ Some q → IsOfRule system.rules r q
      → (kept : IsKept system by_root r) → Edge m n → Edge m kept.number
  edge_to_kept m n r q by_root there of kept e = edge_to_alike m n kept.number q kept.pair there kept.numbered (same_left system.rules r q kept.pair of kept.of_rule) e

  pub no_edge_from_none : (m : ℕ) (ns : List ℕ) → slice_get all m ≡ None → leads_to_none_of system m ns (Ok tt)
  no_edge_from_none m ns none = each_passes (to_one m) 0 ns (λ n i. absent (λ e. let h : None ≡ Some e.from = sym none ∙ e.from_numbered in absurd cc))

  -- one pair more to which no edge leads, unless one does to a pair before
  skipped : (m n : ℕ) (ns bs : List ℕ) (answer : Result (Unit {0}) StepRefused) → leads_to_none_of system m bs answer → leads_to_none_of system m ns answer
      → (leads_to_none_of system m bs (Ok tt) → Edge m n → ⊥) → leads_to_none_of system m (ns ++ n ∷ []) answer
  skipped m n ns bs (Ok u) kept h none = with_last (to_one m) 0 ns n (Ok tt) h (absent (none kept))
  skipped m n ns bs (Err why) kept h none = first_refuses (to_one m) 0 ns (n ∷ []) (Err why) h tt

  -- a number of no pair
  pub no_pair_added : (members : List ℕ) (n : ℕ) (earlier : Earlier) → slice_get all n ≡ None → IsEarlier system members earlier → IsEarlier system (members ++ n ∷ []) earlier
  no_pair_added members n earlier none is = record {
    alike = λ m p answer at h. skipped m n members (items_at earlier.by_root p.to.symbol) answer h (is.alike m p answer at h)
        (λ _ e. let d : None ≡ Some e.to = sym none ∙ e.to_numbered in absurd cc);
    seen = is.seen;
  }

  module _ (members : List ℕ) (n r : ℕ) (q : DependencyPair) (old : Earlier) (there : slice_get all n ≡ Some q) (of : IsOfRule system.rules r q) (is : IsEarlier system members old) where
    -- a pair of a rule that was seen
    pub seen_added : IsSet old.rules.items r → IsEarlier system (members ++ n ∷ []) old
    seen_added set =
        let kept : IsKept system old.by_root r = is.seen r set in
        record {
          alike = λ m p answer at h. skipped m n members (items_at old.by_root p.to.symbol) answer h (is.alike m p answer at h) (λ passed edge.
              let root : p.to.symbol ≡ kept.pair.from.symbol = edge_root m kept.number p kept.pair at kept.numbered (edge_to_kept m n r q old.by_root there of kept edge) in
              it_is_absent (Edge m kept.number) (EdgeBack m kept.number)
              (each_passed (to_one m) 0 (items_at old.by_root p.to.symbol) passed kept.number (subst (λ f. In kept.number (items_at old.by_root f)) (sym root) kept.kept))
              (edge_to_kept m n r q old.by_root there of kept edge));
          seen = is.seen;
        }

    -- the first pair of a rule
    pub first_added : (new : Earlier) → ((j : ℕ) → IsSet new.rules.items j ↔ (IsSet old.rules.items j ⊎ (j ≡ r)))
        → items_at new.by_root q.from.symbol ≡ items_at old.by_root q.from.symbol ++ n ∷ [] → ((f : ℕ) → (f ≡ q.from.symbol → ⊥) → items_at new.by_root f ≡ items_at old.by_root f) → IsEarlier system (members ++ n ∷ []) new
    first_added new sets here others = record {
      alike = λ m p answer at h. elim (ℕ_discrete p.to.symbol q.from.symbol) [
        | yes e ↦
            let whole : leads_to_none_of system m (items_at old.by_root p.to.symbol ++ n ∷ []) answer =
            subst (λ f. leads_to_none_of system m (items_at old.by_root f ++ n ∷ []) answer) (sym e)
            (subst (λ ns. leads_to_none_of system m ns answer) here (subst (λ f. leads_to_none_of system m (items_at new.by_root f) answer) e h)) in
            elim (last_or_before (to_one m) 0 (items_at old.by_root p.to.symbol) n answer whole) [
              | inl a ↦ first_refuses (to_one m) 0 members (n ∷ []) answer (is.alike m p answer at a.0) a.1
              | inr a ↦ with_last (to_one m) 0 members n answer (is.alike m p (Ok tt) at a.0) a.1
            ]
        | no other ↦
            let before : leads_to_none_of system m (items_at old.by_root p.to.symbol) answer = subst (λ ns. leads_to_none_of system m ns answer) (others p.to.symbol other) h in
            skipped m n members (items_at old.by_root p.to.symbol) answer before (is.alike m p answer at before) (λ _ edge. other (edge_root m n p q at there edge))
      ];
      seen = λ s h. elim ((sets s).0 h) [
        | inl before ↦ still_kept s (is.seen s before)
        | inr e ↦ record {
          number = n;
          pair = q;
          numbered = there;
          of_rule = subst (λ z. IsOfRule system.rules z q) (sym e) of;
          kept = subst (In n) (sym here) (in_right (items_at old.by_root q.from.symbol) in_first);
        }
      ];
    }
      where
        still_there : (m f : ℕ) → In m (items_at old.by_root f) → Dec (f ≡ q.from.symbol) → In m (items_at new.by_root f)
        still_there m f i (yes e) = subst (λ z. In m (items_at new.by_root z)) (sym e) (subst (In m) (sym here) (in_left (n ∷ []) (subst (λ z. In m (items_at old.by_root z)) e i)))
        still_there m f i (no other) = subst (In m) (sym (others f other)) i

        still_kept : (s : ℕ) → IsKept system old.by_root s → IsKept system new.by_root s
        still_kept s k = record {
          number = k.number;
          pair = k.pair;
          numbered = k.numbered;
          of_rule = k.of_rule;
          kept = still_there k.number k.pair.from.symbol k.kept (ℕ_discrete k.pair.from.symbol q.from.symbol);
        }

-- ---- no pairs

pub none_at : {T : Type 0} (by_root : BTreeMap ℕ (Vec T Global)) → by_root.entries ≡ [] → (f : ℕ) → items_at by_root f ≡ []
none_at by_root e f = ap (λ es. entry_items (lookup (is_at (nat_cmp f)) es)) e

pub none_earlier : (system : System) (earlier : Earlier) → earlier.by_root.entries ≡ [] → earlier.rules.items ≡ [] → IsEarlier system [] earlier
none_earlier system earlier none empty = record {
  alike = λ m p answer at h. subst (λ ns. leads_to_none_of system m ns answer) (none_at earlier.by_root none p.to.symbol) h;
  seen = λ r h. absurd (none_set r (subst (λ z. IsSet z r) empty h));
}

-- ---- the pairs at the root of a right side

pub none_at_root : (system : System) (earlier : Earlier) (members : List ℕ) (m : ℕ) (node : Node) → IsNodeFor system m (Some node) → None ≡ get nat_cmp earlier.by_root node.to
    → IsEarlier system members earlier → leads_to_none_of system m members (Ok tt)
none_at_root system earlier members m node (p, at, is) none kept =
    kept.alike m p (Ok tt) at (subst (λ ns. leads_to_none_of system m ns (Ok tt)) (ap entry_items none ∙ ap (items_at earlier.by_root) is.to) returned)

pub first_at_root : (system : System) (earlier : Earlier) (m : ℕ) (node : Node) (pairs : Vec ℕ Global) (to : Option ℕ) → IsNodeFor system m (Some node)
    → Some pairs ≡ get nat_cmp earlier.by_root node.to → leads_to_none_of system m pairs.items (first_led_to m to)
    → (members : List ℕ) → IsEarlier system members earlier → leads_to_none_of system m members (first_led_to m to)
first_at_root system earlier m node pairs to (p, at, is) there h members kept =
    kept.alike m p (first_led_to m to) at (subst (λ ns. leads_to_none_of system m ns (first_led_to m to)) (ap entry_items there ∙ ap (items_at earlier.by_root) is.to) h)
