-- The rules of pairs, one pair after another; the rows of edges to rules; and the right sides that lead there.
use Rattle.std.specs.Prelude.{◌≡◌, ◌<◌, ◌≤◌, ◌↔◌, ◌⊎◌, ℕ, ◌+◌, Bool, true, false, cond, IsTrue, List, [], ◌∷◌, ◌++◌, length, Some, None, Vec, Result, Ok, Err, IfOk, slice_get, refl}
use Rattle.std.specs.declared.alloc.Global.{Global}
use Rattle.std.specs.Ordering.{nat_cmp}
use Rattle.std.specs.BTreeMap.{BTreeMap, get, is_at}
use Rattle.std.specs.Map.{lookup}
use Rattle.std.proofs.Common.{zero, suc, inl, inr, sym, ap, subst, arith, ◌∙◌}
use Rattle.std.proofs.lemmas.Grind.{common_steps}
use Rattle.std.proofs.lemmas.Option.{same_Some, slice_get_within}
use native.Mathlib.Decide.{dec_lt, ℕ_discrete}
use Rattle.trs_defs.specs.Member.{In, in_first}
use Rattle.trs_defs.proofs.Members.{no_in, in_left, in_right, in_either, in_or, get_of_in, in_of_get}
use Rattle.trs_defs.specs.System.{System, IsSystem}
use Rattle.trs_defs.proofs.ListItems.{item_there, last_item}
use Rattle.pair_theory.specs.Marked.{mark}
use Rattle.pair_theory.specs.DependencyPair.{DependencyPair, dependency_pairs}
use Rattle.dp_graph.specs.ByRoot.{entry_items, items_at}
use Rattle.dp_core.specs.PlacedPairs.{IsOfRule}
use Rattle.dp_graph.specs.GraphConditions.{lists_of}
use Rattle.dp_graph.specs.Edge.{IsEdge}
use Rattle.dp_graph.specs.GraphNodes.{IsNodeFor}
use Rattle.dp_graph.specs.PlaceLists.{PutsBehind}
use Rattle.dp_graph.specs.declared.graph.Node.{Node}
use Rattle.dp_graph.specs.declared.rows.RulePlace.{RulePlace}
use Rattle.dp_graph.specs.declared.rows.Rules.{Rules}
use Rattle.dp_graph.specs.declared.rows.Rights.{Rights}
use Rattle.dp_graph.specs.RightPlaces.{AreAlike, IsRowOf, AddsRight, PlacesRight, LeadsRight}
use Rattle.dp_graph.specs.Rows.{EdgeOf, AtPlaces, Follows, LeadsOn, at_once, by_way, LeadsByOthers, IsBetween, StayWithin, AreRows}
use Rattle.dp_graph.specs.RulePlaces.{IsPlaceOf, IsInRule, AreRules, HaveRows, AreNoRules, AddsPair, AddsRule, RulesAt, LeadsByRules}
use Rattle.dp_core.proofs.LeftNumbering.{same_left}
use Rattle.dp_graph.proofs.EarlierLaws.{none_at, edge_root, edge_to_alike}
use Rattle.dp_graph.proofs.NodeLists.{of_rule}
use Rattle.dp_graph.proofs.ListPlaces.{last_or_there, still_there, lists_length, lists_more, length_more, in_single}
use Rattle.dp_graph.proofs.ReversedLaws.{put_follows}

-- ---- the rules

pub same_number : (k q : ℕ) → is_at (nat_cmp k) q ≡ true → k ≡ q
same_number k q h = grind (arith, common_steps)

pub no_place : (places : BTreeMap ℕ ℕ) → places.entries ≡ [] → (r : ℕ) → get nat_cmp places r ≡ None
no_place places none r = ap (λ es. lookup (is_at (nat_cmp r)) es) none

pub no_rules : (system : System) (numbers : List ℕ) (n : ℕ) (rules : Rules) → n ≡ length numbers → AreNoRules n rules → AreRules system numbers 0 rules
no_rules system numbers n rules size are = record {
  low = (let c = are.rows.count in let l = lists_length rules.rows.items in omega (arith, size, c, l));
  placed = λ r k e. absurd (let d : None ≡ Some k = sym (no_place rules.places are.places r) ∙ e in cc);
  found = λ f rule i. absurd (no_in (subst (In rule) (none_at rules.by_root are.by_root f) i));
  once = λ f g rule other i j same. absurd (no_in (subst (In rule) (none_at rules.by_root are.by_root f) i));
  alike = λ f j rule q i e d. absurd (no_in (subst (In rule) (none_at rules.by_root are.by_root f) i));
  reached = λ k j (row, at, i). absurd (no_in (subst (In j) (are.rows.none k row at) i));
  all = λ j p lt is. absurd (omega (arith, lt));
}

pub no_pair_added : (system : System) (n j : ℕ) (old : Rules) → IsNodeFor system n None → AddsPair system n j old old
no_pair_added system n j old none numbers at are = record {
  low = are.low;
  placed = are.placed;
  found = are.found;
  once = are.once;
  alike = are.alike;
  reached = are.reached;
  all = λ i p lt is. elim (dec_lt i j) [
    | yes less ↦ are.all i p less is
    | no ge ↦ absurd (
        let same : i ≡ j = omega (arith, ge, lt) in
        let (m, e, d) = is in
        let here : m ≡ n = same_Some m n (sym e ∙ (ap (slice_get numbers) same ∙ at)) in
        let h : None ≡ Some p = sym none ∙ (ap (slice_get (dependency_pairs system.rules)) (sym here) ∙ d) in cc)
  ];
}

pub have_rows : (system : System) (numbers : List ℕ) (i : ℕ) (rules : Rules) → AreRules system numbers i rules → HaveRows rules
have_rows system numbers i rules are r k e =
    let is = are.placed r k e in
    let h = (are.found is.root is.rule is.listed).small in
    let same = is.at in omega (arith, h, same)

module _ (system : System) (n j : ℕ) (node : Node) (old new : Rules) (is_node : IsNodeFor system n (Some node)) where
  -- a pair of a rule that has a place
  pub pair_added : (place : ℕ) → Some place ≡ get nat_cmp old.places node.rule → place < length old.rows.items → PutsBehind (lists_of old.rows.items) (lists_of new.rows.items) place j
      → new.places ≡ old.places → new.by_root ≡ old.by_root → AddsPair system n j old new
  pair_added place e small puts same_places same_roots numbers at are =
      let (p, numbered, is) = is_node in
      let owner = are.placed node.rule place (sym e) in
      let left : mark p.from ≡ mark owner.pair.from = same_left system.rules node.rule p owner.pair (of_rule system.rules p node is) owner.of_rule in
      let len : length new.rows.items ≡ length old.rows.items = (let a = lists_length new.rows.items in let b = lists_length old.rows.items in let c = puts.count in omega (arith, a, b, c)) in
      let lt : place < length (lists_of old.rows.items) = (let b = lists_length old.rows.items in omega (arith, small, b)) in
      let follows = put_follows (lists_of old.rows.items) (lists_of new.rows.items) place j lt puts in
      let to_old : (f : ℕ) (rule : RulePlace) → In rule (items_at new.by_root f) → In rule (items_at old.by_root f) = (λ f rule i. subst (λ z. In rule (items_at z f)) same_roots i) in
      let to_new : (f : ℕ) (rule : RulePlace) → In rule (items_at old.by_root f) → In rule (items_at new.by_root f) = (λ f rule i. subst (λ z. In rule (items_at z f)) (sym same_roots) i) in
      let in_rule : (k i : ℕ) → IsInRule old k i → IsInRule new k i =
      (λ k i h. record { root = h.root; rule = h.rule; listed = to_new h.root h.rule h.listed; at = h.at; follows = (follows k i).1 (inl h.follows) }) in
      let here : IsInRule new place j =
      (record { root = owner.root; rule = owner.rule; listed = to_new owner.root owner.rule owner.listed; at = owner.at; follows = (follows place j).1 (inr (refl, refl)) }) in record {
        low = (let h = are.low in omega (arith, h, len));
        placed = λ r k d.
            let o = are.placed r k (subst (λ z. get nat_cmp z r ≡ Some k) same_places d) in
            record { rule = o.rule; at = o.at; root = o.root; listed = to_new o.root o.rule o.listed; pair = o.pair; numbered = o.numbered; of_rule = o.of_rule };
        found = λ f rule i.
            let o = are.found f rule (to_old f rule i) in
            record { pair = o.pair; numbered = o.numbered; root = o.root; behind = o.behind; small = (let h = o.small in omega (arith, h, len)) };
        once = λ f g rule other i k same. are.once f g rule other (to_old f rule i) (to_old g other k) same;
        alike = λ f i rule q k d t. elim ((follows rule.place i).0 t) [
          | inl h ↦ are.alike f i rule q (to_old f rule k) d h
          | inr h ↦
              let one : rule.pair ≡ owner.rule.pair = are.once f owner.root rule owner.rule (to_old f rule k) owner.listed (h.0 ∙ sym owner.at) in
              let same : q ≡ owner.pair = same_Some q owner.pair (sym d ∙ (ap (slice_get (dependency_pairs system.rules)) one ∙ owner.numbered)) in
              (p, (n, ap (slice_get numbers) h.1 ∙ at, numbered), left ∙ ap (λ (x : DependencyPair). mark x.from) (sym same))
        ];
        reached = λ k i t. elim ((follows k i).0 t) [
          | inl h ↦ in_rule k i (are.reached k i h)
          | inr h ↦ subst (λ z. IsInRule new z i) (sym h.0) (subst (IsInRule new place) (sym h.1) here)
        ];
        all = λ i x less is_pair. elim (dec_lt i j) [
          | yes s ↦ (let (k, h) = are.all i x s is_pair in (k, in_rule k i h))
          | no s ↦ (let same : i ≡ j = omega (arith, s, less) in (place, subst (IsInRule new place) (sym same) here))
        ];
      }

  -- the first pair of a rule
  pub rule_added : AddsRule node n j old new → AddsPair system n j old new
  rule_added adds numbers at are =
      let (p, numbered, is) = is_node in
      let place : ℕ = length old.rows.items in
      let size : place ≡ length (lists_of old.rows.items) = sym (lists_length old.rows.items) in
      let len : length new.rows.items ≡ place + 1 = (let a = lists_length new.rows.items in let b = ap length adds.rows in let c = length_more (lists_of old.rows.items) (j ∷ []) in omega (arith, a, b, c, size)) in
      let own : RulePlace = record { place = place; pair = n } in
      let here : In own (items_at new.by_root node.from) = subst (In own) (sym adds.here) (in_right (items_at old.by_root node.from) in_first) in
      let row : Follows (lists_of new.rows.items) place j = (
        j ∷ [],
        subst (λ z. slice_get z place ≡ Some (j ∷ [])) (sym adds.rows)
            (subst (λ z. slice_get (lists_of old.rows.items ++ (j ∷ []) ∷ []) z ≡ Some (j ∷ [])) (sym size) (last_item (lists_of old.rows.items) (j ∷ []) [])),
        in_first,
      ) in
      let in_rule : (k i : ℕ) → IsInRule old k i → IsInRule new k i =
      (λ k i h. record { root = h.root; rule = h.rule; listed = still h.root h.rule h.listed; at = h.at; follows = still_follows k i h.follows }) in
      let in_own : IsInRule new place j = (record { root = node.from; rule = own; listed = here; at = refl; follows = row }) in record {
        low = (let h = are.low in omega (arith, h, len));
        placed = λ r k e. by_number r k e (is_at (nat_cmp node.rule) r) refl;
        found = λ f rule i. elim (listed f rule i) [
          | inl h ↦ (let o = are.found f rule h in record { pair = o.pair; numbered = o.numbered; root = o.root; behind = o.behind; small = (let s = o.small in omega (arith, s, len)) })
          | inr h ↦ record {
            pair = p;
            numbered = ap (λ (z : RulePlace). slice_get (dependency_pairs system.rules) z.pair) h.1 ∙ numbered;
            root = sym is.from ∙ sym h.0;
            behind = (let s = ap (λ (z : RulePlace). z.place) h.1 in let l = are.low in omega (arith, s, l));
            small = (let s = ap (λ (z : RulePlace). z.place) h.1 in omega (arith, s, len));
          }
        ];
        once = λ f g rule other i k same. elim (listed f rule i) [
          | inl h ↦ elim (listed g other k) [
            | inl h2 ↦ are.once f g rule other h h2 same
            | inr h2 ↦ absurd (let s = (are.found f rule h).small in let t = ap (λ (z : RulePlace). z.place) h2.1 in omega (arith, s, t, same))
          ]
          | inr h ↦ elim (listed g other k) [
            | inl h2 ↦ absurd (let s = (are.found g other h2).small in let t = ap (λ (z : RulePlace). z.place) h.1 in omega (arith, s, t, same))
            | inr h2 ↦ ap (λ (z : RulePlace). z.pair) (h.1 ∙ sym h2.1)
          ]
        ];
        alike = λ f i rule q k d t. elim (listed f rule k) [
          | inl h ↦ elim (follow rule.place i t) [
            | inl t2 ↦ are.alike f i rule q h d t2
            | inr t2 ↦ absurd (let s = (are.found f rule h).small in let u = t2.0 in omega (arith, s, u))
          ]
          | inr h ↦ elim (follow rule.place i t) [
            | inl t2 ↦ absurd (let w = (let (r, e, m) = t2 in slice_get_within (lists_of old.rows.items) rule.place r e) in let u = ap (λ (z : RulePlace). z.place) h.1 in omega (arith, w, u, size))
            | inr t2 ↦
                let same : p ≡ q = same_Some p q (sym numbered ∙ (ap (λ (z : RulePlace). slice_get (dependency_pairs system.rules) z.pair) (sym h.1) ∙ d)) in
                (p, (n, ap (slice_get numbers) t2.1 ∙ at, numbered), ap (λ (x : DependencyPair). mark x.from) same)
          ]
        ];
        reached = λ k i t. elim (follow k i t) [
          | inl h ↦ in_rule k i (are.reached k i h)
          | inr h ↦ subst (λ z. IsInRule new z i) (sym h.0) (subst (IsInRule new place) (sym h.1) in_own)
        ];
        all = λ i x less is_pair. elim (dec_lt i j) [
          | yes s ↦ (let (k, h) = are.all i x s is_pair in (k, in_rule k i h))
          | no s ↦ (let same : i ≡ j = omega (arith, s, less) in (place, subst (IsInRule new place) (sym same) in_own))
        ];
      }
    where
      listed : (f : ℕ) (rule : RulePlace) → In rule (items_at new.by_root f) → In rule (items_at old.by_root f) ⊎ ((f ≡ node.from) × (rule ≡ record { place = length old.rows.items; pair = n }))
      listed f rule i = elim (ℕ_discrete f node.from) [
        | yes same ↦ elim (in_either (items_at old.by_root node.from) (record { place = length old.rows.items; pair = n } ∷ []) (subst (In rule) adds.here (subst (λ z. In rule (items_at new.by_root z)) same i))) [
          | inl h ↦ inl (subst (λ z. In rule (items_at old.by_root z)) (sym same) h)
          | inr h ↦ elim (in_or h) [ inl e ↦ inr (same, e) | inr none ↦ absurd (no_in none) ]
        ]
        | no differ ↦ inl (subst (In rule) (adds.others f differ) i)
      ]

      still : (f : ℕ) (rule : RulePlace) → In rule (items_at old.by_root f) → In rule (items_at new.by_root f)
      still f rule i = elim (ℕ_discrete f node.from) [
        | yes same ↦ subst (λ z. In rule (items_at new.by_root z)) (sym same)
            (subst (In rule) (sym adds.here) (in_left (record { place = length old.rows.items; pair = n } ∷ []) (subst (λ z. In rule (items_at old.by_root z)) same i)))
        | no differ ↦ subst (In rule) (sym (adds.others f differ)) i
      ]

      still_follows : (k i : ℕ) → Follows (lists_of old.rows.items) k i → Follows (lists_of new.rows.items) k i
      still_follows k i (row, e, m) = (row, subst (λ z. slice_get z k ≡ Some row) (sym adds.rows) (still_there (lists_of old.rows.items) ((j ∷ []) ∷ []) k row e), m)

      follow : (k i : ℕ) → Follows (lists_of new.rows.items) k i → Follows (lists_of old.rows.items) k i ⊎ ((k ≡ length old.rows.items) × (i ≡ j))
      follow k i (row, e, m) = elim (last_or_there (lists_of old.rows.items) (j ∷ []) row k (subst (λ z. slice_get z k ≡ Some row) adds.rows e)) [
        | inl h ↦ inl (row, h, m)
        | inr h ↦ inr (h.0 ∙ lists_length old.rows.items, in_single (subst (In i) (sym h.1) m))
      ]

      by_number : (r k : ℕ) → get nat_cmp new.places r ≡ Some k → (b : Bool) → is_at (nat_cmp node.rule) r ≡ b → IsPlaceOf system new r k
      by_number r k e true same =
          let (p, numbered, is) = is_node in
          let here : length old.rows.items ≡ k = same_Some (length old.rows.items) k (sym (adds.places r ∙ ap (λ b. cond b (Some (length old.rows.items)) (get nat_cmp old.places r)) same) ∙ e) in record {
            rule = record { place = length old.rows.items; pair = n };
            at = here;
            root = node.from;
            listed = subst (In (record { place = length old.rows.items; pair = n })) (sym adds.here) (in_right (items_at old.by_root node.from) in_first);
            pair = p;
            numbered = numbered;
            of_rule = subst (λ z. IsOfRule system.rules z p) (same_number node.rule r same) (of_rule system.rules p node is);
          }
      by_number r k e false other =
          let o = are.placed r k (sym (adds.places r ∙ ap (λ b. cond b (Some (length old.rows.items)) (get nat_cmp old.places r)) other) ∙ e) in
          record { rule = o.rule; at = o.at; root = o.root; listed = still o.root o.rule o.listed; pair = o.pair; numbered = o.numbered; of_rule = o.of_rule }

pub rule_put : (node : Node) (n j place : ℕ) (old new : Rules) (row : Vec ℕ Global) → place ≡ length old.rows.items → row.items ≡ j ∷ [] → new.rows.items ≡ old.rows.items ++ row ∷ []
    → ((r : ℕ) → get nat_cmp new.places r ≡ cond (is_at (nat_cmp node.rule) r) (Some place) (get nat_cmp old.places r))
    → items_at new.by_root node.from ≡ items_at old.by_root node.from ++ record { place = place; pair = n } ∷ [] → ((f : ℕ) → (f ≡ node.from → ⊥) → items_at new.by_root f ≡ items_at old.by_root f)
    → AddsRule node n j old new
rule_put node n j place old new row same one grown places here others = record {
  rows = ap lists_of grown ∙ (lists_more old.rows.items row ∙ ap (λ z. lists_of old.rows.items ++ z ∷ []) one);
  places = λ r. places r ∙ ap (λ z. cond (is_at (nat_cmp node.rule) r) (Some z) (get nat_cmp old.places r)) same;
  here = here ∙ ap (λ z. items_at old.by_root node.from ++ record { place = z; pair = n } ∷ []) same;
  others = others;
}

-- ---- the row of a pair

leads_by_none : (system : System) (rules : RulePlace → Type 0) (m i : ℕ) (rows : List (List ℕ)) → ((rule : RulePlace) → rules rule → EdgeOf system m rule.pair → ⊥) → LeadsByRules system rules m i rows rows
leads_by_none system rules m i rows none = record {
  count = refl;
  others = λ k d. refl;
  exact = λ j. (λ f. inl f, λ h. elim h [ inl f ↦ f | inr (rule, is, at, edge) ↦ absurd (none rule is edge) ]);
}

pub leads_from_none : (system : System) (by_root : BTreeMap ℕ (Vec RulePlace Global)) (m i : ℕ) (rows : List (List ℕ)) → IsNodeFor system m None → LeadsByRules system (RulesAt system by_root m) m i rows rows
leads_from_none system by_root m i rows none =
    leads_by_none system (RulesAt system by_root m) m i rows (λ rule (p, at, is) edge. let d : None ≡ Some p = sym none ∙ at in absurd cc)

leads_same : (system : System) (V W : RulePlace → Type 0) (m i : ℕ) (old new : List (List ℕ)) → ((rule : RulePlace) → V rule → W rule) → ((rule : RulePlace) → W rule → V rule) → LeadsByRules system V m i old new
    → LeadsByRules system W m i old new
leads_same system V W m i old new to from leads = record {
  count = leads.count;
  others = leads.others;
  exact = λ j. (
    λ f. elim ((leads.exact j).0 f) [ inl h ↦ inl h | inr (rule, is, at, edge) ↦ inr (rule, to rule is, at, edge) ],
    λ h. (leads.exact j).1 (elim h [ inl f ↦ inl f | inr (rule, is, at, edge) ↦ inr (rule, from rule is, at, edge) ]),
  );
}

module _ (system : System) (by_root : BTreeMap ℕ (Vec RulePlace Global)) (m i : ℕ) (node : Node) (is : IsNodeFor system m (Some node)) where
  at_root : (rule : RulePlace) → In rule (items_at by_root node.to) → RulesAt system by_root m rule
  at_root rule h = let (p, at, node_of) = is in (p, at, subst (λ z. In rule (items_at by_root z)) node_of.to h)

  of_root : (rule : RulePlace) → RulesAt system by_root m rule → In rule (items_at by_root node.to)
  of_root rule (q, there_q, h) =
      let (p, at, node_of) = is in
      let same : q ≡ p = same_Some q p (sym there_q ∙ at) in
      subst (λ z. In rule (items_at by_root z)) (ap (λ (x : DependencyPair). x.to.symbol) same ∙ sym node_of.to) h

  pub leads_to_no_root : (rows : List (List ℕ)) → None ≡ get nat_cmp by_root node.to → LeadsByRules system (RulesAt system by_root m) m i rows rows
  leads_to_no_root rows none =
      leads_by_none system (RulesAt system by_root m) m i rows (λ rule h edge. no_in (subst (In rule) (ap entry_items (sym none)) (of_root rule h)))

  pub leads_at_root : (rules : Vec RulePlace Global) (old new : List (List ℕ)) → Some rules ≡ get nat_cmp by_root node.to → LeadsByRules system (λ rule. In rule rules.items) m i old new
      → LeadsByRules system (RulesAt system by_root m) m i old new
  leads_at_root rules old new there_is leads =
      leads_same system (λ rule. In rule rules.items) (RulesAt system by_root m) m i old new (λ rule h. at_root rule (subst (In rule) (ap entry_items there_is) h))
      (λ rule h. subst (In rule) (sym (ap entry_items there_is)) (of_root rule h)) leads

-- one of the first rules
abbrev pub AmongFirst : List RulePlace → ℕ → RulePlace → Type 0
AmongFirst rules n rule = (k : ℕ) × k < n × (slice_get rules k ≡ Some rule)

module _ (system : System) (rules : List RulePlace) (m i : ℕ) where
  pub leads_to_no_rule : (rows : List (List ℕ)) → LeadsByRules system (AmongFirst rules 0) m i rows rows
  leads_to_no_rule rows = leads_by_none system (AmongFirst rules 0) m i rows (λ rule (k, lt, at) edge. omega (arith, lt))

  pub leads_to_all : (old new : List (List ℕ)) (n : ℕ) → length rules ≤ n → LeadsByRules system (AmongFirst rules n) m i old new → LeadsByRules system (λ rule. In rule rules) m i old new
  leads_to_all old new n ge leads =
      leads_same system (AmongFirst rules n) (λ rule. In rule rules) m i old new (λ rule (k, lt, at). in_of_get rules k rule at)
      (λ rule h. let at = get_of_in h in (at.0, (let w = slice_get_within rules at.0 rule at.1 in omega (arith, w, ge)), at.1)) leads

  module _ (old mid : List (List ℕ)) (n : ℕ) (rule : RulePlace) (at : slice_get rules n ≡ Some rule) (leads : LeadsByRules system (AmongFirst rules n) m i old mid) where
    later : (other : RulePlace) → AmongFirst rules n other → AmongFirst rules (n + 1) other
    later other (k, lt, e) = (k, omega (arith, lt), e)

    sooner : (other : RulePlace) → AmongFirst rules (n + 1) other → AmongFirst rules n other ⊎ (other ≡ rule)
    sooner other (k, lt, e) = elim (dec_lt k n) [
      | yes s ↦ inl (k, s, e)
      | no s ↦ inr (let same : k ≡ n = omega (arith, s, lt) in same_Some other rule (sym e ∙ (ap (slice_get rules) same ∙ at)))
    ]

    pub leads_to_more : (new : List (List ℕ)) → EdgeOf system m rule.pair → i < length mid → PutsBehind mid new i rule.place → LeadsByRules system (AmongFirst rules (n + 1)) m i old new
    leads_to_more new edge lt puts = record {
      count = puts.count ∙ leads.count;
      others = λ k d. puts.others k d ∙ leads.others k d;
      exact = λ j. (
        λ f. elim ((put_follows mid new i rule.place lt puts i j).0 f) [
          | inl h ↦ elim ((leads.exact j).0 h) [ inl g ↦ inl g | inr (other, is, e, yes_edge) ↦ inr (other, later other is, e, yes_edge) ]
          | inr h ↦ inr (rule, (n, omega arith, at), sym h.1, edge)
        ],
        λ h. (put_follows mid new i rule.place lt puts i j).1 (elim h [
          | inl g ↦ inl ((leads.exact j).1 (inl g))
          | inr (other, is, e, yes_edge) ↦ elim (sooner other is) [
            | inl was ↦ inl ((leads.exact j).1 (inr (other, was, e, yes_edge)))
            | inr same ↦ inr (refl, sym e ∙ ap (λ (z : RulePlace). z.place) same)
          ]
        ]),
      );
    }

    pub leads_past : (EdgeOf system m rule.pair → ⊥) → LeadsByRules system (AmongFirst rules (n + 1)) m i old mid
    leads_past none = record {
      count = leads.count;
      others = leads.others;
      exact = λ j. (
        λ f. elim ((leads.exact j).0 f) [ inl g ↦ inl g | inr (other, is, e, edge) ↦ inr (other, later other is, e, edge) ],
        λ h. (leads.exact j).1 (elim h [
          | inl g ↦ inl g
          | inr (other, is, e, edge) ↦ elim (sooner other is) [
            | inl was ↦ inr (other, was, e, edge)
            | inr same ↦ absurd (none (subst (λ (z : RulePlace). EdgeOf system m z.pair) same edge))
          ]
        ]),
      );
    }

  -- one rule more, where the truth value says whether an edge leads to its pairs
  pub leads_to_one : (old mid new : List (List ℕ)) (n : ℕ) (rule : RulePlace) (b : Bool) → slice_get rules n ≡ Some rule → IsTrue b ↔ EdgeOf system m rule.pair → i < length mid
      → (IsTrue b → PutsBehind mid new i rule.place) → (b ≡ false → new ≡ mid) → LeadsByRules system (AmongFirst rules n) m i old mid → LeadsByRules system (AmongFirst rules (n + 1)) m i old new
  leads_to_one old mid new n rule true at says lt puts same leads = leads_to_more old mid n rule at leads new (says.0 refl) lt (puts refl)
  leads_to_one old mid new n rule false at says lt puts same leads =
      subst (LeadsByRules system (AmongFirst rules (n + 1)) m i old) (sym (same refl)) (leads_past old mid n rule at leads (λ edge. let h : false ≡ true = says.1 edge in cc))

-- ---- the places of right sides

-- the same edges lead from the first pair with the row
edges_from : (system : System) (m n : ℕ) (p q : DependencyPair) → slice_get (dependency_pairs system.rules) m ≡ Some p → slice_get (dependency_pairs system.rules) n ≡ Some q
    → ((k : ℕ) (r : DependencyPair) → slice_get (dependency_pairs system.rules) k ≡ Some r → IsEdge system.rules p r → IsEdge system.rules q r) → (k : ℕ) → EdgeOf system m k → EdgeOf system n k
edges_from system m n p q at there leads k e =
    let from : e.from ≡ p = same_Some e.from p (sym e.from_numbered ∙ at) in
    record {
      from = q;
      to = e.to;
      from_numbered = there;
      to_numbered = e.to_numbered;
      edge = leads k e.to e.to_numbered (subst (λ z. IsEdge system.rules z e.to) from e.edge);
    }

pub alike_first : (system : System) (m : ℕ) (node : Node) → IsNodeFor system m (Some node) → AreAlike system m node.first
alike_first system m node (p, at, is) =
    let (q, there, edges) = is.first in
    λ k. (edges_from system m node.first p q at there (λ i r e. (edges i r e).0) k, edges_from system node.first m q p there at (λ i r e. (edges i r e).1) k)

more_elsewhere : {A : Type 0} (xs : List A) (y : A) (k : ℕ) → (k ≡ length xs → ⊥) → slice_get (xs ++ y ∷ []) k ≡ slice_get xs k
more_elsewhere [] y zero other = absurd (other refl)
more_elsewhere [] y (suc k) other = refl
more_elsewhere (x ∷ xs) y zero other = refl
more_elsewhere (x ∷ xs) y (suc k) other = more_elsewhere xs y k (λ e. other (ap suc e))

pub right_added : (system : System) (by_root : BTreeMap ℕ (Vec RulePlace Global)) (m place : ℕ) (old new : Rights) (row : Vec ℕ Global) (mid : List (Vec ℕ Global)) → place ≡ length old.rows.items → row.items ≡ []
    → mid ≡ old.rows.items ++ row ∷ [] → LeadsByRules system (RulesAt system by_root m) m place (lists_of mid) (lists_of new.rows.items)
    → ((r : ℕ) → get nat_cmp new.places r ≡ cond (is_at (nat_cmp m) r) (Some place) (get nat_cmp old.places r)) → AddsRight system by_root m place old new
right_added system by_root m place old new row mid last empty grown leads places = record {
  last = last;
  count = (let a = lists_length new.rows.items in let b = lists_length mid in let c = leads.count in let d = ap length grown in let e = length_more old.rows.items row in omega (arith, a, b, c, d, e));
  row = λ j. (
    λ f. elim ((leads.exact j).0 f) [ inl (r, at, i) ↦ absurd (no_in (subst (In j) (none_here r at) i)) | inr h ↦ h ],
    λ h. (leads.exact j).1 (inr h),
  );
  others = λ k other. leads.others k other ∙ (ap (λ z. slice_get z k) lists ∙ more_elsewhere (lists_of old.rows.items) [] k (λ e. other (e ∙ size)));
  places = places;
}
  where
    lists : lists_of mid ≡ lists_of old.rows.items ++ [] ∷ []
    lists = ap lists_of grown ∙ (lists_more old.rows.items row ∙ ap (λ z. lists_of old.rows.items ++ z ∷ []) empty)

    size : length (lists_of old.rows.items) ≡ place
    size = lists_length old.rows.items ∙ sym last

    none_here : (r : List ℕ) → slice_get (lists_of mid) place ≡ Some r → r ≡ []
    none_here r at = elim (last_or_there (lists_of old.rows.items) [] r place (subst (λ z. slice_get z place ≡ Some r) lists at)) [
      | inl e ↦ absurd (let w = slice_get_within (lists_of old.rows.items) place r e in omega (arith, w, size))
      | inr e ↦ sym e.1
    ]

pub right_longer : (system : System) (by_root : BTreeMap ℕ (Vec RulePlace Global)) (m place : ℕ) (old new : Rights) → PlacesRight system by_root m place old new → length old.rows.items ≤ length new.rows.items
right_longer system by_root m place old new (inl (at, same)) = let h = ap (λ (z : Rights). length z.rows.items) same in omega (arith, h)
right_longer system by_root m place old new (inr adds) = let h = adds.count in omega (arith, h)

pub right_either : {E : Type 0} (system : System) (by_root : BTreeMap ℕ (Vec RulePlace Global)) (m : ℕ) (old new : Rights) (result : Result ℕ E) → IfOk result (λ place. AddsRight system by_root m place old new)
    → IfOk result (λ place. PlacesRight system by_root m place old new)
right_either system by_root m old new (Ok place) adds = inr adds
right_either system by_root m old new (Err e) adds = adds

-- ---- the rows of all pairs

follows_same : (rows new : List (List ℕ)) (k j : ℕ) → slice_get new k ≡ slice_get rows k → Follows new k j → Follows rows k j
follows_same rows new k j same (row, at, i) = (row, sym same ∙ at, i)

-- place k behind the others is that of the right side of a pair like number m
pub record IsRightAt (system : System) (by_root : BTreeMap ℕ (Vec RulePlace Global)) (before rows : List (List ℕ)) (m k : ℕ) : Type 0 where
  pub behind : length before ≤ k
  pub small : k < length rows
  pub row : IsRowOf system by_root m rows k

-- the rows of the first n pairs are made
pub record LedSoFar (system : System) (numbers : List ℕ) (by_root : BTreeMap ℕ (Vec RulePlace Global)) (before : List (List ℕ)) (rights : Rights) (n : ℕ) : Type 0 where
  pub longer : length before ≤ length (lists_of rights.rows.items)
  pub valid : (k : ℕ) → k < n → IsSystem system × length system.arities ≤ 4095
  pub kept : (k : ℕ) → n ≤ k → k < length before → slice_get (lists_of rights.rows.items) k ≡ slice_get before k
  pub placed : (m k : ℕ) → get nat_cmp rights.places m ≡ Some k → IsRightAt system by_root before (lists_of rights.rows.items) m k
  pub reached : (k : ℕ) → length before ≤ k → k < length (lists_of rights.rows.items) → (m : ℕ) × IsRowOf system by_root m (lists_of rights.rows.items) k
  pub led : (k j m : ℕ) → k < n → slice_get numbers k ≡ Some m → Follows (lists_of rights.rows.items) k j
      → (first : ℕ) × AreAlike system m first × IsRightAt system by_root before (lists_of rights.rows.items) first j
  pub all : (k m : ℕ) (p : DependencyPair) → k < n → slice_get numbers k ≡ Some m → slice_get (dependency_pairs system.rules) m ≡ Some p
      → (j : ℕ) × Follows (lists_of rights.rows.items) k j

pub none_led_yet : (system : System) (numbers : List ℕ) (by_root : BTreeMap ℕ (Vec RulePlace Global)) (rights : Rights) → rights.places.entries ≡ [] → LedSoFar system numbers by_root (lists_of rights.rows.items) rights 0
none_led_yet system numbers by_root rights none = record {
  longer = omega arith;
  valid = λ k lt. absurd (omega (arith, lt));
  kept = λ k ge lt. refl;
  placed = λ m k e. absurd (let d : None ≡ Some k = sym (no_place rights.places none m) ∙ e in cc);
  reached = λ k ge lt. absurd (omega (arith, ge, lt));
  led = λ k j m lt e f. absurd (omega (arith, lt));
  all = λ k m p lt e d. absurd (omega (arith, lt));
}

module _ (system : System) (numbers : List ℕ) (by_root : BTreeMap ℕ (Vec RulePlace Global)) (before : List (List ℕ)) (whole : length numbers ≤ length before)
    (low : (k j : ℕ) → Follows before k j → length numbers ≤ k) where
  right_kept : (rows new : List (List ℕ)) (m k : ℕ) → slice_get new k ≡ slice_get rows k → length rows ≤ length new → IsRightAt system by_root before rows m k → IsRightAt system by_root before new m k
  right_kept rows new m k same longer is = record {
    behind = is.behind;
    small = (let s = is.small in omega (arith, s, longer));
    row = row_kept rows new m k same is.row;
  }
    where
      row_kept : (rows new : List (List ℕ)) (m k : ℕ) → slice_get new k ≡ slice_get rows k → IsRowOf system by_root m rows k → IsRowOf system by_root m new k
      row_kept rows new m k same is = λ j. (λ f. (is j).0 (follows_same rows new k j same f), λ h. follows_same new rows k j (sym same) ((is j).1 h))

  module _ (n : ℕ) (old : Rights) (so_far : LedSoFar system numbers by_root before old n) (small : n < length numbers) where
    -- a right side that has a place now
    right_placed : (m place : ℕ) (new : Rights) → PlacesRight system by_root m place old new → LedSoFar system numbers by_root before new n × IsRightAt system by_root before (lists_of new.rows.items) m place
    right_placed m place new (inl (at, same)) =
        let is = so_far.placed m place at in (
          subst (λ (z : Rights). LedSoFar system numbers by_root before z n) (sym same) so_far,
          subst (λ (z : Rights). IsRightAt system by_root before (lists_of z.rows.items) m place) (sym same) is,
        )
    right_placed m place new (inr adds) = (
      record {
        longer = (let l = so_far.longer in omega (arith, l, grown));
        valid = so_far.valid;
        kept = λ k ge lt. adds.others k (not_last k (let l = so_far.longer in omega (arith, lt, l))) ∙ so_far.kept k ge lt;
        placed = λ r k e. by_number r k e (is_at (nat_cmp m) r) refl;
        reached = λ k ge lt. elim (dec_lt k (length (lists_of old.rows.items))) [
          | no high ↦ (let same : k ≡ place = omega (arith, high, lt, grown, last) in (m, subst (IsRowOf system by_root m (lists_of new.rows.items)) (sym same) adds.row))
          | yes there ↦
              let other = not_last k there in
              let (r, row) = so_far.reached k ge there in (
                r,
                λ j. (
                  λ f. (row j).0 (follows_same (lists_of old.rows.items) (lists_of new.rows.items) k j (adds.others k other) f),
                  λ h. follows_same (lists_of new.rows.items) (lists_of old.rows.items) k j (sym (adds.others k other)) ((row j).1 h),
                ),
              )
        ];
        led = λ k j r lt e f.
            let other : k ≡ place → ⊥ = not_last k (let l = so_far.longer in omega (arith, lt, small, whole, l)) in
            let (first, alike, is) = so_far.led k j r lt e (follows_same (lists_of old.rows.items) (lists_of new.rows.items) k j (adds.others k other) f) in
            (first, alike, still first j is);
        all = λ k r p lt e d.
            let other : k ≡ place → ⊥ = not_last k (let l = so_far.longer in omega (arith, lt, small, whole, l)) in
            let (j, f) = so_far.all k r p lt e d in
            (j, follows_same (lists_of new.rows.items) (lists_of old.rows.items) k j (sym (adds.others k other)) f);
      },
      here,
    )
      where
        grown : length (lists_of new.rows.items) ≡ length (lists_of old.rows.items) + 1
        grown = (let a = lists_length new.rows.items in let b = lists_length old.rows.items in let c = adds.count in omega (arith, a, b, c))

        last : place ≡ length (lists_of old.rows.items)
        last = adds.last ∙ sym (lists_length old.rows.items)

        not_last : (k : ℕ) → k < length (lists_of old.rows.items) → k ≡ place → ⊥
        not_last k lt e = omega (arith, lt, e, last)

        still : (r k : ℕ) → IsRightAt system by_root before (lists_of old.rows.items) r k → IsRightAt system by_root before (lists_of new.rows.items) r k
        still r k is = right_kept (lists_of old.rows.items) (lists_of new.rows.items) r k (adds.others k (not_last k is.small)) (omega (arith, grown)) is

        here : IsRightAt system by_root before (lists_of new.rows.items) m place
        here = record { behind = (let l = so_far.longer in omega (arith, l, last)); small = omega (arith, grown, last); row = adds.row }

        by_number : (r k : ℕ) → get nat_cmp new.places r ≡ Some k → (b : Bool) → is_at (nat_cmp m) r ≡ b → IsRightAt system by_root before (lists_of new.rows.items) r k
        by_number r k e true same =
            let place_is : place ≡ k = same_Some place k (sym (adds.places r ∙ ap (λ b. cond b (Some place) (get nat_cmp old.places r)) same) ∙ e) in
            subst (λ z. IsRightAt system by_root before (lists_of new.rows.items) z k) (same_number m r same) (subst (IsRightAt system by_root before (lists_of new.rows.items) m) place_is here)
        by_number r k e false other =
            still r k (so_far.placed r k (sym (adds.places r ∙ ap (λ b. cond b (Some place) (get nat_cmp old.places r)) other) ∙ e))

    -- the row of the next pair has nothing yet
    none_before : (j : ℕ) → Follows (lists_of old.rows.items) n j → ⊥
    none_before j f =
        let h = low n j (follows_same before (lists_of old.rows.items) n j (so_far.kept n (omega arith) (omega (arith, small, whole))) f) in
        omega (arith, h, small)

    -- its right side is put there
    right_put : (m first place : ℕ) (new : Rights) → slice_get numbers n ≡ Some m → IsSystem system → length system.arities ≤ 4095 → AreAlike system m first
        → IsRightAt system by_root before (lists_of old.rows.items) first place → PutsBehind (lists_of old.rows.items) (lists_of new.rows.items) n place → new.places ≡ old.places
        → LedSoFar system numbers by_root before new (n + 1)
    right_put m first place new at valid few alike is puts same_places = record {
      longer = (let l = so_far.longer in let c = puts.count in omega (arith, l, c));
      valid = λ k lt. (valid, few);
      kept = λ k ge lt. puts.others k (λ e. omega (arith, e, ge)) ∙ so_far.kept k (omega (arith, ge)) lt;
      placed = λ r k e. still r k (so_far.placed r k (subst (λ z. get nat_cmp z r ≡ Some k) same_places e));
      reached = λ k ge lt.
          let (r, row) = so_far.reached k ge (let c = puts.count in omega (arith, lt, c)) in
          let same = puts.others k (λ e. omega (arith, e, ge, small, whole)) in (
            r,
            λ j. (
              λ f. (row j).0 (follows_same (lists_of old.rows.items) (lists_of new.rows.items) k j same f),
              λ h. follows_same (lists_of new.rows.items) (lists_of old.rows.items) k j (sym same) ((row j).1 h),
            ),
          );
      led = λ k j r lt e f. elim ((put_follows (lists_of old.rows.items) (lists_of new.rows.items) n place within puts k j).0 f) [
        | inl g ↦ elim (dec_lt k n) [
          | yes s ↦ (let (x, like, right) = so_far.led k j r s e g in (x, like, still x j right))
          | no s ↦ absurd (none_before j (subst (λ z. Follows (lists_of old.rows.items) z j) (let same : k ≡ n = omega (arith, s, lt) in same) g))
        ]
        | inr g ↦
            let number : m ≡ r = same_Some m r (sym at ∙ (ap (slice_get numbers) (sym g.0) ∙ e)) in
            (first, subst (λ z. AreAlike system z first) number alike, subst (IsRightAt system by_root before (lists_of new.rows.items) first) (sym g.1) (still first place is))
      ];
      all = λ k r p lt e d. elim (dec_lt k n) [
        | yes s ↦ (let (j, f) = so_far.all k r p s e d in (j, (put_follows (lists_of old.rows.items) (lists_of new.rows.items) n place within puts k j).1 (inl f)))
        | no s ↦ (let same : k ≡ n = omega (arith, s, lt) in (place, (put_follows (lists_of old.rows.items) (lists_of new.rows.items) n place within puts k place).1 (inr (same, refl))))
      ];
    }
      where
        within : n < length (lists_of old.rows.items)
        within = let l = so_far.longer in omega (arith, l, small, whole)

        still : (r k : ℕ) → IsRightAt system by_root before (lists_of old.rows.items) r k → IsRightAt system by_root before (lists_of new.rows.items) r k
        still r k right =
            right_kept (lists_of old.rows.items) (lists_of new.rows.items) r k (puts.others k (λ e. let b = right.behind in omega (arith, e, b, small, whole))) (let c = puts.count in omega (arith, c)) right

  pub one_more_row : (n m : ℕ) (old new : Rights) → slice_get numbers n ≡ Some m → IsSystem system → length system.arities ≤ 4095 → LeadsRight system by_root m n old new
      → LedSoFar system numbers by_root before old n → LedSoFar system numbers by_root before new (n + 1)
  one_more_row n m old new at valid few (inl (none, same)) so_far = subst (λ (z : Rights). LedSoFar system numbers by_root before z (n + 1)) (sym same) (record {
    longer = so_far.longer;
    valid = λ k lt. (valid, few);
    kept = λ k ge lt. so_far.kept k (omega (arith, ge)) lt;
    placed = so_far.placed;
    reached = so_far.reached;
    led = λ k j r lt e f. elim (dec_lt k n) [
      | yes s ↦ so_far.led k j r s e f
      | no s ↦ absurd (none_before n old so_far (slice_get_within numbers n m at) j (subst (λ z. Follows (lists_of old.rows.items) z j) (let here : k ≡ n = omega (arith, s, lt) in here) f))
    ];
    all = λ k r p lt e d. elim (dec_lt k n) [
      | yes s ↦ so_far.all k r p s e d
      | no s ↦ absurd (
          let here : k ≡ n = omega (arith, s, lt) in
          let number : m ≡ r = same_Some m r (sym at ∙ (ap (slice_get numbers) (sym here) ∙ e)) in
          let h : None ≡ Some p = sym none ∙ (ap (slice_get (dependency_pairs system.rules)) number ∙ d) in cc)
    ];
  })
  one_more_row n m old new at valid few (inr leads) so_far =
      let lt = slice_get_within numbers n m at in
      let (mid, is) = right_placed n old so_far lt leads.first leads.place leads.mid leads.places in
      right_put n leads.mid mid lt m leads.first leads.place new at valid few leads.alike is leads.puts leads.same

-- what leads on to a pair starts behind the pairs
pub starts_behind : {pairs : ℕ} {rows : List (List ℕ)} {i k : ℕ} → LeadsOn pairs rows i k → pairs ≤ i
starts_behind (at_once ge step lt) = ge
starts_behind (by_way ge step on) = ge

-- the rows of rules have pairs alone
pub from_rule : (system : System) (numbers : List ℕ) (rules : Rules) → AreRules system numbers (length numbers) rules → (k j : ℕ) → Follows (lists_of rules.rows.items) k j → length numbers ≤ k × j < length numbers
from_rule system numbers rules are k j f =
    let h = are.reached k j f in
    let is = are.found h.root h.rule h.listed in
    let (p, (m, e, d), same) = are.alike h.root j h.rule is.pair h.listed is.numbered (subst (λ z. Follows (lists_of rules.rows.items) z j) (sym h.at) f) in
    let low : length numbers ≤ k = (let b = is.behind in let a = h.at in omega (arith, a, b)) in
    (low, slice_get_within numbers j m e)

module _ (system : System) (numbers : List ℕ) (rules : Rules) (are : AreRules system numbers (length numbers) rules) (rights : Rights)
    (so_far : LedSoFar system numbers rules.by_root (lists_of rules.rows.items) rights (length numbers)) where
  abbrev pairs : ℕ
  pairs = length numbers

  abbrev before : List (List ℕ)
  before = lists_of rules.rows.items

  abbrev rows : List (List ℕ)
  rows = lists_of rights.rows.items

  whole : pairs ≤ length before
  whole = let l = are.low in let s = lists_length rules.rows.items in omega (arith, l, s)

  of_before : (k j : ℕ) → pairs ≤ k → k < length before → Follows rows k j → Follows before k j
  of_before k j ge lt f = follows_same before rows k j (so_far.kept k ge lt) f

  to_before : (k j : ℕ) → pairs ≤ k → k < length before → Follows before k j → Follows rows k j
  to_before k j ge lt f = follows_same rows before k j (sym (so_far.kept k ge lt)) f

  -- the place of a rule
  rule_place : (m : ℕ) (rule : RulePlace) → RulesAt system rules.by_root m rule → pairs ≤ rule.place × rule.place < length before
  rule_place m rule (p, at, listed) =
      let is = are.found p.to.symbol rule listed in
      (is.behind, (let s = is.small in let l = lists_length rules.rows.items in omega (arith, s, l)))

  between_places : (i j : ℕ) → Follows rows i j → Dec (i < pairs) → IsBetween pairs (length rows) i j
  between_places i j f (yes lt) =
      let m = item_there numbers i lt in
      let (first, alike, is) = so_far.led i j m.0 lt m.1 f in
      inl (lt, ((let b = is.behind in let w = whole in omega (arith, b, w)), is.small))
  between_places i j f (no ge) =
      let low : pairs ≤ i = omega (arith, ge) in
      inr (
        low,
        elim (dec_lt i (length before)) [
          | yes s ↦ (let h = (from_rule system numbers rules are i j (of_before i j low s f)).1 in omega (arith, h, low))
          | no s ↦
              let w = (let (row, at, k) = f in slice_get_within rows i row at) in
              let (m, row) = so_far.reached i (omega (arith, s)) w in
              let (rule, at, is, edge) = (row j).0 f in
              let b = (rule_place m rule at).1 in
              omega (arith, b, is, s)
        ],
      )

  up : (i k : ℕ) → LeadsByOthers pairs rows i k → AtPlaces (EdgeOf system) numbers i k
  up i k (lt, (j, first_step, on)) =
      let m = item_there numbers i lt in
      let (valid, few) = so_far.valid i lt in
      let (first, alike, is) = so_far.led i j m.0 lt m.1 first_step in
      by_right m.0 m.1 valid few first alike is on
    where
      by_rule : (m : ℕ) → slice_get numbers i ≡ Some m → IsSystem system → length system.arities ≤ 4095 → (rule : RulePlace) (p : DependencyPair) → In rule (items_at rules.by_root p.to.symbol) → EdgeOf system m rule.pair
          → {l : ℕ} → rule.place ≡ l → LeadsOn pairs rows l k → AtPlaces (EdgeOf system) numbers i k
      by_rule m at valid few rule p listed edge is (at_once {i = l} ge step lt) =
          let found = are.found p.to.symbol rule listed in
          let small : rule.place < length before = (let s = found.small in let c = lists_length rules.rows.items in omega (arith, s, c)) in
          let old : Follows before rule.place k = subst (λ z. Follows before z k) (sym is) (of_before l k ge (omega (arith, is, small)) step) in
          let (q, (n, e, d), same) = are.alike p.to.symbol k rule found.pair listed found.numbered old in
          (m, n, at, e, edge_to_alike system valid few m rule.pair n found.pair q found.numbered d (sym same) edge)
      by_rule m at valid few rule p listed edge is (by_way {i = l} {j = j} ge step on) =
          let found = are.found p.to.symbol rule listed in
          let small : rule.place < length before = (let s = found.small in let c = lists_length rules.rows.items in omega (arith, s, c)) in
          let h = (from_rule system numbers rules are l j (of_before l j ge (omega (arith, is, small)) step)).1 in
          absurd (let far = starts_behind on in omega (arith, h, far))

      by_right : (m : ℕ) → slice_get numbers i ≡ Some m → IsSystem system → length system.arities ≤ 4095 → (first : ℕ) → AreAlike system m first → {j : ℕ} → IsRightAt system rules.by_root before rows first j → LeadsOn pairs rows j k
          → AtPlaces (EdgeOf system) numbers i k
      by_right m at valid few first alike is (at_once ge step lt) =
          let (rule, there, place, edge) = (is.row k).0 step in
          absurd (let b = (rule_place first rule there).0 in omega (arith, b, place, lt))
      by_right m at valid few first alike is (by_way {j = l} ge step on) =
          let (rule, there, place, edge) = (is.row l).0 step in
          by_rule m at valid few rule there.0 there.2 ((alike rule.pair).1 edge) place on

  down : (i k : ℕ) → AtPlaces (EdgeOf system) numbers i k → LeadsByOthers pairs rows i k
  down i k (m, n, e, d, edge) =
      let lt = slice_get_within numbers i m e in
      let (valid, few) = so_far.valid i lt in
      let (j, h) = are.all k edge.to (slice_get_within numbers k n d) (n, d, edge.to_numbered) in
      let is = are.found h.root h.rule h.listed in
      let (q, (a, at_a, numbered), same) = are.alike h.root k h.rule is.pair h.listed is.numbered (subst (λ z. Follows before z k) (sym h.at) h.follows) in
      let here : q ≡ edge.to = same_Some q edge.to (sym numbered ∙ (ap (slice_get (dependency_pairs system.rules)) (same_Some a n (sym at_a ∙ d)) ∙ edge.to_numbered)) in
      let alike : mark edge.to.from ≡ mark is.pair.from = ap (λ (x : DependencyPair). mark x.from) (sym here) ∙ same in
      let to_first : EdgeOf system m h.rule.pair = edge_to_alike system valid few m n h.rule.pair edge.to is.pair edge.to_numbered is.numbered alike edge in
      let (r, step) = so_far.all i m edge.from lt e edge.from_numbered in
      let (first, like, right) = so_far.led i r m lt e step in
      let by_first : EdgeOf system first h.rule.pair = (like h.rule.pair).0 to_first in
      let root : by_first.from.to.symbol ≡ is.pair.from.symbol = edge_root system valid few first h.rule.pair by_first.from is.pair by_first.from_numbered is.numbered by_first in
      let listed : In h.rule (items_at rules.by_root by_first.from.to.symbol) = subst (λ z. In h.rule (items_at rules.by_root z)) (sym (root ∙ is.root)) h.listed in
      let (low, small_k) = from_rule system numbers rules are j k h.follows in
      let small : j < length before = (let s = is.small in let c = lists_length rules.rows.items in let a = h.at in omega (arith, s, c, a)) in
      let second : Follows rows r j = (right.row j).1 (h.rule, (by_first.from, by_first.from_numbered, listed), h.at, by_first) in
      let far : pairs ≤ r = (let b = right.behind in let w = whole in omega (arith, b, w)) in
      (lt, (r, step, by_way far second (at_once low (to_before j k low small h.follows) small_k)))

  pub are_rows : AreRows (EdgeOf system) numbers rows
  are_rows = record {
    count = (let w = whole in let l = so_far.longer in omega (arith, w, l));
    between = λ i j f. between_places i j f (dec_lt i pairs);
    exact = λ i k. (up i k, down i k);
  }

pub rows_within : (edge : ℕ → ℕ → Type 0) (numbers : List ℕ) (rows : List (List ℕ)) → AreRows edge numbers rows → StayWithin rows
rows_within edge numbers rows are i j f = elim (are.between i j f) [
  | inl h ↦ h.1.1
  | inr h ↦ (let less = h.1 in let (row, at, k) = f in let w = slice_get_within rows i row at in omega (arith, less, w))
]
