-- The nodes of pairs, one after another, and edges by their rows.
use Rattle.std.specs.Prelude.{◌≡◌, ◌<◌, ◌≤◌, ◌↔◌, ℕ, ◌+◌, ◌++◌, List, [], ◌∷◌, length, take, drop, get_or, Option, Some, None, Vec, slice_get, refl}
use Rattle.std.specs.declared.alloc.Global.{Global}
use Rattle.std.specs.List.{AllZip}
use Rattle.std.proofs.Common.{zero, suc, inl, inr, sym, ap, subst, arith, ◌∙◌, append_assoc}
use Rattle.std.proofs.lemmas.List.{append-nil, drop_all, take_more}
use Rattle.std.proofs.lemmas.Slice.Zip.{AllZip-long, all_zipped_more}
use Rattle.std.proofs.lemmas.Option.{same_Some, slice_get_within, get_or_from_slice_get}
use Rattle.trs_defs.specs.Tree.{Tree, Trees, var, app}
use Rattle.trs_defs.specs.System.{RewriteRule, System, IsSystem}
use Rattle.trs_defs.proofs.ArgumentLists.{cell}
use Rattle.trs_defs.proofs.ListItems.{last_item, item_there}
use Rattle.trs_caps.specs.HoledTree.{HoledTree, hole, symbol}
use Rattle.trs_caps.specs.HoledCap.{MeetsLeft}
use Rattle.pair_theory.specs.Marked.{Marked, marked, plain}
use Rattle.pair_theory.specs.DependencyPair.{DependencyPair, subterms, keep_if, pairs_to, pairs_of, pairs_of_each, dependency_pairs}
use Rattle.dp_graph.specs.CapRows.{AreCaps, AreMore, AddsEnds, AreEnds, no_ends, at_variable, not_defined, one_end, IsEnd}
use Rattle.dp_graph.specs.Edge.{IsEdge}
use Rattle.dp_graph.specs.WordRows.{HasWords, KeepWords}
use Rattle.dp_graph.specs.FlagRows.{IsSet, IsRow}
use Rattle.dp_graph.specs.GraphNodes.{IsEndOf, IsRowAt, LeadsAs, IsSideNode, AreNodesOf}
use Rattle.dp_graph.specs.PairNodes.{IsNodeAt, AddsNode, AddsNodes, AreShared, AreNodes}
use Rattle.dp_graph.specs.SameLefts.{IsNoted, HaveSameLefts}
use Rattle.dp_graph.specs.declared.cap_rows.CapRows.{CapRows}
use Rattle.dp_graph.specs.declared.cap_rows.End.{End}
use Rattle.dp_graph.specs.declared.graph.Node.{Node}
use Rattle.dp_graph.specs.declared.nodes.Nodes.{Nodes}
use Rattle.dp_graph.proofs.Covering.{edge_by_caps}
use Rattle.dp_graph.proofs.WordRowLaws.{one_row}
use Rattle.dp_graph.proofs.ListPlaces.{last_or_there, still_there}

-- ---- lists place by place

zip_weaker : {A B : Type 0} (R S : A → B → Type 0) (xs : List A) (ys : List B) → ((x : A) (y : B) → R x y → S x y) → AllZip R xs ys → AllZip S xs ys
zip_weaker R S [] [] weaker h = tt
zip_weaker R S [] (y ∷ ys) weaker h = absurd h
zip_weaker R S (x ∷ xs) [] weaker h = absurd h
zip_weaker R S (x ∷ xs) (y ∷ ys) weaker h = (weaker x y h.0, zip_weaker R S xs ys weaker h.1)

zip_both : {A B : Type 0} (R : A → B → Type 0) (xs us : List A) (ys vs : List B) → AllZip R xs ys → AllZip R us vs → AllZip R (xs ++ us) (ys ++ vs)
zip_both R [] us [] vs h also = also
zip_both R [] us (y ∷ ys) vs h also = absurd h
zip_both R (x ∷ xs) us [] vs h also = absurd h
zip_both R (x ∷ xs) us (y ∷ ys) vs h also = (h.0, zip_both R xs us ys vs h.1 also)

zip_through : {A B C : Type 0} (R : A → B → Type 0) (S : B → C → Type 0) (T : A → C → Type 0) (xs : List A) (ys : List B) (zs : List C) → ((x : A) (y : B) (z : C) → R x y → S y z → T x z)
    → AllZip R xs ys → AllZip S ys zs → AllZip T xs zs
zip_through R S T [] [] [] through h also = tt
zip_through R S T [] [] (z ∷ zs) through h also = absurd also
zip_through R S T [] (y ∷ ys) zs through h also = absurd h
zip_through R S T (x ∷ xs) [] zs through h also = absurd h
zip_through R S T (x ∷ xs) (y ∷ ys) [] through h also = absurd also
zip_through R S T (x ∷ xs) (y ∷ ys) (z ∷ zs) through h also = (through x y z h.0 also.0, zip_through R S T xs ys zs through h.1 also.1)

pub zip_at : {A B : Type 0} (R : A → B → Type 0) (xs : List A) (ys : List B) (n : ℕ) (x : A) (y : B) → AllZip R xs ys → slice_get xs n ≡ Some x → slice_get ys n ≡ Some y → R x y
zip_at R [] ys n x y h at there = absurd cc
zip_at R (a ∷ xs) [] n x y h at there = absurd h
zip_at R (a ∷ xs) (b ∷ ys) zero x y h at there = subst (λ z. R z y) (same_Some a x at) (subst (R a) (same_Some b y there) h.0)
zip_at R (a ∷ xs) (b ∷ ys) (suc n) x y h at there = zip_at R xs ys n x y h.1 at there

-- ---- the nodes of one rule

-- the pairs from a left side to the subterms, with their ends
ends_of_pairs : (rules : List RewriteRule) (all : List HoledTree) (l : Marked) {ts : List Tree} {ends : List End} → AreEnds rules all ts ends
    → AllZip (λ (p : DependencyPair) (end : End). (p.from ≡ l) × IsEnd rules all p.to end) (pairs_to rules l ts) ends
ends_of_pairs rules all l no_ends = tt
ends_of_pairs rules all l (at_variable rest) = ends_of_pairs rules all l rest
ends_of_pairs rules all l (not_defined {f = f} {us = us} {ts = ts} {ends = ends} unknown rest) =
    subst (λ b. AllZip (λ (p : DependencyPair) (end : End). (p.from ≡ l) × IsEnd rules all p.to end) (keep_if b (record { from = l; to = marked f us }) (pairs_to rules l ts)) ends) (sym unknown) (ends_of_pairs rules all l rest)
ends_of_pairs rules all l (one_end {f = f} {us = us} {ts = ts} {end = end} {ends = ends} known is rest) =
    subst (λ b. AllZip (λ (p : DependencyPair) (end : End). (p.from ≡ l) × IsEnd rules all p.to end) (keep_if b (record { from = l; to = marked f us }) (pairs_to rules l ts)) (end ∷ ends)) (sym known)
    ((refl, is), ends_of_pairs rules all l rest)

pub no_node : (rule from : ℕ) (ends : List End) (old : Nodes) → AddsNodes rule from (take 0 ends) old old
no_node rule from ends old = record { added = []; grown = sym (append-nil old.nodes.items); each = tt; caps = refl; seen = λ h. h }

seen_more : (rule from : ℕ) (end : End) (old new : Nodes) → AddsNode rule from end old new → AreShared old.nodes.items old.seen.items → AreShared new.nodes.items new.seen.items
seen_more rule from end old new adds so_far = record {
  shared = λ n node at. elim (last_or_there old.nodes.items adds.node node n (subst (λ z. slice_get z n ≡ Some node) adds.nodes at)) [
    | inl e ↦ (let (other, there, same) = so_far.shared n node e in (other, stays node.first other there, same))
    | inr e ↦ (let (other, there, same) = first_has in subst (λ (z : Node). (other : Node) × (slice_get new.nodes.items z.first ≡ Some other) × (other.row ≡ z.row)) e.1 (other, there, same))
  ];
  noted = λ r j at. elim (adds.notes r j at) [
    | inl e ↦ (let (node, there, same) = so_far.noted r j e in (node, stays j node there, same))
    | inr e ↦ (let (node, there, same) = first_has in (node, subst (λ z. slice_get new.nodes.items z ≡ Some node) (sym e.1) there, same ∙ sym e.0))
  ];
}
  where
    stays : (n : ℕ) (node : Node) → slice_get old.nodes.items n ≡ Some node → slice_get new.nodes.items n ≡ Some node
    stays n node at = subst (λ z. slice_get z n ≡ Some node) (sym adds.nodes) (still_there old.nodes.items (adds.node ∷ []) n node at)

    here : slice_get new.nodes.items (length old.nodes.items) ≡ Some adds.node
    here = subst (λ z. slice_get z (length old.nodes.items) ≡ Some adds.node) (sym adds.nodes) (last_item old.nodes.items adds.node [])

    first_has : (other : Node) × (slice_get new.nodes.items adds.node.first ≡ Some other) × (other.row ≡ adds.node.row)
    first_has = elim adds.first [
      | inl e ↦ (adds.node, subst (λ z. slice_get new.nodes.items z ≡ Some adds.node) (sym e) here, refl)
      | inr e ↦ (let (node, there, same) = so_far.noted adds.node.row adds.node.first e in (node, stays adds.node.first node there, same))
    ]

pub one_more_node : (rule from : ℕ) (ends : List End) (k : ℕ) (end : End) (old mid new : Nodes) → k < length ends → slice_get ends k ≡ Some end → AddsNodes rule from (take k ends) old mid → AddsNode rule from end mid new
    → AddsNodes rule from (take (k + 1) ends) old new
one_more_node rule from ends k end old mid new lt at so_far adds =
    let is : end ≡ get_or ends k end = sym (get_or_from_slice_get ends k end end at) in
    let taken : take (k + 1) ends ≡ take k ends ++ end ∷ [] = take_more ends k end lt ∙ ap (λ z. take k ends ++ z ∷ []) (sym is) in
    let here : IsNodeAt old.caps.caps.items rule from end adds.node = subst (λ (z : CapRows). IsNodeAt z.caps.items rule from end adds.node) so_far.caps adds.is in
    record {
      added = so_far.added ++ adds.node ∷ [];
      grown = adds.nodes ∙ (ap (λ z. z ++ adds.node ∷ []) so_far.grown ∙ append_assoc old.nodes.items so_far.added (adds.node ∷ []));
      each = subst (λ z. AllZip (IsNodeAt old.caps.caps.items rule from) z (so_far.added ++ adds.node ∷ [])) (sym taken)
          (all_zipped_more (IsNodeAt old.caps.caps.items rule from) (take k ends) so_far.added end adds.node so_far.each here);
      caps = adds.caps ∙ so_far.caps;
      seen = λ h. seen_more rule from end mid new adds (so_far.seen h);
    }

row_stays : (rules : List RewriteRule) (lefts : List (Option ℕ)) (old new : List (Vec ℕ Global)) (n : ℕ) (p : DependencyPair) → KeepWords old new → IsRowAt rules lefts old n p → IsRowAt rules lefts new n p
row_stays rules lefts old new n p keeps (c, end, (flags, has, row)) = (c, end, (flags, keeps n flags has, row))

side_stays : (rules : List RewriteRule) (lefts : List (Option ℕ)) (old new : List (Vec ℕ Global)) → KeepWords old new → (p : DependencyPair) (node : Node) → IsSideNode rules lefts old p node → IsSideNode rules lefts new p node
side_stays rules lefts old new keeps p node is = record {
  number = is.number;
  rule = is.rule;
  numbered = is.numbered;
  left = is.left;
  noted = is.noted;
  from = is.from;
  to = is.to;
  row = row_stays rules lefts old new node.row p keeps is.row;
}

module _ (rules : List RewriteRule) (lefts : List (Option ℕ)) (caps : CapRows) (all : List HoledTree) (are : AreCaps rules lefts caps all) where
  -- the node of a pair by its end
  side_made : (k j f : ℕ) (rule : RewriteRule) (ls : Trees) → slice_get rules k ≡ Some rule → IsNoted lefts k j → rule.left ≡ app f ls → (p : DependencyPair) (end : End) (node : Node)
      → (p.from ≡ marked f ls) × IsEnd rules all p.to end → IsNodeAt caps.caps.items j f end node → IsSideNode rules lefts caps.rows.rows.items p node
  side_made k j f rule ls numbered noted left p end node (from, is) at =
      let (parts, each, cap) = is.is in
      let r = item_there caps.caps.items end.cap (let w = slice_get_within all end.cap is.cap is.numbered in let n = are.count in omega (arith, w, n)) in
      let (flags, has, row) = are.rows end.cap r.0 p.to.symbol parts (subst (λ z. slice_get all end.cap ≡ Some z) cap is.numbered) r.1 in
      record {
        number = k;
        rule = rule;
        numbered = numbered;
        left = left ∙ ap plain (sym from);
        noted = subst (λ z. IsNoted lefts k z) (sym at.rule_is) noted;
        from = at.from_is ∙ ap (λ (m : Marked). m.symbol) (sym from);
        to = at.to_is ∙ is.root;
        row = (symbol p.to.symbol parts, (parts, each, refl), (flags, subst (λ z. HasWords caps.rows.rows.items z flags) (sym (at.row_is r.0 r.1)) has, row));
      }

-- after the caps of the right side of a rule are made
pub caps_made : (rules : List RewriteRule) (lefts : List (Option ℕ)) (pairs : List DependencyPair) (old mid : Nodes) (new : CapRows) (t : Tree) (ends : List End) → mid.nodes ≡ old.nodes → mid.seen ≡ old.seen → mid.caps ≡ new
    → (are : AreNodes rules lefts pairs old) → KeepWords old.caps.rows.rows.items new.rows.rows.items → AreMore rules lefts new are.caps (AddsEnds rules t [] ends)
    → AreNodes rules lefts pairs mid × ((all : List HoledTree) × AreCaps rules lefts mid.caps all × AreEnds rules all (subterms t) ends)
caps_made rules lefts pairs old mid new t ends nodes seen caps are keeps (all, kept, now, (added, grown, ended)) =
    let here : AreCaps rules lefts mid.caps all = subst (λ z. AreCaps rules lefts z all) (sym caps) now in
    let stay : KeepWords old.caps.rows.rows.items mid.caps.rows.rows.items = subst (λ (z : CapRows). KeepWords old.caps.rows.rows.items z.rows.rows.items) (sym caps) keeps in (
      record {
        caps = all;
        are = here;
        each = subst (λ (z : Vec Node Global). AllZip (IsSideNode rules lefts mid.caps.rows.rows.items) pairs z.items) (sym nodes)
            (zip_weaker (IsSideNode rules lefts old.caps.rows.rows.items) (IsSideNode rules lefts mid.caps.rows.rows.items) pairs old.nodes.items
            (side_stays rules lefts old.caps.rows.rows.items mid.caps.rows.rows.items stay) are.each);
        shared = subst (λ (z : Vec (Option ℕ) Global). AreShared mid.nodes.items z.items) (sym seen) (subst (λ (z : Vec Node Global). AreShared z.items old.seen.items) (sym nodes) are.shared);
      },
      (all, here, subst (AreEnds rules all (subterms t)) (sym grown) ended),
    )

pub no_pairs_added : (rules : List RewriteRule) (lefts : List (Option ℕ)) (pairs : List DependencyPair) (mid : Nodes) (left right : Tree) (v : ℕ) → left ≡ var v → AreNodes rules lefts pairs mid
    → AreNodes rules lefts (pairs ++ pairs_of rules left right) mid
no_pairs_added rules lefts pairs mid left right v is are = subst (λ z. AreNodes rules lefts z mid) (sym (ap (λ l. pairs ++ pairs_of rules l right) is ∙ append-nil pairs)) are

pub free_rule_added : (rules : List RewriteRule) (lefts : List (Option ℕ)) (pairs : List DependencyPair) (old : Nodes) (left right : Tree) → pairs_of rules left right ≡ [] → AreNodes rules lefts pairs old
    → AreNodes rules lefts (pairs ++ pairs_of rules left right) old
free_rule_added rules lefts pairs old left right none are = subst (λ z. AreNodes rules lefts z old) (sym (ap (λ z. pairs ++ z) none ∙ append-nil pairs)) are

pub rule_added : (rules : List RewriteRule) (lefts : List (Option ℕ)) (pairs : List DependencyPair) (k j f : ℕ) (rule : RewriteRule) (ls : Trees) (ends : List End) (mid new : Nodes) → slice_get rules k ≡ Some rule
    → IsNoted lefts k j → rule.left ≡ app f ls → AreNodes rules lefts pairs mid → (all : List HoledTree) × AreCaps rules lefts mid.caps all × AreEnds rules all (subterms rule.right) ends
    → AddsNodes j f ends mid new → AreNodes rules lefts (pairs ++ pairs_of rules rule.left rule.right) new
rule_added rules lefts pairs k j f rule ls ends mid new numbered noted is are (all, now, ended) nodes =
    let here : AreCaps rules lefts new.caps all = subst (λ z. AreCaps rules lefts z all) (sym nodes.caps) now in
    let rows : mid.caps.rows.rows.items ≡ new.caps.rows.rows.items = ap (λ (z : CapRows). z.rows.rows.items) (sym nodes.caps) in
    let l : Marked = marked f ls in
    let added : AllZip (IsSideNode rules lefts mid.caps.rows.rows.items) (pairs_to rules l (subterms rule.right)) nodes.added =
    zip_through (λ (p : DependencyPair) (end : End). (p.from ≡ l) × IsEnd rules all p.to end) (IsNodeAt mid.caps.caps.items j f) (IsSideNode rules lefts mid.caps.rows.rows.items) (pairs_to rules l (subterms rule.right)) ends nodes.added
    (side_made rules lefts mid.caps all now k j f rule ls numbered noted is) (ends_of_pairs rules all l ended) nodes.each in
    let whole = zip_both (IsSideNode rules lefts mid.caps.rows.rows.items) pairs (pairs_to rules l (subterms rule.right)) mid.nodes.items nodes.added are.each added in
    record {
      caps = all;
      are = here;
      each = subst (λ z. AllZip (IsSideNode rules lefts z) (pairs ++ pairs_of rules rule.left rule.right) new.nodes.items) rows
          (subst (λ z. AllZip (IsSideNode rules lefts mid.caps.rows.rows.items) (pairs ++ pairs_of rules rule.left rule.right) z) (sym nodes.grown)
          (subst (λ z. AllZip (IsSideNode rules lefts mid.caps.rows.rows.items) (pairs ++ pairs_of rules z rule.right) (mid.nodes.items ++ nodes.added)) (sym is) whole));
      shared = nodes.seen are.shared;
    }

-- ---- all rules

-- the pairs of the first k rules
pub record RulesSoFar (rules : List RewriteRule) (lefts : List (Option ℕ)) (k : ℕ) (nodes : Nodes) : Type 0 where
  pub pairs : List DependencyPair
  pub left : dependency_pairs rules ≡ pairs ++ pairs_of_each rules (drop k rules)
  pub are : AreNodes rules lefts pairs nodes

pub no_rules : (rules : List RewriteRule) (lefts : List (Option ℕ)) (nodes : Nodes) → AreCaps rules lefts nodes.caps (hole ∷ []) → nodes.nodes.items ≡ [] → nodes.seen.items ≡ [] → RulesSoFar rules lefts 0 nodes
no_rules rules lefts nodes caps empty none = record {
  pairs = [];
  left = refl;
  are = record {
    caps = hole ∷ [];
    are = caps;
    each = subst (AllZip (IsSideNode rules lefts nodes.caps.rows.rows.items) []) (sym empty) tt;
    shared = record {
      shared = λ n node at. absurd (let d : None ≡ Some node = subst (λ z. slice_get z n ≡ Some node) empty at in cc);
      noted = λ r j at. absurd (let d : None ≡ Some (Some j) = subst (λ z. slice_get z r ≡ Some (Some j)) none at in cc);
    };
  };
}

pub one_more_rule : (rules : List RewriteRule) (lefts : List (Option ℕ)) (k : ℕ) (j : Option ℕ) (rule : RewriteRule) (old new : Nodes) → k < length rules → rule ≡ get_or rules k rule → slice_get rules k ≡ Some rule → slice_get lefts k ≡ Some j
    → ((n : ℕ) (pairs : List DependencyPair) → slice_get rules n ≡ Some rule → slice_get lefts n ≡ Some j → AreNodes rules lefts pairs old → AreNodes rules lefts (pairs ++ pairs_of rules rule.left rule.right) new)
    → RulesSoFar rules lefts k old → RulesSoFar rules lefts (k + 1) new
one_more_rule rules lefts k j rule old new lt read numbered noted adds so_far = record {
  pairs = so_far.pairs ++ pairs_of rules rule.left rule.right;
  left = so_far.left ∙ (ap (λ z. so_far.pairs ++ pairs_of_each rules z) (cell rules k rule lt read) ∙ sym (append_assoc so_far.pairs (pairs_of rules rule.left rule.right) (pairs_of_each rules (drop (k + 1) rules))));
  are = adds k so_far.pairs numbered noted so_far.are;
}

pub all_rules : (rules : List RewriteRule) (lefts : List (Option ℕ)) (k : ℕ) (nodes : Nodes) → length rules ≤ k → RulesSoFar rules lefts k nodes → AreNodes rules lefts (dependency_pairs rules) nodes
all_rules rules lefts k nodes past so_far =
    let none : pairs_of_each rules (drop k rules) ≡ [] = ap (pairs_of_each rules) (drop_all k rules past) in
    subst (λ z. AreNodes rules lefts z nodes) (sym (so_far.left ∙ (ap (λ z. so_far.pairs ++ z) none ∙ append-nil so_far.pairs))) so_far.are

-- ---- edges by rows

module _ (system : System) (valid : IsSystem system) (few : length system.arities ≤ 4095) (lefts : List (Option ℕ)) (same : HaveSameLefts system.rules lefts) where
  -- the flag of the rule that is noted for the left side of a pair says whether an edge leads to it
  pub flag_of_edge : (p r : DependencyPair) (c : HoledTree) (flags : List ℕ) (k j : ℕ) (rule : RewriteRule) → IsEndOf system.rules p.to c → IsRow system.rules lefts c flags → slice_get system.rules k ≡ Some rule
      → rule.left ≡ plain r.from → IsNoted lefts k j → IsSet flags j ↔ IsEdge system.rules p r
  flag_of_edge p r c flags k j rule (caps, each, is) row numbered left noted =
      let by = edge_by_caps system valid few p r caps each in (
        λ set.
            let (q, at, meets) = row.flags.met j set in
            let (other, there, also) = same.each k j rule noted numbered in
            let equal : q ≡ other = same_Some q other (sym at ∙ there) in
            let left_is : q.left ≡ plain r.from = ap (λ (z : RewriteRule). z.left) equal ∙ (also ∙ left) in
            by.0 (subst (λ z. MeetsLeft z (plain r.from)) is (subst (MeetsLeft c) left_is meets)),
        λ edge. row.flags.all k j rule numbered noted (subst (MeetsLeft c) (sym left) (subst (λ z. MeetsLeft z (plain r.from)) (sym is) (by.1 edge))),
      )

  -- from pairs with one row the same edges lead
  same_edges : (rows : List (Vec ℕ Global)) (n : ℕ) (p q r : DependencyPair) (node : Node) → IsRowAt system.rules lefts rows n p → IsRowAt system.rules lefts rows n q → IsSideNode system.rules lefts rows r node
      → IsEdge system.rules p r ↔ IsEdge system.rules q r
  same_edges rows n p q r node (c, end, (flags, has, row)) (d, other, (others, have, also)) is =
      let equal : flags ≡ others = one_row rows n flags others has have in
      let first = flag_of_edge p r c flags is.number node.rule is.rule end row is.numbered is.left is.noted in
      let second = flag_of_edge q r d others is.number node.rule is.rule other also is.numbered is.left is.noted in
      (λ e. second.0 (subst (λ z. IsSet z node.rule) equal (first.1 e)), λ e. first.0 (subst (λ z. IsSet z node.rule) (sym equal) (second.1 e)))

  -- the nodes of all pairs
  module _ (nodes : Nodes) (are : AreNodes system.rules lefts (dependency_pairs system.rules) nodes) where
    abbrev pairs : List DependencyPair
    pairs = dependency_pairs system.rules

    abbrev rows : List (Vec ℕ Global)
    rows = nodes.caps.rows.rows.items

    long : length nodes.nodes.items ≡ length pairs
    long = AllZip-long (IsSideNode system.rules lefts rows) pairs nodes.nodes.items are.each

    leads : (n : ℕ) (node : Node) (p : DependencyPair) → slice_get nodes.nodes.items n ≡ Some node → slice_get pairs n ≡ Some p → LeadsAs system.rules node.first p
    leads n node p at numbered =
        let (other, there, row) = are.shared.shared n node at in
        let q = item_there pairs node.first (let w = slice_get_within nodes.nodes.items node.first other there in omega (arith, w, long)) in
        let mine = zip_at (IsSideNode system.rules lefts rows) pairs nodes.nodes.items n p node are.each numbered at in
        let its = zip_at (IsSideNode system.rules lefts rows) pairs nodes.nodes.items node.first q.0 other are.each q.1 there in (
          q.0,
          q.1,
          λ k r at_r.
              let to = item_there nodes.nodes.items k (let w = slice_get_within pairs k r at_r in omega (arith, w, long)) in
              same_edges rows node.row p q.0 r to.0 mine.row (subst (λ z. IsRowAt system.rules lefts rows z q.0) row its.row) (zip_at (IsSideNode system.rules lefts rows) pairs nodes.nodes.items k r to.0 are.each at_r to.1),
        )

    pub nodes_made : AreNodesOf system nodes.nodes.items rows
    nodes_made = record { valid = valid; symbols = few; lefts = lefts; same = same; each = are.each; first = leads }
