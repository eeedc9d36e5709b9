-- The nodes of pairs, one after another, and edges between them.
use Rattle.std.specs.Prelude.{◌≡◌, ◌<◌, ◌↔◌, ℕ, Bool, false, List, length, get_or, Option, Some, None, IsTrue, Vec, slice_get, refl}
use Rattle.std.specs.declared.alloc.Global.{Global}
use Rattle.std.proofs.Common.{sym, ap, subst, arith, ◌∙◌}
use Rattle.std.proofs.lemmas.Slice.Zip.{AllZip-long}
use Rattle.std.proofs.lemmas.Option.{slice_get_within, slice_get_past, slice_get_read, same_Some}
use Rattle.std.specs.Borrow.{Bor}
use Rattle.std.specs.Option.{option_copied}
use Rattle.std.specs.Slice.{IsItemAt}
use Rattle.trs_defs.specs.System.{RewriteRule, System}
use Rattle.trs_defs.proofs.ListItems.{item_there}
use Rattle.dp_core.specs.PlacedPairs.{IsOfRule}
use Rattle.pair_theory.specs.DependencyPair.{DependencyPair, dependency_pairs}
use Rattle.dp_graph.specs.declared.graph.Node.{Node}
use Rattle.dp_graph.specs.Edge.{IsEdge}
use Rattle.dp_graph.specs.GraphConditions.{HasEdge}
use Rattle.dp_graph.specs.FlagRows.{IsSet}
use Rattle.dp_graph.specs.GraphNodes.{IsNodeOf, IsNodeFor, IsSideNode, AreNodesOf}
use Rattle.dp_graph.proofs.ListPlaces.{past_none, none_past}
use Rattle.dp_graph.proofs.WordRowLaws.{one_row}
use Rattle.dp_graph.proofs.PairNodeLaws.{zip_at, flag_of_edge}

-- an item, as it is read
pub read_item : {A : Type 0} (xs : List A) (i : ℕ) (found : Option (Bor A)) → IsItemAt xs i found → option_copied found ≡ slice_get xs i
read_item xs i None h = sym (slice_get_past xs i h.3)
read_item xs i (Some x) h = sym (slice_get_read xs (length xs) i x.now refl h.3.0 h.1)

pub item_found : {A : Type 0} (xs : List A) (i : ℕ) (found : Option (Bor A)) (x : Bor A) → IsItemAt xs i found → found ≡ Some x → slice_get xs i ≡ Some x.now
item_found xs i found x h e = sym (read_item xs i found h) ∙ ap option_copied e

pub item_missing : {A : Type 0} (xs : List A) (i : ℕ) (found : Option (Bor A)) → IsItemAt xs i found → found ≡ None → slice_get xs i ≡ None
item_missing xs i found h e = sym (read_item xs i found h) ∙ ap option_copied e

nodes_long : (system : System) (nodes : List Node) (rows : List (Vec ℕ Global)) → AreNodesOf system nodes rows → length nodes ≡ length (dependency_pairs system.rules)
nodes_long system nodes rows are = AllZip-long (IsSideNode system.rules are.lefts rows) (dependency_pairs system.rules) nodes are.each

pub node_read : (system : System) (nodes : List Node) (rows : List (Vec ℕ Global)) (n : ℕ) (found : Option Node) → AreNodesOf system nodes rows → found ≡ slice_get nodes n → IsNodeFor system n found
node_read system nodes rows n None are e = past_none (dependency_pairs system.rules) n (let h = none_past nodes n (sym e) in let c = nodes_long system nodes rows are in omega (arith, h, c))
node_read system nodes rows n (Some node) are e =
    let lt = slice_get_within nodes n node (sym e) in
    let p = item_there (dependency_pairs system.rules) n (let c = nodes_long system nodes rows are in omega (arith, lt, c)) in
    let is = zip_at (IsSideNode system.rules are.lefts rows) (dependency_pairs system.rules) nodes n p.0 node are.each p.1 (sym e) in
    let (rule, there, left) = are.same.each is.number node.rule is.rule is.noted is.numbered in
    (p.0, p.1, record { rule = rule; numbered = there; rule_left = left ∙ is.left; from = is.from; to = is.to; first = are.first n node p.0 (sym e) p.1 })

pub of_rule : (rules : List RewriteRule) (p : DependencyPair) (node : Node) → IsNodeOf rules p node → IsOfRule rules node.rule p
of_rule rules p node is = (is.rule, is.numbered, is.rule_left)

-- ---- edges by the rows of nodes

module _ (system : System) (nodes : List Node) (rows : List (Vec ℕ Global)) (are : AreNodesOf system nodes rows) where
  abbrev all : List DependencyPair
  all = dependency_pairs system.rules

  its_pair : (n : ℕ) (node : Node) → slice_get nodes n ≡ Some node → (p : DependencyPair) × (slice_get all n ≡ Some p) × IsSideNode system.rules are.lefts rows p node
  its_pair n node at =
      let p = item_there all n (let lt = slice_get_within nodes n node at in let c = nodes_long system nodes rows are in omega (arith, lt, c)) in
      (p.0, p.1, zip_at (IsSideNode system.rules are.lefts rows) all nodes n p.0 node are.each p.1 at)

  pub row_within : (m : ℕ) (from : Node) → slice_get nodes m ≡ Some from → from.row < length rows
  row_within m from at =
      let (p, numbered, is) = its_pair m from at in
      let (c, end, (flags, (row, there, same), kept)) = is.row in
      slice_get_within rows from.row row there

  pub no_edge_from : (m n : ℕ) → slice_get nodes m ≡ None → IsTrue false ↔ HasEdge system.rules all m n
  no_edge_from m n none = (
    λ e. absurd cc,
    λ h.
        let gone : slice_get all m ≡ None = past_none all m (let a = none_past nodes m none in let c = nodes_long system nodes rows are in omega (arith, a, c)) in
        let d : None ≡ Some h.from = sym gone ∙ h.from_numbered in
        absurd cc,
  )

  pub no_edge_to : (m n : ℕ) → slice_get nodes n ≡ None → IsTrue false ↔ HasEdge system.rules all m n
  no_edge_to m n none = (
    λ e. absurd cc,
    λ h.
        let gone : slice_get all n ≡ None = past_none all n (let a = none_past nodes n none in let c = nodes_long system nodes rows are in omega (arith, a, c)) in
        let d : None ≡ Some h.to = sym gone ∙ h.to_numbered in
        absurd cc,
  )

  -- the flag of the rule of the one in the row of the other says whether an edge leads
  pub edge_decided : (m n : ℕ) (from to : Node) (row : Vec ℕ Global) (b : Bool) → slice_get nodes m ≡ Some from → slice_get nodes n ≡ Some to → row ≡ get_or rows from.row row
      → IsTrue b ↔ IsSet row.items to.rule → IsTrue b ↔ HasEdge system.rules all m n
  edge_decided m n from to row b at there read says =
      let (p, at_p, mine) = its_pair m from at in
      let (q, at_q, its) = its_pair n to there in
      let (c, end, (flags, has, is)) = mine.row in
      let got : slice_get rows from.row ≡ Some row = slice_get_read rows (length rows) from.row row refl (row_within m from at) read in
      let same : row.items ≡ flags = one_row rows from.row row.items flags (row, got, refl) has in
      let flag = flag_of_edge system are.valid are.symbols are.lefts are.same p q c flags its.number to.rule its.rule end is its.numbered its.left its.noted in (
        λ e. record { from = p; to = q; from_numbered = at_p; to_numbered = at_q; edge = flag.0 (subst (λ z. IsSet z to.rule) same (says.0 e)) },
        λ h.
            let e : h.from ≡ p = same_Some h.from p (sym h.from_numbered ∙ at_p) in
            let d : h.to ≡ q = same_Some h.to q (sym h.to_numbered ∙ at_q) in
            says.1 (subst (λ z. IsSet z to.rule) (sym same) (flag.1 (subst (λ z. IsEdge system.rules p z) d (subst (λ z. IsEdge system.rules z h.to) e h.edge)))),
      )
