use Rattle.std.proofs.Common.{◌≡◌, ◌++◌, ◌∷◌, [], length, sym, subst, arith}
use Rattle.trs_core.specs.View.{tree}
use Rattle.poly_lin.specs.Subterms.{AreOverEarlier, IsNumberOf, Keeps}
use Rattle.poly_lin.specs.declared.listing.Subterm.{Subterm}
use Rattle.poly_lin.proofs.Numbering.{earlier_more, keeps_more, number_behind}
use Rattle.poly_lin.proofs.listing.Listing.push.Goals as goal

pub invariant_of-self-2 : goal.invariant_of-self-2
invariant_of-self-2 c =
    let node : Subterm = record { term = c.args.t; args = c.args.args } in
    record { earlier = subst AreOverEarlier (sym c.in_ok-push.ensures.items) (earlier_more c.args.self.now.nodes.items node c.args.self.now.earlier c.requires) }

pub returns-clause-number : goal.returns-clause-number
returns-clause-number c =
    let nodes = c.args.self.now.nodes.items in
    let node : Subterm = record { term = c.args.t; args = c.args.args } in
    let at : c.len-n.result ≡ length c.args.self.now.nodes.items = omega (arith, c.len-n.ensures, c.args.self.now.nodes.ok.0) in
    subst (λ ms. IsNumberOf ms c.len-n.result (tree c.args.t.now)) (sym c.in_ok-push.ensures.items)
    (subst (λ n. IsNumberOf (nodes ++ node ∷ []) n (tree c.args.t.now)) (sym at) (number_behind nodes node))

pub returns-clause-kept : goal.returns-clause-kept
returns-clause-kept c =
    let node : Subterm = record { term = c.args.t; args = c.args.args } in
    subst (Keeps c.args.self.now.nodes.items) (sym c.in_ok-push.ensures.items) (keeps_more c.args.self.now.nodes.items node)
