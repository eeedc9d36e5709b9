use Rattle.std.proofs.Common.{◌≡◌, ◌<◌, ◌++◌, ◌∷◌, [], ℕ, List, length, sym, subst, arith}
use Rattle.trs_caps.specs.HoledTree.{HoledTree}
use Rattle.conf_find.specs.SharedCaps.{cap_at, node_cap, caps_over}
use Rattle.conf_find.proofs.SharedCapLaws.{ordered_still, last_there, last_cap, caps_stay}
use Rattle.conf_find.proofs.shared_caps.SharedCaps.add.Goals as goal

pub invariant_of-self-2 : goal.invariant_of-self-2
invariant_of-self-2 c = rw c.in_ok-push.ensures.items (ordered_still c.self.inside.nodes.items c.args.self.now c.self.invariant c.self.view_is c.args.node c.requires)

pub returns-clause-there : goal.returns-clause-there
returns-clause-there c =
    let number : c.len-number.result ≡ length c.self.inside.nodes.items = omega (arith, c.len-number.ensures, c.self.inside.nodes.ok.0) in
    let new : List HoledTree = caps_over [] (c.self.inside.nodes.items ++ c.args.node ∷ []) in
    rw c.in_ok-push.ensures.items (subst (λ (k : ℕ). k < length new) (sym number) (last_there c.self.inside.nodes.items c.args.self.now c.self.invariant c.self.view_is c.args.node c.requires))

pub returns-clause-cap : goal.returns-clause-cap
returns-clause-cap c =
    let number : c.len-number.result ≡ length c.self.inside.nodes.items = omega (arith, c.len-number.ensures, c.self.inside.nodes.ok.0) in
    let new : List HoledTree = caps_over [] (c.self.inside.nodes.items ++ c.args.node ∷ []) in
    rw c.in_ok-push.ensures.items (subst (λ (k : ℕ). cap_at new k ≡ node_cap c.args.self.now c.args.node) (sym number) (last_cap c.self.inside.nodes.items c.args.self.now c.self.invariant c.self.view_is c.args.node c.requires))

pub returns-clause-kept : goal.returns-clause-kept
returns-clause-kept c = rw c.in_ok-push.ensures.items (caps_stay c.self.inside.nodes.items c.args.self.now c.self.invariant c.self.view_is c.args.node c.requires)
