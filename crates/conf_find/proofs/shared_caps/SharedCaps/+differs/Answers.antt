use Rattle.std.proofs.Common.{◌≡◌, ◌∙◌, length, ap, refl, arith}
use Rattle.trs_defs.specs.Tree.{app}
use Rattle.trs_core.specs.View.{tree, forest}
use Rattle.term_pool.proofs.MatchSteps.{read_again}
use Rattle.trs_caps.specs.HoledTree.{symbol}
use Rattle.conf_find.specs.SharedCaps.{cap_at, parts_at, node_cap}
use Rattle.conf_find.proofs.CapMeets.{open_fits, hole_suffices, own_differs, heads_differ, all_left, fits_further, argument_differs, none_differs, all_suffice, suffices_further, all_suffices}
use Rattle.conf_find.proofs.shared_caps.SharedCaps.+differs.Goals.{then-f-g-via-then-f-g, then-f-g-via-else-f-g+then-len-caps}
use Rattle.conf_find.proofs.shared_caps.SharedCaps.+differs.Goals as goal

pub returns-in_default-Open-clause-fits : goal.returns-in_default-Open-clause-fits
returns-in_default-Open-clause-fits t c = open_fits c.args.self.now (cap_at c.args.self.now c.args.k) (tree c.args.left.now) c.args.firsts.now

pub returns-in_default-Open-clause-suffices : goal.returns-in_default-Open-clause-suffices
returns-in_default-Open-clause-suffices t c =
    hole_suffices c.args.self.now (cap_at c.args.self.now c.args.k) (tree c.args.left.now) c.args.firsts.now (c.node.ensures.is ∙ ap (node_cap c.args.self.now) c.in_default-Open.is-1)

pub returns-in-App-Own-clause-fits : goal.returns-in-App-Own-clause-fits
returns-in-App-Own-clause-fits t c =
    let a = c.in-App-Own in
    own_differs c.args.self.now (cap_at c.args.self.now c.args.k) (tree c.args.left.now) c.args.firsts.now _ _ _ (c.node.ensures.is ∙ ap (node_cap c.args.self.now) a.is-1) (ap tree a.is-0)

pub returns-then-f-g-clause-fits : goal.returns-then-f-g-clause-fits
returns-then-f-g-clause-fits t c =
    let a = c.in-App-Symbol in
    let self = c.args.self.now in
    let cap : cap_at self c.args.k ≡ symbol a.g (parts_at self a.parts.items) = c.node.ensures.is ∙ ap (node_cap self) a.is-1 in
    let left : tree c.args.left.now ≡ app a.f (forest c.args-in-App-Symbol.inside.items.items) = rw (a.is-0, ← c.args-in-App-Symbol.view_is) refl in
    heads_differ self (cap_at self c.args.k) (tree c.args.left.now) c.args.firsts.now a.f a.g a.parts.items c.args-in-App-Symbol.inside.items.items cap left (elim c.then-f-g.branch [
      | then-f-g-via-then-f-g w ↦ λ same l. w.if-f-g.true same
      | then-f-g-via-else-f-g+then-len-caps w ↦ λ same l. w.if-len-caps.true (omega (arith, l, c.args-in-App-Symbol.inside.items.ok.0, ap length c.as_slice-caps.ensures.value))
    ])

pub loop-i-init : goal.loop-i-init
loop-i-init t c =
    let a = c.in-App-Symbol in
    let self = c.args.self.now in
    let cap : cap_at self c.args.k ≡ symbol a.g (parts_at self a.parts.items) = c.node.ensures.is ∙ ap (node_cap self) a.is-1 in
    let left : tree c.args.left.now ≡ app a.f (forest c.deref-arg-items.result.now) = rw (a.is-0, ← c.args-in-App-Symbol.view_is, c.deref-arg-items.ensures.value) refl in
    record {
      as_long = omega (arith, c.args-in-App-Symbol.inside.items.ok.0);
      fits = all_left self (cap_at self c.args.k) (tree c.args.left.now) c.args.firsts.now a.f a.g c.as_slice-caps.result.now c.deref-arg-items.result.now (rw c.as_slice-caps.ensures.value cap) left;
      suffices = all_suffice self (cap_at self c.args.k) (tree c.args.left.now) c.args.firsts.now a.f a.g c.as_slice-caps.result.now c.deref-arg-items.result.now (rw c.as_slice-caps.ensures.value cap) left c.if-f-g.false;
      firsts = c.requires.firsts;
    }

pub returns-then-branch-clause-fits : goal.returns-then-branch-clause-fits
returns-then-branch-clause-fits t c =
    let self = c.args.self.now in
    let h = c.loop-i.invariant in
    argument_differs self (cap_at self c.args.k) (tree c.args.left.now) c.args.firsts.now c.loop-i.firsts c.differs.new.firsts c.as_slice-caps.result.now c.deref-arg-items.result.now c.loop-i.i _ _ _
    c.loop-i-test.true h.as_long (read_again c.as_slice-caps.result.now c.loop-i.i (omega (arith, c.loop-i-test.true, h.as_long))) c.arg-item.is h.fits c.in_ok-differs-in-App-Symbol.ensures.fits c.if-branch.true

pub loop-i-preserved : goal.loop-i-preserved
loop-i-preserved t c =
    let self = c.args.self.now in
    let h = c.loop-i.invariant in
    record {
      as_long = h.as_long;
      fits = fits_further self (cap_at self c.args.k) (tree c.args.left.now) c.args.firsts.now c.loop-i.firsts c.differs.new.firsts c.as_slice-caps.result.now c.deref-arg-items.result.now c.loop-i.i _ _ _
          c.loop-i-test.true h.as_long (read_again c.as_slice-caps.result.now c.loop-i.i (omega (arith, c.loop-i-test.true, h.as_long))) c.arg-item.is h.fits c.in_ok-differs-in-App-Symbol.ensures.fits;
      suffices = suffices_further self (cap_at self c.args.k) (tree c.args.left.now) c.args.firsts.now c.loop-i.firsts c.differs.new.firsts c.as_slice-caps.result.now c.deref-arg-items.result.now c.loop-i.i _ _
          c.loop-i-test.true h.as_long (read_again c.as_slice-caps.result.now c.loop-i.i (omega (arith, c.loop-i-test.true, h.as_long))) c.arg-item.is h.suffices (rw c.if-branch.false at c.in_ok-differs-in-App-Symbol.ensures.suffices);
      firsts = c.in_ok-differs-in-App-Symbol.ensures.firsts;
    }

pub returns-after-loop-i-clause-fits : goal.returns-after-loop-i-clause-fits
returns-after-loop-i-clause-fits t c =
    none_differs c.args.self.now (cap_at c.args.self.now c.args.k) (tree c.args.left.now) c.args.firsts.now c.loop-i.firsts _ _ c.loop-i.invariant.fits

pub returns-after-loop-i-clause-suffices : goal.returns-after-loop-i-clause-suffices
returns-after-loop-i-clause-suffices t c =
    let h = c.loop-i.invariant in
    all_suffices c.args.self.now (cap_at c.args.self.now c.args.k) (tree c.args.left.now) c.args.firsts.now c.loop-i.firsts c.as_slice-caps.result.now c.deref-arg-items.result.now c.loop-i.i (omega (arith, c.loop-i-test.false)) h.as_long h.suffices
