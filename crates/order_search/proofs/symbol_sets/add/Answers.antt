use Rattle.std.proofs.Common.{inl, inr, refl, arith}
use Rattle.order_search.proofs.Growing.{no_member_behind, one_member_more}
use Rattle.order_search.proofs.symbol_sets.add.Goals as goal

pub loop-set-init : goal.loop-set-init
loop-set-init c = λ g. (λ h. h, λ h. h)

pub loop-set-preserved : goal.loop-set-preserved
loop-set-preserved c = λ g.
    let one = no_member_behind c.loop-set.set.items c.push.new.self.items c.in_ok-push.ensures.items g in
    let so_far = c.loop-set.invariant g in
    (λ h. so_far.0 (one.0 h), λ h. one.1 (so_far.1 h))

pub returns : goal.returns
returns c = λ g.
    let one = one_member_more c.loop-set.set.items _ c.args.f (omega (arith, c.loop-set-test.false, c.len.ensures)) refl g in
    let so_far = c.loop-set.invariant g in
    (λ h. elim (one.0 h) [ inl e ↦ inl (so_far.0 e) | inr e ↦ inr e ], λ h. one.1 (elim h [ inl e ↦ inl (so_far.1 e) | inr e ↦ inr e ]))
