use Rattle.std.specs.Prelude.{Vec}
use Rattle.std.specs.declared.alloc.Global.{Global}
use Rattle.std.proofs.Common.{ℕ, ◌∷◌, ◌++◌, [], ap, ◌∙◌}
use Rattle.order_search.proofs.Growing.{no_member_at, one_member_at}
use Rattle.order_search.proofs.symbol_sets.list_members.Goals.{then-is_member+in_ok-symbol_at+in_ok-push, else-is_member}
use Rattle.order_search.proofs.symbol_sets.list_members.Goals as goal

pub loop-place-preserved : goal.loop-place-preserved
loop-place-preserved c =
    let set = c.args.set.now in
    let place = c.loop-place.place in
    let before = c.loop-place.members.items in
    let after = c.if-is_member.members.items in
    elim c.if-is_member.branch [
      | then-is_member+in_ok-symbol_at+in_ok-push w ↦
          one_member_at set place before after w.if-is_member.true
          (ap (λ (v : Vec ℕ Global). v.items) w.members-is ∙ (w.in_ok-push.ensures.items ∙ ap (λ z. before ++ z ∷ []) w.in_ok-symbol_at.ensures)) c.loop-place.invariant
      | else-is_member w ↦ no_member_at set place after w.if-is_member.false (rw w.members-is c.loop-place.invariant)
    ]
