use Rattle.std.proofs.Common.{length, arith, ap, ◌∙◌}
use Rattle.loop_find.specs.declared.closures.Closures.{Closures}
use Rattle.loop_find.proofs.LinkLists.{link_added, still_sound, tokens_added}
use Rattle.loop_find.proofs.closures.Closures.add.Goals.{After-push}
use Rattle.loop_find.proofs.closures.Closures.add.Goals as goal

pub returns-clause-added : goal.returns-clause-added
returns-clause-added c = λ l r is.
    let new : Closures = record { tokens = c.extend_from_slice-2.new.self; links = c.push.new.self; attempts = c.args.self.now.attempts; copies = c.args.self.now.copies } in
    let a = c.deref.ensures.value ∙ is.left_is in
    let b = c.deref-2.ensures.value ∙ is.right_is in
    link_added c.args.self.now new l r (tokens_added _ _ _ _ _ l r c.in_ok-extend_from_slice.ensures.items a c.in_ok-extend_from_slice-2.ensures.items b) _ c.in_ok-push.ensures.items
    (c.len-left.ensures ∙ c.args.self.now.tokens.ok.0) (omega (arith, c.len-left.ensures, c.len-right.ensures, c.in_ok-extend_from_slice.ensures.len, ap length a)) (omega (arith, c.len-right.ensures, c.len-end.ensures, c.in_ok-extend_from_slice-2.ensures.len, ap length b))
    c.requires.earlier c.requires.sound.0 c.requires.sound.1

pub returns-clause-sound : goal.returns-clause-sound
returns-clause-sound c = λ arities l r is sound left_fit right_fit.
    let new : Closures = record { tokens = c.extend_from_slice-2.new.self; links = c.push.new.self; attempts = c.args.self.now.attempts; copies = c.args.self.now.copies } in
    let a = c.deref.ensures.value ∙ is.left_is in
    let b = c.deref-2.ensures.value ∙ is.right_is in
    still_sound c.args.self.now new l r (tokens_added _ _ _ _ _ l r c.in_ok-extend_from_slice.ensures.items a c.in_ok-extend_from_slice-2.ensures.items b) _ c.in_ok-push.ensures.items
    (c.len-left.ensures ∙ c.args.self.now.tokens.ok.0) (omega (arith, c.len-left.ensures, c.len-right.ensures, c.in_ok-extend_from_slice.ensures.len, ap length a)) (omega (arith, c.len-right.ensures, c.len-end.ensures, c.in_ok-extend_from_slice-2.ensures.len, ap length b))
    c.requires.earlier arities sound left_fit right_fit
