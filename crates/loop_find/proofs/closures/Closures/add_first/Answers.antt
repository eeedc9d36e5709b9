use Rattle.std.proofs.Common.{length, length-append, arith, refl, ap, ◌∙◌}
use Rattle.trs_core.specs.View.{tree}
use Rattle.loop_find.specs.Flat.{tokens_of}
use Rattle.loop_find.specs.declared.closures.Closures.{Closures}
use Rattle.loop_find.proofs.LinkLists.{link_added, still_sound, tokens_added}
use Rattle.loop_find.proofs.closures.Closures.add_first.Goals as goal

pub returns-clause-added : goal.returns-clause-added
returns-clause-added c =
    let new : Closures = record { tokens = c.put_tokens-2.new.tokens; links = c.push.new.self; attempts = c.args.self.now.attempts; copies = c.args.self.now.copies } in
    let l = tree c.args.left.now in
    let r = tree c.args.right.now in
    let a = ap length c.in_ok-put_tokens.ensures ∙ length-append c.args.self.now.tokens.items (tokens_of l) in
    let b = ap length c.in_ok-put_tokens-2.ensures ∙ length-append c.put_tokens.new.tokens.items (tokens_of r) in
    link_added c.args.self.now new l r (tokens_added _ _ _ (tokens_of l) (tokens_of r) l r c.in_ok-put_tokens.ensures refl c.in_ok-put_tokens-2.ensures refl) _ c.in_ok-push.ensures.items
    (c.len-start.ensures ∙ c.args.self.now.tokens.ok.0) (omega (arith, c.len-start.ensures, c.len-middle.ensures, a, c.args.self.now.tokens.ok.0, c.put_tokens.new.tokens.ok.0)) (omega (arith, c.len-middle.ensures, c.len-end.ensures, b, c.put_tokens.new.tokens.ok.0, c.put_tokens-2.new.tokens.ok.0))
    (λ b e. absurd cc) c.requires.sound.0 c.requires.sound.1

pub returns-clause-sound : goal.returns-clause-sound
returns-clause-sound c = λ arities sound left_fit right_fit.
    let new : Closures = record { tokens = c.put_tokens-2.new.tokens; links = c.push.new.self; attempts = c.args.self.now.attempts; copies = c.args.self.now.copies } in
    let l = tree c.args.left.now in
    let r = tree c.args.right.now in
    let a = ap length c.in_ok-put_tokens.ensures ∙ length-append c.args.self.now.tokens.items (tokens_of l) in
    let b = ap length c.in_ok-put_tokens-2.ensures ∙ length-append c.put_tokens.new.tokens.items (tokens_of r) in
    still_sound c.args.self.now new l r (tokens_added _ _ _ (tokens_of l) (tokens_of r) l r c.in_ok-put_tokens.ensures refl c.in_ok-put_tokens-2.ensures refl) _ c.in_ok-push.ensures.items
    (c.len-start.ensures ∙ c.args.self.now.tokens.ok.0) (omega (arith, c.len-start.ensures, c.len-middle.ensures, a, c.args.self.now.tokens.ok.0, c.put_tokens.new.tokens.ok.0)) (omega (arith, c.len-middle.ensures, c.len-end.ensures, b, c.put_tokens.new.tokens.ok.0, c.put_tokens-2.new.tokens.ok.0))
    (λ b e. absurd cc) arities sound left_fit right_fit
