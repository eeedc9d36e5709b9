use Rattle.std.proofs.Common.{arith, refl}
use Rattle.loop_find.proofs.FlatTerms.{symbol_put}
use Rattle.loop_find.proofs.decoding.put_before.Goals as goal

pub returns-in_ok-push-in-App : goal.returns-in_ok-push-in-App
returns-in_ok-push-in-App c = λ ts e.
    symbol_put c.in-App.f c.in-App.n c.args.token c.args.terms.now.items c.split_off.new.self.items c.in_ok-args-in-App.args.items c.reverse.new.self.items c.push-in-App.new.self.items ts c.saturating_sub-kept.result
    (omega (arith, c.saturating_sub-kept.ensures, c.len.ensures, c.args.terms.now.ok.0)) c.in-App.is c.in_ok-args-in-App.ensures.items c.in_ok-args-in-App.ensures.tail c.reverse.ensures.items _ refl c.in_ok-push-in-App.ensures.items e
