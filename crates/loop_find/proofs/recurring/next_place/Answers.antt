use Rattle.std.proofs.Common.{get_or}
use Rattle.loop_find.proofs.TokenWalks.{no_image, symbol_at, variable_at, read_same}
use Rattle.loop_find.proofs.recurring.next_place.Goals as goal

pub returns-then-at-tokens-clause-none : goal.returns-then-at-tokens-clause-none
returns-then-at-tokens-clause-none c = λ σ rest e. no_image c.args.tokens.now c.args.at σ c.args.token rest c.if-at-tokens.true e

pub returns-in-Var-clause-some : goal.returns-in-Var-clause-some
returns-in-Var-clause-some c = λ σ rest e. c.behind.ensures (σ c.in-Var.field-0) rest (variable_at c.args.tokens.now c.args.at σ c.args.token c.in-Var.field-0 rest c.in-Var.is e)

pub returns-then-not-is_symbol-clause-none : goal.returns-then-not-is_symbol-clause-none
returns-then-not-is_symbol-clause-none c = λ σ rest e.
    let h = symbol_at c.args.tokens.now c.args.at σ c.args.token _ c.in-App.f c.in-App.n rest c.in-App.is c.if-at-tokens.false (read_same c.args.tokens.now c.args.at _ c.if-at-tokens.false) e in
    let yes = c.is_symbol.ensures.1 h.0 in absurd (cc (yes, c.if-not-is_symbol.true))

pub returns-else-not-is_symbol-clause-some : goal.returns-else-not-is_symbol-clause-some
returns-else-not-is_symbol-clause-some c = λ σ rest e.
    (symbol_at c.args.tokens.now c.args.at σ c.args.token _ c.in-App.f c.in-App.n rest c.in-App.is c.if-at-tokens.false (read_same c.args.tokens.now c.args.at (get_or c.args.tokens.now c.args.at c.args.token) c.if-at-tokens.false) e).1
