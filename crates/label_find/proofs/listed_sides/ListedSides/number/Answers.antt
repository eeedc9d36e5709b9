use Rattle.std.proofs.Common.{[], ◌∷◌, ◌∙◌, refl, sym, append-nil}
use Rattle.label_find.proofs.NumberedSides.{side_numbered, sides_numbered}
use Rattle.label_find.proofs.listed_sides.ListedSides.number.Goals as goal

pub returns-in-Some-clause-number : goal.returns-in-Some-clause-number
returns-in-Some-clause-number c = c.requires.numbers.each c.args.id c.in-Some.number.now (sym c.in-Some.ensures.value)

pub returns-in-Some-clause-grown : goal.returns-in-Some-clause-grown
returns-in-Some-clause-grown c = record { more = []; is = sym (append-nil c.args.table.now.items) }

pub returns-in-Some-clause-same : goal.returns-in-Some-clause-same
returns-in-Some-clause-same c = record { pool = refl; known = refl; ends = refl; lists = refl }

pub new-requires : goal.new-requires
new-requires c = c.requires.short.each c.args.id c.at.result.now c.at.ensures

pub returns-clause-number : goal.returns-clause-number
returns-clause-number c =
    side_numbered c.args.self.now (record { pool = c.args.self.now.pool; known = c.args.self.now.known; ends = c.args.self.now.ends; lists = c.args.self.now.lists; numbers = c.insert.new.self }) c.args.table.now.items c.push.new.self.items
    c.args.id c.in_ok-side.side c.at.result.now refl c.at.ensures c.in_ok-side.ensures c.in_ok-push.ensures.items c.len-number.result (c.len-number.ensures ∙ c.args.table.now.ok.0)

pub returns-clause-numbers : goal.returns-clause-numbers
returns-clause-numbers c =
    sides_numbered c.args.self.now (record { pool = c.args.self.now.pool; known = c.args.self.now.known; ends = c.args.self.now.ends; lists = c.args.self.now.lists; numbers = c.insert.new.self }) c.args.table.now.items c.push.new.self.items
    c.args.id c.in_ok-side.side c.at.result.now refl c.at.ensures c.in_ok-side.ensures c.in_ok-push.ensures.items c.len-number.result (c.len-number.ensures ∙ c.args.table.now.ok.0)
    c.in_ok-insert.ensures.updates.0 c.requires.numbers

pub returns-clause-grown : goal.returns-clause-grown
returns-clause-grown c = record { more = c.in_ok-side.side ∷ []; is = c.in_ok-push.ensures.items }

pub returns-clause-same : goal.returns-clause-same
returns-clause-same c = record { pool = refl; known = refl; ends = refl; lists = refl }
