use Rattle.poly_lin.proofs.AtRows.{pairing_row, entry_row, missing_row}
use Rattle.poly_lin.proofs.rows.LinTableCoefficients.row.Goals as goal

pub returns-then-f-eq-PAIRING : goal.returns-then-f-eq-PAIRING
returns-then-f-eq-PAIRING c = pairing_row c.args.self.now c.args.f c.if-f-eq-PAIRING.true

pub returns-in-Some : goal.returns-in-Some
returns-in-Some c = entry_row c.args.self.now c.args.f c.if-f-eq-PAIRING.false c.place.result c.place.ensures c.in-Some.place c.in-Some.is

pub returns-in-None : goal.returns-in-None
returns-in-None c = missing_row c.args.self.now c.args.f c.if-f-eq-PAIRING.false c.place.result c.place.ensures c.in-None.is
