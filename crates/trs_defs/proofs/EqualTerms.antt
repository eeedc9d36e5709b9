-- Equal terms have equal roots and arguments, and are equal by them.
use Rattle.std.specs.Prelude.{◌≡◌, ℕ}
use Rattle.trs_defs.specs.Tree.{Tree, Trees, app, cons}

pub app_root : {f g : ℕ} {ss ts : Trees} → app f ss ≡ app g ts → f ≡ g
app_root e = cc e

pub app_args : {f g : ℕ} {ss ts : Trees} → app f ss ≡ app g ts → ss ≡ ts
app_args e = cc e

pub join_app : {f g : ℕ} {ss ts : Trees} → f ≡ g → ss ≡ ts → app f ss ≡ app g ts
join_app e e' = cc (e, e')

pub join_cons : {s t : Tree} {ss ts : Trees} → s ≡ t → ss ≡ ts → cons s ss ≡ cons t ts
join_cons e e' = cc (e, e')

pub cons_first : {s t : Tree} {ss ts : Trees} → cons s ss ≡ cons t ts → s ≡ t
cons_first e = cc e

pub cons_rest : {s t : Tree} {ss ts : Trees} → cons s ss ≡ cons t ts → ss ≡ ts
cons_rest e = cc e
