-- Runs of steps: end to end, along a map, and what each step keeps.
use Rattle.trs_defs.specs.Run.{Run, Stay, Go, AtMostOne, Same, Once}

pub one : {T : Type 0} {R : T → T → Type 0} {s t : T} → R s t → Run R s t
one r = Go r Stay

pub then : {T : Type 0} {R : T → T → Type 0} {s t u : T} → Run R s t → Run R t u → Run R s u
then Stay q = q
then (Go r p) q = Go r (then p q)

-- a run of steps that are each a run
pub flat : {T : Type 0} {R Q : T → T → Type 0} → ((s t : T) → R s t → Run Q s t) → {s t : T} → Run R s t → Run Q s t
flat f Stay = Stay
flat f (Go {s = s} {m = m} r p) = then (f s m r) (flat f p)

-- a run of steps that are each a step
pub each : {T : Type 0} {R Q : T → T → Type 0} → ((s t : T) → R s t → Q s t) → {s t : T} → Run R s t → Run Q s t
each f Stay = Stay
each f (Go {s = s} {m = m} r p) = Go (f s m r) (each f p)

-- a map that keeps steps keeps runs
pub run_along : {T U : Type 0} {R : T → T → Type 0} {Q : U → U → Type 0} (F : T → U) → ((s t : T) → R s t → Q (F s) (F t)) → {s t : T} → Run R s t → Run Q (F s) (F t)
run_along F f Stay = Stay
run_along F f (Go {s = s} {m = m} r p) = Go (f s m r) (run_along F f p)

pub once_along : {T U : Type 0} {R : T → T → Type 0} {Q : U → U → Type 0} (F : T → U) → ((s t : T) → R s t → Q (F s) (F t)) → {s t : T} → AtMostOne R s t → AtMostOne Q (F s) (F t)
once_along F f Same = Same
once_along F f (Once {s = s} {t = t} r) = Once (f s t r)

pub at_most_run : {T : Type 0} {R : T → T → Type 0} {s t : T} → AtMostOne R s t → Run R s t
at_most_run Same = Stay
at_most_run (Once r) = one r

-- what each step keeps, a run keeps
pub run_keeps : {T : Type 0} {R : T → T → Type 0} (P : T → Type 0) → ((s t : T) → P s → R s t → P t) → {s t : T} → P s → Run R s t → P t
run_keeps P keeps p Stay = p
run_keeps P keeps p (Go {s = s} {m = m} r q) = run_keeps P keeps (keeps s m p r) q
