-- Subterms. (Baader and Nipkow, definition 3.1.3.)
use Rattle.std.specs.Prelude.{ℕ}
use Rattle.trs_defs.specs.Tree.{Tree, Trees, app, cons}

-- s is t or stands in it
mutual
  pub data Sub : Tree → Tree → Type 0 where
    itself : {t : Tree} → Sub t t
    under : {s : Tree} {f : ℕ} {ts : Trees} → Subs s ts → Sub s (app f ts)

  -- s is one of the terms or stands in one of them
  pub data Subs : Tree → Trees → Type 0 where
    in_head : {s t : Tree} {ts : Trees} → Sub s t → Subs s (cons t ts)
    in_tail : {s t : Tree} {ts : Trees} → Subs s ts → Subs s (cons t ts)

-- t stands in s and is not all of it
pub data ProperSubterm : Tree → Tree → Type 0 where
  proper : {f : ℕ} {ts : Trees} {t : Tree} → Subs t ts → ProperSubterm (app f ts) t
