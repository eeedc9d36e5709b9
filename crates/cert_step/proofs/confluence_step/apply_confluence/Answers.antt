use Rattle.cert_step.proofs.Leaving.{returns_problems}
use Rattle.cert_step.proofs.confluence_step.apply_confluence.Goals as goal

pub returns-in_ok-alone-in-Unr : goal.returns-in_ok-alone-in-Unr
returns-in_ok-alone-in-Unr c = rw c.in-Unr.is (returns_problems _ c.in_ok-alone-in-Unr.field-0 c.in_ok-alone-in-Unr.ensures)

pub returns-in_ok-alone-in-UnrNewman : goal.returns-in_ok-alone-in-UnrNewman
returns-in_ok-alone-in-UnrNewman c = rw c.in-UnrNewman.is (returns_problems _ c.in_ok-alone-in-UnrNewman.field-0 c.in_ok-alone-in-UnrNewman.ensures)
