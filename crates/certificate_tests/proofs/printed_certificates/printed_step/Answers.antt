use Rattle.certificate_tests.proofs.FirstSteps.{first_printable}
use Rattle.certificate_tests.proofs.printed_certificates.printed_step.Goals as goal

pub print_step-requires : goal.print_step-requires
print_step-requires c =
    first_printable c.args.system.now.system c.in_ok-certificate.certificate c.as_slice.result.now c.step-item.result
    c.in_ok-certificate.ensures.printable c.as_slice.ensures.value c.in-len1-up.len_at_least c.step-item.is
