use Rattle.wait_list.proofs.stage.reclear.Goals as goal

pub returns-clause-printable : goal.returns-clause-printable
returns-clause-printable g c = record {
  tried = c.in_ok-cert.ensures.tried;
  fits = c.in_ok-cert.ensures.printable;
  few = c.line_counts.ensures.extra c.in_ok-cert.cert c.in_ok-cert.ensures.limits;
}
