use Rattle.std.proofs.Common.{◌≡◌, drop}
use Rattle.report_page.specs.Filled.{number_from, number_of}
use Rattle.report_page.proofs.number.number_of.Given as goal

abbrev pub invariant-loop-digit : goal.invariant-loop-digit
invariant-loop-digit l = number_from l.number (drop l.digit-index l.word) ≡ number_of l.word
