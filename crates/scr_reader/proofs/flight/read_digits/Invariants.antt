use Rattle.std.proofs.Common.{◌≡◌, ◌+◌, ◌*◌, ◌-◌, ◌<◌, ◌≤◌, drop}
use Rattle.std.specs.Prelude.{fold}
use Rattle.scr_reader.specs.Parts.{are_digits, flight_number_of}
use Rattle.scr_reader.proofs.flight.read_digits.Given as goal

-- the bytes so far are digits and name the number, which has no more digits than there were bytes
abbrev pub invariant-loop-b : goal.invariant-loop-b
invariant-loop-b l = record {
  digits : are_digits l.text ≡ are_digits (drop l.b-index l.text);
  named : flight_number_of l.text ≡ fold (λ n b. 10 * n + (b - 48)) l.number (drop l.b-index l.text);
  none : l.b-index ≤ 0 → l.number < 1;
  one : l.b-index ≤ 1 → l.number < 10;
  two : l.b-index ≤ 2 → l.number < 100;
  three : l.b-index ≤ 3 → l.number < 1000;
}
