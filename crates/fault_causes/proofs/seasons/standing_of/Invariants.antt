use Rattle.std.proofs.Common.{◌≡◌, ℕ, List, ◌+◌, ◌-◌, ◌≤◌, length}
use Rattle.slot_text.specs.Lines.{lines_of}
use Rattle.fault_causes.specs.Requests.{lines_since, lines_above}
use Rattle.fault_causes.specs.Standings.{IsStanding}
use Rattle.fault_causes.proofs.seasons.standing_of.Given as goal

abbrev pub invariant-loop : goal.invariant-loop
invariant-loop l =
    record {
      walk : (before : List (List ℕ)) × IsStanding l.at.above l.at.address l.at.season.now before
          × (lines_since before (l.number - l.counter) (lines_of l.lines) ≡ lines_above l.text l.number);
      small : l.at.above + length l.lines ≤ length l.text;
    }
