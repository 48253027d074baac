-- Tallies, one unit after the other.
use Rattle.std.proofs.Common.{◌≡◌, ℕ, ◌+◌, ◌*◌, ◌<◌, ◌≤◌, ◌^◌, Bool, true, false, cond, refl, sym, ◌∙◌, ap, arith, List, [], ◌∷◌, length, get_or, take}
use Rattle.std.specs.Prelude.{All, sum_by, count_by}
use Rattle.std.proofs.lemmas.List.{take_more, length-take, length_push}
use Rattle.std.proofs.lemmas.List.Sums.{sum_by-cons, sum_by_more, count_by-le-length}
use Rattle.std.proofs.lemmas.List.Elements.{All-head, All-tail, All-take}
use Rattle.choice_problem.specs.declared.problems.TheConstants.{MOST_UNITS}
use Rattle.season_days.specs.declared.declaration.Declaration.{Declaration}
use Rattle.season_report.specs.declared.decided.Decided.{Decided}
use Rattle.season_report.specs.declared.decided.Decision.{Decision}
use Rattle.season_report.specs.declared.decided.Decision.TheVariants.{Unallotted, Refused, Kept, Historic, Moved}
use Rattle.season_report.specs.declared.tallies.Tally.{Tally}
use Rattle.season_report.specs.Decisions.{has_decision}
use Rattle.season_report.specs.Tallies.{slots_cost, tally_of}
use Rattle.season_report.specs.Private.{IsTold, IsSmallTally, one_more, with_unit}

more_is : (b : Bool) (n : ℕ) → n + cond b 1 0 ≡ one_more b n
more_is true n = refl
more_is false n = omega arith

count_next : (d : Decision) (units : List Decided) (i : ℕ) (e : Decided) → i < length units → count_by (has_decision d) (take (i + 1) units) ≡ one_more (has_decision d (get_or units i e)) (count_by (has_decision d) (take i units))
count_next d units i e lt =
    sum_by_more (λ (u : Decided). cond (has_decision d u) 1 0) units i e lt ∙ more_is (has_decision d (get_or units i e)) (count_by (has_decision d) (take i units))

record_of : (a b c d e f g h i j k l m n : ℕ) → a ≡ h → b ≡ i → c ≡ j → d ≡ k → e ≡ l → f ≡ m → g ≡ n →
    ◌≡◌ {A = Tally} (record { units = a; kept = b; historic = c; moved = d; refused = e; unallotted = f; minutes = g }) (record { units = h; kept = i; historic = j; moved = k; refused = l; unallotted = m; minutes = n })
record_of a b c d e f g h i j k l m n p q r s t u v = cc

pub tally_next : (d : Declaration) (units : List Decided) (i : ℕ) (e : Decided) → i < length units → tally_of d (take (i + 1) units) ≡ with_unit d (tally_of d (take i units)) (get_or units i e)
tally_next d units i e lt =
    let one = get_or units i e in
    let t = tally_of d (take i units) in
    record_of _ _ _ _ _ _ _ (t.units + 1) (one_more (has_decision Kept one) t.kept) (one_more (has_decision Historic one) t.historic) (one_more (has_decision Moved one) t.moved) (one_more (has_decision Refused one) t.refused)
    (one_more (has_decision Unallotted one) t.unallotted) (t.minutes + slots_cost d one)
    (ap (λ (us : List Decided). length us) (take_more units i e lt) ∙ length_push (take i units) one)
    (count_next Kept units i e lt)
    (count_next Historic units i e lt)
    (count_next Moved units i e lt)
    (count_next Refused units i e lt)
    (count_next Unallotted units i e lt)
    (sum_by_more (slots_cost d) units i e lt)

costs_small : (d : Declaration) (units : List Decided) → All (IsTold d) units → sum_by (slots_cost d) units ≤ length units * 2 ^ 24
costs_small d [] told = omega arith
costs_small d (u ∷ units) told =
    let own : IsTold d u = All-head (IsTold d) u units told in
    omega (arith, own.small, sum_by-cons (slots_cost d) u units, costs_small d units (All-tail (IsTold d) u units told))

pub tally_small : (d : Declaration) (units : List Decided) → All (IsTold d) units → length units ≤ MOST_UNITS → IsSmallTally (tally_of d units)
tally_small d units told few = record {
  units = omega (arith, few);
  kept = omega (arith, few, count_by-le-length (has_decision Kept) units);
  historic = omega (arith, few, count_by-le-length (has_decision Historic) units);
  moved = omega (arith, few, count_by-le-length (has_decision Moved) units);
  refused = omega (arith, few, count_by-le-length (has_decision Refused) units);
  unallotted = omega (arith, few, count_by-le-length (has_decision Unallotted) units);
  minutes = omega (arith, few, costs_small d units told);
}

pub first_small : (d : Declaration) (units : List Decided) (i : ℕ) → All (IsTold d) units → length units ≤ MOST_UNITS → IsSmallTally (tally_of d (take i units))
first_small d units i told few = tally_small d (take i units) (All-take (IsTold d) i units told) (omega (arith, few, length-take i units))

pub tally_step : (d : Declaration) (units : List Decided) (i : ℕ) (e : Decided) (before after : Tally) → i < length units → before ≡ tally_of d (take i units) → after ≡ with_unit d before (get_or units i e) → after ≡ tally_of d (take (i + 1) units)
tally_step d units i e before after lt is made =
    made ∙ ap (λ (t : Tally). with_unit d t (get_or units i e)) is ∙ sym (tally_next d units i e lt)
