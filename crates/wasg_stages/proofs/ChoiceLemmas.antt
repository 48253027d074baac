-- The choices of the problem of some units are their allotments.
use Rattle.std.proofs.Common.{◌≡◌, ℕ, zero, suc, ◌<◌, ◌≤◌, refl, sym, ◌∙◌, ap, subst, arith, List, [], ◌∷◌, length, get_or}
use Rattle.std.specs.Prelude.{Contains, None}
use Rattle.std.specs.List.{AllZip}
use Rattle.season_days.specs.declared.declaration.Declaration.{Declaration}
use Rattle.capacity_windows.specs.Windows.{capacity_of, declared_resources, window_load}
use Rattle.choice_problem.specs.declared.problems.Alt.{Alt}
use Rattle.choice_problem.specs.Problems.{ProblemView, ChooserView, alt_at, chooser_uses}
use Rattle.choice_problem.specs.Choices.{IsChoice, IsFeasible, IsBest, HasNone, choice_cost, load_of}
use Rattle.series_model.specs.declared.unit.Unit.{Unit as SlotUnit}
use Rattle.series_model.specs.declared.times.Times.{Times}
use Rattle.series_model.specs.declared.times.Times.TheVariants.{Refused}
use Rattle.series_model.specs.Options.{options_of}
use Rattle.series_model.specs.Movements.{movements_of}
use Rattle.series_model.specs.Stages.{times_named}
use Rattle.series_model.specs.Allotments.{AreAlternatives, allotted_movements, total_displacement, IsFeasibleAllotment, IsLeastAllotment, HasNoAllotment, IsDisplacementBound}
use Rattle.wasg_stages.specs.StageProblems.{IsAltOf, IsChooserOf, IsAllotmentProblem, AreNumbers}
use Rattle.wasg_stages.proofs.ZipLemmas.{window_load-append, zip_sum, zip_sum-below, AllZip-from, AllZip-length, AllZip-at}

abbrev no_chooser : ChooserView
no_chooser = record { parts = []; alts = [] }

abbrev no_alt : Alt
no_alt = record { cost = 0; one = None; two = None }

-- the numbers are alternatives of the units
abbrev pub AreThere : List ChooserView → List ℕ → Type 0
AreThere ms x = AllZip (λ (m : ChooserView) (a : ℕ). a < length m.alts) ms x

pub IsChoice-there : (p : ProblemView) (x : List ℕ) → IsChoice p x → AreThere p.units x
IsChoice-there p x choice = AllZip-from (λ (m : ChooserView) (a : ℕ). a < length m.alts) no_chooser p.units x choice.length (λ u lt. choice.there u lt)

pub IsChoice-from : (p : ProblemView) (x : List ℕ) → AreThere p.units x → IsChoice p x
IsChoice-from p x there = record {
  length = AllZip-length (λ (m : ChooserView) (a : ℕ). a < length m.alts) p.units x there;
  there = λ u lt. AllZip-at (λ (m : ChooserView) (a : ℕ). a < length m.alts) p.units x u no_chooser 0 there lt;
}

-- ---- along the units

-- the alternative of a number
at_number : (d : Declaration) (unit : SlotUnit) (m : ChooserView) (a : ℕ) → IsChooserOf d unit m → a < length m.alts →
    IsAltOf d unit m (get_or (options_of d unit) a Refused) (alt_at m a)
at_number d unit m a chooser lt =
    let there : a < length (options_of d unit) = omega (arith, AllZip-length (IsAltOf d unit m) (options_of d unit) m.alts chooser) in
    AllZip-at (IsAltOf d unit m) (options_of d unit) m.alts a Refused no_alt chooser there

pub zip-cost : (d : Declaration) (units : List SlotUnit) (ms : List ChooserView) (x : List ℕ) → AllZip (IsChooserOf d) units ms → AreThere ms x →
    zip_sum (λ m a. (alt_at m a).cost) ms x ≡ total_displacement d units (times_named d units x)
zip-cost d [] [] x choosers there = refl
zip-cost d [] (m ∷ ms) x choosers there = absurd choosers
zip-cost d (unit ∷ units) [] x choosers there = absurd choosers
zip-cost d (unit ∷ units) (m ∷ ms) [] choosers there = absurd there
zip-cost d (unit ∷ units) (m ∷ ms) (a ∷ x) choosers there =
    omega (arith, (at_number d unit m a choosers.0 there.0).cost, zip-cost d units ms x choosers.1 there.1)

pub zip-load : (d : Declaration) (units : List SlotUnit) (ms : List ChooserView) (x : List ℕ) (r : ℕ) → AllZip (IsChooserOf d) units ms → AreThere ms x →
    zip_sum (λ m a. chooser_uses m a r) ms x ≡ window_load (capacity_of d) (allotted_movements d.season units (times_named d units x)) r
zip-load d [] [] x r choosers there = refl
zip-load d [] (m ∷ ms) x r choosers there = absurd choosers
zip-load d (unit ∷ units) [] x r choosers there = absurd choosers
zip-load d (unit ∷ units) (m ∷ ms) [] r choosers there = absurd there
zip-load d (unit ∷ units) (m ∷ ms) (a ∷ x) r choosers there =
    let own = movements_of d.season unit (get_or (options_of d unit) a Refused) in
    omega (
      arith,
      (at_number d unit m a choosers.0 there.0).uses r,
      zip-load d units ms x r choosers.1 there.1,
      window_load-append (capacity_of d) own (allotted_movements d.season units (times_named d units x)) r,
    )

pub at_default : {X : Type 0} (xs : List X) (k : ℕ) (d e : X) → k < length xs → get_or xs k d ≡ get_or xs k e
at_default [] k d e lt = absurd (omega arith)
at_default (x ∷ xs) zero d e lt = refl
at_default (x ∷ xs) (suc k) d e lt = at_default xs k d e (omega arith)

-- an element that is there is contained
contains_at : {X : Type 0} (xs : List X) (k : ℕ) (e : X) → k < length xs → Contains xs (get_or xs k e)
contains_at xs k e lt = (k, lt, at_default xs k (get_or xs k e) e lt)

pub zip-alternatives : (d : Declaration) (units : List SlotUnit) (ms : List ChooserView) (x : List ℕ) → AllZip (IsChooserOf d) units ms → AreThere ms x →
    AreAlternatives d units (times_named d units x)
zip-alternatives d [] [] x choosers there = tt
zip-alternatives d [] (m ∷ ms) x choosers there = absurd choosers
zip-alternatives d (unit ∷ units) [] x choosers there = absurd choosers
zip-alternatives d (unit ∷ units) (m ∷ ms) [] choosers there = absurd there
zip-alternatives d (unit ∷ units) (m ∷ ms) (a ∷ x) choosers there =
    let lt : a < length (options_of d unit) = omega (arith, AllZip-length (IsAltOf d unit m) (options_of d unit) m.alts choosers.0, there.0) in (
      contains_at (options_of d unit) a Refused lt,
      zip-alternatives d units ms x choosers.1 there.1,
    )

-- each allotment is named by numbers
pub zip-named : (d : Declaration) (units : List SlotUnit) (ms : List ChooserView) (times : List Times) → AllZip (IsChooserOf d) units ms → AreAlternatives d units times →
    (x : List ℕ) × AreThere ms x × (times_named d units x ≡ times)
zip-named d [] [] [] choosers alternatives = ([], tt, refl)
zip-named d [] [] (given ∷ times) choosers alternatives = absurd alternatives
zip-named d [] (m ∷ ms) times choosers alternatives = absurd choosers
zip-named d (unit ∷ units) [] times choosers alternatives = absurd choosers
zip-named d (unit ∷ units) (m ∷ ms) [] choosers alternatives = absurd alternatives
zip-named d (unit ∷ units) (m ∷ ms) (given ∷ times) choosers alternatives =
    let rest = zip-named d units ms times choosers.1 alternatives.1 in
    let k : ℕ = alternatives.0.0 in
    let there : k < length (options_of d unit) = alternatives.0.1 in
    let named : get_or (options_of d unit) k Refused ≡ given = at_default (options_of d unit) k Refused given there ∙ alternatives.0.2 in
    let few : k < length m.alts = omega (arith, AllZip-length (IsAltOf d unit m) (options_of d unit) m.alts choosers.0, there) in
    (k ∷ rest.0, (few, rest.1), ap (λ (t : Times). t ∷ times_named d units rest.0) named ∙ ap (λ (ts : List Times). given ∷ ts) rest.2)

-- ---- of the problem

pub choice-displacement : (d : Declaration) (units : List SlotUnit) (limit : ℕ → ℕ) (p : ProblemView) (x : List ℕ) → IsAllotmentProblem d units limit p → IsChoice p x →
    choice_cost p x ≡ total_displacement d units (times_named d units x)
choice-displacement d units limit p x problem choice =
    zip_sum-below (λ (m : ChooserView) (a : ℕ). (alt_at m a).cost) no_chooser p.units x choice.length
    ∙ zip-cost d units p.units x problem.units_are (IsChoice-there p x choice)

pub choice-load : (d : Declaration) (units : List SlotUnit) (limit : ℕ → ℕ) (p : ProblemView) (x : List ℕ) (r : ℕ) → IsAllotmentProblem d units limit p → IsChoice p x →
    load_of p x r ≡ window_load (capacity_of d) (allotted_movements d.season units (times_named d units x)) r
choice-load d units limit p x r problem choice =
    zip_sum-below (λ (m : ChooserView) (a : ℕ). chooser_uses m a r) no_chooser p.units x choice.length
    ∙ zip-load d units p.units x r problem.units_are (IsChoice-there p x choice)

pub choice-feasible : (d : Declaration) (units : List SlotUnit) (limit : ℕ → ℕ) (p : ProblemView) (x : List ℕ) → IsAllotmentProblem d units limit p → IsFeasible p x →
    IsFeasibleAllotment d units limit (times_named d units x)
choice-feasible d units limit p x problem feasible = record {
  alternatives = zip-alternatives d units p.units x problem.units_are (IsChoice-there p x feasible.choice);
  fits = λ r lt.
      let fits = feasible.fits r (rw problem.resources lt) in
      omega (arith, fits, choice-load d units limit p x r problem feasible.choice, problem.limits r lt);
}

pub choice-feasible_back : (d : Declaration) (units : List SlotUnit) (limit : ℕ → ℕ) (p : ProblemView) (x : List ℕ) → IsAllotmentProblem d units limit p → IsChoice p x →
    IsFeasibleAllotment d units limit (times_named d units x) → IsFeasible p x
choice-feasible_back d units limit p x problem choice feasible = record {
  choice = choice;
  fits = λ r lt.
      let there : r < declared_resources (capacity_of d) = rw (sym problem.resources) lt in
      omega (arith, feasible.fits r there, choice-load d units limit p x r problem choice, problem.limits r there);
}

-- the choice that names an allotment
pub choice-named : (d : Declaration) (units : List SlotUnit) (limit : ℕ → ℕ) (p : ProblemView) (times : List Times) → IsAllotmentProblem d units limit p → IsFeasibleAllotment d units limit times →
    (x : List ℕ) × IsFeasible p x × (times_named d units x ≡ times)
choice-named d units limit p times problem feasible =
    let named = zip-named d units p.units times problem.units_are feasible.alternatives in
    let choice : IsChoice p named.0 = IsChoice-from p named.0 named.1 in
    let back : IsFeasibleAllotment d units limit (times_named d units named.0) = subst (IsFeasibleAllotment d units limit) (sym named.2) feasible in
    (named.0, choice-feasible_back d units limit p named.0 problem choice back, named.2)

pub choice-bound : (d : Declaration) (units : List SlotUnit) (limit : ℕ → ℕ) (p : ProblemView) (bound : ℕ) → IsAllotmentProblem d units limit p →
    ((x : List ℕ) → IsFeasible p x → bound ≤ choice_cost p x) → IsDisplacementBound d units limit bound
choice-bound d units limit p bound problem least times feasible =
    let named = choice-named d units limit p times problem feasible in
    let cost : choice_cost p named.0 ≡ total_displacement d units times =
    choice-displacement d units limit p named.0 problem named.1.choice ∙ ap (total_displacement d units) named.2 in
    omega (arith, cost, least named.0 named.1)

pub choice-least : (d : Declaration) (units : List SlotUnit) (limit : ℕ → ℕ) (p : ProblemView) (x : List ℕ) → IsAllotmentProblem d units limit p → IsBest p x →
    IsLeastAllotment d units limit (times_named d units x)
choice-least d units limit p x problem best = record {
  feasible = choice-feasible d units limit p x problem best.feasible;
  least = λ other feasible.
      let bound = choice-bound d units limit p (choice_cost p x) problem best.least other feasible in
      omega (arith, bound, choice-displacement d units limit p x problem best.feasible.choice);
}

pub choice-none : (d : Declaration) (units : List SlotUnit) (limit : ℕ → ℕ) (p : ProblemView) → IsAllotmentProblem d units limit p → HasNone p → HasNoAllotment d units limit
choice-none d units limit p problem none times feasible =
    let named = choice-named d units limit p times problem feasible in
    none named.0 named.1

-- ---- the numbers of a choice are those of alternatives

zip-there : (d : Declaration) (units : List SlotUnit) (ms : List ChooserView) (x : List ℕ) → AllZip (IsChooserOf d) units ms → AreNumbers d units x → AreThere ms x
zip-there d [] [] x choosers numbers = numbers
zip-there d [] (m ∷ ms) x choosers numbers = absurd choosers
zip-there d (unit ∷ units) [] x choosers numbers = absurd choosers
zip-there d (unit ∷ units) (m ∷ ms) [] choosers numbers = absurd numbers
zip-there d (unit ∷ units) (m ∷ ms) (a ∷ x) choosers numbers =
    let lt : a < length m.alts = omega (arith, AllZip-length (IsAltOf d unit m) (options_of d unit) m.alts choosers.0, numbers.0) in
    (lt, zip-there d units ms x choosers.1 numbers.1)

zip-numbers : (d : Declaration) (units : List SlotUnit) (ms : List ChooserView) (x : List ℕ) → AllZip (IsChooserOf d) units ms → AreThere ms x → AreNumbers d units x
zip-numbers d [] [] x choosers there = there
zip-numbers d [] (m ∷ ms) x choosers there = absurd choosers
zip-numbers d (unit ∷ units) [] x choosers there = absurd choosers
zip-numbers d (unit ∷ units) (m ∷ ms) [] choosers there = absurd there
zip-numbers d (unit ∷ units) (m ∷ ms) (a ∷ x) choosers there =
    let lt : a < length (options_of d unit) = omega (arith, AllZip-length (IsAltOf d unit m) (options_of d unit) m.alts choosers.0, there.0) in
    (lt, zip-numbers d units ms x choosers.1 there.1)

pub choice-numbers : (d : Declaration) (units : List SlotUnit) (limit : ℕ → ℕ) (p : ProblemView) (x : List ℕ) → IsAllotmentProblem d units limit p → IsChoice p x → AreNumbers d units x
choice-numbers d units limit p x problem choice = zip-numbers d units p.units x problem.units_are (IsChoice-there p x choice)

pub choice-there : (d : Declaration) (units : List SlotUnit) (limit : ℕ → ℕ) (p : ProblemView) (x : List ℕ) → IsAllotmentProblem d units limit p → AreNumbers d units x → IsChoice p x
choice-there d units limit p x problem numbers = IsChoice-from p x (zip-there d units p.units x problem.units_are numbers)
