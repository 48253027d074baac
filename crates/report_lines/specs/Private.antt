-- What the private calls of a report keep. Contracts of private functions alone cite these words.
use Rattle.std.specs.Prelude.{◌≡◌, ℕ, ◌+◌, ◌-◌, ◌<◌, ◌≤◌, ◌==◌, min, nat_lt, if◌then◌else◌, List, [], ◌∷◌, ◌++◌, length, filter, sum_by, count_by, All, IfSome, Option, Some, None, slice_index, codes}
use Rattle.std.specs.Fmt.{decimal}
use Rattle.std.specs.Borrow.{Bor}
use Rattle.finite_sums.specs.Sums.{least_within}
use Rattle.schedule_text.specs.Times.{time_text}
use Rattle.season_days.specs.Term.{Term}
use Rattle.season_days.specs.Capacity.{Capacity, declared_resources, start_of}
use Rattle.season_days.specs.declared.declaration.Rule.{Rule}
use Rattle.season_days.specs.declared.declaration.TheConstants.{MOST_WINDOWS}
use Rattle.scr_reader.specs.Printed.{day_text}
use Rattle.scr_reader.specs.declared.line.Line.{Line}
use Rattle.capacity_windows.specs.Windows.{window_load}
use Rattle.series_model.specs.declared.unit.Unit.{Unit as SlotUnit}
use Rattle.series_model.specs.Options.{line_times}
use Rattle.series_model.specs.Movements.{movements_at}
use Rattle.choice_problem.specs.Problems.{ProblemView, alt_count, alt_uses}
use Rattle.report_lines.specs.declared.excess.Above.{Above}
use Rattle.report_lines.specs.declared.excess.ExcessLists.{ExcessLists}
use Rattle.report_lines.specs.declared.least.Used.{Used}
use Rattle.report_lines.specs.declared.profile.Peak.{Peak}
use Rattle.report_lines.specs.declared.names.WindowName.TheVariants.{Window}
use Rattle.report_lines.specs.Words.{name_words}
use Rattle.report_lines.specs.Peaks.{Excess, is_above, excess_at, greatest_from}

-- ---- where a load is above a limit

-- the word of the lines, and what one says of its resource
abbrev pub word_by : Option (List ℕ) → List ℕ
word_by None = codes "DEMAND "
word_by (Some earlier) = codes "OVER "

abbrev pub earlier_of : Option (Bor (List ℕ)) → Option (List ℕ)
earlier_of None = None
earlier_of (Some loads) = Some loads.now

abbrev pub excess_word : ExcessLists → List ℕ
excess_word x = word_by (earlier_of x.earlier)

abbrev pub rest_by : Option (List ℕ) → ℕ → ℕ → List ℕ
rest_by None load r = codes " LOAD " ++ decimal load
rest_by (Some earlier) load r =
    codes " EARLIER " ++ (decimal (slice_index earlier r) ++ (codes " LEAST " ++ decimal load))

abbrev pub told_by : ExcessLists → ℕ → List ℕ
told_by x r =
    codes " LIMIT " ++ (decimal (slice_index x.limits.now r)
    ++ rest_by (earlier_of x.earlier) (slice_index x.loads.now r) r)

-- one limit and one load for each resource
pub record HasExcess (x : ExcessLists) : Type 0 where
  pub few : length x.limits.now ≤ MOST_WINDOWS
  pub loads : length x.loads.now ≡ length x.limits.now
  pub earlier : IfSome x.earlier (λ (loads : Bor (List ℕ)). length loads.now ≡ length x.limits.now)

-- the lists are of these lines
pub record IsExcess (e : Excess) (x : ExcessLists) : Type 0 where
  pub word : excess_word x ≡ e.word ++ 32 ∷ []
  pub limits : (r : ℕ) → r < length x.limits.now → slice_index x.limits.now r ≡ e.limit r
  pub loads : (r : ℕ) → r < length x.limits.now → slice_index x.loads.now r ≡ e.load r
  pub told : (r : ℕ) → r < length x.limits.now → told_by x r ≡ e.told r

-- what is found of some days, the windows of which have these numbers: how many are above, and the
-- first that is so by most
abbrev pub IsAboveOf : Excess → (ℕ → ℕ) → List ℕ → Option Above → Type 0
IsAboveOf e at [] found = found ≡ None
IsAboveOf e at (day ∷ days) found =
    found ≡ Some (record {
      day = greatest_from (λ other. excess_at e (at other)) day days;
      by = excess_at e (at (greatest_from (λ other. excess_at e (at other)) day days));
      count = length (day ∷ days);
    })

abbrev pub IsAbove : Excess → (ℕ → ℕ) → List ℕ → Option Above → Type 0
IsAbove e at days found = IsAboveOf e at (filter (λ day. is_above e (at day)) days) found

-- with one more day: nothing changes where its window is not above; else it is counted, and taken
-- where it is above by more
abbrev pub with_above : Option Above → ℕ → ℕ → Option Above
with_above None day by = Some (record { day = day; by = by; count = 1 })
with_above (Some best) day by =
    if nat_lt best.by by then Some (record { day = day; by = by; count = best.count + 1 })
    else Some (record best { count = best.count + 1 })

abbrev pub by_at : ExcessLists → ℕ → ℕ
by_at x r = slice_index x.loads.now r - slice_index x.limits.now r

abbrev pub AddsDay : ExcessLists → Option Above → ℕ → ℕ → Option Above → Type 0
AddsDay x found day r result =
    result ≡ (if nat_lt (slice_index x.limits.now r) (slice_index x.loads.now r)
    then with_above found day (by_at x r) else found)

-- a line of a window that is above on some days
abbrev pub above_text : ExcessLists → Term → ℕ → ℕ → ℕ → Above → List ℕ
above_text x season line minute r above =
    excess_word x ++ (name_words season (Window line above.day minute)
    ++ (codes " DAYS " ++ (decimal above.count ++ (told_by x r ++ 10 ∷ []))))

abbrev pub above_night : ExcessLists → ℕ → List ℕ
above_night x r = excess_word x ++ (codes "NIGHT" ++ (told_by x r ++ 10 ∷ []))

-- ---- the least uses of a unit

-- how often a list names a resource, and with how many uses together
abbrev pub times_in : List Used → ℕ → ℕ
times_in used r = count_by (λ (one : Used). one.resource == r) used

abbrev pub uses_in : List Used → ℕ → ℕ
uses_in used r = sum_by (λ (one : Used). if one.resource == r then one.uses else 0) used

abbrev pub AreBelow : ℕ → List Used → Type 0
AreBelow resources used = All (λ (one : Used). one.resource < resources) used

-- the list says how often each resource is used, and names none twice
pub record AreUsed (uses : ℕ → ℕ) (resources : ℕ) (used : List Used) : Type 0 where
  pub there : AreBelow resources used
  pub once : (r : ℕ) → r < resources → times_in used r ≤ 1
  pub exact : (r : ℕ) → r < resources → uses_in used r ≡ uses r

-- counts are moved into a list: each that is not 0 stays, or becomes one entry and is 0 then; those
-- of the resources that are used do not stay
pub record MovesUses (old : List ℕ) (before : List Used) (new : List ℕ) (after : List Used)
    (uses : ℕ → ℕ) : Type 0 where
  pub count : length new ≡ length old
  pub there : AreBelow (length old) before → AreBelow (length old) after
  pub sums : (r : ℕ) → r < length old →
      uses_in after r + slice_index new r ≡ uses_in before r + slice_index old r
  pub times : (r : ℕ) → r < length old →
      times_in after r + min 1 (slice_index new r) ≡ times_in before r + min 1 (slice_index old r)
  pub zeros : (r : ℕ) → r < length old → slice_index old r ≡ 0 → slice_index new r ≡ 0
  pub moved : (r : ℕ) → r < length old → 0 < uses r → slice_index new r ≡ 0

-- an entry with the lesser of its uses and a count, where that is not 0
abbrev pub lesser_entry : Used → ℕ → List Used
lesser_entry one count =
    if min one.uses count == 0 then []
    else record { resource = one.resource; uses = min one.uses count } ∷ []

-- what is kept of a list beside counts: of each resource the lesser of its uses and its count
abbrev pub lesser_in : List Used → ℕ → ℕ → ℕ
lesser_in used count r =
    sum_by (λ (one : Used). if one.resource == r then min one.uses count else 0) used

pub record KeepsLesser (counts : List ℕ) (used kept : List Used) : Type 0 where
  pub there : AreBelow (length counts) kept
  pub times : (r : ℕ) → times_in kept r ≤ times_in used r
  pub uses : (r : ℕ) → uses_in kept r ≡ lesser_in used (slice_index counts r) r

-- the least number of uses over all alternatives of a unit
abbrev pub least_uses : ProblemView → ℕ → ℕ → ℕ
least_uses p unit r = least_within 0 (alt_count p unit - 1) (λ alt. alt_uses p unit alt r)

-- ---- a greatest load

-- the loads of the resources, by their numbers
abbrev pub HasLoads : Capacity → List ℕ → (ℕ → ℕ) → Type 0
HasLoads c loads load = (r : ℕ) → r < declared_resources c → slice_index loads r ≡ load r

abbrev pub with_peak : Option Peak → ℕ → ℕ → Option Peak
with_peak None day load = Some (record { day = day; load = load })
with_peak (Some best) day load =
    if nat_lt best.load load then Some (record { day = day; load = load }) else Some best

-- the first of some days with the greatest load; none where there is no day
abbrev pub IsPeak : (ℕ → ℕ) → List ℕ → Option Peak → Type 0
IsPeak load [] found = found ≡ None
IsPeak load (day ∷ days) found =
    found ≡ Some (record {
      day = greatest_from load day days;
      load = load (greatest_from load day days);
    })

-- the line of a greatest load that is not 0
abbrev pub peak_text : Term → ℕ → ℕ → Rule → ℕ → Peak → List ℕ
peak_text season step line rule start peak =
    if peak.load == 0 then []
    else codes "PROFILE " ++ (decimal line
    ++ (32 ∷ (time_text (start_of step rule start)
    ++ (codes " LOAD " ++ (decimal peak.load
    ++ (codes " LIMIT " ++ (decimal rule.limit
    ++ (codes " DATE " ++ (day_text season peak.day ++ 10 ∷ [])))))))))

abbrev pub night_text : ℕ → ℕ → List ℕ
night_text load limit =
    codes "PROFILE NIGHT LOAD " ++ (decimal load
    ++ (codes " LIMIT " ++ (decimal limit ++ 10 ∷ [])))

-- ---- requests

-- the load of a line at the times that it names
abbrev pub line_load : Capacity → Line → ℕ → ℕ
line_load c line r = window_load c (movements_at c.season line (line_times line)) r

abbrev pub lines_load : Capacity → List SlotUnit → ℕ → ℕ
lines_load c units r = sum_by (λ (unit : SlotUnit). line_load c unit.request r) units
