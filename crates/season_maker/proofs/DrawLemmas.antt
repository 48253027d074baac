-- The draws of a unit follow those of the units before it.
use Rattle.std.proofs.Common.{◌≡◌, ◌≢◌, ℕ, suc, ◌+◌, ◌*◌, ◌-◌, ◌%◌, Bool, true, false, refl, sym, ap, ◌∙◌, arith}
use Rattle.std.specs.Prelude.{if◌then◌else◌}
use Rattle.std.proofs.lemmas.Bool.{eq-eqb, ne_eqb}
use Rattle.scr_reader.specs.declared.line.Line.{Line}
use Rattle.scr_reader.specs.declared.line.Code.TheVariants.{N, B, F}
use Rattle.season_maker.specs.Draws.{next_state, state_after}
use Rattle.season_maker.specs.Generated.{arrival_line, turnaround_line, minute_drawn, stay_drawn, unit_line}
use Rattle.season_maker.specs.Loops.{draws_before, IsBefore}

-- one draw more
more : (number draws : ℕ) → next_state (state_after number draws) ≡ state_after number (suc draws)
unfolding state_after
more number draws = refl

at_start : (unit : ℕ) → unit % 4 ≡ 0 → draws_before unit ≡ unit
at_start unit e = rw (eq-eqb (unit % 4) 0 e) refl

inside : (unit : ℕ) → unit % 4 ≢ 0 → draws_before unit ≡ unit - 1
inside unit e = rw (ne_eqb (unit % 4) 0 e) refl

-- the next draw of a unit that makes one has the unit's number
pub own_draw : (number unit state : ℕ) → unit % 4 ≢ 0 → IsBefore number unit state → next_state state ≡ state_after number unit
own_draw number unit state busy is =
    let count : suc (unit - 1) ≡ unit = omega arith in
    ap next_state (is ∙ ap (state_after number) (inside unit busy)) ∙ more number (unit - 1) ∙ ap (state_after number) count

pub next_draw : (number unit state : ℕ) → unit % 4 ≢ 0 → IsBefore number unit state → next_state (next_state state) ≡ state_after number (unit + 1)
next_draw number unit state busy is =
    let count : suc unit ≡ unit + 1 = omega arith in
    ap next_state (own_draw number unit state busy is) ∙ more number unit ∙ ap (state_after number) count

-- ---- before the next unit

pub after_none : (number unit state : ℕ) → unit % 4 ≡ 0 → IsBefore number unit state → IsBefore number (unit + 1) state
after_none number unit state e is =
    let busy : (unit + 1) % 4 ≢ 0 = λ h. omega arith in
    let count : unit ≡ unit + 1 - 1 = omega arith in
    is ∙ ap (state_after number) (at_start unit e ∙ count ∙ sym (inside (unit + 1) busy))

pub after_one : (number unit old state : ℕ) → unit % 4 ≢ 0 → (unit + 1) % 4 ≢ 0 → IsBefore number unit old → state ≡ next_state old → IsBefore number (unit + 1) state
after_one number unit old state busy next is e =
    let count : unit ≡ unit + 1 - 1 = omega arith in
    e ∙ own_draw number unit old busy is ∙ ap (state_after number) (count ∙ sym (inside (unit + 1) next))

pub after_two : (number unit old state : ℕ) → unit % 4 ≡ 3 → IsBefore number unit old → state ≡ next_state (next_state old) → IsBefore number (unit + 1) state
after_two number unit old state three is e =
    let busy : unit % 4 ≢ 0 = λ h. omega arith in
    let next : (unit + 1) % 4 ≡ 0 = omega arith in
    e ∙ next_draw number unit old busy is ∙ ap (state_after number) (sym (at_start (unit + 1) next))

-- ---- the lines of the four kinds of units

first_of_two : (test : Bool) (one other : Line) → test ≡ true → (if test then one else other) ≡ one
first_of_two true one other e = refl
first_of_two false one other e = cc

second_of_two : (test : Bool) (one other : Line) → test ≡ false → (if test then one else other) ≡ other
second_of_two true one other e = cc
second_of_two false one other e = refl

pub line_zero : (number unit : ℕ) → unit % 4 ≡ 0 → unit_line number unit ≡ arrival_line F unit (360 + 5 * (unit % 192))
line_zero number unit e = first_of_two _ _ _ (eq-eqb (unit % 4) 0 e)

pub line_one : (number unit : ℕ) → unit % 4 ≡ 1 → unit_line number unit ≡ arrival_line N unit (minute_drawn number unit)
line_one number unit e =
    second_of_two _ _ _ (ne_eqb (unit % 4) 0 (λ h. omega arith)) ∙ first_of_two _ _ _ (eq-eqb (unit % 4) 1 e)

pub line_two : (number unit : ℕ) → unit % 4 ≡ 2 → unit_line number unit ≡ arrival_line B unit (minute_drawn number unit)
line_two number unit e =
    second_of_two _ _ _ (ne_eqb (unit % 4) 0 (λ h. omega arith)) ∙ second_of_two _ _ _ (ne_eqb (unit % 4) 1 (λ h. omega arith))
    ∙ first_of_two _ _ _ (eq-eqb (unit % 4) 2 e)

pub line_three : (number unit : ℕ) → unit % 4 ≡ 3 → unit_line number unit ≡ turnaround_line unit (minute_drawn number unit) (minute_drawn number unit + stay_drawn number (unit + 1))
line_three number unit e =
    second_of_two _ _ _ (ne_eqb (unit % 4) 0 (λ h. omega arith)) ∙ second_of_two _ _ _ (ne_eqb (unit % 4) 1 (λ h. omega arith))
    ∙ second_of_two _ _ _ (ne_eqb (unit % 4) 2 (λ h. omega arith))

-- ---- what is made of the next draws

pub new_is : (number unit state minute : ℕ) (line : Line) → unit % 4 ≡ 1 → IsBefore number unit state → minute ≡ 420 + 5 * (next_state state % 36) → line ≡ arrival_line N unit minute → line ≡ unit_line number unit
new_is number unit state minute line kind is drawn made =
    let busy : unit % 4 ≢ 0 = λ h. omega arith in
    made ∙ ap (λ (m : ℕ). arrival_line N unit m) (drawn ∙ ap (λ (s : ℕ). 420 + 5 * (s % 36)) (own_draw number unit state busy is)) ∙ sym (line_one number unit kind)

pub entrant_is : (number unit state minute : ℕ) (line : Line) → unit % 4 ≡ 2 → IsBefore number unit state → minute ≡ 420 + 5 * (next_state state % 36) → line ≡ arrival_line B unit minute → line ≡ unit_line number unit
entrant_is number unit state minute line kind is drawn made =
    let busy : unit % 4 ≢ 0 = λ h. omega arith in
    made ∙ ap (λ (m : ℕ). arrival_line B unit m) (drawn ∙ ap (λ (s : ℕ). 420 + 5 * (s % 36)) (own_draw number unit state busy is)) ∙ sym (line_two number unit kind)

pub turnaround_is : (number unit state : ℕ) (line : Line) → unit % 4 ≡ 3 → IsBefore number unit state
    → line ≡ turnaround_line unit (420 + 5 * (next_state state % 36)) (420 + 5 * (next_state state % 36) + (45 + 5 * (next_state (next_state state) % 12))) → line ≡ unit_line number unit
turnaround_is number unit state line kind is made =
    let busy : unit % 4 ≢ 0 = λ h. omega arith in
    made
    ∙ ap (λ (s : ℕ). turnaround_line unit (420 + 5 * (s % 36)) (420 + 5 * (s % 36) + (45 + 5 * (next_state (next_state state) % 12)))) (own_draw number unit state busy is)
    ∙ ap (λ (s : ℕ). turnaround_line unit (minute_drawn number unit) (minute_drawn number unit + (45 + 5 * (s % 12)))) (next_draw number unit state busy is)
    ∙ sym (line_three number unit kind)
