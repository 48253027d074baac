use Rattle.std.proofs.Common.{◌≡◌, rules, vec_len, arith, ap, refl, sym, ◌∙◌, ◌+◌}
use Rattle.std.specs.Global.{Vec}
use Rattle.std.proofs.lemmas.Bool.{eqb-true, eqb-false}
use Rattle.season_days.specs.declared.day.Day.{Day}
use Rattle.season_days.specs.Seasons.{is_on, dates_of}
use Rattle.season_days.proofs.PeriodLemmas.{day_on, day_off, no_more_days, nothing_kept, something_kept}
use Rattle.season_days.proofs.SeasonLemmas.{date_count_small}
use Rattle.season_days.proofs.season.Season.dates_of.Goals.{then-is_on+in_ok-push, else-is_on}
use Rattle.season_days.proofs.season.Season.dates_of.Goals as goal

pub overflow_add-end : goal.overflow_add-end
overflow_add-end c = omega (arith, date_count_small c.args.self.now, c.requires.last)

pub loop-day-preserved : goal.loop-day-preserved
loop-day-preserved c =
    elim c.if-is_on.branch [
      | then-is_on+in_ok-push w ↦
          day_on (is_on c.args.self.now c.args.period.days) c.loop-day.days.items c.if-is_on.days.items (record { 0 = c.loop-day.day }) c.loop-day.day (c.args.period.last.0 + 1) (dates_of c.args.self.now c.args.period)
          c.loop-day-test.true (sym c.is_on.ensures ∙ w.if-is_on.true) refl (ap (λ (v : Vec Day). v.items) w.days-is ∙ w.in_ok-push.ensures.items) c.loop-day.invariant
      | else-is_on w ↦
          day_off (is_on c.args.self.now c.args.period.days) c.loop-day.days.items c.if-is_on.days.items c.loop-day.day (c.args.period.last.0 + 1) (dates_of c.args.self.now c.args.period)
          c.loop-day-test.true (sym c.is_on.ensures ∙ w.if-is_on.false) (ap (λ (v : Vec Day). v.items) w.days-is) c.loop-day.invariant
    ]

pub returns-clause-found : goal.returns-clause-found
returns-clause-found c = no_more_days _ _ c.loop-day.day _ _ c.loop-day-test.false c.loop-day.invariant

pub returns-clause-some : goal.returns-clause-some
returns-clause-some c =
    something_kept c.loop-day.days.items _ (λ e. eqb-false _ _ (sym c.is_empty.ensures ∙ c.if-is_empty.false) (c.loop-day.days.ok.0 ∙ e)) (no_more_days _ _ c.loop-day.day _ _ c.loop-day-test.false c.loop-day.invariant)

pub returns-then-is_empty-clause-no_dates : goal.returns-then-is_empty-clause-no_dates
returns-then-is_empty-clause-no_dates c = λ _. nothing_kept c.loop-day.days.items _ (let e : vec_len c.loop-day.days ≡ 0 = eqb-true _ _ (sym c.is_empty.ensures ∙ c.if-is_empty.true) in search rules) (no_more_days _ _ c.loop-day.day _ _ c.loop-day-test.false c.loop-day.invariant)
