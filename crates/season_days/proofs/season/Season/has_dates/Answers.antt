use Rattle.std.proofs.Common.{◌≡◌, [], sym, ap, ◌∙◌, arith, inl, inr, eqb, refl}
use Rattle.std.proofs.lemmas.Bool.{false≢true, cases_Bool, eqb-true, eqb-false, both_ways}
use Rattle.season_days.specs.Seasons.{is_on, dates_of}
use Rattle.season_days.proofs.CutLemmas.{date_in, in_dates, nothing_in, something_in}
use Rattle.season_days.proofs.season.Season.has_dates.Goals as goal

pub returns-then-period : goal.returns-then-period
returns-then-period c =
    let none : dates_of c.args.self.now c.args.period ≡ [] = nothing_in _ (λ x has. let m = in_dates c.args.self.now c.args.period x has in omega (arith, m.0, m.1, c.if-period.true)) in
    ((λ never. absurd (false≢true never)), λ some. absurd (some none))

pub returns-then-is_on : goal.returns-then-is_on
returns-then-is_on c =
    let day = c.loop-day.day in
    (λ _ none. something_in _ day (date_in c.args.self.now c.args.period day (c.loop-day.auto.day, omega (arith, c.loop-day-test.true), sym c.is_on.ensures ∙ c.if-is_on.true)) none, λ _. refl)

pub returns : goal.returns
returns c =
    let season = c.args.self.now in
    let period = c.args.period in (
      (λ is none. something_in (dates_of season period) period.last.0 (date_in season period period.last.0 (omega arith, omega arith, sym c.is_on-2.ensures ∙ is)) none),
      λ some. elim (cases_Bool c.is_on-2.result) [
        | inl is ↦ is
        | inr not_last ↦ absurd (some (nothing_in _ (λ x has.
            let m = in_dates season period x has in
            elim (cases_Bool (eqb x period.last.0)) [
              | inl same ↦ both_ways (is_on season period.days x) (ap (is_on season period.days) (eqb-true _ _ same) ∙ sym c.is_on-2.ensures ∙ not_last) m.2
              | inr other ↦ both_ways (is_on season period.days x) (c.loop-day.invariant x m.0 (omega (arith, m.1, eqb-false _ _ other, c.loop-day-test.false))) m.2
            ])))
      ],
    )
