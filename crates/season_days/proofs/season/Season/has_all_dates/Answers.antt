use Rattle.std.proofs.Common.{◌≡◌, ℕ, true, not, sym, ap, ◌∙◌, arith, inl, inr, eqb, refl, subst}
use Rattle.std.specs.Prelude.{Contains}
use Rattle.std.proofs.lemmas.Bool.{false≢true, cases_Bool, eqb-true, eqb-false, both_ways}
use Rattle.season_days.specs.Seasons.{is_on, dates_of}
use Rattle.season_days.proofs.CutLemmas.{date_in, in_dates, in_or_not}
use Rattle.season_days.proofs.AnswerLemmas.{all_answer}
use Rattle.season_days.proofs.season.Season.has_all_dates.Goals as goal

pub returns-then-asked-clause-exact : goal.returns-then-asked-clause-exact
returns-then-asked-clause-exact c = (λ _ day has. let m = in_dates c.args.self.now c.args.asked day has in absurd (omega (arith, m.0, m.1, c.if-asked.true)), λ _. refl)

pub returns-then-lacks-clause-exact : goal.returns-then-lacks-clause-exact
returns-then-lacks-clause-exact c =
    let day = c.loop-day.day in
    let lacks = c.lacks.ensures.0 c.if-lacks.true in
    (λ never. absurd (false≢true never), λ all. absurd (lacks.1 (all day (date_in c.args.self.now c.args.asked day (c.loop-day.auto.day, omega (arith, c.loop-day-test.true), lacks.0)))))

pub loop-day-preserved : goal.loop-day-preserved
loop-day-preserved c = λ k ge lt on none.
    elim (cases_Bool (eqb k c.loop-day.day)) [
      | inl same ↦
          let at : k ≡ c.loop-day.day = eqb-true _ _ same in
          both_ways c.lacks.result c.if-lacks.false (c.lacks.ensures.1 (subst (λ (d : ℕ). is_on c.args.self.now c.args.asked.days d ≡ true) at on, subst (λ (d : ℕ). Contains (dates_of c.args.self.now c.args.held) d → ⊥) at none))
      | inr other ↦ c.loop-day.invariant k ge (omega (arith, lt, eqb-false _ _ other)) on none
    ]

pub returns-clause-exact : goal.returns-clause-exact
returns-clause-exact c =
    let season = c.args.self.now in
    let asked = c.args.asked in
    let held = c.args.held in (
      λ is day has.
          let m = in_dates season asked day has in
          elim (in_or_not season held day) [
            | inl held_day ↦ held_day
            | inr none ↦ absurd (elim (cases_Bool (eqb day asked.last.0)) [
              | inl same ↦
                  let at : day ≡ asked.last.0 = eqb-true _ _ same in
                  let lacks = c.lacks-2.ensures.1 (subst (λ (d : ℕ). is_on season asked.days d ≡ true) at m.2, subst (λ (d : ℕ). Contains (dates_of season held) d → ⊥) at none) in
                  let never : not true ≡ true = sym (ap not lacks) ∙ is in
                  false≢true never
              | inr other ↦ c.loop-day.invariant day m.0 (omega (arith, m.1, eqb-false _ _ other, c.loop-day-test.false)) m.2 none
            ])
          ],
      λ all. elim (cases_Bool c.lacks-2.result) [
        | inl lacking ↦
            let lacks = c.lacks-2.ensures.0 lacking in
            absurd (lacks.1 (all asked.last.0 (date_in season asked asked.last.0 (omega (arith, c.if-asked.false), omega arith, lacks.0))))
        | inr none ↦ ap not none
      ],
    )

pub returns-then-asked-clause-value : goal.returns-then-asked-clause-value
returns-then-asked-clause-value c = all_answer c.args.self.now c.args.held c.args.asked _ (returns-then-asked-clause-exact c)

pub returns-then-lacks-clause-value : goal.returns-then-lacks-clause-value
returns-then-lacks-clause-value c = all_answer c.args.self.now c.args.held c.args.asked _ (returns-then-lacks-clause-exact c)

pub returns-clause-value : goal.returns-clause-value
returns-clause-value c = all_answer c.args.self.now c.args.held c.args.asked _ (returns-clause-exact c)
