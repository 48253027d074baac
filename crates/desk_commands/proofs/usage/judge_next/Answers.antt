use Rattle.std.proofs.Common.{◌≡◌, refl, sym, ap, ◌∙◌, subst}
use Rattle.std.proofs.lemmas.Bool.{true≢false}
use Rattle.season_days.specs.Seasons.{same_season_next_year}
use Rattle.season_days.specs.declared.declaration.Declaration.{Declaration}
use Rattle.desk_commands.proofs.ReportsLemmas.{accepts_next, refuses_next}
use Rattle.desk_commands.proofs.usage.judge_next.Goals as goal

pub returns-in-Some-clause-found : goal.returns-in-Some-clause-found
returns-in-Some-clause-found c = c.in-Some.ensures.next ∙ ap (λ (d : Declaration). same_season_next_year d.season) c.declaration.ensures.value

-- the year is 99 exactly where there is none
pub returns-in-Some-clause-alone : goal.returns-in-Some-clause-alone
returns-in-Some-clause-alone c = λ name capacity requests rest season.
    accepts_next c.one_answer.ensures.one name capacity requests c.args.submission.now season rest
    (λ last. true≢false (c.in-Some.ensures.none.1 (subst (λ (d : Declaration). d.season.year ≡ 99) (sym c.declaration.ensures.value) last)))

pub returns-in-None-clause-stop : goal.returns-in-None-clause-stop
returns-in-None-clause-stop c = λ names name capacity requests rest season.
    refuses_next c.one_answer.ensures.one name capacity requests c.args.submission.now season rest
    (subst (λ (d : Declaration). d.season.year ≡ 99) c.declaration.ensures.value (c.in-None.ensures.none.0 refl))
