use Rattle.season_run.proofs.ties.stages_in_turn.Goals as goal

pub returns : goal.returns
returns g c = record {
  third = c.in_ok-third.ensures.stage;
  third_fits = c.in_ok-third.ensures.fits;
  fourth = c.in_ok-fourth.ensures.fourth;
  fourth_fits = c.in_ok-fourth.ensures.fits;
}
