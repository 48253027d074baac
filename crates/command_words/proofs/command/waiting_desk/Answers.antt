use Rattle.clap.specs.Words.{with_subcommand}
use Rattle.command_words.specs.Jobs.{reclear_command, recheck_command}
use Rattle.command_words.specs.App.{command_shape, season_app}
use Rattle.command_words.proofs.command.waiting_desk.Goals as goal

pub returns : goal.returns
returns c =
    let one = c.with-one.ensures season_app (command_shape reclear_command) c.season_desk.ensures c.reclear.ensures.shape c.reclear.ensures.local in
    c.with.ensures (with_subcommand season_app (command_shape reclear_command)) (command_shape recheck_command) one c.recheck.ensures.shape c.recheck.ensures.local
