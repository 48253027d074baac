use Rattle.clap.specs.Words.{with_subcommand}
use Rattle.command_words.specs.Jobs.{make_command, trial_command}
use Rattle.command_words.specs.App.{command_shape, telling_app}
use Rattle.command_words.proofs.command.desk.Goals as goal

pub returns : goal.returns
returns c =
    let one = c.with-one.ensures telling_app (command_shape make_command) c.telling_desk.ensures c.make.ensures.shape c.make.ensures.local in
    c.with.ensures (with_subcommand telling_app (command_shape make_command)) (command_shape trial_command) one c.trial.ensures.shape c.trial.ensures.local
