use Rattle.clap.specs.Words.{with_subcommand}
use Rattle.command_words.specs.Jobs.{report_command, inspect_command}
use Rattle.command_words.specs.App.{command_shape, waiting_app}
use Rattle.command_words.proofs.command.telling_desk.Goals as goal

pub returns : goal.returns
returns c =
    let one = c.with-one.ensures waiting_app (command_shape report_command) c.waiting_desk.ensures c.report.ensures.shape c.report.ensures.local in
    c.with.ensures (with_subcommand waiting_app (command_shape report_command)) (command_shape inspect_command) one c.inspect.ensures.shape c.inspect.ensures.local
