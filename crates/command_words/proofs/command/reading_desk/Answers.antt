use Rattle.clap.specs.Words.{with_subcommand}
use Rattle.command_words.specs.Jobs.{allocate_command, check_command, amend_command}
use Rattle.command_words.specs.App.{command_shape, bare_app}
use Rattle.command_words.proofs.command.reading_desk.Goals as goal

pub returns : goal.returns
returns c =
    let one = c.with-one.ensures bare_app (command_shape allocate_command) c.bare.ensures c.allocate.ensures.shape c.allocate.ensures.local in
    let two = c.with-two.ensures (with_subcommand bare_app (command_shape allocate_command)) (command_shape check_command) one c.check.ensures.shape c.check.ensures.local in
    c.with.ensures (with_subcommand (with_subcommand bare_app (command_shape allocate_command)) (command_shape check_command)) (command_shape amend_command) two c.amend.ensures.shape c.amend.ensures.local
