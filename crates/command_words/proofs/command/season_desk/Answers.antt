use Rattle.clap.specs.Words.{with_subcommand}
use Rattle.command_words.specs.Jobs.{serve_command, resume_command, usage_command}
use Rattle.command_words.specs.App.{command_shape, reading_app}
use Rattle.command_words.proofs.command.season_desk.Goals as goal

pub returns : goal.returns
returns c =
    let one = c.with-one.ensures reading_app (command_shape serve_command) c.reading_desk.ensures c.serve.ensures.shape c.serve.ensures.local in
    let two = c.with-two.ensures (with_subcommand reading_app (command_shape serve_command)) (command_shape resume_command) one c.resume.ensures.shape c.resume.ensures.local in
    c.with.ensures (with_subcommand (with_subcommand reading_app (command_shape serve_command)) (command_shape resume_command)) (command_shape usage_command) two c.usage.ensures.shape c.usage.ensures.local
