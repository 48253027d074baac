use Rattle.std.proofs.Common.{codes}
use Rattle.clap.specs.Words.{App, new_app, with_rule}
use Rattle.command_words.specs.App.{option_arg, names_arg}
use Rattle.command_words.proofs.Tops.{top_shape}
use Rattle.command_words.proofs.command.serving.Goals as goal

pub returns-clause-shape : goal.returns-clause-shape
returns-clause-shape c =
    let app_one : App = with_rule (new_app c.args.name.now) (option_arg (codes "links")) in
    let app_two : App = with_rule app_one (option_arg (codes "port")) in
    let app_three : App = with_rule app_two (option_arg (codes "workers")) in
    let has_one = c.with_option-one.ensures.app (new_app c.args.name.now) c.new.ensures.app in
    let has_two = c.with_option-two.ensures.app app_one has_one in
    let has_three = c.with_option-three.ensures.app app_two has_two in
    top_shape c.with_names.result (with_rule app_three names_arg) (c.with_names.ensures.app app_three has_three)
