-- The command line as the builder of `clap` describes it, and what its matches say.
use Rattle.std.specs.Prelude.{◌≡◌, true, false, List, [], ◌∷◌, ◌++◌, map, Option, Some, codes}
use Rattle.std.specs.Prelude.{unwrap_or, option_and_then}
use Rattle.clap.specs.Walk.{Rule, Row, Text, all_of, first_of}
use Rattle.clap.specs.Words.{subcommand_rows_of}
use Rattle.clap.specs.Simple.{App, Shape, new_rule, new_shape}
use Rattle.clap.specs.declared.builder.ArgAction.TheVariants.{Set, Append}
use Rattle.clap.specs.declared.parser.matches.ArgMatches.{ArgMatches}
use Rattle.command_words.specs.Words.{Word}
use Rattle.command_words.specs.Jobs.{Command, allocate_command, check_command, amend_command}
use Rattle.command_words.specs.Jobs.{serve_command, resume_command, usage_command}
use Rattle.command_words.specs.Jobs.{reclear_command, recheck_command, report_command, inspect_command}
use Rattle.command_words.specs.Jobs.{commands, command_named, job_of}
use Rattle.command_words.specs.declared.job.Job.{Job}

-- an option with one value
abbrev pub option_arg : Text → Rule
option_arg name = record (new_rule name) { long = Some name; action = Some Set }

-- the names: each is a use of its own, so that options may stand between them
abbrev pub names_arg : Rule
names_arg = record (new_rule (codes "names")) { action = Some Append }

abbrev pub leaf_of : Text → List Rule → Shape
leaf_of name args = record (new_shape name) { rules = args }

abbrev pub args_for : List Text → List Rule
args_for known = map option_arg known ++ names_arg ∷ []

abbrev pub command_shape : Command → Shape
command_shape c = leaf_of c.word (args_for c.options)

-- above the commands: a command is wanted, and there is no help
abbrev pub desk_top : Shape
desk_top = record (new_shape (codes "desk")) {
  is_leaf = false;
  no_binary_name = true;
  disable_help_flag = true;
  disable_help_subcommand = true;
  subcommand_required = true;
}

-- before the commands are added
abbrev pub bare_app : App
bare_app = record { top = record desk_top { is_leaf = true }; subs = [] }

-- with the first of the commands that read a season
abbrev pub reading_app : App
reading_app = record {
  top = desk_top;
  subs = map command_shape (allocate_command ∷ check_command ∷ amend_command ∷ []);
}

-- with those that go on from a certificate, too
abbrev pub season_app : App
season_app = record {
  top = desk_top;
  subs = map command_shape (allocate_command ∷ check_command ∷ amend_command
      ∷ serve_command ∷ resume_command ∷ usage_command ∷ []);
}

-- with those of the waiting list, too
abbrev pub waiting_app : App
waiting_app = record {
  top = desk_top;
  subs = map command_shape (allocate_command ∷ check_command ∷ amend_command
      ∷ serve_command ∷ resume_command ∷ usage_command ∷ reclear_command ∷ recheck_command ∷ []);
}

-- with all of them
abbrev pub telling_app : App
telling_app = record {
  top = desk_top;
  subs = map command_shape (allocate_command ∷ check_command ∷ amend_command
      ∷ serve_command ∷ resume_command ∷ usage_command ∷ reclear_command ∷ recheck_command
      ∷ report_command ∷ inspect_command ∷ []);
}

abbrev pub desk_app : App
desk_app = record { top = desk_top; subs = map command_shape commands }

-- ---- what matches say

abbrev pub names_held : List Row → List Word
names_held rows = unwrap_or (all_of (codes "names") rows) []

abbrev pub values_held : List Word → List Row → List (Option Word)
values_held options rows = map (λ option. first_of option rows) options

abbrev pub job_by_rows : Command → List Row → Option Job
job_by_rows c rows = c.job (names_held rows) (values_held c.options rows)

-- the job that the name of a command and the matches of its words ask for
abbrev pub job_named : Text → List Row → Option Job
job_named name rows = option_and_then (λ c. job_by_rows c rows) (command_named commands name)

-- the matches are of a command's words, and ask for what the words ask for
pub record AsksFor (words : List Word) (m : ArgMatches) : Type 0 where
  pub name : Text
  pub rows : List Row
  pub entered : subcommand_rows_of m ≡ Some (name, rows)
  pub asked : job_named name rows ≡ job_of words
