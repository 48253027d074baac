-- How a command ends whose words are no command's.
use Rattle.std.proofs.Common.{◌≡◌, ℕ, List, [], Option, Some, None, Result, Ok, Err, codes, refl, sym, inl, inr}
use Rattle.std.proofs.lemmas.List.{append-nil}
use Rattle.std.proofs.lemmas.List.Elements.{All-nil}
use Rattle.slot_text.specs.Reads.{GivesOr}
use Rattle.desk_outside.specs.Passages.{Passage}
use Rattle.command_words.specs.declared.job.Job.{Job}
use Rattle.command_words.specs.declared.job.WordFault.{WordFault}
use Rattle.command_words.specs.declared.job.WordFault.TheVariants.{Words, Memory as NoMemory}
use Rattle.desk_commands.specs.Reports.{no_command}
use Rattle.desk_commands.specs.Steps.{names_read}
use Rattle.desk_commands.specs.Jobs.{steps_of, names_written}
use Rattle.desk_commands.specs.Outside.{Outside, still}
use Rattle.desk_commands.specs.Desk.{World, LogGrew, IsOfFiles, OnlyOfJob}
use Rattle.desk_commands.specs.Answers.{IsAnswer}

-- ---- nothing passed

pub nothing_asked : (o : Option Job) (log : List Passage) → LogGrew log (OnlyOfJob o) log
nothing_asked None log = ([], sym (append-nil log), refl)
nothing_asked (Some job) log = ([], sym (append-nil log), All-nil (IsOfFiles (names_read (steps_of job)) (names_written job)))

-- ---- words that are no command's

pub no_words : (e : WordFault) (job : Job) → e ≡ Words → let r : Result Job WordFault = Err e in GivesOr NoMemory r (Ok job) → ⊥
no_words e job is (inl same) = cc
no_words e job is (inr same) = cc

pub words_answer : (o : Option Job) (w : World) (at : Outside) (text : List ℕ) → ((job : Job) → o ≡ Some job → ⊥) → text ≡ codes "WORDS\n" → IsAnswer o w (still at) 2 text w
words_answer None w at text none is = record { report = no_command; status_is = refl; text_is = is; ends = (refl, refl, refl); exact = tt }
words_answer (Some job) w at text none is = absurd (none job refl)
