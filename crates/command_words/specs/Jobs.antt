-- The commands, and what the words of a command line ask for.
use Rattle.std.specs.Prelude.{◌≡◌, ◌≤◌, ℕ, List, [], ◌∷◌, length, Option, Some, None, codes, find}
use Rattle.std.specs.Prelude.{if◌then◌else◌, option_map, option_and_then}
use Rattle.std.specs.Str.{bytes_eq}
use Rattle.command_words.specs.Words.{Word}
use Rattle.command_words.specs.Uses.{Use, uses_of, once_after}
use Rattle.command_words.specs.Values.{names_in, values_given, names_exactly, number_within}
use Rattle.command_words.specs.Values.{number_or}
use Rattle.command_words.specs.declared.job.Job.{Job}
use Rattle.command_words.specs.declared.job.Job.TheVariants.{Allocate, Check, Amend, Serve}
use Rattle.command_words.specs.declared.job.Job.TheVariants.{Resume, Usage, Reclear, Recheck}
use Rattle.command_words.specs.declared.job.Job.TheVariants.{Report, Inspect, Make, Trial}

-- A command: its word, the names of its options, and the job that it makes of the names and of what
-- each option is given.
pub record Command : Type 0 where
  pub word : Word
  pub options : List Word
  pub job : List Word → List (Option Word) → Option Job

-- `allocate CAP SCR CERT REPLIES [--nodes n] [--workers k]`
abbrev pub allocate_job : List Word → List (Option Word) → Option Job
allocate_job words (nodes ∷ workers ∷ []) =
    option_and_then (λ names. option_and_then (λ n. option_map (λ k. Allocate names n k)
    (number_or 1 16 4 workers))
    (number_or 1 1000000 100000 nodes))
    (names_exactly 4 words)
allocate_job words _ = None

-- `check CAP SCR CERT`
abbrev pub check_job : List Word → List (Option Word) → Option Job
check_job words [] = option_map Check (names_exactly 3 words)
check_job words (value ∷ values) = None

-- `amend CAP SCR CERT ASKS ANSWERS`
abbrev pub amend_job : List Word → List (Option Word) → Option Job
amend_job words [] = option_map Amend (names_exactly 5 words)
amend_job words (value ∷ values) = None

-- `serve CAP SCR CERT RECORD [--links n] [--port p] [--workers k]`
abbrev pub serve_job : List Word → List (Option Word) → Option Job
serve_job words (links ∷ port ∷ workers ∷ []) =
    option_and_then (λ names. option_and_then (λ n. option_and_then (λ p.
    option_map (λ k. Serve names n p k)
    (number_or 1 16 4 workers))
    (number_or 1 65535 7710 port))
    (number_or 1 1000 1 links))
    (names_exactly 4 words)
serve_job words _ = None

-- `resume CAP SCR CERT JOURNAL RECORD [--links n] [--port p] [--workers k]`
abbrev pub resume_job : List Word → List (Option Word) → Option Job
resume_job words (links ∷ port ∷ workers ∷ []) =
    option_and_then (λ names. option_and_then (λ n. option_and_then (λ p.
    option_map (λ k. Resume names n p k)
    (number_or 1 16 4 workers))
    (number_or 1 65535 7710 port))
    (number_or 1 1000 1 links))
    (names_exactly 5 words)
resume_job words _ = None

-- `usage CAP SCR CERT OPERATED NEXT`
abbrev pub usage_job : List Word → List (Option Word) → Option Job
usage_job words [] = option_map Usage (names_exactly 5 words)
usage_job words (value ∷ values) = None

-- `reclear CAP SCR CERT ASKS EXTRA REPLIES [--nodes n] [--workers k]`
abbrev pub reclear_job : List Word → List (Option Word) → Option Job
reclear_job words (nodes ∷ workers ∷ []) =
    option_and_then (λ names. option_and_then (λ n. option_map (λ k. Reclear names n k)
    (number_or 1 16 4 workers))
    (number_or 1 1000000 100000 nodes))
    (names_exactly 6 words)
reclear_job words _ = None

-- `recheck CAP SCR CERT ASKS EXTRA`
abbrev pub recheck_job : List Word → List (Option Word) → Option Job
recheck_job words [] = option_map Recheck (names_exactly 5 words)
recheck_job words (value ∷ values) = None

-- `report CAP SCR CERT REPORT PAGE`
abbrev pub report_job : List Word → List (Option Word) → Option Job
report_job words [] = option_map Report (names_exactly 5 words)
report_job words (value ∷ values) = None

-- `inspect CAP SCR`
abbrev pub inspect_job : List Word → List (Option Word) → Option Job
inspect_job words [] = option_map Inspect (names_exactly 2 words)
inspect_job words (value ∷ values) = None

-- What a command makes of the number of a generated season, from 0 to 65536, how many units it has,
-- from 1 to 4096, and the words behind these two, which are so many names.
abbrev pub generated_job : (ℕ → ℕ → List Word → Job) → ℕ → List Word → Option Job
generated_job job count [] = None
generated_job job count (number ∷ []) = None
generated_job job count (number ∷ units ∷ words) =
    option_and_then (λ n. option_and_then (λ u. option_map (λ names. job n u names)
    (names_exactly count words))
    (number_within 1 4096 units))
    (number_within 0 65536 number)

-- `make NUMBER UNITS CAP SCR`
abbrev pub make_job : List Word → List (Option Word) → Option Job
make_job words [] = generated_job (λ n u names. Make n u names) 2 words
make_job words (value ∷ values) = None

-- `trial NUMBER UNITS`
abbrev pub trial_job : List Word → List (Option Word) → Option Job
trial_job words [] = generated_job (λ n u names. Trial n u) 0 words
trial_job words (value ∷ values) = None

abbrev pub allocate_command : Command
allocate_command = record {
  word = codes "allocate";
  options = codes "nodes" ∷ codes "workers" ∷ [];
  job = allocate_job;
}

abbrev pub check_command : Command
check_command = record { word = codes "check"; options = []; job = check_job }

abbrev pub amend_command : Command
amend_command = record { word = codes "amend"; options = []; job = amend_job }

abbrev pub serve_command : Command
serve_command = record {
  word = codes "serve";
  options = codes "links" ∷ codes "port" ∷ codes "workers" ∷ [];
  job = serve_job;
}

abbrev pub resume_command : Command
resume_command = record {
  word = codes "resume";
  options = codes "links" ∷ codes "port" ∷ codes "workers" ∷ [];
  job = resume_job;
}

abbrev pub usage_command : Command
usage_command = record { word = codes "usage"; options = []; job = usage_job }

abbrev pub reclear_command : Command
reclear_command = record {
  word = codes "reclear";
  options = codes "nodes" ∷ codes "workers" ∷ [];
  job = reclear_job;
}

abbrev pub recheck_command : Command
recheck_command = record { word = codes "recheck"; options = []; job = recheck_job }

abbrev pub report_command : Command
report_command = record { word = codes "report"; options = []; job = report_job }

abbrev pub inspect_command : Command
inspect_command = record { word = codes "inspect"; options = []; job = inspect_job }

abbrev pub make_command : Command
make_command = record { word = codes "make"; options = []; job = make_job }

abbrev pub trial_command : Command
trial_command = record { word = codes "trial"; options = []; job = trial_job }

-- the commands that are served
abbrev pub commands : List Command
commands =
    allocate_command ∷ check_command ∷ amend_command ∷ serve_command ∷ resume_command
    ∷ usage_command ∷ reclear_command ∷ recheck_command ∷ report_command ∷ inspect_command
    ∷ make_command ∷ trial_command ∷ []

abbrev pub command_named : List Command → Word → Option Command
command_named cs word = find (λ c. bytes_eq c.word word) cs

-- what uses ask of a command: each option is given at most once
abbrev pub job_by_uses : Command → Option (List Use) → Option Job
job_by_uses c None = None
job_by_uses c (Some uses) =
    if once_after [] uses then c.job (names_in uses) (values_given c.options uses) else None

-- the job that the words ask for, if they are a command's
abbrev pub job_of : List Word → Option Job
job_of [] = None
job_of (word ∷ words) = option_and_then (λ c. job_by_uses c (uses_of c.options None words))
    (command_named commands word)

-- a job has as many names as its command takes, and numbers within their limits
abbrev pub IsJob : Job → Type 0
IsJob (Allocate names nodes workers) = (length names ≡ 4) × ((1 ≤ nodes) × (nodes ≤ 1000000))
    × ((1 ≤ workers) × (workers ≤ 16))
IsJob (Check names) = length names ≡ 3
IsJob (Amend names) = length names ≡ 5
IsJob (Serve names links port workers) = (length names ≡ 4) × ((1 ≤ links) × (links ≤ 1000))
    × ((1 ≤ port) × (port ≤ 65535)) × ((1 ≤ workers) × (workers ≤ 16))
IsJob (Resume names links port workers) = (length names ≡ 5) × ((1 ≤ links) × (links ≤ 1000))
    × ((1 ≤ port) × (port ≤ 65535)) × ((1 ≤ workers) × (workers ≤ 16))
IsJob (Usage names) = length names ≡ 5
IsJob (Reclear names nodes workers) = (length names ≡ 6) × ((1 ≤ nodes) × (nodes ≤ 1000000))
    × ((1 ≤ workers) × (workers ≤ 16))
IsJob (Recheck names) = length names ≡ 5
IsJob (Report names) = length names ≡ 5
IsJob (Inspect names) = length names ≡ 2
IsJob (Make number units names) = (number ≤ 65536) × ((1 ≤ units) × (units ≤ 4096))
    × (length names ≡ 2)
IsJob (Trial number units) = (number ≤ 65536) × ((1 ≤ units) × (units ≤ 4096))
