-- The job that words ask for, and what clap finds in them.
use Rattle.std.proofs.Common.{◌≡◌, ℕ, ◌≤◌, eqb, false, List, [], ◌∷◌, length, Option, Some, None, Result, Ok, Err, refl, sym, ap, subst, ◌∙◌, arith, inl, inr}
use Rattle.std.specs.Prelude.{nat_le, ◌&&◌, option_map, option_and_then, IfOk, Box}
use Rattle.std.specs.Fmt.{decimal}
use Rattle.std.specs.List.{AllByRecursion}
use Rattle.std.specs.Str.{bytes_eq, IsUtf8}
use Rattle.std.specs.Str.Parse.{digits_value}
use Rattle.std.proofs.lemmas.Fmt.{decimal_is_IsNumeral}
use Rattle.std.proofs.lemmas.Slice.Eq.{bytes_eq-Decides}
use Rattle.std.proofs.lemmas.Bool.{cases_Bool, and_parts, leb-true, le-leb, eqb-true}
use Rattle.std.proofs.lemmas.Option.{cond_some, option_and_then_some}
use Rattle.clap.specs.Walk.{Row, Text, rows_after}
use Rattle.clap.specs.Simple.{subcommand_of, subcommand_rows, subcommand_rows_of}
use Rattle.clap.specs.Matches.{subcommand_name_of}
use Rattle.clap.specs.declared.parser.matches.ArgMatches.TheViews.{out-ArgMatches, out-SubCommand}
use Rattle.clap.specs.declared.parser.matches.SubCommand.{SubCommand}
use Rattle.std.specs.Box.{box_value}
use Rattle.clap.specs.Faults.{fault_of}
use Rattle.clap.specs.declared.parser.matches.ArgMatches.{ArgMatches}
use Rattle.slot_text.specs.Numbers.{IsNumber}
use Rattle.slot_text.specs.Reads.{GivesOr}
use Rattle.command_words.specs.declared.job.Job.{Job}
use Rattle.command_words.specs.declared.job.Job.TheVariants.{Allocate, Check, Amend, Serve, Resume, Usage, Reclear, Recheck, Report, Inspect, Make, Trial}
use Rattle.command_words.specs.declared.job.WordFault.{WordFault}
use Rattle.command_words.specs.declared.job.WordFault.TheVariants.{Words, Memory}
use Rattle.command_words.specs.Words.{Word}
use Rattle.command_words.specs.Uses.{Use, uses_of, once_after}
use Rattle.command_words.specs.Values.{names_in, values_given, names_exactly, number_within, number_or}
use Rattle.command_words.specs.Jobs.{Command, commands, command_named, allocate_job, check_job, amend_job, serve_job, resume_job, make_job, trial_job, generated_job, job_by_uses, job_of, IsJob, usage_job, reclear_job, recheck_job, report_job, inspect_job}
use Rattle.command_words.specs.App.{desk_app, values_held, job_by_rows, job_named, AsksFor}
use Rattle.command_words.specs.Answers.{Answers}
use Rattle.command_words.proofs.Taken.{AreTaken}
use Rattle.command_words.proofs.Leaf.{rules}
use Rattle.command_words.proofs.Rows.{SaysUses, says_uses}
use Rattle.command_words.proofs.Refused.{none_refused, unknown_refused}
use Rattle.command_words.proofs.Levels.{takes_these, clap_takes_only, command_rows, texts_readable, options_are, options_fit, uses_known}

is_none : {A : Type 0} (o : Option A) → ((x : A) → o ≡ Some x → ⊥) → o ≡ None
is_none None h = refl
is_none (Some x) h = absurd (h x refl)

-- ---- numbers

record WithinWord (least most n : ℕ) (w : Word) : Type 0 where
  pub spelled : w ≡ decimal n
  pub above : least ≤ n
  pub below : n ≤ most

number_takes : (least most n : ℕ) (w : Word) → number_within least most w ≡ Some n → WithinWord least most n w
number_takes least most n w e =
    let v = digits_value 10 w in
    let p = cond_some (bytes_eq w (decimal v) && (nat_le least v && nat_le v most)) v n e in
    let both = and_parts (bytes_eq w (decimal v)) (nat_le least v && nat_le v most) p.0 in
    let range = and_parts (nat_le least v) (nat_le v most) both.1 in
    record {
      spelled = (bytes_eq-Decides w (decimal v)).0 both.0 ∙ ap decimal p.1;
      above = subst (λ (k : ℕ). least ≤ k) p.1 (leb-true least v range.0);
      below = subst (λ (k : ℕ). k ≤ most) p.1 (leb-true v most range.1);
    }

pub number_read : (least most n : ℕ) (w : Word) → IsNumber w n → least ≤ n → n ≤ most → number_within least most w ≡ Some n
number_read least most n w number above below =
    let v : digits_value 10 (decimal n) ≡ n = (decimal_is_IsNumeral n number.0).1 in
    let same = (bytes_eq-Decides (decimal n) (decimal n)).1 refl in
    rw (number.1, v, same, le-leb least n above, le-leb n most below) refl

-- ---- the words of a job

exactly_counts : (count : ℕ) (words names : List Word) → names_exactly count words ≡ Some names → length names ≡ count
exactly_counts count words names e =
    let p = cond_some (eqb (length words) count) words names e in
    ap length (sym p.1) ∙ eqb-true (length words) count p.0

or_within : (least most usual n : ℕ) (value : Option Word) → least ≤ usual → usual ≤ most → number_or least most usual value ≡ Some n → (least ≤ n) × (n ≤ most)
or_within least most usual n None above below e = let same : usual ≡ n = cc in (subst (λ (k : ℕ). least ≤ k) same above, subst (λ (k : ℕ). k ≤ most) same below)
or_within least most usual n (Some w) above below e = let p = number_takes least most n w e in (p.above, p.below)

map_some : {A B P : Type 0} (f : A → B) (o : Option A) (y : B) → option_map f o ≡ Some y → ((x : A) → o ≡ Some x → f x ≡ y → P) → P
map_some f None y e next = absurd cc
map_some f (Some x) y e next = next x refl (cc)

allocate_is : (words : List Word) (values : List (Option Word)) (job : Job) → allocate_job words values ≡ Some job → IsJob job
allocate_is words [] job e = absurd cc
allocate_is words (nodes ∷ []) job e = absurd cc
allocate_is words (nodes ∷ workers ∷ []) job e =
    option_and_then_some _ (names_exactly 4 words) job e (λ names is rest.
    option_and_then_some _ (number_or 1 1000000 100000 nodes) job rest (λ n n_is last.
    map_some (Allocate names n) (number_or 1 16 4 workers) job last (λ k k_is same.
    subst IsJob same (exactly_counts 4 words names is, or_within 1 1000000 100000 n nodes (omega arith) (omega arith) n_is, or_within 1 16 4 k workers (omega arith) (omega arith) k_is))))
allocate_is words (nodes ∷ workers ∷ more ∷ rest) job e = absurd cc

check_is : (words : List Word) (values : List (Option Word)) (job : Job) → check_job words values ≡ Some job → IsJob job
check_is words [] job e = map_some Check (names_exactly 3 words) job e (λ names is same. subst IsJob same (exactly_counts 3 words names is))
check_is words (value ∷ values) job e = absurd cc

amend_is : (words : List Word) (values : List (Option Word)) (job : Job) → amend_job words values ≡ Some job → IsJob job
amend_is words [] job e = map_some Amend (names_exactly 5 words) job e (λ names is same. subst IsJob same (exactly_counts 5 words names is))
amend_is words (value ∷ values) job e = absurd cc

usage_is : (words : List Word) (values : List (Option Word)) (job : Job) → usage_job words values ≡ Some job → IsJob job
usage_is words [] job e = map_some Usage (names_exactly 5 words) job e (λ names is same. subst IsJob same (exactly_counts 5 words names is))
usage_is words (value ∷ values) job e = absurd cc

reclear_is : (words : List Word) (values : List (Option Word)) (job : Job) → reclear_job words values ≡ Some job → IsJob job
reclear_is words [] job e = absurd cc
reclear_is words (nodes ∷ []) job e = absurd cc
reclear_is words (nodes ∷ workers ∷ []) job e =
    option_and_then_some _ (names_exactly 6 words) job e (λ names is rest.
    option_and_then_some _ (number_or 1 1000000 100000 nodes) job rest (λ n n_is last.
    map_some (Reclear names n) (number_or 1 16 4 workers) job last (λ k k_is same.
    subst IsJob same (exactly_counts 6 words names is, or_within 1 1000000 100000 n nodes (omega arith) (omega arith) n_is, or_within 1 16 4 k workers (omega arith) (omega arith) k_is))))
reclear_is words (nodes ∷ workers ∷ more ∷ rest) job e = absurd cc

recheck_is : (words : List Word) (values : List (Option Word)) (job : Job) → recheck_job words values ≡ Some job → IsJob job
recheck_is words [] job e = map_some Recheck (names_exactly 5 words) job e (λ names is same. subst IsJob same (exactly_counts 5 words names is))
recheck_is words (value ∷ values) job e = absurd cc

report_is : (words : List Word) (values : List (Option Word)) (job : Job) → report_job words values ≡ Some job → IsJob job
report_is words [] job e = map_some Report (names_exactly 5 words) job e (λ names is same. subst IsJob same (exactly_counts 5 words names is))
report_is words (value ∷ values) job e = absurd cc

inspect_is : (words : List Word) (values : List (Option Word)) (job : Job) → inspect_job words values ≡ Some job → IsJob job
inspect_is words [] job e = map_some Inspect (names_exactly 2 words) job e (λ names is same. subst IsJob same (exactly_counts 2 words names is))
inspect_is words (value ∷ values) job e = absurd cc

serve_is : (words : List Word) (values : List (Option Word)) (job : Job) → serve_job words values ≡ Some job → IsJob job
serve_is words [] job e = absurd cc
serve_is words (links ∷ []) job e = absurd cc
serve_is words (links ∷ port ∷ []) job e = absurd cc
serve_is words (links ∷ port ∷ workers ∷ []) job e =
    option_and_then_some _ (names_exactly 4 words) job e (λ names is rest.
    option_and_then_some _ (number_or 1 1000 1 links) job rest (λ n n_is more.
    option_and_then_some _ (number_or 1 65535 7710 port) job more (λ p p_is last.
    map_some (Serve names n p) (number_or 1 16 4 workers) job last (λ k k_is same.
    subst IsJob same (exactly_counts 4 words names is, or_within 1 1000 1 n links (omega arith) (omega arith) n_is, or_within 1 65535 7710 p port (omega arith) (omega arith) p_is, or_within 1 16 4 k workers (omega arith) (omega arith) k_is)))))
serve_is words (links ∷ port ∷ workers ∷ more ∷ rest) job e = absurd cc

resume_is : (words : List Word) (values : List (Option Word)) (job : Job) → resume_job words values ≡ Some job → IsJob job
resume_is words [] job e = absurd cc
resume_is words (links ∷ []) job e = absurd cc
resume_is words (links ∷ port ∷ []) job e = absurd cc
resume_is words (links ∷ port ∷ workers ∷ []) job e =
    option_and_then_some _ (names_exactly 5 words) job e (λ names is rest.
    option_and_then_some _ (number_or 1 1000 1 links) job rest (λ n n_is more.
    option_and_then_some _ (number_or 1 65535 7710 port) job more (λ p p_is last.
    map_some (Resume names n p) (number_or 1 16 4 workers) job last (λ k k_is same.
    subst IsJob same (exactly_counts 5 words names is, or_within 1 1000 1 n links (omega arith) (omega arith) n_is, or_within 1 65535 7710 p port (omega arith) (omega arith) p_is, or_within 1 16 4 k workers (omega arith) (omega arith) k_is)))))
resume_is words (links ∷ port ∷ workers ∷ more ∷ rest) job e = absurd cc

within : (least most n : ℕ) (w : Word) → number_within least most w ≡ Some n → (least ≤ n) × (n ≤ most)
within least most n w e = let p = number_takes least most n w e in (p.above, p.below)

generated_is : (make : ℕ → ℕ → List Word → Job) (count : ℕ) (words : List Word) (job : Job) → ((n u : ℕ) (names : List Word) → n ≤ 65536 → (1 ≤ u) × (u ≤ 4096) → length names ≡ count → IsJob (make n u names)) → generated_job make count words ≡ Some job → IsJob job
generated_is make count [] job is e = absurd cc
generated_is make count (number ∷ []) job is e = absurd cc
generated_is make count (number ∷ units ∷ words) job is e =
    option_and_then_some _ (number_within 0 65536 number) job e (λ n n_is rest.
    option_and_then_some _ (number_within 1 4096 units) job rest (λ u u_is last.
    map_some (λ names. make n u names) (names_exactly count words) job last (λ names names_are same.
    subst IsJob same (is n u names (within 0 65536 n number n_is).1 (within 1 4096 u units u_is) (exactly_counts count words names names_are)))))

make_is : (words : List Word) (values : List (Option Word)) (job : Job) → make_job words values ≡ Some job → IsJob job
make_is words [] job e = generated_is (λ n u names. Make n u names) 2 words job (λ n u names low range counts. (low, range, counts)) e
make_is words (value ∷ values) job e = absurd cc

trial_is : (words : List Word) (values : List (Option Word)) (job : Job) → trial_job words values ≡ Some job → IsJob job
trial_is words [] job e = generated_is (λ n u names. Trial n u) 0 words job (λ n u names low range counts. (low, range)) e
trial_is words (value ∷ values) job e = absurd cc

abbrev MakesJobs : Command → Type 0
MakesJobs c = (names : List Word) (values : List (Option Word)) (job : Job) → c.job names values ≡ Some job → IsJob job

jobs_by : (c : Command) (o : Option (List Use)) (job : Job) → MakesJobs c → job_by_uses c o ≡ Some job → IsJob job
jobs_by c None job makes e = absurd cc
jobs_by c (Some us) job makes e =
    elim (cases_Bool (once_after [] us)) [
      | inl once ↦ makes (names_in us) (values_given c.options us) job (rw once at e)
      | inr twice ↦ let bad : no_job ≡ Some job = rw twice at e in absurd cc
    ]
  where
    no_job : Option Job
    no_job = None

all_make : (cs : List Command) (word : Text) (c : Command) → AllByRecursion MakesJobs cs → command_named cs word ≡ Some c → MakesJobs c
all_make [] word c all e = absurd cc
all_make (x ∷ cs) word c all e =
    elim (cases_Bool (bytes_eq x.word word)) [
      | inl same ↦ let is : some_command x ≡ Some c = rw same at e in let one : x ≡ c = cc in subst MakesJobs one all.0
      | inr other ↦ all_make cs word c all.1 (rw other at e)
    ]
  where
    some_command : Command → Option Command
    some_command y = Some y

pub job_is : (words : List Word) (job : Job) → job_of words ≡ Some job → IsJob job
job_is [] job e = absurd cc
job_is (word ∷ words) job e =
    option_and_then_some _ (command_named commands word) job e (λ c named asked.
    jobs_by c (uses_of c.options None words) job (all_make commands word c (allocate_is, (check_is, (amend_is, (serve_is, (resume_is, (usage_is, (reclear_is, (recheck_is, (report_is, (inspect_is, (make_is, (trial_is, tt)))))))))))) named) asked)

-- ---- clap takes the words of a job, and its matches ask for it

by_uses_taken : (c : Command) (ws : List Word) (o : Option (List Use)) (job : Job) → uses_of c.options None ws ≡ o → job_by_uses c o ≡ Some job → (us : List Use) × AreTaken c.options ws us
by_uses_taken c ws None job is e = absurd cc
by_uses_taken c ws (Some us) job is e =
    elim (cases_Bool (once_after [] us)) [
      | inl once ↦ (us, record { uses = is; once = once })
      | inr twice ↦ let bad : no_job ≡ Some job = rw twice at e in absurd cc
    ]
  where
    no_job : Option Job
    no_job = None

pub job_is_taken : (words : List Word) (job : Job) → AllByRecursion IsUtf8 words → job_of words ≡ Some job → fault_of desk_app words ≡ []
job_is_taken [] job texts e = absurd cc
job_is_taken (word ∷ ws) job texts e =
    option_and_then_some _ (command_named commands word) job e (λ c named asked.
    let taken = by_uses_taken c ws (uses_of c.options None ws) job refl asked in
    takes_these word ws c taken.0 named texts.1 taken.1)

word_is : (cs : List Command) (word : Text) (c : Command) → command_named cs word ≡ Some c → c.word ≡ word
word_is [] word c e = absurd cc
word_is (x ∷ cs) word c e =
    elim (cases_Bool (bytes_eq x.word word)) [
      | inl same ↦ let is : some_command x ≡ Some c = rw same at e in let one : x ≡ c = cc in ap (λ (y : Command). y.word) (sym one) ∙ (bytes_eq-Decides x.word word).0 same
      | inr other ↦ word_is cs word c (rw other at e)
    ]
  where
    some_command : Command → Option Command
    some_command y = Some y

uses_asked : (c : Command) (ws : List Word) (us : List Use) → AreTaken c.options ws us → job_by_uses c (uses_of c.options None ws) ≡ c.job (names_in us) (values_given c.options us)
uses_asked c ws us taken = rw (taken.uses, taken.once) refl

rows_asked : (c : Command) (rows : List Row) (us : List Use) → SaysUses c.options rows us → job_by_rows c rows ≡ c.job (names_in us) (values_given c.options us)
rows_asked c rows us says = ap (λ names. c.job names (values_held c.options rows)) says.names ∙ ap (c.job (names_in us)) says.values

with_command : (word : Word) (ws : List Word) (m : ArgMatches) (c : Command) → AllByRecursion IsUtf8 (word ∷ ws) → command_named commands word ≡ Some c → fault_of desk_app (word ∷ ws) ≡ [] → subcommand_rows_of m ≡ subcommand_of desk_app (word ∷ ws) → AsksFor (word ∷ ws) m
with_command word ws m c texts named none found =
    let only = clap_takes_only word ws c named (texts_readable ws texts.1) none in
    let us = only.0 in
    let taken = only.1 in
    let rows = rows_after (rules c.options) [] ws in
    let says = subst (λ (r : List Row). SaysUses c.options r us) (sym only.2) (says_uses c.options us (options_are commands word c options_fit named) (uses_known c.options ws None us tt taken.uses) taken.once) in
    let name : command_named commands c.word ≡ Some c = ap (command_named commands) (word_is commands word c named) ∙ named in
    let left : job_named c.word rows ≡ job_by_rows c rows = ap (option_and_then (λ x. job_by_rows x rows)) name in
    let right : job_of (word ∷ ws) ≡ job_by_uses c (uses_of c.options None ws) = ap (option_and_then (λ x. job_by_uses x (uses_of x.options None ws))) named in
    record {
      name = c.word;
      rows = rows;
      entered = found ∙ command_rows word ws c named;
      asked = left ∙ rows_asked c rows us says ∙ sym (uses_asked c ws us taken) ∙ sym right;
    }

by_name : (word : Word) (ws : List Word) (m : ArgMatches) (o : Option Command) → AllByRecursion IsUtf8 (word ∷ ws) → command_named commands word ≡ o → fault_of desk_app (word ∷ ws) ≡ [] → subcommand_rows_of m ≡ subcommand_of desk_app (word ∷ ws) → AsksFor (word ∷ ws) m
by_name word ws m None texts named none found = absurd (unknown_refused word ws (texts_readable (word ∷ ws) texts).0 named none)
by_name word ws m (Some c) texts named none found = with_command word ws m c texts named none found

pub asks_for : (words : List Word) (m : ArgMatches) → AllByRecursion IsUtf8 words → fault_of desk_app words ≡ [] → subcommand_rows_of m ≡ subcommand_of desk_app words → AsksFor words m
asks_for [] m texts none found = absurd (none_refused none)
asks_for (word ∷ ws) m texts none found = by_name word ws m (command_named commands word) texts refl none found

pub refused_asks_none : (words : List Word) → AllByRecursion IsUtf8 words → (fault_of desk_app words ≡ [] → ⊥) → job_of words ≡ None
refused_asks_none words texts faults = is_none (job_of words) (λ job e. faults (job_is_taken words job texts e))

-- another word is not this command's
pub other_word : (name word : Word) → (name ≡ word → ⊥) → bytes_eq word name ≡ false
other_word name word other =
    elim (cases_Bool (bytes_eq word name)) [
      | inl same ↦ absurd (other (sym ((bytes_eq-Decides word name).0 same)))
      | inr not_same ↦ not_same
    ]

-- ---- the subcommand that was entered

name_in_rows : {Z : Type 0} (o : Option (Box SubCommand Z)) → option_map (λ b. (out-SubCommand (box_value b)).name.now) o ≡ option_map (λ p. p.0) (subcommand_rows o)
name_in_rows None = refl
name_in_rows (Some b) = refl

pub entered_job : (words : List Word) (m : ArgMatches) (name : Text) (rows : List Row) → AsksFor words m → Some name ≡ subcommand_name_of m → Some rows ≡ option_map (λ p. p.1) (subcommand_rows_of m) → job_named name rows ≡ job_of words
entered_job words m name rows asks name_is rows_are =
    let one : some_text name ≡ some_text asks.name = name_is ∙ name_in_rows (out-ArgMatches m).subcommand ∙ ap (option_map (λ p. p.0)) asks.entered in
    let two : some_rows rows ≡ some_rows asks.rows = rows_are ∙ ap (option_map (λ p. p.1)) asks.entered in
    let same_name : name ≡ asks.name = cc in
    let same_rows : rows ≡ asks.rows = cc in
    ap (λ (n : Text). job_named n rows) same_name ∙ ap (job_named asks.name) same_rows ∙ asks.asked
  where
    some_text : Text → Option Text
    some_text t = Some t

    some_rows : List Row → Option (List Row)
    some_rows r = Some r

-- ---- what is answered

pub answers_found : (o : Option Job) (r : Result Job WordFault) → Answers o r → IfOk r (λ job. o ≡ Some job)
answers_found o (Ok job) a = a
answers_found o (Err f) a = tt

pub answers_job : (words : List Word) (r : Result Job WordFault) → Answers (job_of words) r → IfOk r IsJob
answers_job words (Ok job) a = job_is words job a
answers_job words (Err f) a = tt

pub answers_only : (o : Option Job) (r : Result Job WordFault) (job : Job) → Answers o r → o ≡ Some job → GivesOr Memory r (Ok job)
answers_only o (Ok x) job a e = let both : some_job x ≡ Some job = sym a ∙ e in let same : x ≡ job = cc in inl (ap (λ j. ok_job j) same)
  where
    some_job : Job → Option Job
    some_job j = Some j

    ok_job : Job → Result Job WordFault
    ok_job j = Ok j
answers_only o (Err Words) job a e = let bad : no_job ≡ Some job = sym a ∙ e in absurd cc
  where
    no_job : Option Job
    no_job = None
answers_only o (Err Memory) job a e = inr refl

pub answers_none : (o : Option Job) (r : Result Job WordFault) → Answers o r → o ≡ None → GivesOr Memory r (Err Words)
answers_none o (Ok x) a e = let bad : some_job x ≡ None = sym a ∙ e in absurd cc
  where
    some_job : Job → Option Job
    some_job j = Some j
answers_none o (Err Words) a e = inl refl
answers_none o (Err Memory) a e = inr refl
