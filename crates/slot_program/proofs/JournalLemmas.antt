-- The disk of a journal, by how a command ended, and by what the disk tells.
use Rattle.std.proofs.Common.{◌≡◌, ℕ, zero, suc, ◌<◌, Bool, true, false, List, [], ◌∷◌, ◌++◌, Option, Some, None, refl, sym, ap, subst, ◌∙◌, arith, inl, inr}
use Rattle.std.specs.Prelude.{◌⊎◌, Contains, IfSome, is_some, option_map}
use Rattle.std.proofs.lemmas.Bool.{cases_Bool}
use Rattle.std.proofs.lemmas.Option.{same_Some}
use Rattle.season_days.specs.Term.{Term}
use Rattle.desk_outside.specs.Cause.{Rose}
use Rattle.desk_outside.specs.Files.{Files}
use Rattle.desk_disk.specs.Disks.{DiskView, ToldDisk}
use Rattle.amend_journal.specs.Standing.{StandsFor, IsOther, IsBadSlot}
use Rattle.amend_journal.specs.Kept.{asks_of}
use Rattle.amend_journal.specs.declared.asked.Asked.{Asked}
use Rattle.holding_book.specs.Starts.{start_book}
use Rattle.session_desk.specs.declared.worker.DoorWork.{DoorWork}
use Rattle.command_words.specs.Words.{Word}
use Rattle.command_words.specs.declared.job.Job.{Job}
use Rattle.command_words.specs.declared.job.Job.TheVariants.{Allocate, Check, Amend, Serve, Resume, Usage, Reclear, Recheck, Report, Inspect, Make, Trial}
use Rattle.desk_commands.specs.Reports.{JournalRefusal, no_journal, other_journal, bad_slot, journal_fault, journal_status}
use Rattle.desk_commands.specs.Judgements.{NamedBytes}
use Rattle.desk_commands.specs.Steps.{Step, reads, judges, PassFrom}
use Rattle.desk_commands.specs.Outside.{OutsideChange, disk_faults, DiskRose}
use Rattle.desk_commands.specs.Services.{some_ended, is_door_end, is_full_end, served_status}
use Rattle.desk_commands.specs.Journals.{IsUnopened, IsLeftWith, TellsFile, IsDueJournal, TellsPairs}
use Rattle.desk_commands.specs.Resumed.{resumed_status}
use Rattle.desk_commands.specs.Jobs.{searched_statuses, recleared_statuses, served_statuses, finishing_of, ServiceWorks, ResumeWorks, Works, IsSeasonTerm, IsJournalless, IsWithoutJournal, JournalDue, JournalStands}

-- ---- the count of the disk, by how a job ended

abbrev some_count : ℕ → Option ℕ
some_count n = Some n

abbrev no_view : Option DiskView
no_view = None

abbrev count_of : Option DiskView → Option ℕ
count_of disk = option_map (λ (d : DiskView). d.faults) disk

left_calm : (season : Term) (pairs asks : List Asked) (failed : Option Asked) (d e : DiskView) → is_some failed ≡ false → IsLeftWith season pairs asks failed d e → e.faults ≡ d.faults
left_calm season pairs asks None d e is left = left.0
left_calm season pairs asks (Some asked) d e is left = absurd cc

left_risen : (season : Term) (pairs asks : List Asked) (failed : Option Asked) (d e : DiskView) → is_some failed ≡ true → IsLeftWith season pairs asks failed d e → Rose d.faults e.faults
left_risen season pairs asks None d e is left = absurd cc
left_risen season pairs asks (Some asked) d e is left = left.0

served_not_fourteen : (works : List DoorWork) → served_status works ≡ 14 → ⊥
served_not_fourteen works e =
    elim (cases_Bool (some_ended is_door_end works)) [
      | inl door ↦ let bad : 10 ≡ 14 = rw door at e in omega (arith, bad)
      | inr calm ↦ elim (cases_Bool (some_ended is_full_end works)) [
        | inl full ↦ let bad : 11 ≡ 14 = rw (calm, full) at e in omega (arith, bad)
        | inr free ↦ let bad : 0 ≡ 14 = rw (calm, free) at e in omega (arith, bad)
      ]
    ]

none_failed : (failed : Bool) (works : List DoorWork) → (resumed_status failed works ≡ 14 → ⊥) → failed ≡ false
none_failed true works not = absurd (not refl)
none_failed false works not = refl

one_failed : (failed : Bool) (works : List DoorWork) → resumed_status failed works ≡ 14 → failed ≡ true
one_failed true works is = refl
one_failed false works is = absurd (served_not_fourteen works is)

rose_at : (before after : Option DiskView) (d e : DiskView) → before ≡ Some d → after ≡ Some e → Rose d.faults e.faults → DiskRose before after
rose_at before after d e one two rose = subst (λ (o : Option DiskView). DiskRose o after) (sym one) (subst (λ (o : Option DiskView). DiskRose (Some d) o) (sym two) rose)

service_disk : (names : List Word) (links : ℕ) (inputs writes : List NamedBytes) (change : OutsideChange) (status : ℕ) (text : List ℕ) → ServiceWorks names links inputs writes change status text → disk_faults change.after ≡ disk_faults change.before
service_disk names links [] writes change status text work = absurd work
service_disk names links (capacity ∷ []) writes change status text work = absurd work
service_disk names links (capacity ∷ requests ∷ []) writes change status text work = absurd work
service_disk names links (capacity ∷ requests ∷ certificate ∷ []) writes change status text work = ap count_of work.disk
service_disk names links (capacity ∷ requests ∷ certificate ∷ more ∷ rest) writes change status text work = absurd work

resume_disk : (names : List Word) (links : ℕ) (inputs writes : List NamedBytes) (change : OutsideChange) (status : ℕ) (text : List ℕ) → (status ≡ 14 → ⊥) → ResumeWorks names links inputs writes change status text → disk_faults change.after ≡ disk_faults change.before
resume_disk names links [] writes change status text not work = absurd work
resume_disk names links (capacity ∷ []) writes change status text not work = absurd work
resume_disk names links (capacity ∷ requests ∷ []) writes change status text not work = absurd work
resume_disk names links (capacity ∷ requests ∷ certificate ∷ []) writes change status text not work =
    let out = work.output in
    let none = none_failed (is_some out.failed) out.works (λ is. not (out.status_is ∙ is)) in
    let same : out.after.faults ≡ out.before.faults = left_calm _ out.pairs (asks_of out.history) out.failed out.before out.after none out.kept.left in
    ap count_of out.given_back ∙ (ap some_count same ∙ sym (ap count_of out.handed_in))
resume_disk names links (capacity ∷ requests ∷ certificate ∷ more ∷ rest) writes change status text not work = absurd work

resume_rose : (names : List Word) (links : ℕ) (inputs writes : List NamedBytes) (change : OutsideChange) (status : ℕ) (text : List ℕ) → status ≡ 14 → ResumeWorks names links inputs writes change status text → DiskRose change.before.disk change.after.disk
resume_rose names links [] writes change status text is work = absurd work
resume_rose names links (capacity ∷ []) writes change status text is work = absurd work
resume_rose names links (capacity ∷ requests ∷ []) writes change status text is work = absurd work
resume_rose names links (capacity ∷ requests ∷ certificate ∷ []) writes change status text is work =
    let out = work.output in
    let one = one_failed (is_some out.failed) out.works (sym out.status_is ∙ is) in
    rose_at change.before.disk change.after.disk out.before out.after out.handed_in out.given_back (left_risen _ out.pairs (asks_of out.history) out.failed out.before out.after one out.kept.left)
resume_rose names links (capacity ∷ requests ∷ certificate ∷ more ∷ rest) writes change status text is work = absurd work

pub works_disk_calm : (job : Job) (inputs writes : List NamedBytes) (change : OutsideChange) (status : ℕ) (text : List ℕ) → (status ≡ 14 → ⊥) → Works job inputs writes change status text → disk_faults change.after ≡ disk_faults change.before
works_disk_calm (Allocate names nodes workers) inputs writes change status text not work = ap disk_faults work.0
works_disk_calm (Check names) inputs writes change status text not work = ap disk_faults work.0
works_disk_calm (Amend names) inputs writes change status text not work = ap disk_faults work.0
works_disk_calm (Serve names links port workers) inputs writes change status text not work = service_disk names links inputs writes change status text work
works_disk_calm (Resume names links port workers) inputs writes change status text not work = resume_disk names links inputs writes change status text not work
works_disk_calm (Usage names) inputs writes change status text not work = ap disk_faults work.0
works_disk_calm (Reclear names nodes workers) inputs writes change status text not work = ap disk_faults work.0
works_disk_calm (Recheck names) inputs writes change status text not work = ap disk_faults work.0
works_disk_calm (Report names) inputs writes change status text not work = ap disk_faults work.0
works_disk_calm (Inspect names) inputs writes change status text not work = ap disk_faults work.0
works_disk_calm (Make number units names) inputs writes change status text not work = ap disk_faults work.0
works_disk_calm (Trial number units) inputs writes change status text not work = ap disk_faults work.0

searched_not : Contains searched_statuses 14 → ⊥
searched_not (zero, lt, is) = omega (arith, is)
searched_not (suc zero, lt, is) = omega (arith, is)
searched_not (suc (suc zero), lt, is) = omega (arith, is)
searched_not (suc (suc (suc k)), lt, is) = omega (arith, lt)

recleared_not : Contains recleared_statuses 14 → ⊥
recleared_not (zero, lt, is) = omega (arith, is)
recleared_not (suc zero, lt, is) = omega (arith, is)
recleared_not (suc (suc k), lt, is) = omega (arith, lt)

served_not : Contains served_statuses 14 → ⊥
served_not (zero, lt, is) = omega (arith, is)
served_not (suc zero, lt, is) = omega (arith, is)
served_not (suc (suc zero), lt, is) = omega (arith, is)
served_not (suc (suc (suc k)), lt, is) = omega (arith, lt)

zero_not : Contains {X = ℕ} (0 ∷ []) 14 → ⊥
zero_not (zero, lt, is) = omega (arith, is)
zero_not (suc k, lt, is) = omega (arith, lt)

-- `one` says which statuses the job has
pub works_disk_risen : (job : Job) (inputs writes : List NamedBytes) (change : OutsideChange) (text : List ℕ) → Works job inputs writes change 14 text → Contains (finishing_of job) 14 → DiskRose change.before.disk change.after.disk
works_disk_risen (Allocate names nodes workers) inputs writes change text work one = absurd (searched_not one)
works_disk_risen (Check names) inputs writes change text work one = absurd (zero_not one)
works_disk_risen (Amend names) inputs writes change text work one = absurd (zero_not one)
works_disk_risen (Serve names links port workers) inputs writes change text work one = absurd (served_not one)
works_disk_risen (Resume names links port workers) inputs writes change text work one = resume_rose names links inputs writes change 14 text refl work
works_disk_risen (Usage names) inputs writes change text work one = absurd (zero_not one)
works_disk_risen (Reclear names nodes workers) inputs writes change text work one = absurd (recleared_not one)
works_disk_risen (Recheck names) inputs writes change text work one = absurd (zero_not one)
works_disk_risen (Report names) inputs writes change text work one = absurd (zero_not one)
works_disk_risen (Inspect names) inputs writes change text work one = absurd (zero_not one)
works_disk_risen (Make number units names) inputs writes change text work one = absurd (zero_not one)
works_disk_risen (Trial number units) inputs writes change text work one = absurd (searched_not one)

-- ---- the same where the journal was not opened

some_counts : (d e : DiskView) → e.faults ≡ d.faults → count_of (Some e) ≡ count_of (Some d)
some_counts d e same = rw same refl

unopened_calm : (season : Term) (why : JournalRefusal) (before after : Option DiskView) → (journal_status why ≡ 14 → ⊥) → IsUnopened season why before after → count_of after ≡ count_of before
unopened_calm season why None after not h = ap count_of h.1
unopened_calm season why (Some d) None not h = absurd h
unopened_calm season no_journal (Some d) (Some e) not h = absurd h.0
unopened_calm season other_journal (Some d) (Some e) not h = some_counts d e h.0.0
unopened_calm season (bad_slot number) (Some d) (Some e) not h = some_counts d e h.0.0
unopened_calm season journal_fault (Some d) (Some e) not h = absurd (not refl)

unopened_risen : (season : Term) (why : JournalRefusal) (before after : Option DiskView) → journal_status why ≡ 14 → IsUnopened season why before after → DiskRose before after
unopened_risen season why None after is h = absurd (omega (arith, is, ap journal_status h.0))
unopened_risen season why (Some d) None is h = absurd h
unopened_risen season no_journal (Some d) (Some e) is h = absurd h.0
unopened_risen season other_journal (Some d) (Some e) is h = absurd (omega (arith, is))
unopened_risen season (bad_slot number) (Some d) (Some e) is h = absurd (omega (arith, is))
unopened_risen season journal_fault (Some d) (Some e) is h = h.0

-- where a job has no journal it was opened by none of three files
with_three : (job : Job) (inputs : List NamedBytes) (change : OutsideChange) (why : JournalRefusal) {P : Type 0} → IsWithoutJournal job inputs change why
    → ((capacity requests : List ℕ) → IsJournalless capacity requests change why → P) → P
with_three (Allocate names nodes workers) inputs change why h next = absurd h
with_three (Check names) inputs change why h next = absurd h
with_three (Amend names) inputs change why h next = absurd h
with_three (Serve names links port workers) inputs change why h next = absurd h
with_three (Resume names links port workers) [] change why h next = absurd h
with_three (Resume names links port workers) (capacity ∷ []) change why h next = absurd h
with_three (Resume names links port workers) (capacity ∷ requests ∷ []) change why h next = absurd h
with_three (Resume names links port workers) (capacity ∷ requests ∷ certificate ∷ []) change why h next = next capacity.bytes requests.bytes h
with_three (Resume names links port workers) (capacity ∷ requests ∷ certificate ∷ more ∷ rest) change why h next = absurd h
with_three (Usage names) inputs change why h next = absurd h
with_three (Reclear names nodes workers) inputs change why h next = absurd h
with_three (Recheck names) inputs change why h next = absurd h
with_three (Report names) inputs change why h next = absurd h
with_three (Inspect names) inputs change why h next = absurd h
with_three (Make number units names) inputs change why h next = absurd h
with_three (Trial number units) inputs change why h next = absurd h

pub without_calm : (job : Job) (inputs : List NamedBytes) (change : OutsideChange) (why : JournalRefusal) → (journal_status why ≡ 14 → ⊥) → IsWithoutJournal job inputs change why → disk_faults change.after ≡ disk_faults change.before
without_calm job inputs change why not h = with_three job inputs change why h (λ capacity requests less. unopened_calm less.season why change.before.disk change.after.disk not less.refused)

pub without_risen : (job : Job) (inputs : List NamedBytes) (change : OutsideChange) (why : JournalRefusal) → journal_status why ≡ 14 → IsWithoutJournal job inputs change why → DiskRose change.before.disk change.after.disk
without_risen job inputs change why is h = with_three job inputs change why h (λ capacity requests less. unopened_risen less.season why change.before.disk change.after.disk is less.refused)

-- ---- a disk that tells

-- what is so of what the disk tells that it holds
told_so : (P : List ℕ → Type 0) (x d : DiskView) (file : List ℕ) → x ≡ d → TellsFile x file → IfSome d.told (λ (t : ToldDisk). P t.bytes) → P file
told_so P x d file same tells h =
    subst P tells.2 (subst (λ (o : Option ToldDisk). IfSome o (λ (t : ToldDisk). P t.bytes)) (ap (λ (v : DiskView). v.told) (sym same) ∙ tells.1) h)

-- files that are told are read in one way
pub pass_one : (held : Files) (before : List NamedBytes) (steps : List Step) (a b : List NamedBytes) → PassFrom (Some held) before steps a → PassFrom (Some held) before steps b → a ≡ b
pass_one held before [] a b x y = x ∙ sym y
pass_one held before (reads name most ∷ steps) a b x y =
    let same : x.0 ≡ y.0 = same_Some x.0 y.0 (sym x.1.held ∙ y.1.held) in
    pass_one held (before ++ record { name = name; bytes = y.0 } ∷ []) steps a b
    (subst (λ (l : List ℕ). PassFrom (Some held) (before ++ record { name = name; bytes = l } ∷ []) steps a) same x.2) y.2
pass_one held before (judges judgement name ∷ steps) a b x y = pass_one held before steps a b x.1 y.1

-- the laws of what a file stands for
pub record Standings : Type 0 where
  pub not_other : (season : Term) (file : List ℕ) (a : List Asked) → StandsFor season a file → IsOther file → ⊥
  pub not_bad : (season : Term) (file : List ℕ) (a : List Asked) (number : ℕ) → season.year < 100 → StandsFor season a file → IsBadSlot season number file → ⊥
  pub one_fault : (season : Term) (file : List ℕ) (number : ℕ) → IsBadSlot season number file → IsOther file → ⊥
  pub one_number : (season : Term) (file : List ℕ) (m n : ℕ) → season.year < 100 → IsBadSlot season m file → IsBadSlot season n file → m ≡ n

module _ (law : Standings) (season : Term) (year : season.year < 100) where
  -- it was opened: so nothing was due
  found_due : (IsSeason : Term → Type 0) (disk : Option DiskView) (d : DiskView) (pairs : List Asked) (why : JournalRefusal) → IsSeason season → disk ≡ Some d → IfSome d.told (λ (t : ToldDisk). StandsFor season pairs t.bytes) → IsDueJournal IsSeason disk why → ⊥
  found_due IsSeason disk d pairs no_journal is at told due = let bad : no_view ≡ Some d = sym due ∙ at in absurd cc
  found_due IsSeason disk d pairs other_journal is at told (x, file, has, tells, other) =
      law.not_other season file pairs (told_so (StandsFor season pairs) x d file (same_Some x d (sym has ∙ at)) tells told) other
  found_due IsSeason disk d pairs (bad_slot number) is at told (x, file, has, tells, bad) =
      law.not_bad season file pairs number year (told_so (StandsFor season pairs) x d file (same_Some x d (sym has ∙ at)) tells told) (bad season is)
  found_due IsSeason disk d pairs journal_fault is at told due = due

  -- it was not: for what was due, or the disk failed
  refused_due : (IsSeason : Term → Type 0) (disk after : Option DiskView) (why due : JournalRefusal) → IsSeason season → IsUnopened season why disk after → IsDueJournal IsSeason disk due → (why ≡ due) ⊎ (journal_status why ≡ 14)
  refused_due IsSeason None after why no_journal is h d = inl h.0
  refused_due IsSeason None after why other_journal is h d = let bad : no_view ≡ Some d.0 = d.2 in absurd cc
  refused_due IsSeason None after why (bad_slot number) is h d = let bad : no_view ≡ Some d.0 = d.2 in absurd cc
  refused_due IsSeason None after why journal_fault is h d = absurd d
  refused_due IsSeason (Some x) None why due is h d = absurd h
  refused_due IsSeason (Some x) (Some e) no_journal due is h d = absurd h.0
  refused_due IsSeason (Some x) (Some e) journal_fault due is h d = inr refl
  refused_due IsSeason (Some x) (Some e) other_journal no_journal is h d = absurd cc
  refused_due IsSeason (Some x) (Some e) other_journal other_journal is h d = inl refl
  refused_due IsSeason (Some x) (Some e) other_journal (bad_slot number) is h (y, file, has, tells, bad) =
      absurd (law.one_fault season file number (bad season is) (told_so IsOther y x file (same_Some y x (sym has)) tells h.0.1))
  refused_due IsSeason (Some x) (Some e) other_journal journal_fault is h d = absurd d
  refused_due IsSeason (Some x) (Some e) (bad_slot number) no_journal is h d = absurd cc
  refused_due IsSeason (Some x) (Some e) (bad_slot number) other_journal is h (y, file, has, tells, other) =
      absurd (law.one_fault season file number (told_so (IsBadSlot season number) y x file (same_Some y x (sym has)) tells h.0.1) other)
  refused_due IsSeason (Some x) (Some e) (bad_slot number) (bad_slot other) is h (y, file, has, tells, bad) =
      inl (ap bad_slot (law.one_number season file number other year (told_so (IsBadSlot season number) y x file (same_Some y x (sym has)) tells h.0.1) (bad season is)))
  refused_due IsSeason (Some x) (Some e) (bad_slot number) journal_fault is h d = absurd d

  -- it was not, though the file stands for pairs: the disk failed
  refused_stands : (IsSeason : Term → Type 0) (disk after : Option DiskView) (why : JournalRefusal) → IsSeason season → IsUnopened season why disk after → TellsPairs IsSeason disk → journal_status why ≡ 14
  refused_stands IsSeason None after why is h t = let bad : no_view ≡ Some t.0 = t.2 in absurd cc
  refused_stands IsSeason (Some x) None why is h t = absurd h
  refused_stands IsSeason (Some x) (Some e) no_journal is h t = absurd h.0
  refused_stands IsSeason (Some x) (Some e) journal_fault is h t = refl
  refused_stands IsSeason (Some x) (Some e) other_journal is h (y, file, has, tells, stands) =
      let pairs = stands season is in
      absurd (law.not_other season file pairs.0 pairs.1 (told_so IsOther y x file (same_Some y x (sym has)) tells h.0.1))
  refused_stands IsSeason (Some x) (Some e) (bad_slot number) is h (y, file, has, tells, stands) =
      let pairs = stands season is in
      absurd (law.not_bad season file pairs.0 number year pairs.1 (told_so (IsBadSlot season number) y x file (same_Some y x (sym has)) tells h.0.1))

-- ---- a job

-- a journal was due to be refused: so it was, or the disk failed
pub work_due : Standings → (job : Job) (inputs writes : List NamedBytes) (change : OutsideChange) (status : ℕ) (text : List ℕ) (why : JournalRefusal) → Works job inputs writes change status text → JournalDue job inputs change.before.disk why → ⊥
unfolding start_book
work_due law (Allocate names nodes workers) inputs writes change status text why work due = due
work_due law (Check names) inputs writes change status text why work due = due
work_due law (Amend names) inputs writes change status text why work due = due
work_due law (Serve names links port workers) inputs writes change status text why work due = due
work_due law (Resume names links port workers) [] writes change status text why work due = due
work_due law (Resume names links port workers) (capacity ∷ []) writes change status text why work due = due
work_due law (Resume names links port workers) (capacity ∷ requests ∷ []) writes change status text why work due = due
work_due law (Resume names links port workers) (capacity ∷ requests ∷ certificate ∷ []) writes change status text why work due =
    let out = work.output in
    found_due law work.season.declaration.season work.year (IsSeasonTerm capacity.bytes requests.bytes) change.before.disk out.before out.pairs why
    (record { submission = work.season; made = work.made; term = refl }) out.handed_in out.kept.told due
work_due law (Resume names links port workers) (capacity ∷ requests ∷ certificate ∷ more ∷ rest) writes change status text why work due = due
work_due law (Usage names) inputs writes change status text why work due = due
work_due law (Reclear names nodes workers) inputs writes change status text why work due = due
work_due law (Recheck names) inputs writes change status text why work due = due
work_due law (Report names) inputs writes change status text why work due = due
work_due law (Inspect names) inputs writes change status text why work due = due
work_due law (Make number units names) inputs writes change status text why work due = due
work_due law (Trial number units) inputs writes change status text why work due = due

pub without_due : Standings → (job : Job) (inputs : List NamedBytes) (change : OutsideChange) (why due : JournalRefusal) → IsWithoutJournal job inputs change why → JournalDue job inputs change.before.disk due → (why ≡ due) ⊎ (journal_status why ≡ 14)
without_due law (Allocate names nodes workers) inputs change why due h d = absurd h
without_due law (Check names) inputs change why due h d = absurd h
without_due law (Amend names) inputs change why due h d = absurd h
without_due law (Serve names links port workers) inputs change why due h d = absurd h
without_due law (Resume names links port workers) [] change why due h d = absurd h
without_due law (Resume names links port workers) (capacity ∷ []) change why due h d = absurd h
without_due law (Resume names links port workers) (capacity ∷ requests ∷ []) change why due h d = absurd h
without_due law (Resume names links port workers) (capacity ∷ requests ∷ certificate ∷ []) change why due h d =
    refused_due law h.season h.year (IsSeasonTerm capacity.bytes requests.bytes) change.before.disk change.after.disk why due h.is h.refused d
without_due law (Resume names links port workers) (capacity ∷ requests ∷ certificate ∷ more ∷ rest) change why due h d = absurd h
without_due law (Usage names) inputs change why due h d = absurd h
without_due law (Reclear names nodes workers) inputs change why due h d = absurd h
without_due law (Recheck names) inputs change why due h d = absurd h
without_due law (Report names) inputs change why due h d = absurd h
without_due law (Inspect names) inputs change why due h d = absurd h
without_due law (Make number units names) inputs change why due h d = absurd h
without_due law (Trial number units) inputs change why due h d = absurd h

-- a journal that stands was not opened, since the disk failed
pub without_stands : Standings → (job : Job) (inputs : List NamedBytes) (change : OutsideChange) (why : JournalRefusal) → IsWithoutJournal job inputs change why → JournalStands job inputs change.before.disk → journal_status why ≡ 14
without_stands law (Allocate names nodes workers) inputs change why h d = absurd h
without_stands law (Check names) inputs change why h d = absurd h
without_stands law (Amend names) inputs change why h d = absurd h
without_stands law (Serve names links port workers) inputs change why h d = absurd h
without_stands law (Resume names links port workers) [] change why h d = absurd h
without_stands law (Resume names links port workers) (capacity ∷ []) change why h d = absurd h
without_stands law (Resume names links port workers) (capacity ∷ requests ∷ []) change why h d = absurd h
without_stands law (Resume names links port workers) (capacity ∷ requests ∷ certificate ∷ []) change why h d =
    refused_stands law h.season h.year (IsSeasonTerm capacity.bytes requests.bytes) change.before.disk change.after.disk why h.is h.refused d
without_stands law (Resume names links port workers) (capacity ∷ requests ∷ certificate ∷ more ∷ rest) change why h d = absurd h
without_stands law (Usage names) inputs change why h d = absurd h
without_stands law (Reclear names nodes workers) inputs change why h d = absurd h
without_stands law (Recheck names) inputs change why h d = absurd h
without_stands law (Report names) inputs change why h d = absurd h
without_stands law (Inspect names) inputs change why h d = absurd h
without_stands law (Make number units names) inputs change why h d = absurd h
without_stands law (Trial number units) inputs change why h d = absurd h

-- a job with a journal ends with one of its statuses
pub stands_finishing : (job : Job) (inputs : List NamedBytes) (disk : Option DiskView) (n : ℕ) → JournalStands job inputs disk → Contains (finishing_of job) n → (n ≡ 14 → ⊥) → Contains served_statuses n
stands_finishing (Allocate names nodes workers) inputs disk n h one not = absurd h
stands_finishing (Check names) inputs disk n h one not = absurd h
stands_finishing (Amend names) inputs disk n h one not = absurd h
stands_finishing (Serve names links port workers) inputs disk n h one not = absurd h
stands_finishing (Resume names links port workers) inputs disk n h (zero, lt, is) not = (0, omega arith, is)
stands_finishing (Resume names links port workers) inputs disk n h (suc zero, lt, is) not = (1, omega arith, is)
stands_finishing (Resume names links port workers) inputs disk n h (suc (suc zero), lt, is) not = (2, omega arith, is)
stands_finishing (Resume names links port workers) inputs disk n h (suc (suc (suc zero)), lt, is) not = absurd (not (sym is))
stands_finishing (Resume names links port workers) inputs disk n h (suc (suc (suc (suc k))), lt, is) not = absurd (omega (arith, lt))
stands_finishing (Usage names) inputs disk n h one not = absurd h
stands_finishing (Reclear names nodes workers) inputs disk n h one not = absurd h
stands_finishing (Recheck names) inputs disk n h one not = absurd h
stands_finishing (Report names) inputs disk n h one not = absurd h
stands_finishing (Inspect names) inputs disk n h one not = absurd h
stands_finishing (Make number units names) inputs disk n h one not = absurd h
stands_finishing (Trial number units) inputs disk n h one not = absurd h
