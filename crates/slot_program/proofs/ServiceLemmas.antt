-- Workers at doors: door by door, how they ended, and the history that they share.
use Rattle.std.proofs.Common.{◌≡◌, ℕ, zero, suc, ◌+◌, ◌<◌, Bool, true, false, List, [], ◌∷◌, length, map, get_or, refl, sym, ap, subst, ◌∙◌, arith, inl, inr}
use Rattle.std.specs.Prelude.{◌⊎◌, All, Contains, is_some}
use Rattle.std.proofs.lemmas.Bool.{cases_Bool}
use Rattle.std.proofs.lemmas.List.Elements.{All-nil, All-cons, All-head, All-tail}
use Rattle.desk_outside.specs.Cause.{Rose}
use Rattle.desk_links.specs.Doors.{DoorView}
use Rattle.season_days.specs.declared.declaration.Declaration.{Declaration}
use Rattle.holding_book.specs.declared.answer.Entry.{Entry}
use Rattle.holding_book.specs.Books.{SlotBook, IsBook}
use Rattle.holding_book.specs.Asks.{CanAsk, next}
use Rattle.holding_book.specs.Histories.{replay}
use Rattle.holding_book.specs.Starts.{start_book}
use Rattle.amend_journal.specs.Told.{EndsBroken}
use Rattle.amend_journal.specs.Kept.{book_after}
use Rattle.amend_run.specs.Amended.{FitsThroughout}
use Rattle.session_desk.specs.declared.worker.DoorEnd.{DoorEnd}
use Rattle.session_desk.specs.declared.worker.DoorEnd.TheVariants as ends
use Rattle.session_desk.specs.declared.worker.DoorWork.{DoorWork}
use Rattle.session_desk.specs.Served.{Session, EndsWorker}
use Rattle.command_words.specs.Words.{Word}
use Rattle.command_words.specs.declared.job.Job.{Job}
use Rattle.command_words.specs.declared.job.Job.TheVariants.{Allocate, Check, Amend, Serve, Resume, Usage, Reclear, Recheck, Report, Inspect, Make, Trial}
use Rattle.desk_commands.specs.Judgements.{NamedBytes}
use Rattle.desk_commands.specs.Jobs.{searched_statuses, recleared_statuses, finishing_of, ServiceWorks, ResumeWorks, Works}
use Rattle.desk_commands.specs.Resumed.{resumed_status}
use Rattle.desk_commands.specs.Outside.{OutsideChange, door_faults, SomeRose}
use Rattle.desk_commands.specs.Services.{IsWorker, AreWorkers, never_breaks, is_door_end, is_full_end, is_broken_end, some_ended, served_status}

-- ---- door by door

-- what holds at each number holds door by door
pub workers_by : {D : Type 0} (view : D → DoorView) (P : ℕ → DoorView → DoorWork → DoorView → Type 0) (m : ℕ) (ds : List D) (ks : List DoorWork) (es : List D) →
    length ks ≡ length ds → length es ≡ length ds →
    ((n : ℕ) (d : D) (k : DoorWork) → n < length ds → P (m + n) (view (get_or ds n d)) (get_or ks n k) (view (get_or es n d))) →
    AreWorkers P m (map view ds) ks (map view es)
workers_by view P m [] [] [] works doors each = tt
workers_by view P m [] [] (e ∷ es) works doors each = absurd (omega (arith, doors))
workers_by view P m [] (k ∷ ks) es works doors each = absurd (omega (arith, works))
workers_by view P m (d ∷ ds) [] es works doors each = absurd (omega (arith, works))
workers_by view P m (d ∷ ds) (k ∷ ks) [] works doors each = absurd (omega (arith, doors))
workers_by view P m (d ∷ ds) (k ∷ ks) (e ∷ es) works doors each =
    let here : m + 0 ≡ m = omega arith in (
      subst (λ (n : ℕ). P n (view d) k (view e)) here (each 0 d k (omega arith)),
      workers_by view P (suc m) ds ks es (omega (arith, works)) (omega (arith, doors))
          (λ n x y lt. let next_is : m + suc n ≡ suc m + n = omega arith in subst (λ (c : ℕ). P c (view (get_or ds n x)) (get_or ks n y) (view (get_or es n x))) next_is (each (suc n) x y (omega (arith, lt)))),
    )

pub all_workers : {D : Type 0} (view : D → DoorView) (P : ℕ → DoorView → DoorWork → DoorView → Type 0) (ds : List D) (ks : List DoorWork) (es : List D) →
    length ks ≡ length ds → length es ≡ length ds →
    ((n : ℕ) (d : D) (k : DoorWork) → n < length ds → P n (view (get_or ds n d)) (get_or ks n k) (view (get_or es n d))) →
    AreWorkers P 0 (map view ds) ks (map view es)
all_workers view P ds ks es works doors each =
    workers_by view P 0 ds ks es works doors (λ n d k lt. let same : n ≡ 0 + n = omega arith in subst (λ (m : ℕ). P m (view (get_or ds n d)) (get_or ks n k) (view (get_or es n d))) same (each n d k lt))

pub no_workers : {D : Type 0} (view : D → DoorView) (P : ℕ → DoorView → DoorWork → DoorView → Type 0) (ds : List D) (works : List DoorWork) → length ds ≡ 0 → works ≡ [] → AreWorkers P 0 (map view ds) works (map view ds)
no_workers view P [] [] none empty = tt
no_workers view P [] (work ∷ works) none empty = let bad : suc (length works) ≡ 0 = ap (λ (l : List DoorWork). length l) empty in absurd (omega (arith, bad))
no_workers view P (d ∷ ds) works none empty = absurd (omega (arith, none))

-- the place of one that ended because the history was full
full_end : (end : DoorEnd) → is_full_end end ≡ true → end ≡ ends.Full
full_end ends.Full is = refl
full_end ends.Served is = absurd cc
full_end ends.Broken is = absurd cc
full_end ends.Door is = absurd cc
full_end ends.Memory is = absurd cc

pub full_at : (works : List DoorWork) → some_ended is_full_end works ≡ true → (n : ℕ) × (k : DoorWork) × (n < length works) × ((get_or works n k).end ≡ ends.Full)
full_at [] some = absurd cc
full_at (work ∷ works) some =
    elim (cases_Bool (is_full_end work.end)) [
      | inl full ↦ (0, work, omega arith, full_end work.end full)
      | inr other ↦ let at = full_at works (rw other at some) in (suc at.0, at.1, omega (arith, at.2), at.3)
    ]

-- the same of one that ended since what is kept beside the history had failed
broken_end : (end : DoorEnd) → is_broken_end end ≡ true → end ≡ ends.Broken
broken_end ends.Broken is = refl
broken_end ends.Served is = absurd cc
broken_end ends.Full is = absurd cc
broken_end ends.Door is = absurd cc
broken_end ends.Memory is = absurd cc

pub broken_at : (works : List DoorWork) → some_ended is_broken_end works ≡ true → (n : ℕ) × (k : DoorWork) × (n < length works) × ((get_or works n k).end ≡ ends.Broken)
broken_at [] some = absurd cc
broken_at (work ∷ works) some =
    elim (cases_Bool (is_broken_end work.end)) [
      | inl broken ↦ (0, work, omega arith, broken_end work.end broken)
      | inr other ↦ let at = broken_at works (rw other at some) in (suc at.0, at.1, omega (arith, at.2), at.3)
    ]

-- ---- faults of doors, by how workers ended

-- what of an end says whether the count rose
quiet_end : (end : DoorEnd) (links : ℕ) (sessions : List Session) (d e : DoorView) → is_door_end end ≡ false → EndsWorker end links sessions d e → e.faults ≡ d.faults
quiet_end ends.Served links sessions d e is ended = ended.1
quiet_end ends.Full links sessions d e is ended = ended.1
quiet_end ends.Broken links sessions d e is ended = ended.1
quiet_end ends.Memory links sessions d e is ended = ended.1
quiet_end ends.Door links sessions d e is ended = absurd cc

risen_end : (end : DoorEnd) (links : ℕ) (sessions : List Session) (d e : DoorView) → is_door_end end ≡ true → EndsWorker end links sessions d e → Rose d.faults e.faults
risen_end ends.Door links sessions d e is ended = ended.1
risen_end ends.Served links sessions d e is ended = absurd cc
risen_end ends.Full links sessions d e is ended = absurd cc
risen_end ends.Broken links sessions d e is ended = absurd cc
risen_end ends.Memory links sessions d e is ended = absurd cc

module _ {X : Type 0} (broken : List X → ℕ → Type 0) (start : SlotBook) (links : ℕ) (history : List Entry) where
  quiet_doors : (n : ℕ) (ds : List DoorView) (works : List DoorWork) (es : List DoorView) → AreWorkers (IsWorker broken start links history) n ds works es → some_ended is_door_end works ≡ false
      → map (λ (d : DoorView). d.faults) es ≡ map (λ (d : DoorView). d.faults) ds
  quiet_doors n [] [] [] all none = refl
  quiet_doors n [] [] (e ∷ es) all none = absurd all
  quiet_doors n [] (work ∷ works) es all none = absurd all
  quiet_doors n (d ∷ ds) [] es all none = absurd all
  quiet_doors n (d ∷ ds) (work ∷ works) [] all none = absurd all
  quiet_doors n (d ∷ ds) (work ∷ works) (e ∷ es) all none =
      elim (cases_Bool (is_door_end work.end)) [
        | inl door ↦ let bad : true ≡ false = rw door at none in absurd cc
        | inr calm ↦ let one = quiet_end work.end links all.0.sessions d e calm all.0.ended in
            rw (one, quiet_doors (suc n) ds works es all.1 (rw calm at none)) refl
      ]

  rose_somewhere : (n : ℕ) (ds : List DoorView) (works : List DoorWork) (es : List DoorView) → AreWorkers (IsWorker broken start links history) n ds works es → some_ended is_door_end works ≡ true → SomeRose ds es
  rose_somewhere n [] [] [] all some = absurd cc
  rose_somewhere n [] [] (e ∷ es) all some = absurd all
  rose_somewhere n [] (work ∷ works) es all some = absurd all
  rose_somewhere n (d ∷ ds) [] es all some = absurd all
  rose_somewhere n (d ∷ ds) (work ∷ works) [] all some = absurd all
  rose_somewhere n (d ∷ ds) (work ∷ works) (e ∷ es) all some =
      elim (cases_Bool (is_door_end work.end)) [
        | inl door ↦ inl (risen_end work.end links all.0.sessions d e door all.0.ended)
        | inr calm ↦ inr (rose_somewhere (suc n) ds works es all.1 (rw calm at some))
      ]

-- ---- the status of a service

ten_of_doors : (works : List DoorWork) → served_status works ≡ 10 → some_ended is_door_end works ≡ true
ten_of_doors works e =
    elim (cases_Bool (some_ended is_door_end works)) [
      | inl door ↦ door
      | inr calm ↦ elim (cases_Bool (some_ended is_full_end works)) [
        | inl full ↦ let bad : 11 ≡ 10 = rw (calm, full) at e in absurd (omega (arith, bad))
        | inr free ↦ let bad : 0 ≡ 10 = rw (calm, free) at e in absurd (omega (arith, bad))
      ]
    ]

no_door_else : (works : List DoorWork) → (served_status works ≡ 0) ⊎ (served_status works ≡ 11) → some_ended is_door_end works ≡ false
no_door_else works e =
    elim (cases_Bool (some_ended is_door_end works)) [
      | inr calm ↦ calm
      | inl door ↦ elim e [
        | inl zero_is ↦ let bad : 10 ≡ 0 = rw door at zero_is in absurd (omega (arith, bad))
        | inr eleven ↦ let bad : 10 ≡ 11 = rw door at eleven in absurd (omega (arith, bad))
      ]
    ]

service_calm : (names : List Word) (links : ℕ) (inputs writes : List NamedBytes) (change : OutsideChange) (status : ℕ) (text : List ℕ) → ServiceWorks names links inputs writes change status text
    → (status ≡ 0) ⊎ (status ≡ 11) → door_faults change.after ≡ door_faults change.before
service_calm names links [] writes change status text work is = absurd work
service_calm names links (capacity ∷ []) writes change status text work is = absurd work
service_calm names links (capacity ∷ requests ∷ []) writes change status text work is = absurd work
service_calm names links (capacity ∷ requests ∷ certificate ∷ []) writes change status text work is =
    let out = work.output in
    quiet_doors never_breaks (start_book work.season work.proved) links out.history 0 change.before.doors out.works change.after.doors out.served.workers
    (no_door_else out.works (subst (λ (n : ℕ). (n ≡ 0) ⊎ (n ≡ 11)) out.status_is is))
service_calm names links (capacity ∷ requests ∷ certificate ∷ more ∷ rest) writes change status text work is = absurd work

service_risen : (names : List Word) (links : ℕ) (inputs writes : List NamedBytes) (change : OutsideChange) (status : ℕ) (text : List ℕ) → ServiceWorks names links inputs writes change status text
    → status ≡ 10 → SomeRose change.before.doors change.after.doors
service_risen names links [] writes change status text work is = absurd work
service_risen names links (capacity ∷ []) writes change status text work is = absurd work
service_risen names links (capacity ∷ requests ∷ []) writes change status text work is = absurd work
service_risen names links (capacity ∷ requests ∷ certificate ∷ []) writes change status text work is =
    let out = work.output in
    rose_somewhere never_breaks (start_book work.season work.proved) links out.history 0 change.before.doors out.works change.after.doors out.served.workers (ten_of_doors out.works (sym out.status_is ∙ is))
service_risen names links (capacity ∷ requests ∷ certificate ∷ more ∷ rest) writes change status text work is = absurd work

-- with a journal
quiet_resumed : (failed : Bool) (works : List DoorWork) → (resumed_status failed works ≡ 0) ⊎ (resumed_status failed works ≡ 11) → some_ended is_door_end works ≡ false
quiet_resumed true works (inl bad) = absurd (omega (arith, bad))
quiet_resumed true works (inr bad) = absurd (omega (arith, bad))
quiet_resumed false works is = no_door_else works is

ten_resumed : (failed : Bool) (works : List DoorWork) → resumed_status failed works ≡ 10 → some_ended is_door_end works ≡ true
ten_resumed true works bad = absurd (omega (arith, bad))
ten_resumed false works is = ten_of_doors works is

resume_calm : (names : List Word) (links : ℕ) (inputs writes : List NamedBytes) (change : OutsideChange) (status : ℕ) (text : List ℕ) → ResumeWorks names links inputs writes change status text
    → (status ≡ 0) ⊎ (status ≡ 11) → door_faults change.after ≡ door_faults change.before
resume_calm names links [] writes change status text work is = absurd work
resume_calm names links (capacity ∷ []) writes change status text work is = absurd work
resume_calm names links (capacity ∷ requests ∷ []) writes change status text work is = absurd work
resume_calm names links (capacity ∷ requests ∷ certificate ∷ []) writes change status text work is =
    let out = work.output in
    quiet_doors EndsBroken (book_after (start_book work.season work.proved) out.pairs) links out.history 0 change.before.doors out.works change.after.doors out.served.workers
    (quiet_resumed (is_some out.failed) out.works (subst (λ (n : ℕ). (n ≡ 0) ⊎ (n ≡ 11)) out.status_is is))
resume_calm names links (capacity ∷ requests ∷ certificate ∷ more ∷ rest) writes change status text work is = absurd work

resume_risen : (names : List Word) (links : ℕ) (inputs writes : List NamedBytes) (change : OutsideChange) (status : ℕ) (text : List ℕ) → ResumeWorks names links inputs writes change status text
    → status ≡ 10 → SomeRose change.before.doors change.after.doors
resume_risen names links [] writes change status text work is = absurd work
resume_risen names links (capacity ∷ []) writes change status text work is = absurd work
resume_risen names links (capacity ∷ requests ∷ []) writes change status text work is = absurd work
resume_risen names links (capacity ∷ requests ∷ certificate ∷ []) writes change status text work is =
    let out = work.output in
    rose_somewhere EndsBroken (book_after (start_book work.season work.proved) out.pairs) links out.history 0 change.before.doors out.works change.after.doors out.served.workers (ten_resumed (is_some out.failed) out.works (sym out.status_is ∙ is))
resume_risen names links (capacity ∷ requests ∷ certificate ∷ more ∷ rest) writes change status text work is = absurd work

-- any job
pub works_calm : (job : Job) (inputs writes : List NamedBytes) (change : OutsideChange) (status : ℕ) (text : List ℕ) → Works job inputs writes change status text
    → (status ≡ 0) ⊎ (status ≡ 11) → door_faults change.after ≡ door_faults change.before
works_calm (Allocate names nodes workers) inputs writes change status text work is = ap door_faults work.0
works_calm (Check names) inputs writes change status text work is = ap door_faults work.0
works_calm (Amend names) inputs writes change status text work is = ap door_faults work.0
works_calm (Usage names) inputs writes change status text work is = ap door_faults work.0
works_calm (Reclear names nodes workers) inputs writes change status text work is = ap door_faults work.0
works_calm (Recheck names) inputs writes change status text work is = ap door_faults work.0
works_calm (Report names) inputs writes change status text work is = ap door_faults work.0
works_calm (Inspect names) inputs writes change status text work is = ap door_faults work.0
works_calm (Serve names links port workers) inputs writes change status text work is = service_calm names links inputs writes change status text work is
works_calm (Resume names links port workers) inputs writes change status text work is = resume_calm names links inputs writes change status text work is
works_calm (Make number units names) inputs writes change status text work is = ap door_faults work.0
works_calm (Trial number units) inputs writes change status text work is = ap door_faults work.0

not_ten_searched : Contains searched_statuses 10 → ⊥
not_ten_searched (zero, lt, is) = omega (arith, is)
not_ten_searched (suc zero, lt, is) = omega (arith, is)
not_ten_searched (suc (suc zero), lt, is) = omega (arith, is)
not_ten_searched (suc (suc (suc k)), lt, is) = omega (arith, lt)

not_ten_recleared : Contains recleared_statuses 10 → ⊥
not_ten_recleared (zero, lt, is) = omega (arith, is)
not_ten_recleared (suc zero, lt, is) = omega (arith, is)
not_ten_recleared (suc (suc k), lt, is) = omega (arith, lt)

not_ten_zero : Contains {X = ℕ} (0 ∷ []) 10 → ⊥
not_ten_zero (zero, lt, is) = omega (arith, is)
not_ten_zero (suc k, lt, is) = omega (arith, lt)

-- `finishing` says which statuses the job has
pub works_risen : (job : Job) (inputs writes : List NamedBytes) (change : OutsideChange) (text : List ℕ) → Works job inputs writes change 10 text → Contains (finishing_of job) 10
    → SomeRose change.before.doors change.after.doors
works_risen (Allocate names nodes workers) inputs writes change text work one = absurd (not_ten_searched one)
works_risen (Check names) inputs writes change text work one = absurd (not_ten_zero one)
works_risen (Amend names) inputs writes change text work one = absurd (not_ten_zero one)
works_risen (Usage names) inputs writes change text work one = absurd (not_ten_zero one)
works_risen (Reclear names nodes workers) inputs writes change text work one = absurd (not_ten_recleared one)
works_risen (Recheck names) inputs writes change text work one = absurd (not_ten_zero one)
works_risen (Report names) inputs writes change text work one = absurd (not_ten_zero one)
works_risen (Inspect names) inputs writes change text work one = absurd (not_ten_zero one)
works_risen (Serve names links port workers) inputs writes change text work one = service_risen names links inputs writes change 10 text work refl
works_risen (Resume names links port workers) inputs writes change text work one = resume_risen names links inputs writes change 10 text work refl
works_risen (Make number units names) inputs writes change text work one = absurd (not_ten_zero one)
works_risen (Trial number units) inputs writes change text work one = absurd (not_ten_searched one)

-- ---- the book fits throughout a history

abbrev pub CanAskEntry : Declaration → Entry → Type 0
CanAskEntry declaration entry = CanAsk declaration entry.ask

-- as the law on replays says it
abbrev pub ReplayKeeps : Type 0
ReplayKeeps = (b : SlotBook) (history : List Entry) → (replay b history).declaration ≡ b.declaration

abbrev pub ReplayIsBook : Type 0
ReplayIsBook = (b : SlotBook) (history : List Entry) → IsBook b → All (CanAskEntry b.declaration) history → IsBook (replay b history)

pub fits_throughout : (b : SlotBook) (history : List Entry) → ReplayKeeps → ReplayIsBook → IsBook b → All (CanAskEntry b.declaration) history → FitsThroughout b history
fits_throughout b [] same keeps is can = is.fits
fits_throughout b (entry ∷ later) same keeps is can = (
  is.fits,
  fits_throughout (next b entry.ask) later same keeps
      (keeps b (entry ∷ []) is (All-cons (CanAskEntry b.declaration) entry [] (All-head (CanAskEntry b.declaration) entry later can) (All-nil (CanAskEntry b.declaration))))
      (subst (λ (d : Declaration). All (CanAskEntry d) later) (sym (same b (entry ∷ []))) (All-tail (CanAskEntry b.declaration) entry later can)),
)
