-- What an opening leaves.
use Rattle.std.proofs.Common.{◌≡◌, ◌⊎◌, ℕ, ◌+◌, ◌≤◌, List, [], ◌∷◌, ◌++◌, length, take, drop, refl, sym, ap, subst, ◌∙◌, append-nil, length-append, inl, inr, arith, Result, Ok, Err, IfOk, IfErr, Option, Some, None}
use Rattle.std.specs.Prelude.{IfSome, IsErrAnd}
use Rattle.std.proofs.lemmas.List.{length-take, drop_all, nil_from_length}
use Rattle.std.proofs.lemmas.List.Elements.{All-nil}
use Rattle.season_days.specs.Term.{Term}
use Rattle.desk_disk.specs.Stops.{DiskPassage, measured, read_at, wrote_at, write_failed_at, cut_to, cut_failed, synced, sync_failed, read_after, over, Torn, IsCutAt, ReadAfter, LeftAfter, DiskStart, MayRead, MayLeave, Agrees, AtEachMoment}
use Rattle.desk_disk.specs.Disks.{DiskView, ToldDisk, TellsTruly, Stores, Shortens}
use Rattle.amend_journal.specs.Format.{header, open_slots, slot_bytes, IsFit, IsJournalOf}
use Rattle.amend_journal.specs.Standing.{StandsFor, HasFault}
use Rattle.amend_journal.specs.Durable.{told_start, ReadsAs, AreDurable, StandsAlike, LeavesNoWorse, IsLaterDisk}
use Rattle.amend_journal.specs.Private.{OnlyLooked, IsShort, AlwaysFaulty, AlwaysJournalOf}
use Rattle.amend_journal.specs.declared.asked.Asked.{Asked}
use Rattle.amend_journal.specs.declared.fault.OpenFault.{OpenFault}
use Rattle.amend_journal.specs.declared.fault.OpenFault.TheVariants.{DiskFault}
use Rattle.amend_journal.proofs.MomentLemmas.{looks_read, looks_left, looks_always, moments_join, moments_weaker, no_moment, ReadBack, LeftBack}
use Rattle.amend_journal.proofs.FormatLemmas.{length-header}

-- ---- what a disk tells of its start

pub stores_start : {E : Type 0} (told : Option ToldDisk) (at : ℕ) (bytes : List ℕ) (result : Result (Unit {0}) E) (after : Option ToldDisk) → Stores told at bytes result after → told_start after ≡ told_start told
stores_start None at bytes result after h = ap told_start h
stores_start (Some t) at bytes (Ok _) after h = ap told_start h
stores_start (Some t) at bytes (Err e) after h = ap told_start h.2

pub shortens_start : {E : Type 0} (told : Option ToldDisk) (n : ℕ) (result : Result (Unit {0}) E) (after : Option ToldDisk) → Shortens told n result after → told_start after ≡ told_start told
shortens_start None n result after h = ap told_start h
shortens_start (Some t) n (Ok _) after h = ap told_start h
shortens_start (Some t) n (Err e) after h = ap told_start h.2

-- ---- calls that only looked

abbrev pub ReadLaw : Type 0
ReadLaw = (s : DiskStart) (log more : List DiskPassage) (c : List ℕ) → MayRead s (log ++ more) c → ReadAfter (MayRead s log) more c

abbrev pub LeftLaw : Type 0
LeftLaw = (s : DiskStart) (log more : List DiskPassage) (c : List ℕ) → MayLeave s (log ++ more) c → LeftAfter (MayRead s log) (MayLeave s log) more c

-- ---- the same disk after one call

-- a content that may be read after a call comes from one that might be read before
read_before : (p : DiskPassage) (R : List ℕ → Type 0) (c : List ℕ) → read_after p R c → (old : List ℕ) × R old
read_before (measured n) R c h = (c, h.0)
read_before (read_at at bytes) R c h = (c, h.0)
read_before (wrote_at at bytes) R c h = (h.0, h.1)
read_before (write_failed_at at bytes) R c h = (h.0, h.1)
read_before (cut_to n) R c h = (h.0, h.1)
read_before (cut_failed n) R c h = (h.0, h.1)
read_before synced R c h = (c, h)
read_before sync_failed R c h = (c, h)

pub later_call : (a b : DiskView) (p : DiskPassage) → ReadLaw → b.log ≡ a.log ++ p ∷ [] → told_start b.told ≡ told_start a.told → TellsTruly b → IsLaterDisk a b
later_call a b p law log start truly = record {
  start = start;
  truly = λ _. truly;
  agrees = λ s h. read_before p (MayRead s a.log) h.0 (law s a.log (p ∷ []) h.0 (subst (λ (l : List DiskPassage). MayRead s l h.0) log h.1));
}

pub looked_read : (s : DiskStart) (a b : List DiskPassage) → ReadLaw → OnlyLooked a b → (c : List ℕ) → MayRead s b c → MayRead s a c
looked_read s a b law looked c h =
    looks_read looked.more (MayRead s a) c looked.looks (law s a looked.more c (subst (λ (l : List DiskPassage). MayRead s l c) looked.log h))

pub looked_left : (s : DiskStart) (a b : List DiskPassage) → LeftLaw → OnlyLooked a b → (c : List ℕ) → MayLeave s b c → MayLeave s a c
looked_left s a b law looked c h =
    looks_left looked.more (MayRead s a) (MayLeave s a) c looked.looks (law s a looked.more c (subst (λ (l : List DiskPassage). MayLeave s l c) looked.log h))

pub looked_moments : (P : List ℕ → Type 0) (s : DiskStart) (a b : List DiskPassage) → OnlyLooked a b → ((c : List ℕ) → MayLeave s a c → P c) → AtEachMoment s a b P
looked_moments P s a b looked h = (looked.more, looked.log, looks_always P looked.more (MayRead s a) (MayLeave s a) looked.looks h)

-- ---- a file of at most 17 bytes

more_slots : (season : Term) (asks : List Asked) → length asks ≤ length (open_slots season asks)
more_slots season [] = omega arith
more_slots season (asked ∷ asks) = omega (arith, length-append (slot_bytes season asked) (open_slots season asks), more_slots season asks)

pub short_none : (season : Term) (asks : List Asked) (file : List ℕ) → length file ≤ 17 → StandsFor season asks file → asks ≡ []
short_none season asks file short (inl none) = none.1
short_none season asks file short (inr journal) =
    let block = header ++ open_slots season asks in
    let few : length asks ≡ 0 = omega (arith, short, ap length journal.closed.at.is, length-append block (journal.closed.gate ∷ journal.closed.at.behind), length-append header (open_slots season asks), length-header, more_slots season asks) in
    nil_from_length asks few

pub short_stands : (season : Term) (asks : List Asked) (file : List ℕ) → length file ≤ 17 → StandsFor season asks file → (c : List ℕ) → length c ≤ 17 → StandsFor season asks c
short_stands season asks file short stands c is = inl (is, short_none season asks file short stands)

-- ---- a file made anew

pub empty_is_journal : (season : Term) (c : List ℕ) → c ≡ header ++ 0 ∷ [] → IsJournalOf season [] c
empty_is_journal season c is = record {
  fit = All-nil (IsFit season);
  few = omega arith;
  closed = record {
    gate = 0;
    closed = λ e. absurd (omega (arith, e));
    at = record { behind = []; is = is ∙ ap (λ (l : List ℕ). l ++ 0 ∷ []) (sym (append-nil header)) };
  };
}

module _ (s : DiskStart) (log : List DiskPassage) (bytes : List ℕ) (long : length bytes ≡ 17) where
  module _ (short : IsShort s log) where
    pub cut_short : (c : List ℕ) → ((old : List ℕ) × MayLeave s log old × IsCutAt 0 old c) → length c ≤ 17
    cut_short c cut = omega (arith, ap length cut.2.2, length-take cut.2.0 cut.0, short cut.0 cut.1)

    pub torn_short : (c : List ℕ) → ((old : List ℕ) × ((first : List ℕ) × MayLeave s log first × IsCutAt 0 first old) × Torn 0 (length bytes) old c) → length c ≤ 17
    torn_short c torn = omega (arith, torn.2.no_longer, cut_short torn.0 torn.1, long)

  abbrev pub Written : List ℕ → Type 0
  Written c = (old : List ℕ) × ((first : List ℕ) × MayRead s log first × (old ≡ take 0 first)) × (0 ≤ length old) × (c ≡ over old 0 bytes)

  pub written_is : (c : List ℕ) → Written c → c ≡ bytes
  written_is c w =
      let none : w.0 ≡ [] = w.1.2 in
      w.3 ∙ ap (λ (l : List ℕ). take 0 l ++ (bytes ++ drop (0 + length bytes) l)) none
      ∙ ap (λ (l : List ℕ). bytes ++ l) (drop_all (0 + length bytes) [] (omega arith)) ∙ append-nil bytes

  pub written_short : (c : List ℕ) → Written c → length c ≤ 17
  written_short c w = omega (arith, ap length (written_is c w), long)

-- ---- an opening that only looked, over calls of which a stop leaves what a read gives

pub measured_look : (log now : List DiskPassage) (n : ℕ) → now ≡ log ++ measured n ∷ [] → OnlyLooked log now
measured_look log now n is = record { more = measured n ∷ []; log = is; looks = tt }

pub measured_length : (s : DiskStart) (file : List ℕ) (log now : List DiskPassage) (n : ℕ) → ReadLaw → now ≡ log ++ measured n ∷ [] → ReadsAs s log file → Agrees s now → length file ≡ n
measured_length s file log now n law is reads agrees =
    let h = law s log (measured n ∷ []) agrees.0 (subst (λ (l : List DiskPassage). MayRead s l agrees.0) is agrees.1) in
    ap length (sym (reads agrees.0 h.0)) ∙ h.1

module _ (season : Term) (s : DiskStart) (file : List ℕ) (old now : List DiskPassage) (law : ReadLaw) (looked : OnlyLooked old now) (reads : ReadsAs s old file) (agrees : Agrees s now) where
  is_file : agrees.0 ≡ file
  is_file = reads agrees.0 (looked_read s old now law looked agrees.0 agrees.1)

  pub looked_found : (asks : List Asked) → AlwaysJournalOf season now asks → IsJournalOf season asks file
  looked_found asks always = subst (λ (c : List ℕ). IsJournalOf season asks c) is_file (always s agrees.0 agrees.1)

  pub looked_fault : (fault : OpenFault) → AlwaysFaulty season now fault → HasFault season fault file
  looked_fault fault always = subst (λ (c : List ℕ). HasFault season fault c) is_file (always s agrees.0 agrees.1)

pub looked_durable : (season : Term) (s : DiskStart) (file : List ℕ) (old now : List DiskPassage) (asks : List Asked) → LeftLaw → OnlyLooked old now → ((c : List ℕ) → MayLeave s old c → c ≡ file) → IsJournalOf season asks file → AreDurable s now season asks
looked_durable season s file old now asks law looked only journal = record {
  fit = journal.fit;
  left = λ c left. subst (λ (l : List ℕ). IsJournalOf season asks l) (sym (only c (looked_left s old now law looked c left))) journal;
}

pub looked_stands : (season : Term) (s : DiskStart) (file : List ℕ) (old now : List DiskPassage) (asks : List Asked) → OnlyLooked old now → ((c : List ℕ) → MayLeave s old c → c ≡ file) → StandsFor season asks file → AtEachMoment s old now (StandsFor season asks)
looked_stands season s file old now asks looked only stands =
    looked_moments (StandsFor season asks) s old now looked (λ c left. subst (λ (l : List ℕ). StandsFor season asks l) (sym (only c left)) stands)

-- ---- an opening that makes the file anew

pub new_stands : (season : Term) (s : DiskStart) (file : List ℕ) (old mid now : List DiskPassage) (asks : List Asked) → LeftLaw → ReadBack → LeftBack → OnlyLooked old mid → ((c : List ℕ) → MayLeave s old c → c ≡ file) → length file ≤ 17 → StandsFor season asks file
    → (IsShort s mid → AtEachMoment s mid now (λ c. length c ≤ 17)) → AtEachMoment s old now (StandsFor season asks)
new_stands season s file old mid now asks law read_back left_back looked only short stands make =
    moments_join (StandsFor season asks) s old mid now read_back left_back
    (looked_stands season s file old mid asks looked only stands)
    (moments_weaker (λ c. length c ≤ 17) (StandsFor season asks) s mid now (short_stands season asks file short stands)
    (make (λ c left. omega (arith, short, ap length (only c (looked_left s old mid law looked c left))))))

-- ---- what a sync leaves

pub synced_reads : (s : DiskStart) (file : List ℕ) (log now : List DiskPassage) → ReadLaw → now ≡ log ++ synced ∷ [] → ReadsAs s log file → ReadsAs s now file
synced_reads s file log now law is reads c h = reads c (law s log (synced ∷ []) c (subst (λ (l : List DiskPassage). MayRead s l c) is h))

pub synced_leaves : (s : DiskStart) (file : List ℕ) (log now : List DiskPassage) → LeftLaw → now ≡ log ++ synced ∷ [] → ReadsAs s log file → (c : List ℕ) → MayLeave s now c → c ≡ file
synced_leaves s file log now law is reads c h = reads c (law s log (synced ∷ []) c (subst (λ (l : List DiskPassage). MayLeave s l c) is h))

-- ---- no image is worse than before

abbrev NoWorse : DiskStart → List DiskPassage → Term → List ℕ → List ℕ → Type 0
NoWorse s before season file image = MayLeave s before image ⊎ StandsAlike season file image

pub looked_no_worse : (season : Term) (s : DiskStart) (file : List ℕ) (old now : List DiskPassage) → OnlyLooked old now → LeavesNoWorse s old now season file
looked_no_worse season s file old now looked = looked_moments (NoWorse s old season file) s old now looked (λ c left. inl left)

pub same_no_worse : (season : Term) (s : DiskStart) (file : List ℕ) (old now : List DiskPassage) → now ≡ old → LeavesNoWorse s old now season file
same_no_worse season s file old now is =
    subst (λ (l : List DiskPassage). AtEachMoment s old l (NoWorse s old season file)) (sym is)
    (no_moment (NoWorse s old season file) s old (λ c left. inl left))

pub new_no_worse : (season : Term) (s : DiskStart) (file : List ℕ) (old mid now : List DiskPassage) → LeftLaw → ReadBack → LeftBack → OnlyLooked old mid → ((c : List ℕ) → MayLeave s old c → c ≡ file) → length file ≤ 17
    → (IsShort s mid → AtEachMoment s mid now (λ c. length c ≤ 17)) → LeavesNoWorse s old now season file
new_no_worse season s file old mid now law read_back left_back looked only short make =
    moments_join (NoWorse s old season file) s old mid now read_back left_back
    (looked_moments (NoWorse s old season file) s old mid looked (λ c left. inl left))
    (moments_weaker (λ c. length c ≤ 17) (NoWorse s old season file) s mid now
    (λ c is. inr (record { asks = []; found = inl (short, refl); left = inl (is, refl) }))
    (make (λ c left. omega (arith, short, ap length (only c (looked_left s old mid law looked c left))))))

pub failed_no_worse : (season : Term) (s : DiskStart) (file : List ℕ) (old now : List DiskPassage) → now ≡ old ++ sync_failed ∷ [] → LeavesNoWorse s old now season file
failed_no_worse season s file old now is = (sync_failed ∷ [], is, (λ c left. inl left, λ c left. inl left))

still_no_worse : (season : Term) (s : DiskStart) (file : List ℕ) (old mid : List DiskPassage) → ((c : List ℕ) → MayLeave s mid c → MayLeave s old c) → (c : List ℕ) → NoWorse s mid season file c → NoWorse s old season file c
still_no_worse season s file old mid back c (inl left) = inl (back c left)
still_no_worse season s file old mid back c (inr alike) = inr alike

pub synced_no_worse : (season : Term) (s : DiskStart) (file : List ℕ) (old mid now : List DiskPassage) → LeftLaw → ReadBack → LeftBack → ((c : List ℕ) → MayRead s old c → MayLeave s old c) → mid ≡ old ++ synced ∷ [] → LeavesNoWorse s mid now season file → LeavesNoWorse s old now season file
synced_no_worse season s file old mid now law read_back left_back among is later =
    moments_join (NoWorse s old season file) s old mid now read_back left_back
    (synced ∷ [], is, (λ c left. inl left, λ c read. inl (among c read)))
    (moments_weaker (NoWorse s mid season file) (NoWorse s old season file) s mid now
    (still_no_worse season s file old mid (λ c left. among c (law s old (synced ∷ []) c (subst (λ (l : List DiskPassage). MayLeave s l c) is left))))
    later)

-- ---- answers of an opening

abbrev pub IsFound : Term → List DiskPassage → List DiskPassage → List Asked → Type 0
IsFound season old now asks = (s : DiskStart) (file : List ℕ) → ReadsAs s old file → Agrees s now → StandsFor season asks file

abbrev pub IsFaulty : Term → List DiskPassage → List DiskPassage → OpenFault → Type 0
IsFaulty season old now fault = (s : DiskStart) (file : List ℕ) → ReadsAs s old file → Agrees s now → HasFault season fault file

abbrev pub AreKept : Term → List DiskPassage → List DiskPassage → List Asked → Type 0
AreKept season old now asks = (s : DiskStart) (file : List ℕ) → ReadsAs s old file → Agrees s now → AreDurable s now season asks

abbrev pub AreKeptSynced : Term → List DiskPassage → List DiskPassage → List Asked → Type 0
AreKeptSynced season old now asks = (s : DiskStart) (file : List ℕ) → ((c : List ℕ) → MayLeave s old c → c ≡ file) → Agrees s now → AreDurable s now season asks

abbrev pub Among : Type 0
Among = (s : DiskStart) (log : List DiskPassage) (c : List ℕ) → MayRead s log c → MayLeave s log c

pub found_of : {T : Type 0} (r : Result T OpenFault) (items : T → List Asked) (season : Term) (old now : List DiskPassage) → ReadLaw → OnlyLooked old now → IfOk r (λ t. AlwaysJournalOf season now (items t)) → IfOk r (λ t. IsFound season old now (items t))
found_of (Ok t) items season old now law looked always = λ s file reads agrees. inr (looked_found season s file old now law looked reads agrees (items t) always)
found_of (Err e) items season old now law looked always = tt

pub fault_of : {T : Type 0} (r : Result T OpenFault) (season : Term) (old now : List DiskPassage) → ReadLaw → OnlyLooked old now → IfErr r (AlwaysFaulty season now) → IfErr r (IsFaulty season old now)
fault_of (Ok t) season old now law looked always = tt
fault_of (Err e) season old now law looked always = λ s file reads agrees. looked_fault season s file old now law looked reads agrees e always

pub durable_of : {T : Type 0} (r : Result T OpenFault) (items : T → List Asked) (season : Term) (old now : List DiskPassage) → ReadLaw → LeftLaw → Among → OnlyLooked old now → IfOk r (λ t. AlwaysJournalOf season now (items t)) → IfOk r (λ t. AreKeptSynced season old now (items t))
durable_of (Ok t) items season old now law left_law among looked always = λ s file only agrees.
    looked_durable season s file old now (items t) left_law looked only
    (looked_found season s file old now law looked (λ c h. only c (among s old c h)) agrees (items t) always)
durable_of (Err e) items season old now law left_law among looked always = tt

pub synced_found : {T : Type 0} (r : Result T OpenFault) (items : T → List Asked) (season : Term) (old mid now : List DiskPassage) → ReadLaw → mid ≡ old ++ synced ∷ [] → IfOk r (λ t. IsFound season mid now (items t)) → IfOk r (λ t. IsFound season old now (items t))
synced_found (Ok t) items season old mid now law is h = λ s file reads agrees. h s file (synced_reads s file old mid law is reads) agrees
synced_found (Err e) items season old mid now law is h = tt

pub synced_fault : {T : Type 0} (r : Result T OpenFault) (season : Term) (old mid now : List DiskPassage) → ReadLaw → mid ≡ old ++ synced ∷ [] → IfErr r (IsFaulty season mid now) → IfErr r (IsFaulty season old now)
synced_fault (Ok t) season old mid now law is h = tt
synced_fault (Err e) season old mid now law is h = λ s file reads agrees. h s file (synced_reads s file old mid law is reads) agrees

pub synced_durable : {T : Type 0} (r : Result T OpenFault) (items : T → List Asked) (season : Term) (old mid now : List DiskPassage) → LeftLaw → mid ≡ old ++ synced ∷ [] → IfOk r (λ t. AreKeptSynced season mid now (items t)) → IfOk r (λ t. AreKept season old now (items t))
synced_durable (Ok t) items season old mid now law is h = λ s file reads agrees. h s file (synced_leaves s file old mid law is reads) agrees
synced_durable (Err e) items season old mid now law is h = tt

-- ---- what a disk tells that it holds

any_told : (told : Option ToldDisk) → IfSome told (λ (t : ToldDisk). Unit {0})
any_told None = tt
any_told (Some t) = tt

-- a fault of the disk refuses no content
pub disk_fault_told : {T : Type 0} (r : Result T OpenFault) (season : Term) (told : Option ToldDisk) → IsErrAnd r (λ fault. fault ≡ DiskFault) → IfErr r (λ fault. IfSome told (λ (d : ToldDisk). HasFault season fault d.bytes))
disk_fault_told (Ok t) season told h = tt
disk_fault_told (Err e) season told h = subst (λ (f : OpenFault). IfSome told (λ (d : ToldDisk). HasFault season f d.bytes)) (sym h) (any_told told)

-- what is so of all that may be read is so of what the disk told before its calls, and still tells
pub told_is : (P : List ℕ → Type 0) (before now : DiskView) → TellsTruly now → now.told ≡ before.told → ((s : DiskStart) (c : List ℕ) → MayRead s now.log c → P c) → IfSome before.told (λ (t : ToldDisk). P t.bytes)
told_is P before now truly same always =
    subst (λ (o : Option ToldDisk). IfSome o (λ (t : ToldDisk). P t.bytes)) same (of now.told truly)
  where
    of : (o : Option ToldDisk) → IfSome o (λ (t : ToldDisk). MayRead t.start now.log t.bytes) → IfSome o (λ (t : ToldDisk). P t.bytes)
    of None h = tt
    of (Some t) h = always t.start t.bytes h

pub told_found_of : {T : Type 0} (r : Result T OpenFault) (items : T → List Asked) (season : Term) (before now : DiskView) → TellsTruly now → now.told ≡ before.told → IfOk r (λ t. AlwaysJournalOf season now.log (items t)) → IfOk r (λ t. IfSome before.told (λ (d : ToldDisk). StandsFor season (items t) d.bytes))
told_found_of (Ok t) items season before now truly same always = told_is (StandsFor season (items t)) before now truly same (λ s c h. inr (always s c h))
told_found_of (Err e) items season before now truly same always = tt

pub told_fault_of : {T : Type 0} (r : Result T OpenFault) (season : Term) (before now : DiskView) → TellsTruly now → now.told ≡ before.told → IfErr r (AlwaysFaulty season now.log) → IfErr r (λ fault. IfSome before.told (λ (d : ToldDisk). HasFault season fault d.bytes))
told_fault_of (Ok t) season before now truly same always = tt
told_fault_of (Err e) season before now truly same always = told_is (HasFault season e) before now truly same always
