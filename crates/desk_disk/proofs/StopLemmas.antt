-- Calls of a disk, one after the other.
use Rattle.std.proofs.lemmas.Bool.{cases_Bool}
use Rattle.std.proofs.lemmas.Slice.{drop-append-drop}
use Rattle.std.proofs.Common.{◌≡◌, ℕ, ◌+◌, ◌≤◌, nat_le, min, max, Option, Some, None, subst, List, [], ◌∷◌, ◌++◌, length, take, drop, refl, sym, ap, ◌∙◌, append_assoc, length-append, length-drop, arith, inl, inr}
use Rattle.std.proofs.lemmas.List.{take-append-le, take_all, length-take, length-take-le}
use Rattle.std.specs.Option.{unwrap_or}
use Rattle.desk_outside.specs.Failures.{sent_bytes}
use Rattle.desk_outside.specs.declared.failures.Failure.{Failure}
use Rattle.desk_disk.specs.Stops.{DiskPassage, measured, read_at, wrote_at, write_failed_at, cut_to, cut_failed, synced, sync_failed, IsFirstImage, over, Torn, IsCutAt, read_after, left_after, ReadAfter, LeftAfter, DiskStart, IsFirst, MayRead}
use Rattle.desk_disk.specs.Disks.{shown_by, shown_from, shown_length}

pub read_more : (R : List ℕ → Type 0) (log more : List DiskPassage) (c : List ℕ) → ReadAfter R (log ++ more) c → ReadAfter (ReadAfter R log) more c
read_more R [] more c h = h
read_more R (p ∷ log) more c h = read_more (read_after p R) log more c h

pub read_whole : (R : List ℕ → Type 0) (log more : List DiskPassage) (c : List ℕ) → ReadAfter (ReadAfter R log) more c → ReadAfter R (log ++ more) c
read_whole R [] more c h = h
read_whole R (p ∷ log) more c h = read_whole (read_after p R) log more c h

pub left_more : (R I : List ℕ → Type 0) (log more : List DiskPassage) (c : List ℕ) → LeftAfter R I (log ++ more) c → LeftAfter (ReadAfter R log) (LeftAfter R I log) more c
left_more R I [] more c h = h
left_more R I (p ∷ log) more c h = left_more (read_after p R) (left_after p R I) log more c h

pub left_whole : (R I : List ℕ → Type 0) (log more : List DiskPassage) (c : List ℕ) → LeftAfter (ReadAfter R log) (LeftAfter R I log) more c → LeftAfter R I (log ++ more) c
left_whole R I [] more c h = h
left_whole R I (p ∷ log) more c h = left_whole (read_after p R) (left_after p R I) log more c h

pub shown_snoc : (least : ℕ) (log : List DiskPassage) (p : DiskPassage) → shown_from least (log ++ p ∷ []) ≡ shown_by p (shown_from least log)
shown_snoc least [] p = refl
shown_snoc least (q ∷ log) p = shown_snoc (shown_by q least) log p

-- a call that changed nothing left an image that a stop within it may leave
pub torn_same : (at n : ℕ) (old : List ℕ) → Torn at n old old
torn_same at n old = record { front = refl; back = refl; no_shorter = omega arith; no_longer = omega arith }

pub length-over : (old bytes : List ℕ) (at : ℕ) → at ≤ length old → length (over old at bytes) ≡ max (length old) (at + length bytes)
length-over old bytes at le =
    omega (arith, length-append (take at old) (bytes ++ drop (at + length bytes) old), length-append bytes (drop (at + length bytes) old), length-take-le at old le, length-drop (at + length bytes) old)

front_over : (old bytes : List ℕ) (at : ℕ) → at ≤ length old → take at (over old at bytes) ≡ take at old
front_over old bytes at le =
    take-append-le at (take at old) (bytes ++ drop (at + length bytes) old) (omega (arith, length-take-le at old le))
    ∙ take_all at (take at old) (omega (arith, length-take-le at old le))

-- a front of the bytes, written over what is there
pub torn_over : (old bytes front : List ℕ) (at : ℕ) → at ≤ length old → length front ≤ length bytes → Torn at (length bytes) old (over old at front)
torn_over old bytes front at le short =
    let m = length front in
    let n = length bytes in
    let long : length (take at old ++ front) ≡ at + m = omega (arith, length-append (take at old) front, length-take-le at old le) in
    record {
      front = front_over old front at le;
      back =
          ap (drop (at + n)) (sym (append_assoc (take at old) front (drop (at + m) old)))
          ∙ drop-append-drop (at + m) old (take at old ++ front) (at + n) (omega arith) long;
      no_shorter = omega (arith, length-over old front at le);
      no_longer = omega (arith, length-over old front at le);
    }

-- a cut that changed nothing left a length that a stop within it may leave
pub cut_same : (n : ℕ) (old : List ℕ) → IsCutAt n old old
cut_same n old = (max n (length old), omega arith, sym (take_all (max n (length old)) old (omega arith)))

-- what a write appends that fails is no longer than its bytes
pub front_short : (free : ℕ) (failure : Option Failure) (bytes : List ℕ) → length (sent_bytes free failure bytes) ≤ length bytes
front_short free None bytes =
    elim (cases_Bool (nat_le (length bytes) free)) [
      | inl fits ↦ rw fits (omega arith)
      | inr past ↦ rw past (omega arith)
    ]
front_short free (Some failure) bytes = omega (arith, length-take (min (unwrap_or failure.part 0) free) bytes)

left_of_read : (p : DiskPassage) (R I : List ℕ → Type 0) (new : List ℕ) → ((c : List ℕ) → R c → I c) → read_after p R new → left_after p R I new
left_of_read (measured n) R I new among read = among new read.0
left_of_read (read_at at bytes) R I new among read = among new read.0
left_of_read (wrote_at at bytes) R I new among read =
    (read.0, among read.0 read.1, subst (λ (l : List ℕ). Torn at (length bytes) read.0 l) (sym read.3) (torn_over read.0 bytes bytes at read.2 (omega arith)))
left_of_read (write_failed_at at bytes) R I new among read = (read.0, among read.0 read.1, read.2)
left_of_read (cut_to n) R I new among read = (read.0, among read.0 read.1, (n, omega arith, read.2))
left_of_read (cut_failed n) R I new among read = (read.0, among read.0 read.1, read.2)
left_of_read synced R I new among read = read
left_of_read sync_failed R I new among read = among new read

-- the file as it reads is among the images that a stop may leave
pub read_is_left : (log : List DiskPassage) (R I : List ℕ → Type 0) (new : List ℕ) → ((c : List ℕ) → R c → I c) → ReadAfter R log new → LeftAfter R I log new
read_is_left [] R I new among read = among new read
read_is_left (p ∷ log) R I new among read = read_is_left log (read_after p R) (left_after p R I) new (λ c. left_of_read p R I c among) read

pub first_is_image : (s : DiskStart) (c : List ℕ) → IsFirst s c → IsFirstImage s c
first_is_image s c is = (0, omega arith, sym is)

-- what a disk in memory holds after one call more
pub held_on : (s : DiskStart) (log now : List DiskPassage) (p : DiskPassage) (new : List ℕ) → now ≡ log ++ p ∷ [] → read_after p (MayRead s log) new → shown_by p (shown_length log) ≤ length new
    → MayRead s now new × (shown_length now ≤ length new)
held_on s log now p new is read shown =
    subst (λ (l : List DiskPassage). MayRead s l new × (shown_length l ≤ length new)) (sym is)
    (read_whole (IsFirst s) log (p ∷ []) new read, subst (λ (n : ℕ). n ≤ length new) (sym (shown_snoc 0 log p)) shown)
