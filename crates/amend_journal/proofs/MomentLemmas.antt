-- Calls of a disk, one after the other: what they leave at each moment.
use Rattle.std.proofs.Common.{◌≡◌, ℕ, List, [], ◌∷◌, ◌++◌, sym, ap, subst, ◌∙◌, append_assoc, append-nil}
use Rattle.desk_disk.specs.Stops.{DiskPassage, measured, read_at, wrote_at, write_failed_at, cut_to, cut_failed, synced, sync_failed, read_after, left_after, ReadAfter, LeftAfter, AlwaysLeft, DiskStart, MayRead, MayLeave, AtEachMoment}
use Rattle.desk_disk.specs.Disks.{DiskView}
use Rattle.amend_journal.specs.Durable.{IsLaterDisk}
use Rattle.amend_journal.specs.Private.{AreLooks, OnlyLooked}

-- ---- calls that only looked

pub looks_read : (more : List DiskPassage) (R : List ℕ → Type 0) (c : List ℕ) → AreLooks more → ReadAfter R more c → R c
looks_read [] R c looks h = h
looks_read (measured n ∷ more) R c looks h = (looks_read more (read_after (measured n) R) c looks h).0
looks_read (read_at at bytes ∷ more) R c looks h = (looks_read more (read_after (read_at at bytes) R) c looks h).0
looks_read (p ∷ more) R c looks h = absurd looks

pub looks_left : (more : List DiskPassage) (R I : List ℕ → Type 0) (c : List ℕ) → AreLooks more → LeftAfter R I more c → I c
looks_left [] R I c looks h = h
looks_left (measured n ∷ more) R I c looks h = looks_left more (read_after (measured n) R) (left_after (measured n) R I) c looks h
looks_left (read_at at bytes ∷ more) R I c looks h = looks_left more (read_after (read_at at bytes) R) (left_after (read_at at bytes) R I) c looks h
looks_left (p ∷ more) R I c looks h = absurd looks

pub looks_always : (P : List ℕ → Type 0) (more : List DiskPassage) (R I : List ℕ → Type 0) → AreLooks more → ((c : List ℕ) → I c → P c) → AlwaysLeft P R I more
looks_always P [] R I looks h = h
looks_always P (measured n ∷ more) R I looks h = (h, looks_always P more (read_after (measured n) R) (left_after (measured n) R I) looks h)
looks_always P (read_at at bytes ∷ more) R I looks h = (h, looks_always P more (read_after (read_at at bytes) R) (left_after (read_at at bytes) R I) looks h)
looks_always P (p ∷ more) R I looks h = absurd looks

pub looks_append : (more later : List DiskPassage) → AreLooks more → AreLooks later → AreLooks (more ++ later)
looks_append [] later a b = b
looks_append (measured n ∷ more) later a b = looks_append more later a b
looks_append (read_at at bytes ∷ more) later a b = looks_append more later a b
looks_append (p ∷ more) later a b = absurd a

pub no_look : (log : List DiskPassage) → OnlyLooked log log
no_look log = record { more = []; log = sym (append-nil log); looks = tt }

pub looks_join : (a b c : List DiskPassage) → OnlyLooked a b → OnlyLooked b c → OnlyLooked a c
looks_join a b c one two = record {
  more = one.more ++ two.more;
  log = two.log ∙ ap (λ (l : List DiskPassage). l ++ two.more) one.log ∙ append_assoc a one.more two.more;
  looks = looks_append one.more two.more one.looks two.looks;
}

-- one call behind those since the first log
pub one_more : (log more mid now : List DiskPassage) (p : DiskPassage) → mid ≡ log ++ more → now ≡ mid ++ p ∷ [] → now ≡ log ++ (more ++ p ∷ [])
one_more log more mid now p a b = b ∙ ap (λ (l : List DiskPassage). l ++ p ∷ []) a ∙ append_assoc log more (p ∷ [])

-- ---- moments

pub always_weaker : (P Q : List ℕ → Type 0) (log : List DiskPassage) (R I : List ℕ → Type 0) → ((c : List ℕ) → P c → Q c) → AlwaysLeft P R I log → AlwaysLeft Q R I log
always_weaker P Q [] R I w h = λ c i. w c (h c i)
always_weaker P Q (p ∷ log) R I w h = (λ c i. w c (h.0 c i), always_weaker P Q log (read_after p R) (left_after p R I) w h.1)

read_mono : (p : DiskPassage) (R S : List ℕ → Type 0) → ((c : List ℕ) → R c → S c) → (c : List ℕ) → read_after p R c → read_after p S c
read_mono (measured n) R S w c h = (w c h.0, h.1)
read_mono (read_at at bytes) R S w c h = (w c h.0, h.1)
read_mono (wrote_at at bytes) R S w c h = (h.0, w h.0 h.1, h.2, h.3)
read_mono (write_failed_at at bytes) R S w c h = (h.0, w h.0 h.1, h.2)
read_mono (cut_to n) R S w c h = (h.0, w h.0 h.1, h.2)
read_mono (cut_failed n) R S w c h = (h.0, w h.0 h.1, h.2)
read_mono synced R S w c h = w c h
read_mono sync_failed R S w c h = w c h

left_mono : (p : DiskPassage) (R S I J : List ℕ → Type 0) → ((c : List ℕ) → R c → S c) → ((c : List ℕ) → I c → J c) → (c : List ℕ) → left_after p R I c → left_after p S J c
left_mono (measured n) R S I J w v c h = v c h
left_mono (read_at at bytes) R S I J w v c h = v c h
left_mono (wrote_at at bytes) R S I J w v c h = (h.0, v h.0 h.1, h.2)
left_mono (write_failed_at at bytes) R S I J w v c h = (h.0, v h.0 h.1, h.2)
left_mono (cut_to n) R S I J w v c h = (h.0, v h.0 h.1, h.2)
left_mono (cut_failed n) R S I J w v c h = (h.0, v h.0 h.1, h.2)
left_mono synced R S I J w v c h = w c h
left_mono sync_failed R S I J w v c h = v c h

always_mono : (P : List ℕ → Type 0) (log : List DiskPassage) (R S I J : List ℕ → Type 0) → ((c : List ℕ) → R c → S c) → ((c : List ℕ) → I c → J c) → AlwaysLeft P S J log → AlwaysLeft P R I log
always_mono P [] R S I J w v h = λ c i. h c (v c i)
always_mono P (p ∷ log) R S I J w v h =
    (λ c i. h.0 c (v c i), always_mono P log (read_after p R) (read_after p S) (left_after p R I) (left_after p S J) (read_mono p R S w) (left_mono p R S I J w v) h.1)

always_join : (P : List ℕ → Type 0) (one two : List DiskPassage) (R I : List ℕ → Type 0) → AlwaysLeft P R I one → AlwaysLeft P (ReadAfter R one) (LeftAfter R I one) two → AlwaysLeft P R I (one ++ two)
always_join P [] two R I h k = k
always_join P (p ∷ one) two R I h k = (h.0, always_join P one two (read_after p R) (left_after p R I) h.1 k)

abbrev pub ReadBack : Type 0
ReadBack = (s : DiskStart) (log more : List DiskPassage) (c : List ℕ) → ReadAfter (MayRead s log) more c → MayRead s (log ++ more) c

abbrev pub LeftBack : Type 0
LeftBack = (s : DiskStart) (log more : List DiskPassage) (c : List ℕ) → LeftAfter (MayRead s log) (MayLeave s log) more c → MayLeave s (log ++ more) c

pub moments_join : (P : List ℕ → Type 0) (s : DiskStart) (a b c : List DiskPassage) → ReadBack → LeftBack → AtEachMoment s a b P → AtEachMoment s b c P → AtEachMoment s a c P
moments_join P s a b c read_back left_back one two = (
  one.0 ++ two.0,
  two.1 ∙ ap (λ (l : List DiskPassage). l ++ two.0) one.1 ∙ append_assoc a one.0 two.0,
  always_join P one.0 two.0 (MayRead s a) (MayLeave s a) one.2
      (always_mono P two.0 (ReadAfter (MayRead s a) one.0) (MayRead s b) (LeftAfter (MayRead s a) (MayLeave s a) one.0) (MayLeave s b)
      (λ f h. subst (λ (l : List DiskPassage). MayRead s l f) (sym one.1) (read_back s a one.0 f h))
      (λ f h. subst (λ (l : List DiskPassage). MayLeave s l f) (sym one.1) (left_back s a one.0 f h))
      two.2),
)

pub moments_weaker : (P Q : List ℕ → Type 0) (s : DiskStart) (a b : List DiskPassage) → ((c : List ℕ) → P c → Q c) → AtEachMoment s a b P → AtEachMoment s a b Q
moments_weaker P Q s a b w h = (h.0, h.1, always_weaker P Q h.0 (MayRead s a) (MayLeave s a) w h.2)

pub no_moment : (P : List ℕ → Type 0) (s : DiskStart) (a : List DiskPassage) → ((c : List ℕ) → MayLeave s a c → P c) → AtEachMoment s a a P
no_moment P s a h = ([], sym (append-nil a), h)

always_last : (P : List ℕ → Type 0) (log : List DiskPassage) (R I : List ℕ → Type 0) → AlwaysLeft P R I log → (c : List ℕ) → LeftAfter R I log c → P c
always_last P [] R I h c left = h c left
always_last P (p ∷ log) R I h c left = always_last P log (read_after p R) (left_after p R I) h.1 c left

pub last_moment : (P : List ℕ → Type 0) (s : DiskStart) (a b : List DiskPassage) → ((s : DiskStart) (log more : List DiskPassage) (c : List ℕ) → MayLeave s (log ++ more) c → LeftAfter (MayRead s log) (MayLeave s log) more c) → AtEachMoment s a b P → (c : List ℕ) → MayLeave s b c → P c
last_moment P s a b law h c left =
    always_last P h.0 (MayRead s a) (MayLeave s a) h.2 c (law s a h.0 c (subst (λ (l : List DiskPassage). MayLeave s l c) h.1 left))

-- ---- what a disk tells

pub later_join : (a b c : DiskView) → IsLaterDisk a b → IsLaterDisk b c → IsLaterDisk a c
later_join a b c one two = record { start = two.start ∙ one.start; truly = λ h. two.truly (one.truly h); agrees = λ s h. one.agrees s (two.agrees s h) }
