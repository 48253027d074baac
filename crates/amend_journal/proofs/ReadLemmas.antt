-- What reads of a journal show.
use Rattle.std.proofs.Common.{get_or, ◌≡◌, ◌≢◌, ℕ, ◌+◌, ◌*◌, ◌<◌, ◌≤◌, List, [], ◌∷◌, ◌++◌, length, take, drop, refl, sym, ap, subst, ◌∙◌, append_assoc, append-nil, length-append, inl, inr, arith}
use Rattle.std.proofs.lemmas.List.{take-append-drop, take_more, take_all, take-take, take-append-le, length_push}
use Rattle.std.proofs.lemmas.List.Elements.{All-nil, All-push}
use Rattle.season_days.specs.Term.{Term}
use Rattle.desk_disk.specs.Stops.{DiskPassage, measured, read_at, DiskStart, MayRead}
use Rattle.desk_disk.specs.Disks.{shown_by, shown_length}
use Rattle.amend_journal.specs.Format.{header, open_slots, slot_bytes, IsFit, IsJournalOf}
use Rattle.amend_journal.specs.Standing.{IsOther, IsBadSlot}
use Rattle.amend_journal.specs.Private.{OnlyLooked, IsSized, HasRead, HasReadSlot, SpellsPair}
use Rattle.amend_journal.specs.declared.asked.Asked.{Asked}
use Rattle.amend_journal.specs.declared.asked.TheConstants.{MOST_PAIRS}
use Rattle.amend_journal.proofs.PutLemmas.{drop_gate}
use Rattle.amend_journal.proofs.OpenLemmas.{ReadLaw}
use Rattle.amend_journal.proofs.FormatLemmas.{ShortItems, block-push, length-block}

abbrev pub ShownLaw : Type 0
ShownLaw = (log : List DiskPassage) (passage : DiskPassage) → shown_length (log ++ passage ∷ []) ≡ shown_by passage (shown_length log)

pub one_look : (log now : List DiskPassage) (at : ℕ) (bytes : List ℕ) → now ≡ log ++ read_at at bytes ∷ [] → OnlyLooked log now
one_look log now at bytes is = record { more = read_at at bytes ∷ []; log = is; looks = tt }

-- a read shows its bytes, and what was known of the length stays known
pub bytes_shown : (s : DiskStart) (log now : List DiskPassage) (at : ℕ) (bytes : List ℕ) → ReadLaw → now ≡ log ++ read_at at bytes ∷ [] → (c : List ℕ) → MayRead s now c → MayRead s log c × (take (length bytes) (drop at c) ≡ bytes)
bytes_shown s log now at bytes law is c h = law s log (read_at at bytes ∷ []) c (subst (λ (l : List DiskPassage). MayRead s l c) is h)

pub still_sized : (log now : List DiskPassage) (at : ℕ) (bytes : List ℕ) (size : ℕ) → ReadLaw → ShownLaw → now ≡ log ++ read_at at bytes ∷ [] → IsSized log size → IsSized now size
still_sized log now at bytes size law shown is sized = record {
  shown = omega (arith, sized.shown, ap shown_length is, shown log (read_at at bytes));
  sized = λ s c h. sized.sized s c (bytes_shown s log now at bytes law is c h).0;
}

pub measured_sized : (log now : List DiskPassage) (n : ℕ) → ReadLaw → ShownLaw → now ≡ log ++ measured n ∷ [] → IsSized now n
measured_sized log now n law shown is = record {
  shown = omega (arith, ap shown_length is, shown log (measured n));
  sized = λ s c h. (law s log (measured n ∷ []) c (subst (λ (l : List DiskPassage). MayRead s l c) is h)).1;
}

-- ---- the header and the first gate

head_gate : (c head : List ℕ) → length head ≡ 17 → take 17 c ≡ head → take 16 head ≡ header → c ≡ header ++ get_or head 16 0 ∷ drop 17 c
head_gate c head long read same =
    let lt : 16 < length head = omega (arith, long) in
    let whole : head ≡ header ++ get_or head 16 0 ∷ [] =
    sym (take_all 17 head (omega (arith, long))) ∙ take_more head 16 0 lt ∙ ap (λ (l : List ℕ). l ++ get_or head 16 0 ∷ []) same in
    sym (take-append-drop 17 c) ∙ ap (λ (l : List ℕ). l ++ drop 17 c) (read ∙ whole) ∙ append_assoc header (get_or head 16 0 ∷ []) (drop 17 c)

module _ (log now : List DiskPassage) (head : List ℕ) (size : ℕ) (law : ReadLaw) (shown : ShownLaw) (is : now ≡ log ++ read_at 0 head ∷ []) (long : length head ≡ 17) (sized : IsSized log size) (enough : 17 < size) where
  head_read : (s : DiskStart) (c : List ℕ) → MayRead s now c → take 17 c ≡ head
  head_read s c h = subst (λ (n : ℕ). take n c ≡ head) long (bytes_shown s log now 0 head law is c h).1

  pub has_head : take 16 head ≡ header → (season : Term) → HasRead season now size [] (get_or head 16 0)
  has_head same season = record {
    fit = All-nil (IsFit season);
    sized = still_sized log now 0 head size law shown is sized;
    within = omega (arith, enough);
    begins = λ s c h. record {
      behind = drop 17 c;
      is = head_gate c head long (head_read s c h) same ∙ ap (λ (l : List ℕ). l ++ get_or head 16 0 ∷ drop 17 c) (sym (append-nil header));
    };
  }

  pub is_other : take 16 head ≢ header → (s : DiskStart) (c : List ℕ) → MayRead s now c → IsOther c
  is_other differs s c h = record {
    long = omega (arith, enough, sized.sized s c (bytes_shown s log now 0 head law is c h).0);
    other = λ e. differs (ap (take 16) (sym (head_read s c h)) ∙ take-take 16 17 c (omega arith) ∙ e);
  }

-- ---- a slot

pub slot_past_the_end : (season : Term) (log : List DiskPassage) (size number : ℕ) (asks : List Asked) → ShortItems → HasRead season log size asks 1 → length asks ≡ number → number < MOST_PAIRS → 17 < size → size < 17 + 256 * number + 256
    → (s : DiskStart) (c : List ℕ) → MayRead s log c → IsBadSlot season number c
slot_past_the_end season log size number asks short read is few enough past s c h =
    let at = read.begins s c h in
    let long = read.sized.sized s c h in
    record {
      long = omega (arith, enough, long);
      asks = asks;
      fit = read.fit;
      number_is = is;
      few = omega (arith, few);
      behind = at.behind;
      is = at.is;
      bad = inl (omega (arith, past, long, is, ap length at.is, length-append (header ++ open_slots season asks) (1 ∷ at.behind), length-block season asks short read.fit));
    }

pub slot_read : (season : Term) (log now : List DiskPassage) (size number : ℕ) (bytes : List ℕ) (asks : List Asked) → ReadLaw → ShownLaw → ShortItems → now ≡ log ++ read_at (17 + 256 * number) bytes ∷ [] → length bytes ≡ 256 → HasRead season log size asks 1 → length asks ≡ number → 17 + 256 * number + 256 ≤ size
    → HasReadSlot season now size asks bytes
slot_read season log now size number bytes asks law shown short is long read count room = record {
  fit = read.fit;
  sized = still_sized log now (17 + 256 * number) bytes size law shown is read.sized;
  within = omega (arith, room, count);
  begins = λ s c h.
      let seen = bytes_shown s log now (17 + 256 * number) bytes law is c h in
      let at = read.begins s c seen.0 in
      let block = header ++ open_slots season asks in
      let here : length block ≡ 16 + 256 * number = omega (arith, length-block season asks short read.fit, count) in
      let place : 16 + 256 * number + 1 ≡ 17 + 256 * number = omega arith in
      let rest : drop (17 + 256 * number) c ≡ at.behind =
      ap (λ (n : ℕ). drop n c) (sym place) ∙ ap (drop (16 + 256 * number + 1)) at.is ∙ drop_gate block at.behind 1 (16 + 256 * number) here in
      let front : take (length bytes) at.behind ≡ bytes = ap (take (length bytes)) (sym rest) ∙ seen.1 in (
        drop (length bytes) at.behind,
        at.is ∙ ap (λ (l : List ℕ). block ++ 1 ∷ l) (sym (take-append-drop (length bytes) at.behind) ∙ ap (λ (l : List ℕ). l ++ drop (length bytes) at.behind) front),
      );
}

pub slot_pushed : (season : Term) (log : List DiskPassage) (size : ℕ) (asks : List Asked) (asked : Asked) (bytes : List ℕ) → length bytes ≡ 256 → HasReadSlot season log size asks bytes → SpellsPair season (take 255 bytes) asked → HasRead season log size (asks ++ asked ∷ []) (get_or bytes 255 0)
slot_pushed season log size asks asked bytes long read spells =
    let gate = get_or bytes 255 0 in
    let lt : 255 < length bytes = omega (arith, long) in
    let whole : bytes ≡ slot_bytes season asked ++ gate ∷ [] =
    sym (take_all 256 bytes (omega (arith, long))) ∙ take_more bytes 255 0 lt ∙ ap (λ (l : List ℕ). l ++ gate ∷ []) spells.is in
    let block = header ++ open_slots season asks in
    record {
      fit = All-push (IsFit season) asks asked read.fit spells.fit;
      sized = read.sized;
      within = omega (arith, read.within, length_push asks asked);
      begins = λ s c h.
          let at = read.begins s c h in
          record {
            behind = at.0;
            is = at.1
                ∙ ap (λ (l : List ℕ). block ++ 1 ∷ (l ++ at.0)) whole
                ∙ ap (λ (l : List ℕ). block ++ 1 ∷ l) (append_assoc (slot_bytes season asked) (gate ∷ []) at.0)
                ∙ sym (append_assoc block (1 ∷ slot_bytes season asked) (gate ∷ at.0))
                ∙ ap (λ (l : List ℕ). l ++ gate ∷ at.0) (sym (block-push season asks asked));
          };
    }

pub slot_spells_none : (season : Term) (log : List DiskPassage) (size number : ℕ) (asks : List Asked) (bytes : List ℕ) → length bytes ≡ 256 → HasReadSlot season log size asks bytes → length asks ≡ number → number < MOST_PAIRS → 17 < size
    → ((asked : Asked) → SpellsPair season (take 255 bytes) asked → ⊥)
    → (s : DiskStart) (c : List ℕ) → MayRead s log c → IsBadSlot season number c
slot_spells_none season log size number asks bytes long read is few enough none s c h =
    let at = read.begins s c h in
    record {
      long = omega (arith, enough, read.sized.sized s c h);
      asks = asks;
      fit = read.fit;
      number_is = is;
      few = omega (arith, few);
      behind = bytes ++ at.0;
      is = at.1;
      bad = inr (inl (λ asked fit e. none asked (record { fit = fit; is = sym (take-append-le 255 bytes at.0 (omega (arith, long))) ∙ e })));
    }

-- ---- the end of the slots

pub ends_closed : (season : Term) (log : List DiskPassage) (size gate : ℕ) (asks : List Asked) → HasRead season log size asks gate → gate ≢ 1 → length asks ≤ MOST_PAIRS → (s : DiskStart) (c : List ℕ) → MayRead s log c → IsJournalOf season asks c
ends_closed season log size gate asks read closed few s c h = record {
  fit = read.fit;
  few = few;
  closed = record { gate = gate; closed = closed; at = read.begins s c h };
}

pub ends_full : (season : Term) (log : List DiskPassage) (size : ℕ) (asks : List Asked) → HasRead season log size asks 1 → length asks ≡ MOST_PAIRS → 17 < size → (s : DiskStart) (c : List ℕ) → MayRead s log c → IsBadSlot season MOST_PAIRS c
ends_full season log size asks read is enough s c h =
    let at = read.begins s c h in
    record {
      long = omega (arith, enough, read.sized.sized s c h);
      asks = asks;
      fit = read.fit;
      number_is = is;
      few = omega arith;
      behind = at.behind;
      is = at.is;
      bad = inr (inr refl);
    }
