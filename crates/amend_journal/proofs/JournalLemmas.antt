-- A put as the pairs see it.
use Rattle.std.proofs.Common.{◌≡◌, ◌⊎◌, ℕ, ◌+◌, ◌*◌, ◌<◌, List, [], ◌∷◌, ◌++◌, length, sym, subst, inl, inr, arith}
use Rattle.std.proofs.lemmas.List.{length_push}
use Rattle.std.proofs.lemmas.List.Elements.{All-push}
use Rattle.std.specs.Prelude.{All}
use Rattle.season_days.specs.Term.{Term}
use Rattle.desk_disk.specs.Stops.{DiskPassage, DiskStart, MayLeave, AtEachMoment}
use Rattle.amend_journal.specs.Format.{header, open_slots, slot_bytes, IsFit, ClosedAfter, IsJournalOf}
use Rattle.amend_journal.specs.Durable.{AreDurable, IsReady}
use Rattle.amend_journal.specs.declared.asked.Asked.{Asked}
use Rattle.amend_journal.specs.declared.asked.TheConstants.{MOST_PAIRS}
use Rattle.amend_journal.proofs.MomentLemmas.{moments_weaker}
use Rattle.amend_journal.proofs.PutLemmas.{Either}
use Rattle.amend_journal.proofs.FormatLemmas.{ShortItems, block-push, length-block}

module _ (season : Term) (asks : List Asked) (asked : Asked) (fit : All (IsFit season) asks) (one : IsFit season asked) (few : length asks < MOST_PAIRS) where
  with_pair : (c : List ℕ) → ClosedAfter ((header ++ open_slots season asks) ++ 1 ∷ slot_bytes season asked) c → IsJournalOf season (asks ++ asked ∷ []) c
  with_pair c closed = record {
    fit = All-push (IsFit season) asks asked fit one;
    few = omega (arith, few, length_push asks asked);
    closed = subst (λ (b : List ℕ). ClosedAfter b c) (sym (block-push season asks asked)) closed;
  }

  either : (c : List ℕ) → Either (header ++ open_slots season asks) (slot_bytes season asked) c → IsJournalOf season asks c ⊎ IsJournalOf season (asks ++ asked ∷ []) c
  either c (inl closed) = inl (record { fit = fit; few = omega (arith, few); closed = closed })
  either c (inr closed) = inr (with_pair c closed)

module _ (season : Term) (asks : List Asked) (asked : Asked) (slot : List ℕ) (s : DiskStart) (old now : List DiskPassage) (count : ℕ) (short : ShortItems) (durable : AreDurable s old season asks) (is : length asks ≡ count) (few : count < MOST_PAIRS) (ready : IsReady season asked slot) where
  here : length (header ++ open_slots season asks) ≡ 16 + 256 * count
  here = omega (arith, is, length-block season asks short durable.fit)

  closed : (c : List ℕ) → MayLeave s old c → ClosedAfter (header ++ open_slots season asks) c
  closed c left = (durable.left c left).closed

  pub put_moments : ((block pair : List ℕ) → length block ≡ 16 + 256 * count → slot ≡ pair ++ 0 ∷ [] → ((c : List ℕ) → MayLeave s old c → ClosedAfter block c) → AtEachMoment s old now (Either block pair))
      → AtEachMoment s old now (λ c. IsJournalOf season asks c ⊎ IsJournalOf season (asks ++ asked ∷ []) c)
  put_moments put =
      moments_weaker (Either (header ++ open_slots season asks) (slot_bytes season asked)) (λ c. IsJournalOf season asks c ⊎ IsJournalOf season (asks ++ asked ∷ []) c) s old now
      (either season asks asked durable.fit ready.fit (omega (arith, is, few)))
      (put (header ++ open_slots season asks) (slot_bytes season asked) here ready.is closed)

  pub put_kept : ((block pair : List ℕ) → length block ≡ 16 + 256 * count → slot ≡ pair ++ 0 ∷ [] → ((c : List ℕ) → MayLeave s old c → ClosedAfter block c) → (c : List ℕ) → MayLeave s now c → ClosedAfter (block ++ 1 ∷ pair) c)
      → AreDurable s now season (asks ++ asked ∷ [])
  put_kept put = record {
    fit = All-push (IsFit season) asks asked durable.fit ready.fit;
    left = λ c left. with_pair season asks asked durable.fit ready.fit (omega (arith, is, few)) c
        (put (header ++ open_slots season asks) (slot_bytes season asked) here ready.is closed c left);
  }
