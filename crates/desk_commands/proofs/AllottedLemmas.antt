-- What lines that wait are given can be printed.
use Rattle.std.proofs.Common.{◌≡◌, ℕ, zero, suc, ◌<◌, List, [], ◌∷◌, length, get_or, drop, Option, Some, None, refl, sym, subst, arith}
use Rattle.std.specs.Prelude.{All, slice_get}
use Rattle.std.specs.List.{flat_map}
use Rattle.std.specs.Option.{unwrap_or}
use Rattle.std.proofs.lemmas.List.Elements.{All-nil, All-cons, All-head, All-tail}
use Rattle.season_days.specs.Term.{Term}
use Rattle.season_days.specs.declared.declaration.Declaration.{Declaration}
use Rattle.scr_reader.specs.Printed.{LineFits}
use Rattle.scr_reader.specs.declared.line.Line.{Line}
use Rattle.scr_reader.specs.declared.header.Header.{Header}
use Rattle.series_model.specs.declared.unit.Unit.{Unit as SlotUnit}
use Rattle.series_model.specs.declared.times.Times.{Times}
use Rattle.series_model.specs.declared.times.Times.TheVariants.{Refused, At}
use Rattle.series_model.specs.declared.state.UnitState.{UnitState}
use Rattle.series_model.specs.Options.{options_of, TimesFit}
use Rattle.series_model.specs.TimedLines.{line_at, IsNear}
use Rattle.series_model.specs.Units.{UnitFits}
use Rattle.scr_replies.specs.Answers.{message_reply}
use Rattle.scr_replies.specs.SeasonReplies.{IsAnswerable, unit_answer}
use Rattle.wait_list.specs.Waiting.{waiting_unit, waiting_terms, given_state, given_states, allotted_states}
use Rattle.desk_commands.specs.Reclearing.{waiting_replies}

-- the laws of alternatives
abbrev pub AreSpelled : Type 0
AreSpelled = (d : Declaration) (unit : SlotUnit) → UnitFits d.season unit → All (λ times. LineFits d.season (line_at unit.request times)) (options_of d unit)

abbrev pub AreNear : Type 0
AreNear = (d : Declaration) (unit : SlotUnit) → UnitFits d.season unit → All (TimesFit d.refuse) (options_of d unit)

abbrev CanOffer : Term → SlotUnit → Times → Type 0
CanOffer season unit times = LineFits season (line_at unit.request times) × IsNear times

near_of : (price : Option ℕ) (times : Times) → TimesFit price times → IsNear times
near_of price Refused fits = tt
near_of price (At arrival departure) fits = fits.1

at_or : {X : Type 0} (P : X → Type 0) (xs : List X) (n : ℕ) (d : X) → All P xs → P d → P (get_or xs n d)
at_or P [] n d all own = own
at_or P (x ∷ xs) zero d all own = All-head P x xs all
at_or P (x ∷ xs) (suc n) d all own = at_or P xs n d (All-tail P x xs all) own

module _ (spelled : AreSpelled) (near : AreNear) (d : Declaration) where
  can_offer : (unit : SlotUnit) (n : ℕ) → UnitFits d.season unit → CanOffer d.season unit (get_or (options_of d unit) n Refused)
  can_offer unit n fits =
      at_or (CanOffer d.season unit) (options_of d unit) n Refused
      (λ k t lt. (spelled d unit fits k t lt, near_of d.refuse (get_or (options_of d unit) k t) (near d unit fits k t lt)))
      (fits.request, tt)

  given_answerable : (line : Line) (number : Option ℕ) → LineFits d.season line → IsAnswerable d.season (given_state d line number)
  given_answerable line None fits = record { unit = record { request = fits; historic = refl }; given = tt }
  given_answerable line (Some n) fits = record {
    unit = record { request = fits; historic = refl };
    given = can_offer (waiting_unit line) n (record { request = fits; historic = refl });
  }

  all_given : (lines : List Line) (numbers : List ℕ) → All (LineFits d.season) lines → All (IsAnswerable d.season) (given_states d lines numbers)
  all_given [] numbers fits = All-nil (IsAnswerable d.season)
  all_given (line ∷ lines) numbers fits =
      All-cons (IsAnswerable d.season) (given_state d line (slice_get numbers 0)) (given_states d lines (drop 1 numbers))
      (given_answerable line (slice_get numbers 0) (All-head (LineFits d.season) line lines fits))
      (all_given lines (drop 1 numbers) (All-tail (LineFits d.season) line lines fits))

-- of the terms of a declaration, whose season they have
pub allotted_answerable : AreSpelled → AreNear → (d : Declaration) (lines : List Line) (choice : Option (List ℕ)) (header : Header) → All (LineFits d.season) lines → header.season ≡ d.season
    → All (IsAnswerable header.season) (allotted_states d lines choice)
allotted_answerable spelled near d lines choice header fits same =
    subst (λ (season : Term). All (IsAnswerable season) (allotted_states d lines choice)) (sym same) (all_given spelled near (waiting_terms d) lines (unwrap_or choice []) fits)

-- ---- the text of replies

pub some_replies : (header : Header) (states : List UnitState) → 0 < length states → waiting_replies (Some header) states ≡ message_reply header (flat_map (unit_answer header.season) states)
some_replies header [] some = absurd (omega (arith, some))
some_replies header (state ∷ states) some = refl

pub no_replies : (header : Header) (states : List UnitState) → length states ≡ 0 → [] ≡ waiting_replies (Some header) states
no_replies header [] none = refl
no_replies header (state ∷ states) none = absurd (omega (arith, none))
