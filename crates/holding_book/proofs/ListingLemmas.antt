-- The places of each flight after a change: listed anew for the flights of the change, and else moved.
use Rattle.std.proofs.Common.{◌≡◌, ℕ, suc, ◌+◌, ◌<◌, ◌^◌, ◌||◌, Bool, true, false, cond, List, [], ◌∷◌, ◌++◌, length, map, take, drop, get_or, refl, sym, ap, ◌∙◌, arith, Option, Some, None, append_assoc, append-nil, length-drop}
use Rattle.std.proofs.lemmas.List.{length-take, take-append-drop}
use Rattle.std.proofs.Math.Seq.{drop-cons, take-suc}
use Rattle.std.proofs.Common.{add-one}
use Rattle.std.specs.Prelude.{All}
use Rattle.std.specs.List.{slice_get}
use Rattle.std.proofs.lemmas.Option.{get_or_from_slice_get}
use Rattle.scr_reader.specs.declared.line.Flight.{Flight}
use Rattle.scr_reader.specs.declared.line.Stop.{Stop}
use Rattle.scr_reader.specs.declared.line.Line.{Line}
use Rattle.holding_book.specs.declared.holding.Holding.{Holding}
use Rattle.holding_book.specs.declared.change.Listed.{Listed}
use Rattle.holding_book.specs.declared.change.Lists.{Lists}
use Rattle.holding_book.specs.Lines.{is_flight, has_stop_flight, has_flight}
use Rattle.holding_book.specs.Books.{places_from, places_of}
use Rattle.holding_book.specs.Private.Changes.{after_list_put, after_list_puts}
use Rattle.holding_book.specs.Private.Places.{moved}
use Rattle.holding_book.specs.Private.Steps.{replaced_at, HasFlightsOf, ListsStop, IsListing}
use Rattle.holding_book.proofs.FlightLemmas.{is_flight-true}
use Rattle.holding_book.proofs.MovedLemmas.{Lacks, places-append, low, untouched}

-- one holding more at the end
pub places-more : (flight : Flight) (holdings : List Holding) (holding : Holding) → places_of flight (holdings ++ holding ∷ []) ≡ places_of flight holdings ++ cond (has_flight flight holding.line) (length holdings ∷ []) []
places-more flight holdings holding =
    let e : 0 + length holdings ≡ length holdings = omega arith in
    places-append flight 0 holdings (holding ∷ []) ∙ ap (λ (k : ℕ). places_of flight holdings ++ places_from flight k (holding ∷ [])) e

pub places_next : (flight : Flight) (holdings : List Holding) (n : ℕ) (d : Holding) → n < length holdings → places_of flight (take (n + 1) holdings) ≡ places_of flight (take n holdings) ++ cond (has_flight flight (get_or holdings n d).line) (n ∷ []) []
places_next flight holdings n d lt =
    let m : length (take n holdings) ≡ n = omega (arith, length-take n holdings, lt) in
    ap (places_of flight) (ap (λ (k : ℕ). take k holdings) (add-one n) ∙ take-suc holdings n d lt)
    ∙ places-more flight (take n holdings) (get_or holdings n d)
    ∙ ap (λ (k : ℕ). places_of flight (take n holdings) ++ cond (has_flight flight (get_or holdings n d).line) (k ∷ []) []) m

pub places_next_at : (flight : Flight) (holdings : List Holding) (n : ℕ) (held : Holding) → n < length holdings → slice_get holdings n ≡ Some held → places_of flight (take (n + 1) holdings) ≡ places_of flight (take n holdings) ++ cond (has_flight flight held.line) (n ∷ []) []
places_next_at flight holdings n held lt is =
    places_next flight holdings n held lt
    ∙ ap (λ (h : Holding). places_of flight (take n holdings) ++ cond (has_flight flight h.line) (n ∷ []) []) (get_or_from_slice_get holdings n held held is)

neither : (a b : Bool) → a ≡ false → b ≡ false → (a || b) ≡ false
neither a b e f = rw (e, f) refl

module _ (flight : Flight) (next : List Holding) where
  abbrev target : List ℕ
  target = places_of flight next

  -- a list that was put is right where the flight is its own
  put-right : (stop : Option Stop) (listed : Option Listed) (places : List ℕ) → ListsStop next stop listed → (has_stop_flight flight stop ≡ false → places ≡ target) → after_list_put listed flight places ≡ target
  put-right None listed places is else_is = rw is (else_is refl)
  put-right (Some stop) None places is else_is = absurd is
  put-right (Some stop) (Some listed) places is else_is =
      let f : listed.flight ≡ stop.flight = is.0 in
      rw f (elim (is_flight flight stop.flight) as (λ b. is_flight flight stop.flight ≡ b → cond b listed.places.items places ≡ target) [
        | true ↦ λ e. is.1 ∙ ap (λ (g : Flight). places_of g next) (sym (is_flight-true flight stop.flight e))
        | false ↦ λ e. else_is e
      ] refl)

  pub puts-right : (one two three four : Option Stop) (lists : Lists) (places : List ℕ) → IsListing next one lists.first → IsListing next two lists.second → IsListing next three lists.third → IsListing next four lists.fourth → ((has_stop_flight flight one || has_stop_flight flight two) ≡ false → (has_stop_flight flight three || has_stop_flight flight four) ≡ false → places ≡ target) → after_list_puts lists flight places ≡ target
  puts-right one two three four lists places first second third fourth else_is =
      put-right four lists.fourth _ fourth.lists (λ h4.
      put-right three lists.third _ third.lists (λ h3.
      put-right two lists.second _ second.lists (λ h2.
      put-right one lists.first _ first.lists (λ h1.
      else_is (neither (has_stop_flight flight one) (has_stop_flight flight two) h1 h2) (neither (has_stop_flight flight three) (has_stop_flight flight four) h3 h4)))))

lacks-all : (flight : Flight) (line : Line) (others : List Holding) → All (HasFlightsOf line) others → has_flight flight line ≡ false → Lacks flight others
lacks-all flight line [] all e = tt
lacks-all flight line (holding ∷ others) all e =
    let here : HasFlightsOf line holding = all 0 holding (omega arith) in
    (here flight ∙ e, lacks-all flight line others (λ k d lt. all (suc k) d (omega arith)) e)

-- one comes at the end
pub appended : (flight : Flight) (holdings next : List Holding) (new : Holding) (lists : Lists) → next ≡ holdings ++ new ∷ [] → lists.first ≡ None → lists.second ≡ None → IsListing next new.line.arrival lists.third → IsListing next new.line.departure lists.fourth → places_of flight next ≡ after_list_puts lists flight (map (moved (length holdings) 1) (places_of flight holdings))
appended flight holdings next new lists is first second third fourth =
    sym (puts-right flight next None None new.line.arrival new.line.departure lists _ (record { lists = first }) (record { lists = second }) third fourth (λ e f.
    low flight (length holdings) 1 0 holdings (omega arith)
    ∙ sym (append-nil (places_of flight holdings))
    ∙ sym (ap (places_of flight) is ∙ places-more flight holdings new ∙ ap (λ (b : Bool). places_of flight holdings ++ cond b (length holdings ∷ []) []) f)))

-- one is replaced by others, and new ones come at the end
module _ (flight : Flight) (holdings : List Holding) (at : ℕ) (held : Holding) (others : List Holding) (lt : at < length holdings) (there : slice_get holdings at ≡ Some held) where
  abbrev before : List Holding
  before = take at holdings

  abbrev after : List Holding
  after = drop (suc at) holdings

  count_before : length before ≡ at
  count_before = omega (arith, length-take at holdings, lt)

  whole : holdings ≡ before ++ held ∷ after
  whole = sym (take-append-drop at holdings) ∙ ap (λ (t : List Holding). before ++ t) (drop-cons holdings at held lt ∙ ap (λ (h : Holding). h ∷ after) (get_or_from_slice_get holdings at held held there))

  module _ (same : All (HasFlightsOf held.line) others) (new : List Holding) (few : length holdings + length others + length new < 2 ^ 32) (next : List Holding) (is : next ≡ replaced_at at others holdings ++ new) (lists : Lists) (three four : Option Stop) where
    regrouped : next ≡ before ++ (others ++ (after ++ new))
    regrouped = is ∙ append_assoc before (others ++ after) new ∙ ap (λ (t : List Holding). before ++ t) (append_assoc others after new)

    moved_right : has_flight flight held.line ≡ false → Lacks flight new → map (moved at (length others)) (places_of flight holdings) ≡ places_of flight next
    moved_right e lacks =
        let n : length after + suc at ≡ length holdings = omega (arith, length-drop (suc at) holdings, lt) in
        let u = untouched flight before after others new held e (lacks-all flight held.line others same e) lacks (omega (arith, n, few, count_before)) in
        let one : map (moved at (length others)) (places_of flight holdings) ≡ map (moved (length before) (length others)) (places_of flight holdings) = ap (λ (k : ℕ). map (moved k (length others)) (places_of flight holdings)) (sym count_before) in
        let two : map (moved (length before) (length others)) (places_of flight holdings) ≡ map (moved (length before) (length others)) (places_of flight (before ++ held ∷ after)) = ap (λ (l : List Holding). map (moved (length before) (length others)) (places_of flight l)) whole in
        one ∙ two ∙ sym u ∙ ap (places_of flight) (sym regrouped)

    pub replaced_right : IsListing next held.line.arrival lists.first → IsListing next held.line.departure lists.second → IsListing next three lists.third → IsListing next four lists.fourth → ((has_stop_flight flight three || has_stop_flight flight four) ≡ false → Lacks flight new) → places_of flight next ≡ after_list_puts lists flight (map (moved at (length others)) (places_of flight holdings))
    replaced_right first second third fourth lacks =
        sym (puts-right flight next held.line.arrival held.line.departure three four lists _ first second third fourth (λ e f. moved_right e (lacks f)))
