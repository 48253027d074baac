-- One message, or its bad line: what is received of lines is one thing, and its items can be asked.
use Rattle.std.proofs.Common.{◌≡◌, ℕ, suc, ◌+◌, ◌≤◌, ◌⊎◌, inl, inr, refl, sym, ◌∙◌, ap, subst, arith, List, [], ◌∷◌, length}
use Rattle.std.specs.Prelude.{Option, Some, None, All}
use Rattle.std.proofs.lemmas.List.{length-drop}
use Rattle.std.proofs.lemmas.List.Elements.{All-nil, All-cons}
use Rattle.slot_text.specs.declared.station.Station.{Station}
use Rattle.season_days.specs.Term.{Term}
use Rattle.season_days.specs.declared.declaration.Declaration.{Declaration}
use Rattle.slot_text.specs.Lines.{lines_of}
use Rattle.scr_reader.specs.Messages.{run_from, IsMessage, IsMessageFault, HasMessageFault, body_of, header_length, place, row_item, items_of}
use Rattle.scr_reader.specs.Rows.{Row, AreRows}
use Rattle.scr_reader.specs.Printed.{ItemsFit}
use Rattle.scr_reader.specs.Faults.{fault_line}
use Rattle.scr_reader.specs.Strays.{IsStrayLine, stray_number}
use Rattle.scr_reader.specs.Again.{IsAskedItem, AreAsked}
use Rattle.scr_reader.specs.declared.line.Item.{Item}
use Rattle.scr_reader.specs.declared.line.Item.TheVariants.{One, Pair, Query}
use Rattle.scr_reader.specs.declared.message.Placed.{Placed}
use Rattle.scr_reader.specs.declared.message.Message.{Message}
use Rattle.scr_reader.specs.declared.fault.ScrFault.{ScrFault}
use Rattle.scr_reader.specs.declared.fault.ScrFault.TheVariants.{Memory}
use Rattle.scr_reader.specs.declared.stray.StrayLine.{StrayLine}
use Rattle.scr_reader.specs.declared.stray.StrayLine.TheVariants.{Season, Airport}
use Rattle.series_model.specs.Submissions.{ItemPairs}
use Rattle.holding_book.specs.Asks.{CanAsk}
use Rattle.scr_replies.specs.declared.received.Received.{Received}
use Rattle.scr_replies.specs.declared.received.Received.TheVariants.{Good, Bad}
use Rattle.scr_replies.specs.Received.{IsGoodMessage, IsBadAt, IsReceived}

-- ---- items that were read can be asked

pairs_asked : (item : Item) → IsAskedItem item → ItemPairs item
pairs_asked (One line) asked = tt
pairs_asked (Pair historic request) asked = asked.1
pairs_asked (Query flight) asked = tt

pub can_ask : (d : Declaration) (items : List Placed) → ItemsFit d.season items → AreAsked items → All (λ (placed : Placed). CanAsk d placed.item) items
can_ask d [] fit asked = All-nil (λ (placed : Placed). CanAsk d placed.item)
can_ask d (placed ∷ items) fit asked =
    All-cons (λ (p : Placed). CanAsk d p.item) placed items
    (record { spelled = fit.0; paired = pairs_asked placed.item asked.0 })
    (can_ask d items fit.1 asked.1)

-- ---- there are no more items than lines

place_few : (number : ℕ) (item : Option Item) (items : List Placed) → length (place number item items) ≤ suc (length items)
place_few number None items = omega arith
place_few number (Some item) items = omega arith

items_few : (number : ℕ) (rows : List (Option Row)) → length (items_of number rows) ≤ length rows
unfolding items_of
items_few number [] = omega arith
items_few number (row ∷ rows) =
    omega (arith, place_few number (row_item row rows) (items_of (number + 1) rows), items_few (number + 1) rows)

rows_length : (season : Term) (lines : List (List ℕ)) (rows : List (Option Row)) → AreRows season lines rows → length rows ≡ length lines
rows_length season [] [] are = refl
rows_length season [] (row ∷ rows) are = absurd are
rows_length season (line ∷ lines) [] are = absurd are
rows_length season (line ∷ lines) (row ∷ rows) are = ap (λ (n : ℕ). suc n) (rows_length season lines rows are.1)

pub few_items : (lines : List (List ℕ)) (message : Message) → IsMessage (run_from 1 lines) message → length message.items ≤ length lines
few_items lines message is =
    let n = header_length lines in
    omega (arith, ap (λ (items : List Placed). length items) is.items, items_few (1 + n) is.rows, rows_length message.season (body_of lines) is.rows is.read, length-drop n lines)

-- ---- what is received is one thing

-- the laws of readings, of these lines
pub record AreReadOnce (lines : List (List ℕ)) : Type 0 where
  pub message : (m n : Message) → IsMessage (run_from 1 lines) m → IsMessage (run_from 1 lines) n → m ≡ n
  pub fault : (e f : ScrFault) → IsMessageFault (run_from 1 lines) e → IsMessageFault (run_from 1 lines) f → e ≡ f
  pub never_both : (m : Message) (e : ScrFault) → IsMessage (run_from 1 lines) m → IsMessageFault (run_from 1 lines) e → ⊥

no_stray : (season : Term) (airport : Station) (m : Message) (stray : StrayLine) → m.season ≡ season → m.airport ≡ airport → IsStrayLine season airport m (Some stray) → ⊥
no_stray season airport m (Season line) same here strays = strays.0 same
no_stray season airport m (Airport line) same here strays = strays.1 here

never_bad : (season : Term) (airport : Station) (lines : List (List ℕ)) (m : Message) (n : ℕ) → AreReadOnce lines → IsGoodMessage season airport lines m → IsBadAt season airport lines n → ⊥
never_bad season airport lines m n once good (inl unread) = once.never_both m unread.fault good.read unread.unread
never_bad season airport lines m n once good (inr stray) =
    let e : stray.message ≡ m = once.message stray.message m stray.read good.read in
    no_stray season airport stray.message stray.stray (ap (λ (k : Message). k.season) e ∙ good.of_season) (ap (λ (k : Message). k.airport) e ∙ good.of_airport) stray.strays

stray_once : (season : Term) (airport : Station) (m : Message) (x y : StrayLine) → IsStrayLine season airport m (Some x) → IsStrayLine season airport m (Some y) → stray_number x ≡ stray_number y
stray_once season airport m (Season a) (Season b) one other = one.1 ∙ sym other.1
stray_once season airport m (Season a) (Airport b) one other = absurd (one.0 other.0)
stray_once season airport m (Airport a) (Season b) one other = absurd (other.0 one.0)
stray_once season airport m (Airport a) (Airport b) one other = one.2 ∙ sym other.2

none_some : (n : ℕ) → None ≡ Some n → ⊥
none_some n e = cc

some_once : (n k : ℕ) → Some n ≡ Some k → n ≡ k
some_once n k e = cc

bad_once : (season : Term) (airport : Station) (lines : List (List ℕ)) (n k : ℕ) → AreReadOnce lines → IsBadAt season airport lines n → IsBadAt season airport lines k → n ≡ k
bad_once season airport lines n k once (inl one) (inl other) =
    some_once n k (sym one.number ∙ ap fault_line (once.fault one.fault other.fault one.unread other.unread) ∙ other.number)
bad_once season airport lines n k once (inl one) (inr other) = absurd (once.never_both other.message one.fault other.read one.unread)
bad_once season airport lines n k once (inr one) (inl other) = absurd (once.never_both one.message other.fault one.read other.unread)
bad_once season airport lines n k once (inr one) (inr other) =
    let e : other.message ≡ one.message = once.message other.message one.message other.read one.read in
    one.number
    ∙ stray_once season airport one.message one.stray other.stray one.strays (subst (λ (m : Message). IsStrayLine season airport m (Some other.stray)) e other.strays)
    ∙ sym other.number

pub received_once : (season : Term) (airport : Station) (lines : List (List ℕ)) (a b : Received) → AreReadOnce lines → IsReceived season airport lines a → IsReceived season airport lines b → a ≡ b
received_once season airport lines (Good m) (Good n) once one other = ap (λ (k : Message). Good k) (once.message m n one.read other.read)
received_once season airport lines (Good m) (Bad n) once one other = absurd (never_bad season airport lines m n once one other)
received_once season airport lines (Bad n) (Good m) once one other = absurd (never_bad season airport lines m n once other one)
received_once season airport lines (Bad n) (Bad k) once one other = ap (λ (l : ℕ). Bad l) (bad_once season airport lines n k once one other)

-- a fault that names a line is one of these lines
pub unread_at : (season : Term) (airport : Station) (bytes : List ℕ) (fault : ScrFault) (line : ℕ) →
    (HasMessageFault bytes fault → IsMessageFault (run_from 1 (lines_of bytes)) fault) → HasMessageFault bytes fault ⊎ (fault ≡ Memory) → fault_line fault ≡ Some line →
    IsBadAt season airport (lines_of bytes) line
unread_at season airport bytes fault line reads (inl has) number = inl (record { fault = fault; unread = reads has; number = number })
unread_at season airport bytes fault line reads (inr none) number =
    let never : fault_line Memory ≡ Some line = subst (λ (f : ScrFault). fault_line f ≡ Some line) none number in
    absurd (none_some line never)
