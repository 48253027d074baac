-- A text of asks is answered by one history.
use Rattle.std.proofs.Common.{inl, inr, ◌≡◌, ℕ, refl, sym, ◌∙◌, ap, subst, List, [], ◌∷◌, ◌++◌, map}
use Rattle.std.specs.Prelude.{All, slice_range}
use Rattle.std.proofs.lemmas.List.Elements.{All-head, All-tail}
use Rattle.slot_text.specs.Lines.{lines_of}
use Rattle.slot_text.specs.declared.station.Station.{Station}
use Rattle.season_days.specs.Term.{Term}
use Rattle.scr_reader.specs.Streams.{AreOfMessage, HoldsMessage, piece_lines}
use Rattle.scr_reader.specs.declared.line.Item.{Item}
use Rattle.scr_reader.specs.declared.message.Message.{Message}
use Rattle.scr_reader.specs.declared.message.Piece.{Piece}
use Rattle.holding_book.specs.declared.answer.Entry.{Entry}
use Rattle.holding_book.specs.Books.{SlotBook}
use Rattle.holding_book.specs.Asks.{reply, next}
use Rattle.holding_book.specs.Histories.{replay, IsLegal}
use Rattle.scr_replies.specs.Replies.{asks_of}
use Rattle.scr_replies.specs.Received.{IsReceived, AreFor, IsAnsweredMessage}
use Rattle.scr_replies.specs.declared.received.Received.{Received}
use Rattle.scr_replies.specs.declared.received.Received.TheVariants.{Good, Bad}
use Rattle.amend_run.specs.Amended.{AreAnsweredMessages}

-- ---- the law of what is received

abbrev pub OneReceived : Type 0
OneReceived = (season : Term) (airport : Station) (bytes : List ℕ) (a b : Received) → AreOfMessage (lines_of bytes) →
    IsReceived season airport (lines_of bytes) a → IsReceived season airport (lines_of bytes) b → a ≡ b

-- ---- entries of the same asks

entry_same : (e f : Entry) → e.caller ≡ f.caller → e.ask ≡ f.ask → e.answer ≡ f.answer → e ≡ f
entry_same e f p q r =
    ap (λ k. record { caller = k; ask = e.ask; answer = e.answer }) p
    ∙ ap (λ a. record { caller = f.caller; ask = a; answer = e.answer }) q
    ∙ ap (λ a. record { caller = f.caller; ask = f.ask; answer = a }) r

head_same : {X : Type 0} (x y : X) (xs ys : List X) → x ∷ xs ≡ y ∷ ys → x ≡ y
head_same x y xs ys e = cc

tail_same : {X : Type 0} (x y : X) (xs ys : List X) → x ∷ xs ≡ y ∷ ys → xs ≡ ys
tail_same x y xs ys e = cc

abbrev IsZero : Entry → Type 0
IsZero entry = entry.caller ≡ 0

abbrev ask_in : Entry → Item
ask_in entry = entry.ask

own_same : (b : SlotBook) (own other later rest : List Entry) → All IsZero own → All IsZero other → map ask_in own ≡ map ask_in other → IsLegal b (own ++ later) → IsLegal b (other ++ rest) → own ≡ other
own_same b [] [] later rest callers others asks legal legal' = refl
own_same b [] (f ∷ other) later rest callers others asks legal legal' = absurd (let wrong : [] ≡ ask_in f ∷ map ask_in other = asks in cc)
own_same b (e ∷ own) [] later rest callers others asks legal legal' = absurd (let wrong : ask_in e ∷ map ask_in own ≡ [] = asks in cc)
own_same b (e ∷ own) (f ∷ other) later rest callers others asks legal legal' =
    let ask : e.ask ≡ f.ask = head_same e.ask f.ask (map ask_in own) (map ask_in other) asks in
    let caller : e.caller ≡ f.caller = All-head IsZero e own callers ∙ sym (All-head IsZero f other others) in
    let answer : e.answer ≡ f.answer = legal.0 ∙ ap (reply b) ask ∙ sym legal'.0 in
    let after : IsLegal (next b e.ask) (other ++ rest) = subst (λ (a : Item). IsLegal (next b a) (other ++ rest)) (sym ask) legal'.1 in
    let same = own_same (next b e.ask) own other later rest (All-tail IsZero e own callers) (All-tail IsZero f other others) (tail_same e.ask f.ask (map ask_in own) (map ask_in other) asks) legal.1 after in
    ap (λ (x : Entry). x ∷ own) (entry_same e f caller ask answer) ∙ ap (λ (xs : List Entry). f ∷ xs) same

legal_after : (b : SlotBook) (own later : List Entry) → IsLegal b (own ++ later) → IsLegal (replay b own) later
legal_after b [] later legal = legal
legal_after b (e ∷ own) later legal = legal_after (next b e.ask) own later legal.1

-- ---- one message

good_same : (m n : Message) → Good m ≡ Good n → m ≡ n
good_same m n e = cc

never_bad : (m : Message) (n : ℕ) → Good m ≡ Bad n → ⊥
never_bad m n e = cc

message_same : OneReceived → (season : Term) (airport : Station) (bytes : List ℕ) (b : SlotBook) (own other later rest : List Entry) (text text' : List ℕ) → AreOfMessage (lines_of bytes) →
    IsLegal b (own ++ later) → IsLegal b (other ++ rest) → IsAnsweredMessage season airport 0 (lines_of bytes) own text → IsAnsweredMessage season airport 0 (lines_of bytes) other text' → own ≡ other
message_same one season airport bytes b own other later rest text text' of legal legal' (inl x) (inl y) =
    let same : x.message ≡ y.message = good_same x.message y.message (one season airport bytes (Good x.message) (Good y.message) of x.good y.good) in
    own_same b own other later rest x.own.callers y.own.callers (x.own.asks_are ∙ ap asks_of same ∙ sym y.own.asks_are) legal legal'
message_same one season airport bytes b own other later rest text text' of legal legal' (inl x) (inr y) =
    absurd (never_bad x.message y.line (one season airport bytes (Good x.message) (Bad y.line) of x.good y.bad))
message_same one season airport bytes b own other later rest text text' of legal legal' (inr x) (inl y) =
    absurd (never_bad y.message x.line (one season airport bytes (Good y.message) (Bad x.line) of y.good x.bad))
message_same one season airport bytes b own other later rest text text' of legal legal' (inr x) (inr y) = x.none ∙ sym y.none

-- ---- all messages

pub history_same : OneReceived → (season : Term) (airport : Station) (asks : List ℕ) (pieces : List Piece) (b : SlotBook) (one other : List Entry) (texts others : List (List ℕ)) →
    All (HoldsMessage asks) pieces → IsLegal b one → IsLegal b other → AreAnsweredMessages season airport 0 (map (piece_lines asks) pieces) one texts →
    AreAnsweredMessages season airport 0 (map (piece_lines asks) pieces) other others → one ≡ other
history_same law season airport asks [] b one other [] [] held legal legal' x y = x ∙ sym y
history_same law season airport asks [] b one other [] (t ∷ others) held legal legal' x y = absurd y
history_same law season airport asks [] b one other (t ∷ texts) others held legal legal' x y = absurd x
history_same law season airport asks (piece ∷ pieces) b one other [] others held legal legal' x y = absurd x
history_same law season airport asks (piece ∷ pieces) b one other (t ∷ texts) [] held legal legal' x y = absurd y
history_same law season airport asks (piece ∷ pieces) b one other (t ∷ texts) (t' ∷ others) held legal legal' (own, later, is, answered, rest) (own', later', is', answered', rest') =
    let of : AreOfMessage (piece_lines asks piece) = (All-head (HoldsMessage asks) piece pieces held).lines in
    let whole : IsLegal b (own ++ later) = subst (IsLegal b) is legal in
    let whole' : IsLegal b (own' ++ later') = subst (IsLegal b) is' legal' in
    let same : own ≡ own' = message_same law season airport (slice_range asks piece.from piece.to) b own own' later later' t t' of whole whole' answered answered' in
    let after : IsLegal (replay b own) later = legal_after b own later whole in
    let after' : IsLegal (replay b own) later' = subst (λ (h : List Entry). IsLegal (replay b h) later') (sym same) (legal_after b own' later' whole') in
    let then = history_same law season airport asks pieces (replay b own) later later' texts others (All-tail (HoldsMessage asks) piece pieces held) after after' rest rest' in
    is ∙ ap (λ (h : List Entry). h ++ later) same ∙ ap (λ (h : List Entry). own' ++ h) then ∙ sym is'
