-- Items of a message that are answered one after the other.
use Rattle.std.proofs.Common.{◌≡◌, ℕ, zero, suc, ◌<◌, List, [], ◌∷◌, ◌++◌, length, map, take, drop, refl, sym, ap, subst, ◌∙◌, append_assoc, append-nil, inl, inr, Result, Ok, Err, arith}
use Rattle.std.proofs.lemmas.List.{map-append, take-append-drop}
use Rattle.std.proofs.lemmas.List.Elements.{All-append, All-nil, All-cons}
use Rattle.std.specs.Prelude.{All, IfOk}
use Rattle.season_days.specs.declared.declaration.Declaration.{Declaration}
use Rattle.scr_reader.specs.Again.{AreAsked, IsFitItem}
use Rattle.scr_reader.specs.Printed.{ItemsFit}
use Rattle.scr_reader.specs.declared.line.Item.TheVariants.{One, Pair, Query}
use Rattle.holding_book.specs.Asks.{CanAsk}
use Rattle.season_days.specs.Term.{Term}
use Rattle.scr_reader.specs.declared.line.Item.{Item}
use Rattle.scr_reader.specs.declared.message.Placed.{Placed}
use Rattle.scr_reader.specs.declared.message.Message.{Message}
use Rattle.holding_book.specs.declared.answer.Answer.{Answer}
use Rattle.holding_book.specs.declared.answer.Entry.{Entry}
use Rattle.holding_book.specs.Replied.{HasAnswerLines}
use Rattle.slot_ledger.specs.Starts.{new_entry}
use Rattle.scr_replies.specs.Replies.{AreAnswerLines, bad_text}
use Rattle.scr_replies.specs.Received.{AreFor, IsGoodMessage, IsBadAt}
use Rattle.session_desk.specs.Begun.{LeavesAsks, IsAnsweredBy, HasBegunMessage, IsBegunBy}
use Rattle.session_desk.specs.Private.Amended.{item_of, answer_of, HasAnswers, HasOneAnswer, StopsAnswer, HasLeft}
use Rattle.session_desk.specs.declared.amending.DeskCaller.{DeskCaller}
use Rattle.session_desk.specs.declared.responder.AnswerFault.{AnswerFault}
use Rattle.session_desk.specs.declared.responder.AnswerFault.TheVariants.{Full, Broken, Memory}

pub if_ok : {X F : Type 0} {P Q : X → Type 0} (r : Result X F) → ((x : X) → P x → Q x) → IfOk r P → IfOk r Q
if_ok (Ok x) f h = f x h
if_ok (Err e) f h = tt

-- what can be read can be asked
pub can_ask : (d : Declaration) (ask : Item) → IsFitItem d.season ask → CanAsk d ask
can_ask d (One line) fit = record { spelled = fit.fits; paired = tt }
can_ask d (Pair historic request) fit = record { spelled = fit.fits; paired = fit.asked.1 }
can_ask d (Query flight) fit = record { spelled = fit.fits; paired = tt }

-- the items of a message that is read
pub fit_all : (season : Term) (items : List Placed) → AreAsked items → ItemsFit season items → All (λ (placed : Placed). IsFitItem season placed.item) items
fit_all season [] asked fit = All-nil (λ (placed : Placed). IsFitItem season placed.item)
fit_all season (p ∷ items) asked fit =
    All-cons (λ (placed : Placed). IsFitItem season placed.item) p items (record { asked = asked.0; fits = fit.0 }) (fit_all season items asked.1 fit.1)

lines_more : (season : Term) (items : List Placed) (answers : List Answer) (p : Placed) (a : Answer) → AreAnswerLines season items answers → HasAnswerLines season p.item a
    → AreAnswerLines season (items ++ p ∷ []) (answers ++ a ∷ [])
lines_more season [] [] p a h one = (one, tt)
lines_more season [] (b ∷ answers) p a h one = absurd h
lines_more season (q ∷ items) [] p a h one = absurd h
lines_more season (q ∷ items) (b ∷ answers) p a h one = (h.0, lines_more season items answers p a h.1 one)

for_more : (caller : ℕ) (asks : List Item) (entries : List Entry) (ask : Item) (answer : Answer) → AreFor caller asks entries
    → AreFor caller (asks ++ ask ∷ []) (entries ++ new_entry caller ask answer ∷ [])
for_more caller asks entries ask answer h =
    let new = new_entry caller ask answer in
    record {
      callers = All-append (λ (e : Entry). e.caller ≡ caller) entries (new ∷ []) h.callers (All-cons (λ (e : Entry). e.caller ≡ caller) new [] refl (All-nil (λ (e : Entry). e.caller ≡ caller)));
      asks_are = map-append (λ (e : Entry). e.ask) entries (new ∷ []) ∙ ap (λ (l : List Item). l ++ ask ∷ []) h.asks_are;
    }

pub nothing_asked : (season : Term) (caller : ℕ) (before : List Entry) → HasAnswers season caller [] before before []
nothing_asked season caller before = record {
  own = [];
  entries_are = sym (append-nil before);
  are_for = record { callers = All-nil (λ (e : Entry). e.caller ≡ caller); asks_are = refl };
  answers_are = refl;
  lines = tt;
}

pub one_more : (season : Term) (caller : ℕ) (items : List Placed) (p : Placed) (before mid after : List Entry) (answers now : List Answer)
    → HasAnswers season caller items before mid answers → HasOneAnswer season caller p.item mid after answers now
    → HasAnswers season caller (items ++ p ∷ []) before after now
one_more season caller items p before mid after answers now h o =
    let new = new_entry caller p.item o.answer in
    record {
      own = h.own ++ new ∷ [];
      entries_are = o.entered ∙ ap (λ (l : List Entry). l ++ new ∷ []) h.entries_are ∙ append_assoc before h.own (new ∷ []);
      are_for = subst (λ (l : List Item). AreFor caller l (h.own ++ new ∷ [])) (sym (map-append item_of items (p ∷ []))) (for_more caller (map item_of items) h.own p.item o.answer h.are_for);
      answers_are = map-append answer_of h.own (new ∷ []) ∙ ap (λ (l : List Answer). l ++ o.answer ∷ []) h.answers_are ∙ sym o.answers_are;
      lines = subst (λ (l : List Answer). AreAnswerLines season (items ++ p ∷ []) l) (sym o.answers_are) (lines_more season items answers p o.answer h.lines o.lines);
    }

rest_some : (items : List Placed) (i : ℕ) → i < length items → (next : Item) × (later : List Item) × (map item_of (drop i items) ≡ next ∷ later)
rest_some [] i lt = absurd (omega (arith, lt))
rest_some (p ∷ items) zero lt = (item_of p, map item_of items, refl)
rest_some (p ∷ items) (suc i) lt = rest_some items i (omega (arith, lt))

leaves : (broken : ℕ → Type 0) (most : ℕ) (fault : AnswerFault) (rest : List Item) → StopsAnswer broken most fault → ((next : Item) × (later : List Item) × (rest ≡ next ∷ later))
    → LeavesAsks broken most fault rest
leaves broken most (Full n) rest stop some = (stop, some.0, some.1, some.2)
leaves broken most (Broken n) rest stop some = (stop, some.0, some.1, some.2)
leaves broken most Memory rest stop some = tt

module _ (broken : ℕ → Type 0) (most caller : ℕ) where
  -- an ask was not entered
  pub left_at : (season : Term) (fault : AnswerFault) (items : List Placed) (i : ℕ) (before mid after : List Entry) (answers : List Answer) → i < length items
      → HasAnswers season caller (take i items) before mid answers → after ≡ mid → StopsAnswer broken most fault → HasLeft broken most caller fault items before after
  left_at season fault items i before mid after answers lt h same stop = record {
    own = h.own;
    first = map item_of (take i items);
    rest = map item_of (drop i items);
    entries_are = same ∙ h.entries_are;
    asks = ap (map item_of) (sym (take-append-drop i items)) ∙ map-append item_of (take i items) (drop i items);
    are_for = h.are_for;
    left = leaves broken most fault (map item_of (drop i items)) stop (rest_some items i lt);
  }

  -- no memory before the first ask
  pub left_all : (items : List Placed) (before : List Entry) → HasLeft broken most caller Memory items before before
  left_all items before = record {
    own = [];
    first = [];
    rest = map item_of items;
    entries_are = sym (append-nil before);
    asks = refl;
    are_for = record { callers = All-nil (λ (e : Entry). e.caller ≡ caller); asks_are = refl };
    left = tt;
  }

  -- no memory for the text
  pub left_none : (season : Term) (items : List Placed) (before after : List Entry) (answers : List Answer) → HasAnswers season caller items before after answers
      → HasLeft broken most caller Memory items before after
  left_none season items before after answers h = record {
    own = h.own;
    first = map item_of items;
    rest = [];
    entries_are = h.entries_are;
    asks = sym (append-nil (map item_of items));
    are_for = h.are_for;
    left = tt;
  }

-- a good message was begun
pub good_begun : (broken : ℕ → Type 0) (c : DeskCaller) (fault : AnswerFault) (lines : List (List ℕ)) (message : Message) (before after : List Entry)
    → IsGoodMessage c.season c.airport lines message → HasLeft broken c.most c.caller fault message.items before after
    → (entries : List Entry) × (after ≡ before ++ entries) × IsBegunBy broken c fault lines entries
good_begun broken c fault lines message before after good h = (
  h.own,
  h.entries_are,
  by fault (record {
    message = message;
    first = h.first;
    rest = h.rest;
    good = good;
    asks = h.asks;
    own = h.are_for;
    left = h.left;
  }),
)
  where
    by : (fault : AnswerFault) → HasBegunMessage broken c fault lines h.own → IsBegunBy broken c fault lines h.own
    by (Full n) b = b
    by (Broken n) b = b
    by Memory b = inr b

-- nothing was
pub none_begun : (broken : ℕ → Type 0) (c : DeskCaller) (fault : AnswerFault) (lines : List (List ℕ)) (before after : List Entry) → after ≡ before → fault ≡ Memory
    → (entries : List Entry) × (after ≡ before ++ entries) × IsBegunBy broken c fault lines entries
none_begun broken c fault lines before after same none = ([], same ∙ sym (append-nil before), rw none (inl refl))

-- a message with a bad line
pub bad_answered : (c : DeskCaller) (lines : List (List ℕ)) (n : ℕ) (text : List ℕ) (before : List Entry) → IsBadAt c.season c.airport lines n → text ≡ bad_text n
    → (entries : List Entry) × (before ≡ before ++ entries) × IsAnsweredBy c lines entries text
bad_answered c lines n text before bad is = ([], sym (append-nil before), inr (record { line = n; bad = bad; none = refl; text_is = is }))
