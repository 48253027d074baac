-- The text of the next season's lines, line by line, and how it is read.
use Rattle.std.proofs.Common.{◌≡◌, ◌≢◌, ℕ, ◌+◌, ◌<◌, ◌≤◌, ◌==◌, Bool, true, false, List, [], ◌∷◌, ◌++◌, length, drop, get_or, refl, sym, ap, ◌∙◌, subst, arith, append_assoc, append-nil}
use Rattle.std.specs.Prelude.{All}
use Rattle.std.proofs.lemmas.Bool.{false≢true}
use borrow.Author.Tests.{eqb-true}
use Rattle.std.proofs.lemmas.List.{drop_more, drop_all}
use Rattle.std.proofs.lemmas.List.Elements.{All-head, All-tail}
use Rattle.slot_text.specs.Ended.{ended}
use Rattle.season_days.specs.Term.{Term}
use Rattle.scr_reader.specs.declared.header.Header.{Header}
use Rattle.scr_reader.specs.declared.line.Line.{Line}
use Rattle.scr_reader.specs.declared.line.Code.{Code}
use Rattle.scr_reader.specs.declared.line.Code.TheVariants.{F, C, R, L}
use Rattle.scr_reader.specs.declared.line.Item.TheVariants.{One}
use Rattle.scr_reader.specs.Printed.{header_lines, line_text, item_text, items_lines, ItemsFit, IsAsked}
use Rattle.scr_reader.specs.Again.{AreAsked, HeaderFits, AreNumbered, IsReadAgain, AreReadAgain, messages_text}
use Rattle.scr_reader.specs.Messages.{ReadsAll}
use Rattle.scr_reader.specs.declared.message.Message.{Message}
use Rattle.usage_watch.specs.NextTexts.{IsHistoric, next_items, next_message, next_messages, next_text}

abbrev pub lines_text : Term → List Line → List ℕ
lines_text season [] = []
lines_text season (line ∷ lines) = item_text season (One line) ++ lines_text season lines

-- ---- the text

items_text : (season : Term) (k : ℕ) (lines : List Line) → ended (items_lines season (next_items k lines)) ≡ lines_text season lines
items_text season k [] = refl
items_text season k (line ∷ lines) =
    let text = line_text season line.code line in
    ap (λ (t : List ℕ). text ++ (10 ∷ t)) (items_text season (k + 1) lines) ∙ sym (append_assoc text (10 ∷ []) (lines_text season lines))

ended-append : (xs ys : List (List ℕ)) → ended (xs ++ ys) ≡ ended xs ++ ended ys
ended-append [] ys = refl
ended-append (x ∷ xs) ys = ap (λ (t : List ℕ). x ++ (10 ∷ t)) (ended-append xs ys) ∙ sym (append_assoc x (10 ∷ ended xs) (ended ys))

text_of : (header : Header) (line : Line) (lines : List Line) → next_text header (line ∷ lines) ≡ (ended (header_lines header) ++ lines_text header.season (line ∷ lines)) ++ (10 ∷ [])
text_of header line lines =
    ap (λ (t : List ℕ). t ++ (10 ∷ [])) (ended-append (header_lines header) (items_lines header.season (next_items 5 (line ∷ lines)))
    ∙ ap (λ (t : List ℕ). ended (header_lines header) ++ t) (items_text header.season 5 (line ∷ lines)))

pub text_is : (header : Header) (lines : List Line) (text : List ℕ) → 0 < length lines → text ≡ ended (header_lines header) ++ lines_text header.season lines → text ++ (10 ∷ []) ≡ next_text header lines
text_is header [] text some e = absurd (let none : 0 < 0 = some in omega arith)
text_is header (line ∷ lines) text some e = ap (λ (t : List ℕ). t ++ (10 ∷ [])) e ∙ sym (text_of header line lines)

pub no_text : (header : Header) (lines : List Line) (text : List ℕ) → text ≡ [] → (length lines == 0) ≡ true → text ≡ next_text header lines
no_text header [] text e is = e
no_text header (line ∷ lines) text e is = absurd (let none : length (line ∷ lines) ≡ 0 = eqb-true (length (line ∷ lines)) 0 is in omega (arith, none))

pub some_lines : (lines : List Line) (is_empty : Bool) → is_empty ≡ (length lines == 0) → is_empty ≡ false → 0 < length lines
some_lines [] is_empty e fails = absurd (false≢true (sym fails ∙ e))
some_lines (line ∷ lines) is_empty e fails = omega arith

pub text_more : (season : Term) (lines : List Line) (i : ℕ) (d : Line) (text whole : List ℕ) → i < length lines → text ++ lines_text season (drop i lines) ≡ whole → (text ++ item_text season (One (get_or lines i d))) ++ lines_text season (drop (i + 1) lines) ≡ whole
text_more season lines i d text whole lt so_far =
    let next : drop i lines ≡ get_or lines i d ∷ drop (i + 1) lines = drop_more lines i d lt in
    append_assoc text (item_text season (One (get_or lines i d))) (lines_text season (drop (i + 1) lines))
    ∙ ap (λ (l : List Line). text ++ lines_text season l) (sym next)
    ∙ so_far

pub text_end : (season : Term) (lines : List Line) (i : ℕ) (text whole : List ℕ) → length lines ≤ i → text ++ lines_text season (drop i lines) ≡ whole → text ≡ whole
text_end season lines i text whole le so_far =
    sym (append-nil text) ∙ ap (λ (l : List Line). text ++ lines_text season l) (sym (drop_all i lines le)) ∙ so_far

-- ---- how it is read

can_ask : (code : Code) → code ≡ F → IsAsked code × (code ≢ C) × (code ≢ R) × (code ≢ L)
can_ask code e = subst (λ (k : Code). IsAsked k × (k ≢ C) × (k ≢ R) × (k ≢ L)) (sym e) (refl, λ f. cc, λ f. cc, λ f. cc)

asked : (season : Term) (k : ℕ) (lines : List Line) → All (IsHistoric season) lines → AreAsked (next_items k lines)
asked season k [] are = tt
asked season k (line ∷ lines) are =
    let one = All-head (IsHistoric season) line lines are in
    (can_ask line.code one.code, asked season (k + 1) lines (All-tail (IsHistoric season) line lines are))

fit : (season : Term) (k : ℕ) (lines : List Line) → All (IsHistoric season) lines → ItemsFit season (next_items k lines)
fit season k [] are = tt
fit season k (line ∷ lines) are =
    let one = All-head (IsHistoric season) line lines are in
    (one.fits, fit season (k + 1) lines (All-tail (IsHistoric season) line lines are))

numbered : (k : ℕ) (lines : List Line) → AreNumbered k (next_items k lines)
numbered k [] = tt
numbered k (line ∷ lines) = (refl, numbered (k + 1) lines)

pub is_again : (header : Header) (lines : List Line) → HeaderFits header → All (IsHistoric header.season) lines → IsReadAgain 1 (next_message header lines)
is_again header lines fits are = record {
  line = refl;
  season = fits.season;
  date = fits.date;
  airport = fits.airport;
  fit = fit header.season 5 lines are;
  asked = asked header.season 5 lines are;
  numbered = numbered 5 lines;
}

abbrev pub ReadsMany : Type 0
ReadsMany = (messages : List Message) → AreReadAgain 1 messages → ReadsAll (messages_text messages) messages

pub is_read : ReadsMany → (header : Header) (lines : List Line) → (lines ≢ [] → HeaderFits header) → All (IsHistoric header.season) lines → ReadsAll (next_text header lines) (next_messages header lines)
is_read law header [] fits are = law [] tt
is_read law header (line ∷ lines) fits are = law (next_message header (line ∷ lines) ∷ []) (is_again header (line ∷ lines) (fits (λ e. cc)) are, tt)
