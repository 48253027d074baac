-- The item that a printed text spells.
use Rattle.std.proofs.Common.{◌≡◌, ◌≢◌, ◌↔◌, ℕ, List, [], ◌∷◌, ◌++◌, Option, Some, None, refl, sym, ap, subst, ◌∙◌, arith}
use Rattle.std.specs.Prelude.{IsSomeAnd, IfSome, IsNone}
use Rattle.std.specs.Borrow.{Bor}
use Rattle.std.specs.Option.{option_copied}
use Rattle.std.proofs.lemmas.List.{append-nil}
use Rattle.slot_text.specs.Lines.{lines_of}
use Rattle.season_days.specs.Term.{Term}
use Rattle.scr_reader.specs.declared.line.Line.{Line}
use Rattle.scr_reader.specs.declared.line.Flight.{Flight}
use Rattle.scr_reader.specs.declared.line.Code.TheVariants.{C, R, L}
use Rattle.scr_reader.specs.declared.line.Item.{Item}
use Rattle.scr_reader.specs.declared.line.Item.TheVariants.{One, Pair, Query}
use Rattle.scr_reader.specs.declared.rows.Reading.{Reading}
use Rattle.scr_reader.specs.Rows.{Row, remark, entry, question, IsRow}
use Rattle.scr_reader.specs.Private.Readings.{row_read, IsRowReading}
use Rattle.scr_reader.specs.Messages.{AsksChange}
use Rattle.scr_reader.specs.Printed.{flight_text, line_text, item_lines, item_text, ItemFits}
use Rattle.scr_reader.specs.Again.{IsFitItem, IsItemText}
use Rattle.scr_reader.proofs.CleanLemmas.{clean_flight}
use Rattle.scr_reader.proofs.PrintLemmas.{NamedDays, printed_question}
use Rattle.scr_reader.proofs.LineLemmas.{full_line, clean_is_line}
use Rattle.scr_reader.proofs.AgainLemmas.{AllFull, lines_again, line_row, asked_change, asked_request}
use Rattle.scr_reader.proofs.OncePartLemmas.{OneTime, OneSet}
use Rattle.scr_reader.proofs.OnceTextLemmas.{row_once}

-- ---- the lines of the text

no_lines : lines_of [] ≡ []
unfolding lines_of
no_lines = refl

item_full : (season : Term) (item : Item) → ItemFits season item → AllFull (item_lines season item)
item_full season (One line) fits = (full_line season line.code line fits, tt)
item_full season (Pair changed asking) fits = (full_line season changed.code changed fits.0, (full_line season asking.code asking fits.1, tt))
item_full season (Query flight) fits = (clean_is_line 81 (flight_text flight) (omega arith, clean_flight flight fits), tt)

text_lines : (season : Term) (text : List ℕ) (item : Item) → IsItemText season text item → lines_of text ≡ item_lines season item
text_lines season text item is =
    ap lines_of (is.spelled ∙ sym (append-nil (item_text season item))) ∙ lines_again (item_lines season item) [] (item_full season item is.fit.fits)
    ∙ ap (λ (l : List (List ℕ)). item_lines season item ++ l) no_lines ∙ append-nil (item_lines season item)

-- the lines, of which the first was taken
taken_lines : (season : Term) (text start first rest : List ℕ) (item : Item) → IsItemText season text item → start ≡ text → lines_of start ≡ first ∷ lines_of rest → item_lines season item ≡ first ∷ lines_of rest
taken_lines season text start first rest item is begins taken = sym (text_lines season text item is) ∙ ap lines_of (sym begins) ∙ taken

-- what is read of the next line
pub next_is : (old new : List ℕ) (r : Option (Bor (List ℕ))) → (IsNone r ↔ (old ≡ [])) → IfSome r (λ line. lines_of old ≡ line.now ∷ lines_of new) → (l : List ℕ) (more : List (List ℕ)) → lines_of old ≡ l ∷ more
    → IsSomeAnd (option_copied r) (λ t. t ≡ l)
next_is old new None none lines l more is =
    let empty : lines_of old ≡ [] = ap lines_of (none.0 refl) ∙ no_lines in
    absurd (cc (empty, is))
next_is old new (Some line) none lines l more is = cc (lines, is)

-- ---- the first row

abbrev pub first_row : Item → Row
first_row (One line) = entry line
first_row (Pair changed asking) = entry changed
first_row (Query flight) = question flight

first_is : (a b : List ℕ) (x y : List (List ℕ)) → a ∷ x ≡ b ∷ y → a ≡ b
first_is a b x y e = cc

row_of_first : (season : Term) (item : Item) (first : List ℕ) (rest : List (List ℕ)) → NamedDays season → IsFitItem season item → item_lines season item ≡ first ∷ rest → IsRow season first (first_row item)
row_of_first season (One line) first rest law fit lines =
    subst (λ (t : List ℕ). IsRow season t (entry line)) (first_is (line_text season line.code line) first [] rest lines) (line_row season line law fit.asked.0 fit.fits)
row_of_first season (Pair changed asking) first rest law fit lines =
    let more : List (List ℕ) = line_text season asking.code asking ∷ [] in
    subst (λ (t : List ℕ). IsRow season t (entry changed)) (first_is (line_text season changed.code changed) first more rest lines) (line_row season changed law (asked_change changed.code fit.asked.0) fit.fits.0)
row_of_first season (Query flight) first rest law fit lines =
    subst (λ (t : List ℕ). IsRow season t (question flight)) (first_is (81 ∷ flight_text flight) first [] rest lines) (printed_question season flight fit.fits)

-- what the first line of an item's text is read as
pub first_read : (season : Term) (text start first rest : List ℕ) (item : Item) (reading : Reading) → NamedDays season → IsItemText season text item → start ≡ text → lines_of start ≡ first ∷ lines_of rest → IsRowReading season first reading
    → row_read reading ≡ Some (first_row item)
first_read season text start first rest item reading law is begins taken read =
    read.only (first_row item) (row_of_first season item first (lines_of rest) law is.fit (taken_lines season text start first rest item is begins taken))

pub not_remark : (item : Item) → (Some remark ≡ Some (first_row item)) → ⊥
not_remark (One line) e = cc
not_remark (Pair changed asking) e = cc
not_remark (Query flight) e = cc

pub not_none : (item : Item) → (let o : Option Row = None in o ≡ Some (first_row item)) → ⊥
not_none item e = cc

pub query_read : (item : Item) (flight : Flight) → Some (question flight) ≡ Some (first_row item) → (let o : Option Item = Some (Query flight) in o ≡ Some item)
query_read (One line) flight e = cc
query_read (Pair changed asking) flight e = cc
query_read (Query asked) flight e = cc

-- ---- the lines of a pair

moved : (o : Option (List ℕ)) (P : List ℕ → Type 0) (t : List ℕ) → IsSomeAnd o (λ x. x ≡ t) → P t → IsSomeAnd o P
moved None P t is p = is
moved (Some x) P t is p = subst P (sym is) p

second_is : (a b c : List ℕ) (rest : List (List ℕ)) → a ∷ b ∷ [] ≡ c ∷ rest → rest ≡ b ∷ []
second_is a b c rest e = cc

same_entry : (a b : Line) → (let o : Option Row = Some (entry a) in o ≡ Some (entry b)) → a ≡ b
same_entry a b e = cc

-- what a line that stands alone makes, and a line to be changed with the next line
abbrev pub OneGives : Line → Option Item → Type 0
OneGives line r = line.code ≢ C → line.code ≢ R → line.code ≢ L → r ≡ Some (One line)

abbrev pub PairGives : Term → Line → Option (List ℕ) → Option Item → Type 0
PairGives season line next r = (asking : Line) → line.code ≡ C → AsksChange line asking → IsSomeAnd next (λ text. IsRow season text (entry asking)) → r ≡ Some (Pair line asking)

entry_makes : (season : Term) (item : Item) (first : List ℕ) (rest : List (List ℕ)) (line : Line) (next : Option (List ℕ)) (r : Option Item) → NamedDays season → IsFitItem season item → item_lines season item ≡ first ∷ rest
    → Some (entry line) ≡ Some (first_row item) → ((l : List ℕ) (more : List (List ℕ)) → rest ≡ l ∷ more → IsSomeAnd next (λ t. t ≡ l)) → OneGives line r → PairGives season line next r → r ≡ Some item
entry_makes season (One alone) first rest line next r law fit lines read follows one pair =
    let same : line ≡ alone = same_entry line alone read in
    let code : line.code ≡ alone.code = ap (λ (l : Line). l.code) same in
    one (λ e. fit.asked.1 (sym code ∙ e)) (λ e. fit.asked.2 (sym code ∙ e)) (λ e. fit.asked.3 (sym code ∙ e)) ∙ ap (λ (l : Line). Some (One l)) same
entry_makes season (Pair changed asking) first rest line next r law fit lines read follows one pair =
    let same : line ≡ changed = same_entry line changed read in
    let code : line.code ≡ changed.code = ap (λ (l : Line). l.code) same in
    let text = line_text season asking.code asking in
    let row : IsRow season text (entry asking) = line_row season asking law (asked_request asking.code fit.asked.1.request) fit.fits.1 in
    let second : rest ≡ text ∷ [] = second_is (line_text season changed.code changed) text first rest lines in
    let found = moved next (λ t. IsRow season t (entry asking)) text (follows text [] second) row in
    pair asking (code ∙ fit.asked.0) (subst (λ (l : Line). AsksChange l asking) (sym same) fit.asked.1) found ∙ ap (λ (l : Line). Some (Pair l asking)) same
entry_makes season (Query flight) first rest line next r law fit lines read follows one pair = absurd (cc read)

pub entry_read : (season : Term) (text start first rest : List ℕ) (item : Item) (line : Line) (next : Option (List ℕ)) (r : Option Item) → NamedDays season → IsItemText season text item → start ≡ text → lines_of start ≡ first ∷ lines_of rest
    → Some (entry line) ≡ Some (first_row item) → ((l : List ℕ) (more : List (List ℕ)) → lines_of rest ≡ l ∷ more → IsSomeAnd next (λ t. t ≡ l)) → OneGives line r → PairGives season line next r → r ≡ Some item
entry_read season text start first rest item line next r law is begins taken read follows one pair =
    entry_makes season item first (lines_of rest) line next r law is.fit (taken_lines season text start first rest item is begins taken) read follows one pair

-- ---- one item

-- the row of the second line, where there is one
abbrev second_row : Item → List Row
second_row (One line) = []
second_row (Pair changed asking) = entry asking ∷ []
second_row (Query flight) = []

abbrev AreRowsOf : Term → List (List ℕ) → List Row → Type 0
AreRowsOf season [] [] = Unit {0}
AreRowsOf season [] (row ∷ rows) = ⊥
AreRowsOf season (line ∷ lines) [] = ⊥
AreRowsOf season (line ∷ lines) (row ∷ rows) = IsRow season line row × AreRowsOf season lines rows

rows_once : OneTime → OneSet → (season : Term) (lines : List (List ℕ)) (a b : List Row) → AreRowsOf season lines a → AreRowsOf season lines b → a ≡ b
rows_once times sets season [] [] [] x y = refl
rows_once times sets season [] [] (r ∷ b) x y = absurd y
rows_once times sets season [] (r ∷ a) b x y = absurd x
rows_once times sets season (line ∷ lines) [] b x y = absurd x
rows_once times sets season (line ∷ lines) (r ∷ a) [] x y = absurd y
rows_once times sets season (line ∷ lines) (r ∷ a) (s ∷ b) x y =
    ap (λ (t : Row). t ∷ a) (row_once times sets season line r s x.0 y.0) ∙ ap (λ (t : List Row). s ∷ t) (rows_once times sets season lines a b x.1 y.1)

item_rows : (season : Term) (item : Item) → NamedDays season → IsFitItem season item → AreRowsOf season (item_lines season item) (first_row item ∷ second_row item)
item_rows season (One line) law fit = (line_row season line law fit.asked.0 fit.fits, tt)
item_rows season (Pair changed asking) law fit =
    (line_row season changed law (asked_change changed.code fit.asked.0) fit.fits.0, (line_row season asking law (asked_request asking.code fit.asked.1.request) fit.fits.1, tt))
item_rows season (Query flight) law fit = (printed_question season flight fit.fits, tt)

item_of_rows : (a b : Item) → first_row a ∷ second_row a ≡ first_row b ∷ second_row b → a ≡ b
item_of_rows (One a) (One b) e = ap (λ (l : Line). One l) (let f : a ≡ b = cc in f)
item_of_rows (One a) (Pair c d) e = absurd cc
item_of_rows (One a) (Query f) e = absurd cc
item_of_rows (Pair a b) (One c) e = absurd cc
item_of_rows (Pair a b) (Pair c d) e =
    let f : a ≡ c = cc in
    let g : b ≡ d = cc in
    ap (λ (l : Line). Pair l b) f ∙ ap (λ (l : Line). Pair c l) g
item_of_rows (Pair a b) (Query f) e = absurd cc
item_of_rows (Query f) (One a) e = absurd cc
item_of_rows (Query f) (Pair a b) e = absurd cc
item_of_rows (Query f) (Query g) e = ap (λ (x : Flight). Query x) (let h : f ≡ g = cc in h)

pub item_once : OneTime → OneSet → (season : Term) (text : List ℕ) (a b : Item) → NamedDays season → IsItemText season text a → IsItemText season text b → a ≡ b
item_once times sets season text a b law x y =
    let lines : item_lines season a ≡ item_lines season b = sym (text_lines season text a x) ∙ text_lines season text b y in
    let rows = subst (λ (ls : List (List ℕ)). AreRowsOf season ls (first_row a ∷ second_row a)) lines (item_rows season a law x.fit) in
    item_of_rows a b (rows_once times sets season (item_lines season b) (first_row a ∷ second_row a) (first_row b ∷ second_row b) rows (item_rows season b law y.fit))
