-- The text of a history: what was asked and answered, one entry after the other.
use Rattle.std.specs.Prelude.{ℕ, suc, List, [], ◌∷◌, ◌++◌, codes}
use Rattle.std.specs.Fmt.{decimal}
use Rattle.season_days.specs.Term.{Term}
use Rattle.scr_reader.specs.Printed.{item_text}
use Rattle.holding_book.specs.declared.answer.Entry.{Entry}
use Rattle.holding_book.specs.Replied.{HasAnswerLines}
use Rattle.scr_replies.specs.Replies.{ask_answer}

-- the numbers of the entry and of its caller
abbrev pub entry_title : ℕ → ℕ → List ℕ
entry_title n caller =
    codes "ENTRY " ++ (decimal n ++ (codes " CALLER " ++ (decimal caller ++ 10 ∷ [])))

-- the title, the lines of the ask, and those of its answer
abbrev pub entry_text : Term → ℕ → Entry → List ℕ
entry_text season n entry =
    entry_title n entry.caller
    ++ (item_text season entry.ask ++ ask_answer season entry.ask entry.answer)

-- the entries from this number on
abbrev pub entries_text : Term → ℕ → List Entry → List ℕ
entries_text season n [] = []
entries_text season n (entry ∷ later) =
    entry_text season n entry ++ entries_text season (suc n) later

abbrev pub history_text : Term → List Entry → List ℕ
history_text season history = entries_text season 1 history

-- the ask and its answer have a spelling
abbrev pub HasEntryLines : Term → Entry → Type 0
HasEntryLines season entry = HasAnswerLines season entry.ask entry.answer
