-- Texts of answers and of entries, one more in front.
use Rattle.std.proofs.Common.{◌≡◌, ℕ, suc, ◌+◌, ◌<◌, refl, sym, ◌∙◌, ap, subst, arith, List, [], ◌∷◌, ◌++◌, length, get_or, drop, drop-cons, append_assoc}
use Rattle.std.proofs.lemmas.List.{length-drop}
use Rattle.season_days.specs.Term.{Term}
use Rattle.scr_reader.specs.declared.message.Placed.{Placed}
use Rattle.holding_book.specs.declared.answer.Answer.{Answer}
use Rattle.holding_book.specs.declared.answer.Entry.{Entry}
use Rattle.holding_book.specs.Replied.{HasAnswerLines}
use Rattle.scr_replies.specs.Replies.{ask_answer, answers_text, AreAnswerLines}
use Rattle.scr_replies.specs.History.{entry_text, entries_text}

-- ---- lists from a place on

pub here : {X : Type 0} (xs : List X) (i : ℕ) (x : X) → i < length xs → x ≡ get_or xs i x → drop i xs ≡ x ∷ drop (i + 1) xs
here {X} xs i x lt is =
    let next : suc i ≡ i + 1 = omega arith in
    drop-cons xs i x lt
    ∙ ap (λ (y : X). y ∷ drop (suc i) xs) (sym is)
    ∙ ap (λ (k : ℕ). x ∷ drop k xs) next

-- ---- answers to items

answer_count : (season : Term) (items : List Placed) (answers : List Answer) → AreAnswerLines season items answers → length items ≡ length answers
answer_count season [] [] are = refl
answer_count season [] (answer ∷ answers) are = absurd are
answer_count season (placed ∷ items) [] are = absurd are
answer_count season (placed ∷ items) (answer ∷ answers) are = ap (λ (n : ℕ). suc n) (answer_count season items answers are.1)

pub answer_there : (season : Term) (items : List Placed) (answers : List Answer) (i : ℕ) → AreAnswerLines season (drop i items) (drop i answers) → i < length items → i < length answers
answer_there season items answers i are lt =
    omega (arith, answer_count season (drop i items) (drop i answers) are, length-drop i items, length-drop i answers, lt)

at_place : (items : List Placed) (i : ℕ) (d : Placed) → i < length items → drop i items ≡ get_or items i d ∷ drop (i + 1) items
at_place items i d lt =
    let next : suc i ≡ i + 1 = omega arith in
    drop-cons items i d lt ∙ ap (λ (k : ℕ). get_or items i d ∷ drop k items) next

both_next : (season : Term) (items : List Placed) (answers : List Answer) (i : ℕ) (d : Placed) (answer : Answer) →
    AreAnswerLines season (drop i items) (drop i answers) → i < length items → answer ≡ get_or answers i answer →
    HasAnswerLines season (get_or items i d).item answer × AreAnswerLines season (drop (i + 1) items) (drop (i + 1) answers)
both_next season items answers i d answer are lt is =
    subst (λ (left : List Answer). AreAnswerLines season (get_or items i d ∷ drop (i + 1) items) left) (here answers i answer (answer_there season items answers i are lt) is)
    (subst (λ (left : List Placed). AreAnswerLines season left (drop i answers)) (at_place items i d lt) are)

pub lines_here : (season : Term) (items : List Placed) (answers : List Answer) (i : ℕ) (d : Placed) (answer : Answer) →
    AreAnswerLines season (drop i items) (drop i answers) → i < length items → answer ≡ get_or answers i answer →
    HasAnswerLines season (get_or items i d).item answer
lines_here season items answers i d answer are lt is = (both_next season items answers i d answer are lt is).0

-- what is written and what is left, where one answer more has been written
pub record AreLeft (season : Term) (items : List Placed) (answers : List Answer) (i : ℕ) (written whole : List ℕ) : Type 0 where
  pub text : written ++ answers_text season (drop i items) (drop i answers) ≡ whole
  pub lines : AreAnswerLines season (drop i items) (drop i answers)

pub left_next : (season : Term) (items : List Placed) (answers : List Answer) (i : ℕ) (d : Placed) (answer : Answer) (before written whole : List ℕ) →
    AreAnswerLines season (drop i items) (drop i answers) → before ++ answers_text season (drop i items) (drop i answers) ≡ whole →
    i < length items → answer ≡ get_or answers i answer → written ≡ before ++ ask_answer season (get_or items i d).item answer →
    AreLeft season items answers (i + 1) written whole
left_next season items answers i d answer before written whole are so_far lt is wrote =
    let ask = (get_or items i d).item in
    let later = answers_text season (drop (i + 1) items) (drop (i + 1) answers) in
    let next : answers_text season (drop i items) (drop i answers) ≡ ask_answer season ask answer ++ later =
    rw (at_place items i d lt, here answers i answer (answer_there season items answers i are lt) is) refl in
    record {
      text =
          ap (λ (t : List ℕ). t ++ later) wrote
          ∙ append_assoc before (ask_answer season ask answer) later
          ∙ ap (λ (t : List ℕ). before ++ t) (sym next)
          ∙ so_far;
      lines = (both_next season items answers i d answer are lt is).1;
    }

-- ---- entries

pub entry_next : (season : Term) (history : List Entry) (i : ℕ) (entry : Entry) (before : List ℕ) → drop i history ≡ entry ∷ drop (i + 1) history →
    (before ++ entry_text season (i + 1) entry) ++ entries_text season (i + 1 + 1) (drop (i + 1) history) ≡ before ++ entries_text season (i + 1) (drop i history)
entry_next season history i entry before is =
    let next : suc (i + 1) ≡ i + 1 + 1 = omega arith in
    rw is (append_assoc before (entry_text season (i + 1) entry) (entries_text season (i + 1 + 1) (drop (i + 1) history))
    ∙ ap (λ (k : ℕ). before ++ (entry_text season (i + 1) entry ++ entries_text season k (drop (i + 1) history))) (sym next))
