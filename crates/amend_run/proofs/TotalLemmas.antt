-- Messages have no more lines than their text, and this no more than bytes.
use Rattle.std.proofs.Common.{◌≡◌, ℕ, suc, ◌≤◌, ◌==◌, ◌&&◌, Bool, true, false, arith, List, [], ◌∷◌, length}
use Rattle.std.specs.Prelude.{if◌then◌else◌}
use Rattle.slot_text.specs.Fields.{is_blank_line}
use Rattle.slot_text.specs.Lines.{lines_of, onto_first, starts_with_lf}
use Rattle.scr_reader.specs.Messages.{begins_in_run}
use Rattle.scr_reader.specs.Streams.{messages_in, onto_message, messages_at_end}
use Rattle.amend_run.specs.Private.Due.{line_total}

onto_total : (line : List ℕ) (messages : List (List (List ℕ))) → line_total (onto_message line messages) ≡ suc (line_total messages)
onto_total line [] = omega arith
onto_total line (message ∷ messages) = omega arith

one_more : (blank begins : Bool) (line : List ℕ) (rest : List (List (List ℕ))) →
    line_total (if blank then rest else (if begins then onto_message line rest else (line ∷ []) ∷ rest)) ≤ suc (line_total rest)
one_more true begins line rest = omega arith
one_more false true line rest = omega (arith, onto_total line rest)
one_more false false line rest = omega arith

in_lines : (lines : List (List ℕ)) → line_total (messages_in lines) ≤ length lines
unfolding messages_in
in_lines [] = omega arith
in_lines (line ∷ lines) = omega (arith, one_more (is_blank_line line) (begins_in_run lines) line (messages_in lines), in_lines lines)

first_more : (b : ℕ) (texts : List (List ℕ)) → length (onto_first b texts) ≤ suc (length texts)
first_more b [] = omega arith
first_more b (text ∷ texts) = omega arith

one_byte : (lf cr : Bool) (b : ℕ) (rest : List (List ℕ)) →
    length (if lf then [] ∷ rest else (if cr then rest else onto_first b rest)) ≤ suc (length rest)
one_byte true cr b rest = omega arith
one_byte false true b rest = omega arith
one_byte false false b rest = first_more b rest

pub lines_few : (bytes : List ℕ) → length (lines_of bytes) ≤ length bytes
unfolding lines_of
lines_few [] = omega arith
lines_few (b ∷ bytes) = omega (arith, one_byte (b == 10) (b == 13 && starts_with_lf bytes) b (lines_of bytes), lines_few bytes)

pub total_few : (bytes : List ℕ) → line_total (messages_at_end bytes) ≤ length bytes
total_few bytes = omega (arith, in_lines (lines_of bytes), lines_few bytes)
