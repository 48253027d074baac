-- What is kept of a message under way, after one more byte and where none comes any more.
use Rattle.std.proofs.Common.{◌≡◌, ℕ, ◌+◌, Bool, true, false, ◌||◌, ◌&&◌, not, eqb, ltb, List, [], ◌∷◌, ◌++◌, length, take, refl, sym, ap, ◌∙◌, append_assoc, append-nil, length-append, inl, inr, arith}
use Rattle.std.specs.Prelude.{if◌then◌else◌}
use Rattle.std.proofs.lemmas.Bool.{cases_Bool, or_parts, ltb-true, ltb-false, not-true}
use Rattle.std.proofs.lemmas.List.{take_all}
use Rattle.std.specs.Prelude.{All}
use Rattle.std.proofs.lemmas.List.Elements.{All-tail, All-head}
use Rattle.slot_text.specs.Lines.{lines_of}
use Rattle.slot_text.specs.Fields.{is_blank_line}
use Rattle.scr_reader.specs.Cuts.{some_passes, up_to_last, after_last}
use Rattle.scr_reader.specs.Streams.{AreOfMessage, is_lf, without_last_cr, messages_in, open_bytes, open_lines, complete_messages, one_message, message_under_way, is_too_long, breaks_limit, is_broken, messages_at_end, is_broken_at_end}
use Rattle.session_desk.specs.Private.Laws.{StreamLaws}
use Rattle.session_desk.specs.Private.Held.{ends_with_cr, fills_line, length_with, breaks_with, breaks_at_end, is_under_way, HasLastLf, IsHeld, IsEnded}
use Rattle.session_desk.specs.declared.pending.Pending.{Pending}
use Rattle.session_desk.proofs.LineLemmas.{cr_last, blank_nothing, nothing_left, left_length, blank_at_end, full_after, blank_before, not_full, is_full}
use Rattle.session_desk.proofs.LimitLemmas.{some_append, long_now, long_after, under_blank, under_full, last_fine, open_fine, open_breaks}

pub nothing_open : (open_lines [] ≡ []) × (open_bytes [] ≡ []) × (is_broken [] ≡ false)
unfolding up_to_last after_last lines_of without_last_cr messages_in
nothing_open = (refl, refl, refl)

no_lines_in : lines_of [] ≡ []
unfolding lines_of
no_lines_in = refl

fresh : not (is_blank_line (without_last_cr [])) ≡ false
fresh = rw (nothing_left, blank_nothing) refl

empty_list : (ls : List (List ℕ)) → length ls ≡ 0 → ls ≡ []
empty_list [] e = refl
empty_list (l ∷ ls) e = absurd (omega (arith, e))

some_message : (ls : List (List ℕ)) → (length ls ≡ 0 → ⊥) → one_message ls ≡ ls ∷ []
some_message [] some = absurd (some refl)
some_message (l ∷ ls) some = refl

nothing_more : {X : Type 0} → (xs ys : List X) → xs ++ ys ≡ xs → length ys ≡ 0
nothing_more xs ys e = omega (arith, length-append xs ys, ap length e)

under_way_some : (ls : List (List ℕ)) (line : List ℕ) → length (message_under_way ls line) ≡ 0 → (length ls ≡ 0) × (is_blank_line line ≡ true)
under_way_some ls line none =
    elim (cases_Bool (is_blank_line line)) [
      | inl blank ↦ (no_message ls (ap length (sym (under_blank ls line blank)) ∙ none), blank)
      | inr full ↦ absurd (let n = no_message (ls ++ line ∷ []) (ap length (sym (under_full ls line full)) ∙ none) in omega (arith, n, length-append ls (line ∷ [])))
    ]
  where
    no_message : (ls : List (List ℕ)) → length (one_message ls) ≡ 0 → length ls ≡ 0
    no_message [] none = refl
    no_message (l ∷ ls) none = absurd (omega (arith, none))

all_last : {X : Type 0} (P : X → Type 0) → (xs : List X) (x : X) → All P (xs ++ x ∷ []) → P x
all_last P [] x h = All-head P x [] h
all_last P (y ∷ xs) x h = all_last P xs x (All-tail P y (xs ++ x ∷ []) h)

-- a new message
pub fresh_held : (q : Pending) (text : List ℕ) → open_lines text ≡ [] → open_bytes text ≡ [] → is_broken text ≡ false → q.lines.items ≡ [] → q.count ≡ 0 → q.line.items ≡ [] → q.full ≡ false → q.cr ≡ false → IsHeld q text
fresh_held q text no_lines no_bytes within lines count line full cr = record {
  lines = rw lines (no_lines_in ∙ sym no_lines);
  whole = inl lines;
  count = count ∙ ap length (sym no_lines);
  line = line ∙ ap (take 201) (sym no_bytes);
  full = full ∙ sym (ap (λ (o : List ℕ). not (is_blank_line (without_last_cr o))) no_bytes ∙ fresh);
  cr = cr ∙ ap ends_with_cr (sym no_bytes);
  within = within;
}

-- lines and one more behind them
lines_more : ((front back : List ℕ) → lines_of ((front ++ 10 ∷ []) ++ back) ≡ lines_of (front ++ 10 ∷ []) ++ lines_of back)
    → (text back : List ℕ) → HasLastLf text → lines_of (text ++ back) ≡ lines_of text ++ lines_of back
lines_more parts text back (inl none) = rw (none, no_lines_in) refl
lines_more parts text back (inr last) = rw last.1 (parts last.0 back)

module _ (laws : StreamLaws) where
  -- the text is broken where a complete message is, or the one under way
  broken_parts : (text : List ℕ) → is_broken text
      ≡ (some_passes breaks_limit (complete_messages text) || some_passes breaks_limit (message_under_way (open_lines text) (without_last_cr (open_bytes text))))
  broken_parts text =
      ap (some_passes breaks_limit) (laws.so_far text)
      ∙ some_append breaks_limit (complete_messages text) (message_under_way (open_lines text) (without_last_cr (open_bytes text)))

  -- neither is where nothing is broken
  fine_parts : (text : List ℕ) → is_broken text ≡ false
      → (some_passes breaks_limit (complete_messages text) ≡ false) × (some_passes breaks_limit (message_under_way (open_lines text) (without_last_cr (open_bytes text))) ≡ false)
  fine_parts text fine = or_parts (some_passes breaks_limit (complete_messages text)) (some_passes breaks_limit (message_under_way (open_lines text) (without_last_cr (open_bytes text)))) (sym (broken_parts text) ∙ fine)

  -- ---- one more byte that is no LF

  pub broken_after : (p : Pending) (text : List ℕ) (b : ℕ) → IsHeld p text → is_lf b ≡ false → is_broken (text ++ b ∷ []) ≡ breaks_with p b
  broken_after p text b h other =
      let o = open_bytes text in
      let ls = open_lines text in
      let parts = fine_parts text h.within in
      let fine = open_fine ls (without_last_cr o) parts.1 in
      let full = full_after o p.full p.cr b h.full h.cr in
      let long : ltb 200 (length_with p b) ≡ is_too_long (without_last_cr (o ++ b ∷ [])) = ap (λ (l : List ℕ). ltb 200 (if eqb b 13 then length l else length l + 1)) h.line ∙ long_after o b in
      let more = laws.within text b other in
      broken_parts (text ++ b ∷ [])
      ∙ rw (more.0, more.1, more.2, parts.0)
      (elim (cases_Bool (fills_line p b)) [
        | inr none ↦
            let was = not_full p.full (is_blank_line (without_last_cr o)) h.full (blank_before p.full p.cr b none) in
            let now = not_full (fills_line p b) (is_blank_line (without_last_cr (o ++ b ∷ []))) full none in
            let same : some_passes breaks_limit (one_message ls) ≡ false = ap (some_passes breaks_limit) (sym (under_blank ls (without_last_cr o) was)) ∙ parts.1 in
            ap (some_passes breaks_limit) (under_blank ls (without_last_cr (o ++ b ∷ [])) now) ∙ same ∙ sym (ap (λ (x : Bool). x && (ltb 200 (length_with p b) || eqb p.count 1000)) none)
        | inl some ↦
            let now = is_full (fills_line p b) (is_blank_line (without_last_cr (o ++ b ∷ []))) full some in
            open_breaks ls (without_last_cr (o ++ b ∷ [])) fine.0 fine.1 now
            ∙ rw (some, long, h.count) refl
      ])

  pub byte_kept : (p q : Pending) (text : List ℕ) (b : ℕ) → IsHeld p text → is_lf b ≡ false → breaks_with p b ≡ false
      → q.lines ≡ p.lines → q.count ≡ p.count → ((line : List ℕ) → p.line.items ≡ take 201 line → q.line.items ≡ take 201 (line ++ b ∷ []))
      → q.full ≡ fills_line p b → q.cr ≡ eqb b 13 → IsHeld q (text ++ b ∷ [])
  byte_kept p q text b h other fine lines count line full cr =
      let more = laws.within text b other in
      record {
        lines = rw lines (h.lines ∙ sym more.1);
        whole = rw lines h.whole;
        count = count ∙ h.count ∙ ap length (sym more.1);
        line = line (open_bytes text) h.line ∙ ap (take 201) (sym more.2);
        full = full ∙ full_after (open_bytes text) p.full p.cr b h.full h.cr ∙ ap (λ (o : List ℕ). not (is_blank_line (without_last_cr o))) (sym more.2);
        cr = cr ∙ sym (cr_last (open_bytes text) b) ∙ ap ends_with_cr (sym more.2);
        within = broken_after p text b h other ∙ fine;
      }

  -- ---- an LF

  broken_fresh : (text : List ℕ) → open_bytes text ≡ [] → is_broken text ≡ (some_passes breaks_limit (complete_messages text) || some_passes breaks_limit (one_message (open_lines text)))
  broken_fresh text none =
      broken_parts text
      ∙ ap (λ (m : List (List (List ℕ))). some_passes breaks_limit (complete_messages text) || some_passes breaks_limit m)
      (ap (λ (o : List ℕ). message_under_way (open_lines text) (without_last_cr o)) none
      ∙ ap (message_under_way (open_lines text)) nothing_left
      ∙ under_blank (open_lines text) [] blank_nothing)

  -- after an empty line
  blank_fine : (p : Pending) (text : List ℕ) → IsHeld p text → is_blank_line (without_last_cr (open_bytes text)) ≡ true → is_broken (text ++ 10 ∷ []) ≡ false
  blank_fine p text h blank =
      let parts = fine_parts text h.within in
      let more = laws.message text blank in
      let one : some_passes breaks_limit (one_message (open_lines text)) ≡ false = ap (some_passes breaks_limit) (sym (under_blank (open_lines text) (without_last_cr (open_bytes text)) blank)) ∙ parts.1 in
      broken_fresh (text ++ 10 ∷ []) more.2
      ∙ rw (more.0, more.1, some_append breaks_limit (complete_messages text) (one_message (open_lines text)), parts.0, one) refl

  -- an empty line, and nothing is under way
  pub nothing_ended : (p q : Pending) (text : List ℕ) → IsHeld p text → p.full ≡ false → p.count ≡ 0 → q.lines ≡ p.lines → q.count ≡ 0 → q.line.items ≡ [] → q.full ≡ false → q.cr ≡ false
      → IsHeld q (text ++ 10 ∷ []) × (complete_messages (text ++ 10 ∷ []) ≡ complete_messages text)
  nothing_ended p q text h empty none lines count line full cr =
      let blank = not_full p.full (is_blank_line (without_last_cr (open_bytes text))) h.full empty in
      let more = laws.message text blank in
      let no_lines : open_lines text ≡ [] = empty_list (open_lines text) (sym h.count ∙ none) in (
        record {
          lines = rw lines (h.lines ∙ no_lines ∙ sym more.1);
          whole = rw lines h.whole;
          count = count ∙ ap length (sym more.1);
          line = line ∙ ap (take 201) (sym more.2);
          full = full ∙ sym (ap (λ (o : List ℕ). not (is_blank_line (without_last_cr o))) more.2 ∙ fresh);
          cr = cr ∙ ap ends_with_cr (sym more.2);
          within = blank_fine p text h blank;
        },
        more.0 ∙ ap (λ (ls : List (List ℕ)). complete_messages text ++ one_message ls) no_lines ∙ append-nil (complete_messages text),
      )

  -- an empty line ends the message that was under way
  pub message_ended : (p q : Pending) (text : List ℕ) → IsHeld p text → p.full ≡ false → (p.count ≡ 0 → ⊥) → q.lines ≡ p.lines → q.line.items ≡ [] → q.full ≡ false → q.cr ≡ false
      → IsEnded q (text ++ 10 ∷ []) × (complete_messages (text ++ 10 ∷ []) ≡ complete_messages text ++ lines_of q.lines.items ∷ [])
  message_ended p q text h empty some lines line full cr =
      let blank = not_full p.full (is_blank_line (without_last_cr (open_bytes text))) h.full empty in
      let more = laws.message text blank in
      let kept : lines_of q.lines.items ≡ open_lines text = rw lines h.lines in (
        record {
          lines_left = more.1;
          bytes_left = more.2;
          line = line;
          full = full;
          cr = cr;
          within = blank_fine p text h blank;
        },
        more.0 ∙ ap (λ (ms : List (List (List ℕ))). complete_messages text ++ ms) (some_message (open_lines text) (λ e. some (h.count ∙ e)) ∙ ap (λ (m : List (List ℕ)). m ∷ []) (sym kept)),
      )

  -- a message that is complete has lines, and none of them is empty
  pub message_whole : (p : Pending) (text : List ℕ) → IsHeld p text → p.full ≡ false → (p.count ≡ 0 → ⊥) → AreOfMessage (lines_of p.lines.items)
  message_whole p text h empty some =
      let blank = not_full p.full (is_blank_line (without_last_cr (open_bytes text))) h.full empty in
      let is : complete_messages (text ++ 10 ∷ []) ≡ complete_messages text ++ lines_of p.lines.items ∷ [] =
      (laws.message text blank).0 ∙ ap (λ (ms : List (List (List ℕ))). complete_messages text ++ ms) (some_message (open_lines text) (λ e. some (h.count ∙ e)) ∙ ap (λ (m : List (List ℕ)). m ∷ []) (sym h.lines)) in
      all_last AreOfMessage (complete_messages text) (lines_of p.lines.items)
      (rw is at (laws.full (up_to_last is_blank_line (lines_of (up_to_last is_lf (text ++ 10 ∷ []))))))

  -- a line that is kept whole is short
  line_short : (o : List ℕ) → is_too_long (without_last_cr o) ≡ false → take 201 o ≡ o
  line_short o short = take_all 201 o (omega (arith, left_length o, ltb-false 200 (length (without_last_cr o)) short))

  -- the message under way of which a full line ends
  full_line : (p : Pending) (text : List ℕ) → IsHeld p text → p.full ≡ true → some_passes breaks_limit (one_message (open_lines text ++ without_last_cr (open_bytes text) ∷ [])) ≡ false
  full_line p text h full =
      let some = is_full p.full (is_blank_line (without_last_cr (open_bytes text))) h.full full in
      ap (some_passes breaks_limit) (sym (under_full (open_lines text) (without_last_cr (open_bytes text)) some)) ∙ (fine_parts text h.within).1

  -- a full line ends
  pub line_ended : (p q : Pending) (text : List ℕ) → IsHeld p text → p.full ≡ true → q.lines.items ≡ (p.lines.items ++ p.line.items) ++ 10 ∷ [] → q.count ≡ p.count + 1 → q.line.items ≡ [] → q.full ≡ false → q.cr ≡ false
      → IsHeld q (text ++ 10 ∷ []) × (complete_messages (text ++ 10 ∷ []) ≡ complete_messages text)
  line_ended p q text h was lines count line full cr =
      let o = open_bytes text in
      let some = is_full p.full (is_blank_line (without_last_cr o)) h.full was in
      let more = laws.line text some in
      let one = full_line p text h was in
      let short = (last_fine (open_lines text) (without_last_cr o) one).1 in
      let kept : p.line.items ≡ o = h.line ∙ line_short o short in
      let items : q.lines.items ≡ p.lines.items ++ (o ++ 10 ∷ []) = lines ∙ append_assoc p.lines.items p.line.items (10 ∷ []) ∙ ap (λ (l : List ℕ). p.lines.items ++ (l ++ 10 ∷ [])) kept in (
        record {
          lines = ap lines_of items ∙ lines_more laws.parts p.lines.items (o ++ 10 ∷ []) h.whole
              ∙ ap (λ (ls : List (List ℕ)). lines_of p.lines.items ++ ls) (laws.ended text)
              ∙ ap (λ (ls : List (List ℕ)). ls ++ without_last_cr o ∷ []) h.lines
              ∙ sym more.1;
          whole = inr (p.lines.items ++ p.line.items, lines);
          count = count ∙ ap (λ (n : ℕ). n + 1) h.count ∙ sym (length-append (open_lines text) (without_last_cr o ∷ [])) ∙ ap length (sym more.1);
          line = line ∙ ap (take 201) (sym more.2);
          full = full ∙ sym (ap (λ (o : List ℕ). not (is_blank_line (without_last_cr o))) more.2 ∙ fresh);
          cr = cr ∙ ap ends_with_cr (sym more.2);
          within = broken_fresh (text ++ 10 ∷ []) more.2 ∙ rw (more.0, more.1, (fine_parts text h.within).0) one;
        },
        more.0,
      )

  -- a full line is no 1,001st
  pub no_line_more : (p : Pending) (text : List ℕ) → IsHeld p text → p.full ≡ true → p.count ≡ 1000 → ⊥
  no_line_more p text h was all =
      let fine = last_fine (open_lines text) (without_last_cr (open_bytes text)) (full_line p text h was) in
      absurd (omega (arith, fine.2, h.count, all))

  -- ---- the end

  pub broken_end : (p : Pending) (text : List ℕ) → IsHeld p text → is_broken_at_end text ≡ breaks_at_end p
  broken_end p text h =
      let o = open_bytes text in
      let ls = open_lines text in
      let parts = fine_parts text h.within in
      let fine = open_fine ls (without_last_cr o) parts.1 in
      let blank = blank_at_end o p.full p.cr h.full h.cr in
      let long : ltb 200 (length p.line.items) ≡ is_too_long o = ap (λ (l : List ℕ). ltb 200 (length l)) h.line ∙ long_now o in
      ap (some_passes breaks_limit) (laws.at_end text)
      ∙ some_append breaks_limit (complete_messages text) (message_under_way ls o)
      ∙ rw parts.0
      (elim (cases_Bool (p.full || p.cr)) [
        | inr none ↦
            let now : is_blank_line o ≡ true = blank ∙ ap not none in
            let both = or_parts p.full p.cr none in
            let was = not_full p.full (is_blank_line (without_last_cr o)) h.full both.0 in
            ap (some_passes breaks_limit) (under_blank ls o now) ∙ ap (some_passes breaks_limit) (sym (under_blank ls (without_last_cr o) was)) ∙ parts.1
            ∙ sym (ap (λ (x : Bool). x && (ltb 200 (length p.line.items) || eqb p.count 1000)) none)
        | inl some ↦
            open_breaks ls o fine.0 fine.1 (blank ∙ ap not some) ∙ rw (some, long, h.count) refl
      ])

  pub ended_whole : (p : Pending) (text : List ℕ) → IsHeld p text → is_under_way p ≡ false → messages_at_end text ≡ complete_messages text
  ended_whole p text h none =
      let full = or_parts p.full (p.cr || ltb 0 p.count) none in
      let rest = or_parts p.cr (ltb 0 p.count) full.1 in
      let blank : is_blank_line (open_bytes text) ≡ true = blank_at_end (open_bytes text) p.full p.cr h.full h.cr ∙ rw (full.0, rest.0) refl in
      let few : length (open_lines text) ≡ 0 = omega (arith, ltb-false 0 p.count rest.1, h.count) in
      laws.at_end text
      ∙ ap (λ (ms : List (List (List ℕ))). complete_messages text ++ ms) (under_blank (open_lines text) (open_bytes text) blank ∙ ap one_message (empty_list (open_lines text) few))
      ∙ append-nil (complete_messages text)

  pub ended_cut : (p : Pending) (text : List ℕ) → IsHeld p text → is_under_way p ≡ true → messages_at_end text ≡ complete_messages text → ⊥
  ended_cut p text h some same =
      let none = under_way_some (open_lines text) (open_bytes text) (nothing_more (complete_messages text) (message_under_way (open_lines text) (open_bytes text)) (sym (laws.at_end text) ∙ same)) in
      let blank : not (p.full || p.cr) ≡ true = sym (blank_at_end (open_bytes text) p.full p.cr h.full h.cr) ∙ none.1 in
      let parts = or_parts p.full p.cr (not-true (p.full || p.cr) blank) in
      let pos : ltb 0 p.count ≡ true = sym (rw (parts.0, parts.1) refl) ∙ some in
      absurd (omega (arith, ltb-true 0 p.count pos, h.count, none.0))
