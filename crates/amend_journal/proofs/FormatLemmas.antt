-- The bytes of slots.
use Rattle.std.proofs.Common.{◌≡◌, ℕ, ◌+◌, ◌*◌, ◌-◌, ◌≤◌, List, [], ◌∷◌, ◌++◌, length, take, drop, get_or, cond, Result, Ok, is_ok, refl, sym, ap, ◌∙◌, append_assoc, append-nil, length-append, arith}
use Rattle.std.proofs.lemmas.List.{length-replicate, replicate_more, take_all, ext_get_or, get_or-replicate, drop_more, take-append-drop, length-take-le, length-drop, take_at, drop_at}
use Rattle.std.proofs.lemmas.List.Elements.{All-head, All-tail}
use Rattle.std.specs.Prelude.{All, replicate, EachIndex}
use Rattle.season_days.specs.Term.{Term}
use Rattle.scr_reader.specs.Printed.{item_text, ItemFits}
use Rattle.scr_reader.specs.declared.line.Item.{Item}
use Rattle.scr_reader.specs.declared.print.TheConstants.{LONGEST_PRINTED_ITEM}
use Rattle.amend_journal.specs.Format.{header, filled, slot_bytes, open_slots, IsFit}
use Rattle.amend_journal.specs.declared.asked.Asked.{Asked}

-- the law of printed items
abbrev pub ShortItems : Type 0
ShortItems = (season : Term) (item : Item) → ItemFits season item → length (item_text season item) ≤ LONGEST_PRINTED_ITEM

pub same_asked : (a b : Asked) → a.caller ≡ b.caller → a.ask ≡ b.ask → a ≡ b
same_asked a b caller ask =
    let make : ℕ → Item → Asked = λ n i. record { caller = n; ask = i } in
    ap (λ (n : ℕ). make n a.ask) caller ∙ ap (λ (i : Item). make b.caller i) ask

pub slot_filled : (season : Term) (asked : Asked) → slot_bytes season asked ≡ filled asked.caller (item_text season asked.ask)
unfolding slot_bytes
slot_filled season asked = refl

pub length-header : length header ≡ 16
unfolding header
length-header = refl

pub length-filled : (caller : ℕ) (text : List ℕ) → length text ≤ 253 → length (filled caller text) ≡ 255
length-filled caller text few = omega (arith, length-append text (replicate (253 - length text) 0), length-replicate {A = ℕ} (253 - length text) 0)

pub length-slot : (season : Term) (asked : Asked) → ShortItems → IsFit season asked → length (slot_bytes season asked) ≡ 255
unfolding slot_bytes
length-slot season asked short fit =
    let few = short season asked.ask fit.fits in
    length-filled asked.caller (item_text season asked.ask) (omega (arith, few))

pub length-slots : (season : Term) (asks : List Asked) → ShortItems → All (IsFit season) asks → length (open_slots season asks) ≡ 256 * length asks
length-slots season [] short fit = refl
length-slots season (asked ∷ asks) short fit =
    omega (arith, length-append (slot_bytes season asked) (open_slots season asks), length-slot season asked short (All-head (IsFit season) asked asks fit), length-slots season asks short (All-tail (IsFit season) asked asks fit))

pub slots-push : (season : Term) (asks : List Asked) (asked : Asked) → open_slots season (asks ++ asked ∷ []) ≡ open_slots season asks ++ 1 ∷ slot_bytes season asked
slots-push season [] asked = ap (λ (l : List ℕ). 1 ∷ l) (append-nil (slot_bytes season asked))
slots-push season (first ∷ asks) asked =
    ap (λ (l : List ℕ). 1 ∷ l) (ap (λ (l : List ℕ). slot_bytes season first ++ l) (slots-push season asks asked) ∙ sym (append_assoc (slot_bytes season first) (open_slots season asks) (1 ∷ slot_bytes season asked)))

pub block-push : (season : Term) (asks : List Asked) (asked : Asked) → header ++ open_slots season (asks ++ asked ∷ []) ≡ (header ++ open_slots season asks) ++ 1 ∷ slot_bytes season asked
block-push season asks asked =
    ap (λ (l : List ℕ). header ++ l) (slots-push season asks asked) ∙ sym (append_assoc header (open_slots season asks) (1 ∷ slot_bytes season asked))

pub length-block : (season : Term) (asks : List Asked) → ShortItems → All (IsFit season) asks → length (header ++ open_slots season asks) ≡ 16 + 256 * length asks
length-block season asks short fit = omega (arith, length-append header (open_slots season asks), length-header, length-slots season asks short fit)

-- a text behind its caller and its length, filled up with zeros
pub laid_is : {T E : Type 0} (caller : ℕ) (text old new : List ℕ) (count : ℕ) (r : Result T E) (x : T) → length text ≤ 253 → old ≡ caller ∷ (length text ∷ text) → count ≡ length old → r ≡ Ok x → new ≡ cond (is_ok r) (take 256 old ++ replicate (256 - count) 0) old → new ≡ filled caller text ++ 0 ∷ []
laid_is {T} {E} caller text old new count r x few is size ok resized =
    let rest : 256 - count ≡ (253 - length text) + 1 = omega (arith, few, size, ap length is) in
    resized
    ∙ ap (λ (q : Result T E). cond (is_ok q) (take 256 old ++ replicate (256 - count) 0) old) ok
    ∙ ap (λ (l : List ℕ). l ++ replicate (256 - count) 0) (take_all 256 old (omega (arith, few, ap length is)) ∙ is)
    ∙ ap (λ (l : List ℕ). (caller ∷ (length text ∷ text)) ++ l) (ap (λ (n : ℕ). replicate n 0) rest ∙ sym (replicate_more (253 - length text) 0))
    ∙ ap (λ (l : List ℕ). caller ∷ (length text ∷ l)) (sym (append_assoc text (replicate (253 - length text) 0) (0 ∷ [])))

-- ---- the text of a slot

are_replicate : (xs : List ℕ) → EachIndex xs (λ k. get_or xs k 0 ≡ 0) → xs ≡ replicate (length xs) 0
are_replicate xs each =
    ext_get_or 0 xs (replicate (length xs) 0) (sym (length-replicate {A = ℕ} (length xs) 0))
    (λ i lt. each i lt ∙ sym (get_or-replicate (length xs) i 0 0 lt))

are_each : (xs : List ℕ) (n : ℕ) → xs ≡ replicate n 0 → EachIndex xs (λ k. get_or xs k 0 ≡ 0)
are_each xs n is k lt =
    ap (λ (l : List ℕ). get_or l k 0) is ∙ get_or-replicate n k 0 0 (omega (arith, lt, ap length is, length-replicate {A = ℕ} n 0))

pub text_found : (slot : List ℕ) (size : ℕ) → length slot ≡ 255 → get_or slot 1 0 ≡ size → size ≤ 253 → EachIndex (drop size (drop 2 slot)) (λ k. get_or (drop size (drop 2 slot)) k 0 ≡ 0) → slot ≡ filled (get_or slot 0 0) (take size (drop 2 slot))
text_found slot size long at few zeros =
    let tail = drop 2 slot in
    let text = take size tail in
    let rest = drop size tail in
    let count : length tail ≡ 253 = omega (arith, long, length-drop 2 slot) in
    let size_is : length text ≡ size = length-take-le size tail (omega (arith, few, count)) in
    let left : length rest ≡ 253 - length text = omega (arith, length-drop size tail, count, size_is) in
    let one : slot ≡ get_or slot 0 0 ∷ drop 1 slot = drop_more slot 0 0 (omega (arith, long)) in
    let two : drop 1 slot ≡ get_or slot 1 0 ∷ tail = drop_more slot 1 0 (omega (arith, long)) in
    one ∙ ap (λ (l : List ℕ). get_or slot 0 0 ∷ l)
    (two ∙ ap (λ (n : ℕ). n ∷ tail) (at ∙ sym size_is)
    ∙ ap (λ (l : List ℕ). length text ∷ l) (sym (take-append-drop size tail) ∙ ap (λ (l : List ℕ). text ++ l) (are_replicate rest zeros ∙ ap (λ (n : ℕ). replicate n 0) left)))

module _ (slot : List ℕ) (caller : ℕ) (text : List ℕ) (is : slot ≡ filled caller text) where
  pub text_size : get_or slot 1 0 ≡ length text
  text_size = ap (λ (l : List ℕ). get_or l 1 0) is

  pub text_is : (size : ℕ) → get_or slot 1 0 ≡ size → take size (drop 2 slot) ≡ text
  text_is size at =
      ap (λ (l : List ℕ). take size (drop 2 l)) is
      ∙ take_at text (replicate (253 - length text) 0) size (sym text_size ∙ at)

  pub text_ends : (size : ℕ) → get_or slot 1 0 ≡ size → EachIndex (drop size (drop 2 slot)) (λ k. get_or (drop size (drop 2 slot)) k 0 ≡ 0)
  text_ends size at =
      are_each (drop size (drop 2 slot)) (253 - length text)
      (ap (λ (l : List ℕ). drop size (drop 2 l)) is
      ∙ drop_at text (replicate (253 - length text) 0) size (sym text_size ∙ at))
