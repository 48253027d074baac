-- What is known of texts that come byte by byte, in one place for the proofs.
use Rattle.std.specs.Prelude.{◌≡◌, ℕ, true, false, List, [], ◌∷◌, ◌++◌, All}
use Rattle.slot_text.specs.Lines.{lines_of}
use Rattle.slot_text.specs.Fields.{is_blank_line}
use Rattle.scr_reader.specs.Streams.{AreOfMessage, is_lf, open_bytes, open_lines}
use Rattle.scr_reader.specs.Streams.{complete_messages, messages_in, messages_so_far}
use Rattle.scr_reader.specs.Streams.{messages_at_end, one_message, message_under_way}
use Rattle.scr_reader.specs.Streams.{without_last_cr, is_broken, served_messages}

pub record StreamLaws : Type 0 where
  pub parts : (front back : List ℕ) →
      lines_of ((front ++ 10 ∷ []) ++ back) ≡ lines_of (front ++ 10 ∷ []) ++ lines_of back
  pub within : (text : List ℕ) (b : ℕ) → is_lf b ≡ false →
      (complete_messages (text ++ b ∷ []) ≡ complete_messages text)
      × (open_lines (text ++ b ∷ []) ≡ open_lines text)
      × (open_bytes (text ++ b ∷ []) ≡ open_bytes text ++ b ∷ [])
  pub line : (text : List ℕ) → is_blank_line (without_last_cr (open_bytes text)) ≡ false →
      (complete_messages (text ++ 10 ∷ []) ≡ complete_messages text)
      × (open_lines (text ++ 10 ∷ []) ≡ open_lines text ++ without_last_cr (open_bytes text) ∷ [])
      × (open_bytes (text ++ 10 ∷ []) ≡ [])
  pub message : (text : List ℕ) → is_blank_line (without_last_cr (open_bytes text)) ≡ true →
      (complete_messages (text ++ 10 ∷ [])
      ≡ complete_messages text ++ one_message (open_lines text))
      × (open_lines (text ++ 10 ∷ []) ≡ [])
      × (open_bytes (text ++ 10 ∷ []) ≡ [])
  pub so_far : (text : List ℕ) → messages_so_far text ≡ complete_messages text
      ++ message_under_way (open_lines text) (without_last_cr (open_bytes text))
  pub at_end : (text : List ℕ) → messages_at_end text ≡ complete_messages text
      ++ message_under_way (open_lines text) (open_bytes text)
  pub ended : (text : List ℕ) →
      lines_of (open_bytes text ++ 10 ∷ []) ≡ without_last_cr (open_bytes text) ∷ []
  pub full : (lines : List (List ℕ)) → All AreOfMessage (messages_in lines)
  pub unbroken : (text : List ℕ) → is_broken text ≡ false →
      served_messages text ≡ complete_messages text
