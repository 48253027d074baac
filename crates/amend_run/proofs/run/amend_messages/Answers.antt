use Rattle.std.proofs.Common.{◌≡◌, ◌≤◌, sym, ◌∙◌, ap, subst, List, length, ℕ}
use Rattle.std.specs.Prelude.{All}
use Rattle.scr_reader.specs.Streams.{HoldsMessage, messages_at_end}
use Rattle.scr_reader.specs.declared.message.Piece.{Piece}
use Rattle.amend_run.specs.Amended.{AreAnsweredMessages}
use Rattle.amend_run.specs.Private.Due.{line_total, IsRun}
use Rattle.amend_run.proofs.TotalLemmas.{total_few}
use Rattle.amend_run.proofs.OnceLemmas.{history_same}
use Rattle.amend_run.proofs.RunLemmas.{lines_of_pieces, amended_of}
use Rattle.amend_run.proofs.run.amend_messages.Goals as goal

pub amend_pieces-requires-clause-held : goal.amend_pieces-requires-clause-held
amend_pieces-requires-clause-held c =
    let asks = c.args.asks.now in
    subst (λ (pieces : List Piece). All (HoldsMessage asks) pieces) (sym c.deref.ensures.value)
    (c.pieces_are_messages.ensures.held asks c.in_ok-pieces.pieces.items c.in_ok-pieces.ensures)

pub amend_pieces-requires-clause-total : goal.amend_pieces-requires-clause-total
amend_pieces-requires-clause-total c =
    let asks = c.args.asks.now in
    let are : lines_of_pieces asks c.deref.result.now ≡ messages_at_end asks =
    ap (lines_of_pieces asks) c.deref.ensures.value ∙ c.pieces_are_messages.ensures.lines asks c.in_ok-pieces.pieces.items c.in_ok-pieces.ensures in
    subst (λ (messages : List (List (List ℕ))). line_total messages ≤ length asks) (sym are) (total_few asks)

pub returns-clause-amended : goal.returns-clause-amended
returns-clause-amended c =
    let asks = c.args.asks.now in
    let are : lines_of_pieces asks c.deref.result.now ≡ messages_at_end asks =
    ap (lines_of_pieces asks) c.deref.ensures.value ∙ c.pieces_are_messages.ensures.lines asks c.in_ok-pieces.pieces.items c.in_ok-pieces.ensures in
    amended_of c.args.book.book asks (lines_of_pieces asks c.deref.result.now) c.in_ok-amended.amended c.next_fits.ensures.book c.next_books.ensures.declaration c.declaration-declaration.ensures.book are c.in_ok-amended.ensures.run

pub returns-clause-only : goal.returns-clause-only
returns-clause-only c = λ history texts asked.
    let asks = c.args.asks.now in
    let b = c.args.book.book in
    let pieces = c.in_ok-pieces.pieces.items in
    let are : lines_of_pieces asks pieces ≡ messages_at_end asks = c.pieces_are_messages.ensures.lines asks pieces c.in_ok-pieces.ensures in
    let run : IsRun b (lines_of_pieces asks pieces) c.in_ok-amended.amended.text.items c.in_ok-amended.amended.history.items c.in_ok-amended.amended.book.book =
    subst (λ (ps : List Piece). IsRun b (lines_of_pieces asks ps) c.in_ok-amended.amended.text.items c.in_ok-amended.amended.history.items c.in_ok-amended.amended.book.book) c.deref.ensures.value c.in_ok-amended.ensures.run in
    history_same c.one_received.ensures b.declaration.season b.declaration.airport asks pieces b c.in_ok-amended.amended.history.items history run.texts texts
    (c.pieces_are_messages.ensures.held asks pieces c.in_ok-pieces.ensures) run.legal asked.legal run.answered
    (subst (λ (ms : List (List (List ℕ))). AreAnsweredMessages b.declaration.season b.declaration.airport 0 ms history texts) (sym are) asked.answered)
