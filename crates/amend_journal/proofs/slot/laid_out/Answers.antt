use Rattle.std.proofs.Common.{[], ◌∷◌, length, arith}
use Rattle.std.proofs.lemmas.Slice.{pushed}
use Rattle.amend_journal.proofs.FormatLemmas.{laid_is}
use Rattle.amend_journal.proofs.slot.laid_out.Goals as goal

pub returns-clause-bytes : goal.returns-clause-bytes
returns-clause-bytes c =
    let caller = c.args.caller in
    let text = c.args.text.now in
    let a = pushed (caller ∷ []) c.in_ok-bytes.ensures.items c.in_ok-push.was c.push.ensures.items in
    let b = pushed (length text ∷ []) a c.in_ok-push-2.was c.push-2.ensures.items in
    let d = pushed text b c.in_ok-extend_from_slice.was c.extend_from_slice.ensures.items in
    laid_is caller text c.extend_from_slice.new.self.items c.resize.new.self.items _ _ _ c.requires d (omega (arith, c.extend_from_slice.new.self.ok.0)) c.in_ok-resize.was c.resize.ensures.items
