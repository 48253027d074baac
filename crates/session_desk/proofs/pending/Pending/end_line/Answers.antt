use Rattle.std.proofs.Common.{refl, ◌∙◌, ap, List, ℕ, [], ◌∷◌, ◌++◌}
use Rattle.session_desk.proofs.HeldLemmas.{nothing_ended, message_ended, line_ended, no_line_more, message_whole}
use Rattle.session_desk.proofs.pending.Pending.end_line.Goals as goal

pub returns-then-self-eq0-clause-progress : goal.returns-then-self-eq0-clause-progress
returns-then-self-eq0-clause-progress c text h =
    nothing_ended c.stream_laws.ensures c.args.self.now _ text h c.if-not-self.true c.if-self-eq0.true refl c.if-self-eq0.true c.clear.ensures.items c.if-not-self.true refl

pub returns-then-not-self-clause-progress : goal.returns-then-not-self-clause-progress
returns-then-not-self-clause-progress c text h =
    message_ended c.stream_laws.ensures c.args.self.now _ text h c.if-not-self.true c.if-self-eq0.false refl c.clear.ensures.items c.if-not-self.true refl

pub returns-then-not-self-clause-whole : goal.returns-then-not-self-clause-whole
returns-then-not-self-clause-whole c e = message_whole c.stream_laws.ensures c.args.self.now c.requires.held.0 c.requires.held.1 c.if-not-self.true c.if-self-eq0.false

pub returns-then-self-eq-MOST_MESSAGE_LINES-clause-progress : goal.returns-then-self-eq-MOST_MESSAGE_LINES-clause-progress
returns-then-self-eq-MOST_MESSAGE_LINES-clause-progress c text h = absurd (no_line_more c.stream_laws.ensures c.args.self.now text h c.if-not-self.false c.if-self-eq-MOST_MESSAGE_LINES.true)

pub returns-clause-progress : goal.returns-clause-progress
returns-clause-progress c text h =
    line_ended c.stream_laws.ensures c.args.self.now _ text h c.if-not-self.false (c.in_ok-push.ensures.items ∙ ap (λ (l : List ℕ). l ++ 10 ∷ []) (c.in_ok-extend_from_slice.ensures.items ∙ ap (λ (l : List ℕ). c.args.self.now.lines.items ++ l) c.deref.ensures.value)) refl c.clear-2.ensures.items refl refl
