use Rattle.std.proofs.Common.{sym, ◌∙◌}
use Rattle.session_desk.proofs.HeldLemmas.{broken_end, ended_whole, ended_cut}
use Rattle.session_desk.proofs.pending.Pending.end.Goals as goal

pub returns-then-breaks_at_end : goal.returns-then-breaks_at_end
returns-then-breaks_at_end c text h = broken_end c.stream_laws.ensures c.args.self.now text h ∙ (sym c.breaks_at_end.ensures ∙ c.if-breaks_at_end.true)

pub returns-then-is_under_way : goal.returns-then-is_under_way
returns-then-is_under_way c text h = (
  broken_end c.stream_laws.ensures c.args.self.now text h ∙ (sym c.breaks_at_end.ensures ∙ c.if-breaks_at_end.false),
  ended_cut c.stream_laws.ensures c.args.self.now text h (sym c.is_under_way.ensures ∙ c.if-is_under_way.true),
)

pub returns-else-is_under_way : goal.returns-else-is_under_way
returns-else-is_under_way c text h = (
  broken_end c.stream_laws.ensures c.args.self.now text h ∙ (sym c.breaks_at_end.ensures ∙ c.if-breaks_at_end.false),
  ended_whole c.stream_laws.ensures c.args.self.now text h (sym c.is_under_way.ensures ∙ c.if-is_under_way.false),
)
