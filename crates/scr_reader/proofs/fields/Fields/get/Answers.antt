use Rattle.std.proofs.Common.{arith, ◌∙◌, ap}
use Rattle.slot_text.specs.Fields.{field_at}
use Rattle.std.proofs.Common.{List, ℕ}
use Rattle.scr_reader.proofs.CutLemmas.{get_field}
use Rattle.scr_reader.proofs.fields.Fields.get.Goals as goal

pub returns : goal.returns
returns c = get_field c.self.inside.items c.self.inside.count c.args.n _ c.if-n-eq0.false c.if-n-self.false (omega arith) ∙ ap (λ (l : List (List ℕ)). field_at l c.args.n) c.self.view_is
