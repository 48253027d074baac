use Rattle.std.proofs.Common.{rules, ◌≡◌, ◌∙◌, ap, take, min, length}
use Rattle.price_table.specs.Tables.{vectors_of}
use Rattle.search_workers.specs.Settings.{Setting}
use Rattle.search_workers.proofs.TaskLemmas.{vectors-take}
use Rattle.search_workers.proofs.tasks.Task.vectors.Goals as goal

pub returns : goal.returns
returns c =
    let tables = c.self.inside.tables.items in
    let len : c.len.result ≡ length tables = search rules in
    let e : c.in_ok-vectors.vectors.items ≡ vectors_of (take (min c.args.most (length tables)) tables) =
    rw (c.deref.ensures.value, c.min-count.ensures, len) at c.in_ok-vectors.ensures in
    c.new.ensures ∙ (e ∙ (vectors-take c.args.most tables ∙ ap (λ (s : Setting). take c.args.most s.vectors) c.self.view_is))
