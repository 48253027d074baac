use Rattle.std.proofs.Common.{rules, ◌≡◌, ◌∙◌, ◌++◌, ◌∷◌, ◌+◌, [], List, ap, sym, subst, take, append_assoc}
use Rattle.std.proofs.lemmas.List.{take_more, map-append}
use Rattle.std.proofs.lemmas.List.Elements.{All-push}
use Rattle.choice_problem.specs.declared.vectors.Price.{Price}
use Rattle.choice_problem.specs.Bounds.{IsVector}
use Rattle.price_table.specs.Tables.{TableView, IsTableFor, vectors_of}
use Rattle.price_table.proofs.tables.push_tables.Goals as goal

pub price_table-requires : goal.price_table-requires
price_table-requires c =
    subst (IsVector c.args.problem.now) (sym c.vector-item.is) (c.requires.vectors c.loop-vector.vector-index c.vector-item.result c.loop-vector-test.true)

pub loop-vector-preserved : goal.loop-vector-preserved
loop-vector-preserved c =
    let p = c.args.problem.now in
    let i = c.loop-vector.vector-index in
    let vectors = c.args.vectors.now in
    let old = c.loop-vector.tables.items in
    let t : TableView = c.in_ok-price_table.field-0 in
    let inv = c.loop-vector.invariant in
    let pushed : c.push.new.self.items ≡ old ++ t ∷ [] = search rules in
    let more : take (i + 1) vectors ≡ take i vectors ++ t.prices ∷ [] =
    take_more vectors i c.vector-item.result c.loop-vector-test.true
    ∙ ap (λ (v : List Price). take i vectors ++ v ∷ []) (sym c.vector-item.is ∙ sym c.in_ok-price_table.ensures.vector) in
    record {
      valid = rw pushed (All-push (IsTableFor p) old t inv.valid c.in_ok-price_table.ensures.valid);
      vectors = rw (pushed, more) (map-append (λ (x : TableView). x.prices) old (t ∷ []) ∙ (ap (λ l. l ++ t.prices ∷ []) inv.vectors
          ∙ append_assoc (vectors_of c.args.tables.now.items) (take i vectors) (t.prices ∷ [])));
    }
