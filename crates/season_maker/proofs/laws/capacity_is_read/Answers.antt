use Rattle.std.proofs.Common.{subst}
use Rattle.season_days.specs.declared.declaration.Declaration.{Declaration}
use Rattle.season_maker.specs.Generated.{IsGeneratedDeclaration}
use Rattle.season_maker.specs.Texts.{generated_capacity}
use Rattle.season_maker.proofs.CapacityLemmas.{LinesLaw, FieldLaw, DigitsLaw, declared, the_declaration, is_generated}
use Rattle.season_maker.proofs.laws.capacity_is_read.Goals as goal

pub returns : goal.returns
returns c =
    let lines : LinesLaw = c.spelled_lines.ensures in
    let field : FieldLaw = c.spelled_fields.ensures.last in
    let numbers : DigitsLaw = c.spelled_fields.ensures.digits in
    record {
      some = λ units few. (the_declaration units, is_generated units, declared lines field numbers units few);
      only = λ units d few is.
          subst (λ (x : Declaration). IsGeneratedDeclaration units x)
          (c.one_answer.ensures.one (generated_capacity units) (the_declaration units) d (declared lines field numbers units few) is)
          (is_generated units);
    }
