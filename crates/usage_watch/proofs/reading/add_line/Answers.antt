use Rattle.std.proofs.Common.{◌≡◌, refl, sym, false, inl, inr, rules}
use Rattle.std.proofs.lemmas.Option.{none-some, same_Some}
use Rattle.slot_text.specs.Fields.{is_blank_line}
use Rattle.usage_watch.proofs.reading.add_line.Goals as goal

pub returns-in_default-clause-fault : goal.returns-in_default-clause-fault
returns-in_default-clause-fault c =
    let full : is_blank_line c.args.line.now ≡ false = search rules in
    inl (record { full = full; nothing = λ report is. none-some _ (c.in_default.ensures.only report is) }, refl)

pub returns-clause-on : goal.returns-clause-on
returns-clause-on c =
    inr (c.in-Some.report, record { says = c.in-Some.ensures.found; only = λ other is. sym (same_Some _ _ (c.in-Some.ensures.only other is)) }, c.in_ok-push.ensures.items)
