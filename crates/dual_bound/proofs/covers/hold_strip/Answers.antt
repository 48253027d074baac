use Rattle.std.proofs.Common.{◌≡◌, ◌<◌, ◌∙◌, refl, sym, List, length}
use Rattle.std.proofs.lemmas.List.{get_or_default}
use Rattle.dual_bound.specs.declared.covers.Held.{Held}
use Rattle.dual_bound.specs.Covers.{LiesIn, CanHold, held_at}
use Rattle.dual_bound.proofs.CoverLemmas.{none, LiesIn-range, held-wider, cover-wider, range-wider}
use Rattle.dual_bound.proofs.covers.hold_strip.Goals as goal

pub returns-in-Some-clause-strip : goal.returns-in-Some-clause-strip
returns-in-Some-clause-strip c = λ r.
    let cover : List Held = c.args.cover.now.items in
    let place = c.in-Some.place in
    let new : Held = record { strip = c.hull-strip.result; part = c.args.part } in
    let there : place < length cover = rw c.deref.ensures.value at (c.place_for.ensures.there c.in-Some.place c.in-Some.is) in
    let can : CanHold (held_at cover place) c.args.strip.now c.args.part = rw c.deref.ensures.value at (c.place_for.ensures.held c.in-Some.place c.in-Some.is) in
    held-wider cover place c.args.part r c.args.strip.now new there can refl c.hull-strip.ensures.other

pub returns-in-Some-clause-more : goal.returns-in-Some-clause-more
returns-in-Some-clause-more c = λ r.
    let cover : List Held = c.args.cover.now.items in
    let place = c.in-Some.place in
    let new : Held = record { strip = c.hull-strip.result; part = c.args.part } in
    let there : place < length cover = rw c.deref.ensures.value at (c.place_for.ensures.there c.in-Some.place c.in-Some.is) in
    let held : c.index.result.now ≡ held_at cover place = c.index.ensures ∙ get_or_default cover place c.index.result.now none there in
    let lies : LiesIn (held_at cover place).strip c.hull-strip.result = rw held at c.hull-strip.ensures.one in
    cover-wider cover place r new there lies

pub returns-in-Some-clause-there : goal.returns-in-Some-clause-there
returns-in-Some-clause-there c = λ resources s h.
    let cover : List Held = c.args.cover.now.items in
    let place = c.in-Some.place in
    let new : Held = record { strip = c.hull-strip.result; part = c.args.part } in
    let there : place < length cover = rw c.deref.ensures.value at (c.place_for.ensures.there c.in-Some.place c.in-Some.is) in
    let held : c.index.result.now ≡ held_at cover place = c.index.ensures ∙ get_or_default cover place c.index.result.now none there in
    let can : CanHold (held_at cover place) c.args.strip.now c.args.part = rw c.deref.ensures.value at (c.place_for.ensures.held c.in-Some.place c.in-Some.is) in
    let lies : LiesIn (held_at cover place).strip c.hull-strip.result = rw held at c.hull-strip.ensures.one in
    let least = rw held at c.hull-strip.ensures.least in
    range-wider resources place cover new there
    (LiesIn-range resources (held_at cover place).strip c.args.strip.now c.hull-strip.result lies (h place there) s (sym can.gap) (sym can.times) least) h
