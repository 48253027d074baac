use Rattle.std.proofs.Common.{◌≡◌, [], ◌∙◌, refl, sym}
use Rattle.season_report.proofs.AirlineLemmas.{airline_there, airline_placed}
use Rattle.season_report.proofs.airlines.add_airline.Goals as goal

pub returns-then-is_there : goal.returns-then-is_there
returns-then-is_there c =
    let airline = c.args.airline in
    let one : c.deref.result.now ≡ c.args.airlines.now.items = c.deref.ensures.value in
    let two : c.deref-2.result.now ≡ c.args.airlines.now.items = c.deref-2.ensures.value in
    let before = rw one at c.place_of-at.ensures.before in
    let within = rw two at c.if-is_there.ensures.within in
    let same = rw two at c.if-is_there.ensures.same in
    sym (airline_there c.args.airlines.now.items airline c.place_of-at.result [] before (within refl) (same refl))

pub returns : goal.returns
returns c =
    let airline = c.args.airline in
    let one : c.deref.result.now ≡ c.args.airlines.now.items = c.deref.ensures.value in
    let two : c.deref-2.result.now ≡ c.args.airlines.now.items = c.deref-2.ensures.value in
    let before = rw one at c.place_of-at.ensures.before in
    let next = rw one at c.place_of-at.ensures.next in
    let few = rw one at c.place_of-at.ensures.few in
    let apart = rw two at c.if-is_there.ensures.apart in
    c.in_ok-insert.ensures.items
    ∙ sym (airline_placed c.args.airlines.now.items airline c.place_of-at.result [] before next few (apart refl))
