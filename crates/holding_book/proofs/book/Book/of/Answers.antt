use Rattle.std.proofs.Common.{◌≡◌, ◌∙◌, sym, subst, ap, List, ℕ, ◌≤◌}
use Rattle.std.specs.List.{filter_map}
use Rattle.season_days.specs.Capacity.{capacity_of, IsDeclaration}
use Rattle.season_days.specs.declared.declaration.Declaration.{Declaration}
use Rattle.season_days.specs.declared.declaration.TheConstants.{HIGHEST_NIGHT_LIMIT}
use Rattle.capacity_windows.specs.Windows.{WindowsFit, window_limit}
use Rattle.cert_format.specs.Choices.{choices_of}
use Rattle.holding_book.specs.declared.holding.Holding.{Holding}
use Rattle.holding_book.specs.Books.{held_movements}
use Rattle.holding_book.specs.Private.Kept.{IsKeptBook, ArePlacesKept}
use Rattle.holding_book.specs.Private.Loads.{AreLeft}
use Rattle.holding_book.specs.Starts.{holding_of}
use Rattle.holding_book.specs.Private.Steps.{book_with}
use Rattle.holding_book.proofs.StartLemmas.{near_states, is_start, lines_spelled, few_holdings, holdings_fit}
use Rattle.holding_book.proofs.book.Book.of.Goals as goal

pub start_holdings-requires : goal.start_holdings-requires
start_holdings-requires c =
    let all = near_states c.option_bounds.ensures.times c.args.submission.now.declaration c.in_ok-states.states.items c.in_ok-states.ensures.given in
    rw c.deref.ensures.value all

pub take_all-requires-clause-lines : goal.take_all-requires-clause-lines
take_all-requires-clause-lines c =
    let s = c.args.submission.now in
    let cert = c.args.cert.now in
    let d = s.declaration in
    let states = c.in_ok-states.states.items in
    let holdings = c.in_ok-holdings.holdings.items in
    let spelled = c.spelled_alternatives.ensures in
    let alternatives = c.timed_movements.ensures.alternatives in
    let historics = c.timed_movements.ensures.historic in
    let are = c.in_ok-states.ensures.states in
    let given = c.in_ok-states.ensures.given in
    let is : holdings ≡ filter_map holding_of states = c.in_ok-holdings.ensures ∙ ap (filter_map holding_of) c.deref.ensures.value in
    let same : c.in_ok-loads.loads.declaration ≡ d = c.in_ok-loads.ensures.value ∙ c.declaration.ensures.value in
    let lines = lines_spelled spelled alternatives historics s cert states holdings are given is in
    rw (c.deref-2.ensures.value, same) lines

pub take_all-requires-clause-few : goal.take_all-requires-clause-few
take_all-requires-clause-few c =
    let s = c.args.submission.now in
    let cert = c.args.cert.now in
    let d = s.declaration in
    let states = c.in_ok-states.states.items in
    let holdings = c.in_ok-holdings.holdings.items in
    let spelled = c.spelled_alternatives.ensures in
    let alternatives = c.timed_movements.ensures.alternatives in
    let historics = c.timed_movements.ensures.historic in
    let are = c.in_ok-states.ensures.states in
    let given = c.in_ok-states.ensures.given in
    let is : holdings ≡ filter_map holding_of states = c.in_ok-holdings.ensures ∙ ap (filter_map holding_of) c.deref.ensures.value in
    let few = few_holdings spelled alternatives historics s cert states holdings are given is c.in_ok-states.ensures.few in
    rw c.deref-2.ensures.value few

pub of-requires-2 : goal.of-requires-2
of-requires-2 c =
    let s = c.args.submission.now in
    let cert = c.args.cert.now in
    let d = s.declaration in
    let states = c.in_ok-states.states.items in
    let holdings = c.in_ok-holdings.holdings.items in
    let spelled = c.spelled_alternatives.ensures in
    let alternatives = c.timed_movements.ensures.alternatives in
    let historics = c.timed_movements.ensures.historic in
    let are = c.in_ok-states.ensures.states in
    let given = c.in_ok-states.ensures.given in
    let is : holdings ≡ filter_map holding_of states = c.in_ok-holdings.ensures ∙ ap (filter_map holding_of) c.deref.ensures.value in
    let few = few_holdings spelled alternatives historics s cert states holdings are given is c.in_ok-states.ensures.few in
    rw c.deref-3.ensures.value few

pub take_all-requires-clause-fits : goal.take_all-requires-clause-fits
take_all-requires-clause-fits c =
    let s = c.args.submission.now in
    let cert = c.args.cert.now in
    let d = s.declaration in
    let states = c.in_ok-states.states.items in
    let holdings = c.in_ok-holdings.holdings.items in
    let spelled = c.spelled_alternatives.ensures in
    let alternatives = c.timed_movements.ensures.alternatives in
    let historics = c.timed_movements.ensures.historic in
    let are = c.in_ok-states.ensures.states in
    let given = c.in_ok-states.ensures.given in
    let is : holdings ≡ filter_map holding_of states = c.in_ok-holdings.ensures ∙ ap (filter_map holding_of) c.deref.ensures.value in
    let same : c.in_ok-loads.loads.declaration ≡ d = c.in_ok-loads.ensures.value ∙ c.declaration.ensures.value in
    let keeps : IsDeclaration d = rw c.declaration.ensures.value at c.declaration.ensures.keeps in
    let fits = holdings_fit spelled alternatives historics s cert states holdings are given is (c.feasible_fits.ensures.all d s.units (choices_of cert) keeps.share c.requires.feasible) in
    subst (λ (k : Declaration). WindowsFit (capacity_of k) (held_movements k.season c.deref-2.result.now)) (sym same)
    (subst (λ (hs : List Holding). WindowsFit (capacity_of d) (held_movements d.season hs)) (sym c.deref-2.ensures.value) fits)

pub invariant_of-result : goal.invariant_of-result
invariant_of-result c =
    let s = c.args.submission.now in
    let cert = c.args.cert.now in
    let d = s.declaration in
    let states = c.in_ok-states.states.items in
    let holdings = c.in_ok-holdings.holdings.items in
    let spelled = c.spelled_alternatives.ensures in
    let alternatives = c.timed_movements.ensures.alternatives in
    let historics = c.timed_movements.ensures.historic in
    let are = c.in_ok-states.ensures.states in
    let given = c.in_ok-states.ensures.given in
    let is : holdings ≡ filter_map holding_of states = c.in_ok-holdings.ensures ∙ ap (filter_map holding_of) c.deref.ensures.value in
    let same : c.in_ok-loads.loads.declaration ≡ d = c.in_ok-loads.ensures.value ∙ c.declaration.ensures.value in
    let keeps : IsDeclaration d = rw c.declaration.ensures.value at c.declaration.ensures.keeps in
    let left : AreLeft (capacity_of d) (held_movements d.season holdings) c.take_all.new.loads.left = rw (c.deref-2.ensures.value, same) at c.in_ok-take_all.ensures.left in
    let limits : (r : ℕ) → window_limit (capacity_of d) r ≤ HIGHEST_NIGHT_LIMIT = subst (λ (k : Declaration). (r : ℕ) → window_limit (capacity_of k) r ≤ HIGHEST_NIGHT_LIMIT) c.declaration.ensures.value c.in_ok-loads.ensures.limits in
    let flights : ArePlacesKept c.in_ok-places.places holdings = rw c.deref-3.ensures.value at c.in_ok-places.ensures in
    let kept : IsKeptBook (record { declaration = d; left = c.take_all.new.loads.left }) holdings c.in_ok-places.places = record {
      book = record {
        declared = keeps;
        lines = lines_spelled spelled alternatives historics s cert states holdings are given is;
        fits = holdings_fit spelled alternatives historics s cert states holdings are given is (c.feasible_fits.ensures.all d s.units (choices_of cert) keeps.share c.requires.feasible);
      };
      slots = left;
      flights = flights;
      few = few_holdings spelled alternatives historics s cert states holdings are given is c.in_ok-states.ensures.few;
      limits = limits;
    } in
    subst (λ (k : Declaration). IsKeptBook (record { declaration = k; left = c.take_all.new.loads.left }) holdings c.in_ok-places.places) (sym (c.take_all.ensures.declaration ∙ same)) kept

pub returns : goal.returns
returns c =
    let s = c.args.submission.now in
    let cert = c.args.cert.now in
    let d = s.declaration in
    let states = c.in_ok-states.states.items in
    let holdings = c.in_ok-holdings.holdings.items in
    let spelled = c.spelled_alternatives.ensures in
    let alternatives = c.timed_movements.ensures.alternatives in
    let historics = c.timed_movements.ensures.historic in
    let are = c.in_ok-states.ensures.states in
    let given = c.in_ok-states.ensures.given in
    let is : holdings ≡ filter_map holding_of states = c.in_ok-holdings.ensures ∙ ap (filter_map holding_of) c.deref.ensures.value in
    let same : c.in_ok-loads.loads.declaration ≡ d = c.in_ok-loads.ensures.value ∙ c.declaration.ensures.value in
    ap (λ (k : Declaration). book_with k holdings) (c.take_all.ensures.declaration ∙ same) ∙ is_start spelled alternatives historics s cert states holdings are given is
