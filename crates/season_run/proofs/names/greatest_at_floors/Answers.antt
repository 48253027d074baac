use Rattle.std.proofs.Common.{◌≤◌, take, get_or, inl, inr, sym, arith}
use Rattle.std.proofs.lemmas.List.{take_all}
use Rattle.std.proofs.lemmas.List.Elements.{All-more, All-weaker, All-same, Contains-get_or}
use Rattle.cert_format.specs.declared.cert.Floor.{Floor}
use Rattle.season_run.proofs.NameLemmas.{no_floor}
use Rattle.season_run.proofs.names.greatest_at_floors.Goals as goal

pub loop-floor-preserved : goal.loop-floor-preserved
loop-floor-preserved c =
    let floors = c.args.floors.now in
    let i = c.loop-floor.floor-index in
    let there = c.loop-floor-test.true in
    let old = c.loop-floor.most in
    let new = c.greater_floor-most.result in
    let e = c.greater_floor-most.ensures in
    record {
      most = All-more (λ (f : Floor). f.vector ≤ new) floors i no_floor there
          (All-weaker (λ (f : Floor). f.vector ≤ old) (λ (f : Floor). f.vector ≤ new) (λ f h. omega (arith, h, e.least)) (take i floors) c.loop-floor.invariant.most) e.names;
      named = elim e.which [
        | inl same ↦ rw same c.loop-floor.invariant.named
        | inr now ↦ inr (get_or floors i no_floor, Contains-get_or floors i no_floor there, now)
      ];
    }

pub returns : goal.returns
returns c = record {
  most = All-same (λ (f : Floor). f.vector ≤ c.loop-floor.most) c.args.floors.now (take c.loop-floor.floor-index c.args.floors.now)
      (sym (take_all c.loop-floor.floor-index c.args.floors.now c.loop-floor-test.false)) c.loop-floor.invariant.most;
  named = c.loop-floor.invariant.named;
}
