use Rattle.std.proofs.Common.{◌≡◌, ◌<◌, ◌≤◌, ℕ, ◌∙◌, List, [], length, arith, inl, inr, sym}
use Rattle.std.specs.Prelude.{slice_index_or}
use Rattle.std.proofs.lemmas.Bool.{cases_lt, false≢true}
use Rattle.std.proofs.lemmas.List.{get_or_default}
use Rattle.choice_problem.specs.declared.strips.Strip.{Strip}
use Rattle.choice_problem.specs.Strips.{part_uses}
use Rattle.dual_bound.specs.Covers.{cover_uses}
use Rattle.dual_bound.proofs.covers.cover_of.Goals as goal
use Rattle.dual_bound.proofs.covers.cover_of.Goals.{then-marks-place+in_ok-hold_part, else-marks-place}

pub loop-place-preserved : goal.loop-place-preserved
loop-place-preserved c =
    let parts = c.args.parts.now in
    let place = c.loop-place.place in
    let inv = c.loop-place.invariant in
    let within : place < length parts = omega (arith, c.loop-place-test.true, c.loop-place.auto) in
    elim c.if-marks-place.branch [
      | then-marks-place+in_ok-hold_part w ↦
          let part : List Strip = w.index-parts-place.result in
          let is : part ≡ slice_index_or parts place [] = w.index-parts-place.is ∙ get_or_default parts place part [] within in
          let more : (r : ℕ) → cover_uses c.loop-place.cover.items r ≤ cover_uses w.hold_part.new.cover.items r = w.in_ok-hold_part.ensures.more in
          let all : (r : ℕ) → part_uses (slice_index_or parts place []) r ≤ cover_uses w.hold_part.new.cover.items r = rw is at w.in_ok-hold_part.ensures.part in
          rw w.cover-is (record {
            covers = λ n l m r. elim (cases_lt n place) [
              | inl before ↦ omega (arith, inv.covers n before m r, more r)
              | inr here ↦ let same : place ≡ n = omega arith in rw (← same) (all r)
            ];
            there = λ resources h. w.in_ok-hold_part.ensures.there resources (rw is (h place [] within)) (inv.there resources h);
          })
      | else-marks-place w ↦
          rw w.cover-is (record {
            covers = λ n l m r. elim (cases_lt n place) [
              | inl before ↦ inv.covers n before m r
              | inr here ↦ let same : place ≡ n = omega arith in absurd (false≢true (sym w.if-marks-place.false ∙ rw (← same) at m))
            ];
            there = inv.there;
          })
    ]
