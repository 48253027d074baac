use Rattle.std.proofs.Common.{◌≡◌, ◌∙◌, refl}
use Rattle.window_counts.proofs.PlaceLemmas.{FitsOn-room, FitsOn-one, FitsOn-two, FitsOn-both, counts-back, one_uses}
use Rattle.window_counts.proofs.placing.place_alt.Goals as goal

pub returns-then-not-has_room-clause-fits : goal.returns-then-not-has_room-clause-fits
returns-then-not-has_room-clause-fits c =
    let room = rw c.unit_alts.ensures.value at c.if-not-has_room.ensures in
    (λ t. absurd (cc t), λ h. room.1 (FitsOn-room c.args.problem.now c.args.unit c.args.alt c.args.counts.now h))

pub returns-then-not-place_part-clause-fits : goal.returns-then-not-place_part-clause-fits
returns-then-not-place_part-clause-fits c =
    let fits = rw c.unit_alts.ensures.value at c.if-not-place_part.ensures.fits in
    (λ t. absurd (cc t), λ h. fits.1 (FitsOn-one c.args.problem.now c.args.unit c.args.alt c.args.counts.now h))

pub returns-then-place_part-clause-fits : goal.returns-then-place_part-clause-fits
returns-then-place_part-clause-fits c =
    let fits = rw c.unit_alts.ensures.value at c.if-not-place_part.ensures.fits in
    let placed = rw c.unit_alts.ensures.value at c.if-not-place_part.ensures.placed in
    let more = rw c.unit_alts.ensures.value at c.if-place_part.ensures.fits in (
      λ t. FitsOn-both c.args.problem.now c.args.unit c.args.alt c.args.counts.now c.place_part.new.counts c.requires.counts
          (placed refl) (fits.0 refl) (more.0 refl),
      λ h. refl,
    )

pub returns-clause-fits : goal.returns-clause-fits
returns-clause-fits c =
    let placed = rw c.unit_alts.ensures.value at c.if-not-place_part.ensures.placed in
    let more = rw c.unit_alts.ensures.value at c.if-place_part.ensures.fits in (
      λ t. absurd (cc t),
      λ h. more.1 (FitsOn-two c.args.problem.now c.args.unit c.args.alt c.args.counts.now c.place_part.new.counts
          c.requires.counts.length (placed refl) h),
    )

pub returns-clause-left : goal.returns-clause-left
returns-clause-left c = λ e.
    let p = c.args.problem.now in
    let placed = rw c.unit_alts.ensures.value at c.if-not-place_part.ensures.placed in
    let taken = rw c.unit_alts.ensures.value at c.take_named.ensures.taken in
    let left : c.place_part-2.new.counts ≡ c.place_part.new.counts = c.if-place_part.ensures.left refl in
    counts-back c.args.counts.now c.place_part.new.counts c.take_named.new.counts (λ r. one_uses p c.args.unit c.args.alt r)
    (c.take_named.ensures.length ∙ c.if-place_part.ensures.length ∙ c.if-not-place_part.ensures.length) c.if-not-place_part.ensures.length
    (placed refl) (rw left at taken)
