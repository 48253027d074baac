use Rattle.std.proofs.Common.{◌≡◌, ◌<◌, ◌*◌, ◌^◌, ◌++◌, ◌∷◌, [], ◌∙◌, ap, inl, inr, length, arith}
use Rattle.std.specs.Prelude.{slice_index}
use Rattle.std.proofs.Math.Nat.{mul_comm}
use Rattle.std.proofs.lemmas.Bool.{cases_lt}
use Rattle.std.proofs.lemmas.List.{length-append, get_or_append_left, get_or_push}
use Rattle.dual_bound.proofs.classes.weighted.Goals as goal

pub loop-class-preserved : goal.loop-class-preserved
loop-class-preserved c =
    let items = c.loop-class.weighted.items in
    let class = c.loop-class.class in
    let price = c.saturating_mul-price.result in
    let small : price < 2 ^ 40 = omega (arith, c.if-price-gt-HIGHEST.false) in
    let times : price ≡ slice_index c.args.prices.now class * c.from.result = omega (arith, c.saturating_mul-price.ensures, small) in
    let value : price ≡ slice_index c.args.sizes.now class * slice_index c.args.prices.now class =
    times
    ∙ ap (λ n. slice_index c.args.prices.now class * n) c.from.ensures
    ∙ mul_comm (slice_index c.args.prices.now class) (slice_index c.args.sizes.now class) in
    let push : c.push.new.self.items ≡ items ++ price ∷ [] = c.in_ok-push.ensures.items in
    let count : length items ≡ class = c.loop-class.invariant.count in
    record {
      count = rw push (omega (arith, length-append items (price ∷ []), count));
      each = λ r l. rw push (elim (cases_lt r class) [
        | inl below ↦ get_or_append_left items (price ∷ []) 0 r (omega (arith, count)) ∙ c.loop-class.invariant.each r below
        | inr last ↦ let e : class ≡ r = omega arith in rw (← e) (get_or_push items price 0 class count ∙ value)
      ]);
      small = λ r l. rw push (elim (cases_lt r class) [
        | inl below ↦ rw (get_or_append_left items (price ∷ []) 0 r (omega (arith, count))) (c.loop-class.invariant.small r below)
        | inr last ↦ let e : class ≡ r = omega arith in rw (← e, get_or_push items price 0 class count) small
      ]);
    }
