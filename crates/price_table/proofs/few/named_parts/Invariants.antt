use Rattle.std.proofs.Common.{◌≡◌, ℕ, ◌<◌, true, length}
use Rattle.std.specs.Option.{ForSome}
use Rattle.price_table.specs.Tables.{alt_in}
use Rattle.price_table.specs.Private.Named.{is_named}
use Rattle.price_table.proofs.few.named_parts.Given as goal

abbrev pub invariant-loop-alt : goal.invariant-loop-alt
invariant-loop-alt l = record {
  count : length l.named.items ≡ l.parts;
  one : (a : ℕ) → a < l.alt-index → ForSome (alt_in l.alts a).one (λ k. is_named l.named.items k ≡ true);
  two : (a : ℕ) → a < l.alt-index → ForSome (alt_in l.alts a).two (λ k. is_named l.named.items k ≡ true);
}
