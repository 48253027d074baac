-- What a link of the system leaves is what the trait says: it tells nothing.
use Rattle.std.proofs.Common.{◌≡◌, ℕ, ◌≤◌, ◌==◌, ◌||◌, List, [], ◌∷◌, ◌++◌, length, take, Option, Some, None, Ok, Err, sym, ap, ◌∙◌}
use Rattle.desk_outside.specs.Passages.{put, put_failed}
use Rattle.desk_links.specs.Links.{Transcript, LinkView, BeginsInput, IsInput, FollowSent, HasTaken, SendsBytes, taken_of, with_taken_bytes}

begins_none : (told : Option Transcript) (bytes : List ℕ) → told ≡ None → BeginsInput told bytes
begins_none None bytes e = tt
begins_none (Some t) bytes e = absurd cc

whole_none : (told : Option Transcript) (bytes : List ℕ) → told ≡ None → IsInput told bytes
whole_none None bytes e = tt
whole_none (Some t) bytes e = absurd cc

follows_none : (told after : Option Transcript) (bytes : List ℕ) → told ≡ None → after ≡ None → FollowSent told bytes after
follows_none None after bytes e f = f
follows_none (Some t) after bytes e f = absurd cc

pub real_took : (v w : LinkView) (into : List ℕ) (n : ℕ) → v.told ≡ None → w ≡ with_taken_bytes v (take n into) → n ≤ length into → n ≡ length (take n into) → HasTaken v n into w
real_took v w into n none is within long =
    let told : w.told ≡ None = ap (λ (u : LinkView). u.told) is ∙ none in
    record {
      within = within;
      log = ap (λ (u : LinkView). u.log) is;
      ended = ap (λ (u : LinkView). u.ended) is ∙ ap (λ (k : ℕ). v.ended || (k == 0)) (sym long);
      told = ap (λ (u : LinkView). u.told) is;
      input = begins_none w.told (taken_of w.log) told;
      whole = λ e. whole_none w.told (taken_of w.log) told;
    }

pub real_sent : {E : Type 0} (v w : LinkView) (bytes : List ℕ) → v.told ≡ None → w ≡ record v { log = v.log ++ put bytes ∷ [] } → SendsBytes {E = E} v bytes (Ok tt) w
real_sent v w bytes none is = record {
  log = ap (λ (u : LinkView). u.log) is;
  ended = ap (λ (u : LinkView). u.ended) is;
  told = follows_none v.told w.told bytes none (ap (λ (u : LinkView). u.told) is ∙ none);
}

pub real_unsent : {E : Type 0} (fault : E) (v w : LinkView) (bytes : List ℕ) → v.told ≡ None → w.log ≡ v.log ++ put_failed bytes ∷ [] → w.ended ≡ v.ended → w.told ≡ v.told → SendsBytes {E = E} v bytes (Err fault) w
real_unsent fault v w bytes none logged ended told = record {
  log = logged;
  ended = ended;
  told = (0, follows_none v.told w.told (take 0 bytes) none (told ∙ none));
}
