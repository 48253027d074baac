-- The parts of a report, one after the other.
use Rattle.std.proofs.Common.{◌≡◌, ℕ, ◌∙◌, ap, List, ◌++◌}
use Rattle.std.proofs.lemmas.List.{append_assoc}

after_one : (o a b p q : List ℕ) → p ≡ o ++ a → q ≡ p ++ b → q ≡ o ++ (a ++ b)
after_one o a b p q first second = second ∙ ap (λ (t : List ℕ). t ++ b) first ∙ append_assoc o a b

pub six_parts : (o a b c d e f p q r s t u : List ℕ) → p ≡ o ++ a → q ≡ p ++ b → r ≡ q ++ c → s ≡ r ++ d → t ≡ s ++ e → u ≡ t ++ f → u ≡ o ++ (a ++ (b ++ (c ++ (d ++ (e ++ f)))))
six_parts o a b c d e f p q r s t u one two three four five six =
    let ef = after_one s e f t u five six in
    let def = after_one r d (e ++ f) s u four ef in
    let cdef = after_one q c (d ++ (e ++ f)) r u three def in
    let bcdef = after_one p b (c ++ (d ++ (e ++ f))) q u two cdef in
    after_one o a (b ++ (c ++ (d ++ (e ++ f)))) p u one bcdef
