use Rattle.std.proofs.Common.{◌≡◌, ℕ, ◌<◌, ◌≤◌, List, [], ◌∷◌, ◌++◌, length, take, sym, ap, ◌∙◌, arith, length-append}
use Rattle.std.proofs.lemmas.List.{take_all, length-take, take-append-le}
use Rattle.session_desk.proofs.pending.Pending.keep.Goals as goal

-- all bytes are kept while they are few
all_kept : (kept line : List ℕ) (b : ℕ) → kept ≡ take 201 line → length kept ≤ 200 → kept ++ b ∷ [] ≡ take 201 (line ++ b ∷ [])
all_kept kept line b is few =
    let short : length line ≤ 200 = omega (arith, length-take 201 line, ap length is, few) in
    let whole : kept ≡ line = is ∙ take_all 201 line (omega arith) in
    ap (λ (l : List ℕ). l ++ b ∷ []) whole ∙ sym (take_all 201 (line ++ b ∷ []) (omega (arith, length-append line (b ∷ []))))

-- no more is kept of a long one
no_more : (kept line : List ℕ) (b : ℕ) → kept ≡ take 201 line → 200 < length kept → kept ≡ take 201 (line ++ b ∷ [])
no_more kept line b is many =
    let long : 201 ≤ length line = omega (arith, length-take 201 line, ap length is, many) in
    is ∙ sym (take-append-le 201 line (b ∷ []) long)

pub returns-in_ok-push-clause-line : goal.returns-in_ok-push-clause-line
returns-in_ok-push-clause-line c line is =
    c.in_ok-push.ensures.items ∙ all_kept c.args.self.now.line.items line c.args.byte is (omega (arith, c.if-len-le-LONGEST_LINE.true, c.len.ensures, c.args.self.now.line.ok.0))

pub returns-else-len-le-LONGEST_LINE-clause-line : goal.returns-else-len-le-LONGEST_LINE-clause-line
returns-else-len-le-LONGEST_LINE-clause-line c line is =
    no_more c.args.self.now.line.items line c.args.byte is (omega (arith, c.if-len-le-LONGEST_LINE.false, c.len.ensures, c.args.self.now.line.ok.0))
