-- One more stage has no more bytes than a certificate that has it four times.
use Rattle.std.proofs.Common.{◌≡◌, ℕ, ◌+◌, ◌≤◌, Bool, true, false, cond, List, [], ◌∷◌, ◌++◌, length, refl, sym, ap, ◌∙◌, subst, arith, codes, length-append}
use Rattle.std.specs.List.{AllByRecursion}
use Rattle.std.specs.Fmt.{decimal}
use Rattle.std.proofs.lemmas.Fmt.{length-decimal-le}
use Rattle.std.proofs.lemmas.Grind.{flat_map-append}
use Rattle.std.proofs.lemmas.List.Concat.{flat_map-cons}
use Rattle.std.specs.Prelude.{Option, Some, None}
use Rattle.cost_fixing.specs.declared.fixings.Fixing.{Fixing}
use Rattle.cert_format.specs.declared.cert.Mark.{Mark}
use Rattle.cert_format.specs.declared.cert.Mark.TheVariants.{Optimal, Infeasible, Unsettled, NotTried}
use Rattle.cert_format.specs.declared.cert.StageCert.{StageCert}
use Rattle.cert_format.specs.declared.cert.Certificate.{Certificate}
use Rattle.cert_format.specs.declared.cert.TheConstants.{MOST_SEASON_BYTES}
use Rattle.cert_format.specs.Lines.{Word, spelled_line, text_of}
use Rattle.cert_format.specs.Spelling.{numbered, count_words, mark_name, stage_words, is_tried, proof_lines, stage_lines, spelling, StageFitsAs, StageFits, IsCert, IsExtra, extra_word, extra_spelling}
use Rattle.cert_format.specs.Printable.{IsWithinLimits}

abbrev Line : Type 0
Line = List Word

-- ---- lines

size-cons : (line : Line) (lines : List Line) → length (text_of (line ∷ lines)) ≡ length (spelled_line line) + length (text_of lines)
size-cons line lines = ap (λ (l : List ℕ). length l) (flat_map-cons spelled_line line lines) ∙ length-append (spelled_line line) (text_of lines)

size-append : (one two : List Line) → length (text_of (one ++ two)) ≡ length (text_of one) + length (text_of two)
size-append one two = ap (λ (l : List ℕ). length l) (flat_map-append spelled_line one two) ∙ length-append (text_of one) (text_of two)

one-word : (w : Word) → length (spelled_line (w ∷ [])) ≡ length w + 1
unfolding spelled_line
one-word w = length-append w (10 ∷ [])

words : (w v : Word) (ws : Line) → length (spelled_line (w ∷ v ∷ ws)) ≡ length w + 1 + length (spelled_line (v ∷ ws))
unfolding spelled_line
words w v ws = omega (arith, length-append w (32 ∷ spelled_line (v ∷ ws)))

-- ---- the line of a mark

mark-bytes : (stage : ℕ) (mark : Mark) → length (spelled_line (stage_words stage mark)) ≡ 7 + length (decimal stage) + length (spelled_line (mark_name mark))
mark-bytes stage Optimal = omega (arith, words (codes "STAGE") (decimal stage) (mark_name Optimal), words (decimal stage) (codes "OPTIMAL") [])
mark-bytes stage Infeasible = omega (arith, words (codes "STAGE") (decimal stage) (mark_name Infeasible), words (decimal stage) (codes "INFEASIBLE") [])
mark-bytes stage Unsettled = omega (arith, words (codes "STAGE") (decimal stage) (mark_name Unsettled), words (decimal stage) (codes "OPEN") [])
mark-bytes stage NotTried = omega (arith, words (codes "STAGE") (decimal stage) (mark_name NotTried), words (decimal stage) (codes "NOT") (codes "TRIED" ∷ []))

-- ---- a stage that was tried

tried-by : (stage : ℕ) (s : StageCert) (tried : Bool) → tried ≡ true →
    length (text_of (stage_words stage s.mark ∷ cond tried (proof_lines s) [])) ≡ length (spelled_line (stage_words stage s.mark)) + length (text_of (proof_lines s))
tried-by stage s true e = size-cons (stage_words stage s.mark) (proof_lines s)
tried-by stage s false e = absurd cc

tried-bytes : (stage : ℕ) (s : StageCert) → is_tried s.mark ≡ true → length (text_of (stage_lines stage s)) ≡ length (spelled_line (stage_words stage s.mark)) + length (text_of (proof_lines s))
tried-bytes stage s e = tried-by stage s (is_tried s.mark) e

-- ---- the stage four times

abbrev four-times : StageCert → Certificate
four-times s = record { version = 3; stages = s ∷ s ∷ s ∷ s ∷ [] }

stage-fits : (s : StageCert) → IsExtra s → StageFits 3 s
stage-fits s is = subst (StageFitsAs 3 s) (sym is.tried) is.fits

number-bytes : (f : Option Fixing) → length (spelled_line (extra_word f ∷ [])) ≡ 2
number-bytes None = one-word (codes "1")
number-bytes (Some f) = one-word (codes "2")

is-cert : (s : StageCert) → IsExtra s → IsCert (four-times s)
is-cert s is =
    let fits = stage-fits s is in
    record {
      version = (omega arith, omega arith);
      count = refl;
      stages = (fits, (fits, (fits, (fits, tt))));
    }

pub extra-bytes : ((c : Certificate) → IsCert c → AllByRecursion IsWithinLimits c.stages → length (spelling c) ≤ MOST_SEASON_BYTES) → (s : StageCert) → IsExtra s → IsWithinLimits s →
    length (extra_spelling s) ≤ MOST_SEASON_BYTES
extra-bytes law s is w =
    let most = law (four-times s) (is-cert s is) (w, (w, (w, (w, tt)))) in
    let end : List Line = (codes "END" ∷ []) ∷ [] in
    let first = size-cons (count_words (codes "CERT") 3) (numbered stage_lines 1 (s ∷ s ∷ s ∷ s ∷ []) ++ end) in
    let stages = size-append (numbered stage_lines 1 (s ∷ s ∷ s ∷ s ∷ [])) end in
    let one = size-append (stage_lines 1 s) (numbered stage_lines 2 (s ∷ s ∷ s ∷ [])) in
    let two = size-append (stage_lines 2 s) (numbered stage_lines 3 (s ∷ s ∷ [])) in
    let three = size-append (stage_lines 3 s) (numbered stage_lines 4 (s ∷ [])) in
    let head = size-cons (codes "EXTRA" ∷ extra_word s.fixing ∷ []) (stage_words 5 s.mark ∷ (proof_lines s ++ end)) in
    let mark = size-cons (stage_words 5 s.mark) (proof_lines s ++ end) in
    let body = size-append (proof_lines s) end in
    let extra = words (codes "EXTRA") (extra_word s.fixing) [] in
    let digit : length (decimal 5) ≤ 1 = length-decimal-le 1 5 (omega arith) (omega arith) (omega arith) in
    omega (
      arith,
      most,
      first,
      stages,
      one,
      two,
      three,
      head,
      mark,
      body,
      extra,
      digit,
      number-bytes s.fixing,
      tried-bytes 1 s is.tried,
      tried-bytes 2 s is.tried,
      tried-bytes 3 s is.tried,
      mark-bytes 1 s.mark,
      mark-bytes 2 s.mark,
      mark-bytes 3 s.mark,
      mark-bytes 5 s.mark,
    )
