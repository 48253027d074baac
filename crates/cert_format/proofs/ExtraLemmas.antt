-- One more stage is read as it is spelled.
use Rattle.std.proofs.Common.{◌≡◌, ℕ, ◌^◌, ◌<◌, true, cond, List, [], ◌∷◌, ◌++◌, Some, None, Result, Ok, Err, refl, sym, ap, subst, ◌∙◌, codes, arith, inl, inr}
use Rattle.std.specs.Prelude.{Option, IfOk}
use Rattle.std.specs.Str.{bytes_eq}
use Rattle.std.proofs.lemmas.Bool.{cases_Bool}
use Rattle.std.proofs.lemmas.Option.{cond_some}
use Rattle.std.proofs.lemmas.Slice.Eq.{bytes_eq-Decides}
use Rattle.cost_fixing.specs.declared.fixings.Fixing.{Fixing}
use Rattle.std.specs.List.{AllByRecursion}
use Rattle.cert_format.specs.declared.cert.Mark.{Mark}
use Rattle.cert_format.specs.declared.cert.Mark.TheVariants.{Optimal, Infeasible, Unsettled, NotTried}
use Rattle.cert_format.specs.declared.cert.StageCert.{StageCert}
use Rattle.cert_format.specs.declared.fault.CertFault.{CertFault}
use Rattle.cert_format.specs.declared.rows.FixLine.{FixLine}
use Rattle.cert_format.specs.declared.rows.FixLine.TheVariants.{Never, Always}
use Rattle.cert_format.specs.Lines.{Word, text_of}
use Rattle.cert_format.specs.Private.Cuts.{cert_lines_of}
use Rattle.cert_format.specs.Private.Words.{◌>>=◌ as ◌>>?◌, after_tag, next_by, is_end}
use Rattle.cert_format.specs.Private.Rows.{extra_number, extra_row, tried_mark, tried_row, mark_row, end_row}
use Rattle.cert_format.specs.Private.Spots.{Spot, ◌>>=◌, line_by}
use Rattle.cert_format.specs.Forms.{Gives}
use Rattle.cert_format.specs.Private.Reading.{proof_at, ended, extra_at, extra_of}
use Rattle.cert_format.specs.Spelling.{is_tried, stage_words, proof_lines, extra_word, extra_lines, extra_spelling, IsExtra}
use Rattle.cert_format.proofs.WordLemmas.{bind_some, some_is, tag_takes, tag_again, next_takes, next_again, end_takes}
use Rattle.cert_format.proofs.RowLemmas.{mark_takes, mark_again, end_line_takes, end_line_again}
use Rattle.cert_format.proofs.BlockLemmas.{Line, bind_ok, line_takes, line_again}
use Rattle.cert_format.proofs.TreeLemmas.{HasFixing}
use Rattle.cert_format.proofs.StageLemmas.{AllowsFrom, proof_takes, proof_again, ended_takes}
use Rattle.cert_format.proofs.TextLemmas.{IsWord, IsLine, HasWord, lines_again, text_again, with_words, lines_join, tag_line, literal, mark_is_line, proof_is_lines}

-- a number that is read is that of each fixing, or of none, that may stand under it
never_has : (f : Option Fixing) → HasFixing Never f → extra_word f ≡ codes "1"
never_has None has = refl
never_has (Some f) has = absurd has

always_has : (f : Option Fixing) → HasFixing Always f → extra_word f ≡ codes "2"
always_has None has = absurd has
always_has (Some f) has = refl

number_takes : (w : Word) (fix : FixLine) → extra_number w ≡ Some fix → (f : Option Fixing) → HasFixing fix f → w ≡ extra_word f
unfolding extra_number
number_takes w fix e f has =
    elim (cases_Bool (bytes_eq w (codes "1"))) [
      | inl one ↦
          let is : Never ≡ fix = some_is Never fix (rw one at e) in
          let word : w ≡ codes "1" = (bytes_eq-Decides w (codes "1")).0 one in
          word ∙ sym (never_has f (subst (λ (x : FixLine). HasFixing x f) (sym is) has))
      | inr other ↦
          let g = cond_some (bytes_eq w (codes "2")) Always fix (rw other at e) in
          let word : w ≡ codes "2" = (bytes_eq-Decides w (codes "2")).0 g.0 in
          word ∙ sym (always_has f (subst (λ (x : FixLine). HasFixing x f) (sym g.1) has))
    ]

extra_takes : (ws : Line) (fix : FixLine) → extra_row ws ≡ Some fix → (f : Option Fixing) → HasFixing fix f → ws ≡ codes "EXTRA" ∷ extra_word f ∷ []
unfolding extra_row
extra_takes ws fix e f has =
    let a = bind_some (after_tag (codes "EXTRA") ws) (λ vs. next_by extra_number vs >>? λ x. cond (is_end x.1) (Some x.0) None) fix e in
    let b = bind_some (next_by extra_number a.0) (λ x. cond (is_end x.1) (Some x.0) None) fix a.2 in
    let g = end_takes b.0.1 b.0.0 fix b.2 in
    let t0 = tag_takes (codes "EXTRA") ws a.0 a.1 in
    let t1 = next_takes extra_number a.0 b.0 b.1 in
    let w = number_takes t1.word b.0.0 t1.reads f (subst (λ (x : FixLine). HasFixing x f) (sym g.1) has) in
    cc (t0, t1.parts, w, g.0)

-- the reading of one more stage with this fixing, or without one
abbrev pub fix_of : Option Fixing → FixLine
fix_of None = Never
fix_of (Some f) = Always

pub has_own : (f : Option Fixing) → HasFixing (fix_of f) f
has_own None = tt
has_own (Some f) = tt

number_again : (f : Option Fixing) → extra_number (extra_word f) ≡ Some (fix_of f)
unfolding extra_number
number_again None = refl
number_again (Some f) = refl

pub extra_again : (f : Option Fixing) → extra_row (codes "EXTRA" ∷ extra_word f ∷ []) ≡ Some (fix_of f)
unfolding extra_row
extra_again f = rw (tag_again (codes "EXTRA") (extra_word f ∷ []), next_again extra_number (extra_word f) (fix_of f) [] (number_again f)) refl

from_three : (fix : FixLine) → AllowsFrom 3 fix
from_three fix None has = tt
from_three fix (Some f) has = omega arith

tried_is : (m n : Mark) → tried_mark m ≡ Some n → (m ≡ n) × (is_tried n ≡ true)
tried_is Optimal n e = let same : Optimal ≡ n = cc in (same, ap is_tried (sym same))
tried_is Infeasible n e = let same : Infeasible ≡ n = cc in (same, ap is_tried (sym same))
tried_is Unsettled n e = let same : Unsettled ≡ n = cc in (same, ap is_tried (sym same))
tried_is NotTried n e = absurd cc

tried_again : (m : Mark) → is_tried m ≡ true → tried_mark m ≡ Some m
tried_again Optimal e = refl
tried_again Infeasible e = refl
tried_again Unsettled e = refl
tried_again NotTried e = absurd cc

tried_takes : (ws : Line) (m : Mark) → tried_row ws ≡ Some m → (ws ≡ stage_words 5 m) × (is_tried m ≡ true)
unfolding tried_row
tried_takes ws m e =
    let a = bind_some (mark_row 5 ws) tried_mark m e in
    let t = tried_is a.0 m a.2 in
    (mark_takes 5 ws a.0 a.1 ∙ ap (stage_words 5) t.0, t.1)

pub tried_row_again : (m : Mark) → is_tried m ≡ true → tried_row (stage_words 5 m) ≡ Some m
unfolding tried_row
tried_row_again m e = rw (mark_again 5 m (let small : 5 < 2 ^ 32 = omega arith in small)) (tried_again m e)

pub stage_takes : (s : Spot) (x : StageCert) → extra_at s ≡ Ok x → (s.lines ≡ extra_lines x) × IsExtra x
unfolding extra_at
stage_takes s x e =
    let a = bind_ok (line_by extra_row s) (λ head. line_by tried_row head.1 >>= λ mark. proof_at 3 head.0 mark.0 mark.1 >>= λ stage. line_by end_row stage.1 >>= λ last. ended stage.0 last.1) x e in
    let b = bind_ok (line_by tried_row a.0.1) (λ mark. proof_at 3 a.0.0 mark.0 mark.1 >>= λ stage. line_by end_row stage.1 >>= λ last. ended stage.0 last.1) x a.2 in
    let c = bind_ok (proof_at 3 a.0.0 b.0.0 b.0.1) (λ stage. line_by end_row stage.1 >>= λ last. ended stage.0 last.1) x b.2 in
    let d = bind_ok (line_by end_row c.0.1) (λ last. ended c.0.0 last.1) x c.2 in
    let g = ended_takes c.0.0 x d.0.1.line d.0.1.lines d.2 in
    let ta = line_takes extra_row s a.0 a.1 in
    let tb = line_takes tried_row a.0.1 b.0 b.1 in
    let wb = tried_takes tb.words b.0.0 tb.reads in
    let tc = proof_takes 3 a.0.0 b.0.0 b.0.1 c.0.0 c.0.1 (from_three a.0.0) c.1 in
    let wa = extra_takes ta.words a.0.0 ta.reads c.0.0.fixing tc.allowed in
    let td = line_takes end_row c.0.1 d.0 d.1 in
    let wd = end_line_takes td.words d.0.0 td.reads in
    let last : c.0.1.lines ≡ (codes "END" ∷ []) ∷ [] = td.parts ∙ ap (λ (ws : Line). ws ∷ d.0.1.lines) wd ∙ ap (λ (ls : List Line). (codes "END" ∷ []) ∷ ls) g.0 in
    let rest : b.0.1.lines ≡ proof_lines c.0.0 ++ ((codes "END" ∷ []) ∷ []) = tc.parts ∙ ap (λ (ls : List Line). proof_lines c.0.0 ++ ls) last in
    let mark : a.0.1.lines ≡ stage_words 5 c.0.0.mark ∷ (proof_lines c.0.0 ++ ((codes "END" ∷ []) ∷ [])) = tb.parts ∙ ap (λ (ws : Line). ws ∷ b.0.1.lines) (wb.0 ∙ ap (stage_words 5) (sym tc.mark_is)) ∙ ap (λ (ls : List Line). stage_words 5 c.0.0.mark ∷ ls) rest in
    let parts : s.lines ≡ extra_lines c.0.0 = ta.parts ∙ ap (λ (ws : Line). ws ∷ a.0.1.lines) wa ∙ ap (λ (ls : List Line). (codes "EXTRA" ∷ extra_word c.0.0.fixing ∷ []) ∷ ls) mark in
    subst (λ (y : StageCert). (s.lines ≡ extra_lines y) × IsExtra y) g.1 (parts, record { tried = ap is_tried tc.mark_is ∙ wb.1; fits = tc.fits })

pub stage_again : (x : StageCert) (line : ℕ) → IsExtra x → extra_at (record { line = line; lines = extra_lines x }) ≡ Ok x
unfolding extra_at
stage_again x line is =
    let s : Spot = record { line = line; lines = extra_lines x } in
    let end : List Line = (codes "END" ∷ []) ∷ [] in
    let a = line_again extra_row s (codes "EXTRA" ∷ extra_word x.fixing ∷ []) (stage_words 5 x.mark ∷ (proof_lines x ++ end)) (fix_of x.fixing) refl (extra_again x.fixing) in
    let b = line_again tried_row a.spot (stage_words 5 x.mark) (proof_lines x ++ end) x.mark a.left (tried_row_again x.mark is.tried) in
    let c = proof_again 3 (fix_of x.fixing) b.spot x end is.fits (has_own x.fixing) b.left in
    let d = line_again end_row c.spot (codes "END" ∷ []) [] 0 c.left end_line_again in
    rw (a.reads, b.reads, c.reads, d.reads, d.left) refl

number_is_word : (f : Option Fixing) → IsWord (extra_word f)
number_is_word None = literal (codes "1") refl
number_is_word (Some f) = literal (codes "2") refl

pub extra_is_lines : (x : StageCert) → IsExtra x → AllByRecursion IsLine (extra_lines x)
extra_is_lines x is =
    (tag_line (codes "EXTRA") (extra_word x.fixing ∷ []) refl (number_is_word x.fixing, tt), (mark_is_line 5 x.mark (let small : 5 < 2 ^ 64 = omega arith in small), lines_join (proof_lines x) ((codes "END" ∷ []) ∷ []) (proof_is_lines 3 x is.fits) (tag_line (codes "END") [] refl tt, tt)))

pub extra_is_found : (bytes : List ℕ) (r : Result StageCert CertFault) → Gives (λ s. s) r (extra_of bytes) → IfOk r (λ s. IsExtra s × (bytes ≡ extra_spelling s))
extra_is_found bytes (Ok x) given =
    let start : Spot = record { line = 1; lines = cert_lines_of bytes } in
    let t = stage_takes start x given in
    let whole : AllByRecursion HasWord (cert_lines_of bytes) = subst (AllByRecursion HasWord) (sym t.0) (with_words (extra_lines x) (extra_is_lines x t.1)) in
    (t.1, sym (text_again bytes whole) ∙ ap text_of t.0)
extra_is_found bytes (Err e) given = tt

pub extra_is_read : (bytes : List ℕ) (x : StageCert) → IsExtra x → bytes ≡ extra_spelling x → extra_of bytes ≡ Ok x
extra_is_read bytes x is e =
    let cut : cert_lines_of bytes ≡ extra_lines x = ap cert_lines_of e ∙ lines_again (extra_lines x) (extra_is_lines x is) in
    ap (λ (ls : List (List Word)). extra_at (record { line = 1; lines = ls })) cut ∙ stage_again x 1 is
