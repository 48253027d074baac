-- The line of a refusal is the first that is not in the form.
use Rattle.std.proofs.Common.{◌≡◌, ℕ, zero, suc, ◌-◌, false, cond, eqb, List, [], ◌∷◌, ◌++◌, length, take, map, refl, sym, ap, subst, ◌∙◌, Result, Ok, Err, arith, inl, inr}
use Rattle.std.specs.List.{AllByRecursion}
use Rattle.std.proofs.lemmas.Bool.{cases_Bool, eqb-true}
use Rattle.std.proofs.lemmas.List.{take_at, take-map}
use Rattle.slot_text.specs.Lines.{onto_first}
use Rattle.slot_text.specs.Ended.{ended_lines}
use Rattle.slot_text.specs.Forms.{BeginsInForm, IsFirstBadLine}
use Rattle.cert_format.specs.declared.cert.StageCert.{StageCert}
use Rattle.cert_format.specs.declared.cert.Certificate.{Certificate}
use Rattle.cert_format.specs.declared.fault.CertFault.{CertFault}
use Rattle.cert_format.specs.declared.fault.CertFault.TheVariants.{BadLine, Memory}
use Rattle.cert_format.specs.Lines.{Word, spelled_line, text_of}
use Rattle.cert_format.specs.Private.Cuts.{onto_line, onto_lines, cert_lines_of}
use Rattle.cert_format.specs.Private.Spots.{Spot}
use Rattle.cert_format.specs.Forms.{Gives}
use Rattle.cert_format.specs.Private.Reading.{cert_at, cert_of, extra_at, extra_of}
use Rattle.cert_format.specs.Spelling.{cert_lines, IsCert, extra_lines, IsExtra}
use Rattle.cert_format.specs.Forms.{IsCertText, IsExtraText, IfBadLine}
use Rattle.cert_format.proofs.BlockLemmas.{Line}
use Rattle.cert_format.proofs.StageLemmas.{cert_takes, cert_again}
use Rattle.cert_format.proofs.ExtraLemmas.{stage_takes, stage_again, extra_is_lines}
use Rattle.cert_format.proofs.TextLemmas.{IsLine, HasWord, lines_again, with_words, cert_is_lines}
use Rattle.cert_format.proofs.StopLemmas.{spot, SameHead}
use Rattle.cert_format.proofs.WholeLemmas.{Stopped, Whole}
use Rattle.cert_format.proofs.SteadyLemmas.{whole_cert, whole_extra}

-- ---- the bytes of a line and its words

-- the words of a line that has its end; without its end it has none
words_of : List ℕ → Line
words_of [] = []
words_of (b ∷ raw) = cond (eqb b 10) ([] ∷ []) (onto_line b (words_of raw))

onto_words : (b : ℕ) (raws : List (List ℕ)) → eqb b 10 ≡ false → onto_lines b (map words_of raws) ≡ map words_of (onto_first b raws)
unfolding words_of
onto_words b [] other = rw other refl
onto_words b (raw ∷ raws) other = rw other refl

lines_words : (bytes : List ℕ) → cert_lines_of bytes ≡ map words_of (ended_lines bytes)
unfolding cert_lines_of ended_lines words_of
lines_words [] = refl
lines_words (b ∷ bytes) =
    elim (cases_Bool (eqb b 10)) [
      | inl lf ↦ rw lf (ap (λ (ls : List Line). ([] ∷ []) ∷ ls) (lines_words bytes))
      | inr other ↦ rw other (ap (onto_lines b) (lines_words bytes) ∙ onto_words b (ended_lines bytes) other)
    ]

-- a line with words has the bytes that its words spell
Spelled : List ℕ → Type 0
Spelled raw = HasWord (words_of raw) → spelled_line (words_of raw) ≡ raw

onto_spelled : (b : ℕ) (raw : List ℕ) (ws : Line) → (HasWord ws → spelled_line ws ≡ raw) → HasWord (onto_line b ws) → spelled_line (onto_line b ws) ≡ b ∷ raw
unfolding spelled_line
onto_spelled b raw [] h has = absurd (omega (arith, has))
onto_spelled b raw (w ∷ ws) h has =
    let so_far : spelled_line (w ∷ ws) ≡ raw = h (omega arith) in
    elim (cases_Bool (eqb b 32)) [
      | inl blank ↦ rw blank (ap (λ (t : List ℕ). 32 ∷ t) so_far ∙ ap (λ (x : ℕ). x ∷ raw) (sym (eqb-true b 32 blank)))
      | inr byte ↦ rw byte (longer ws ∙ ap (λ (t : List ℕ). b ∷ t) so_far)
    ]
  where
    longer : (vs : List Word) → spelled_line ((b ∷ w) ∷ vs) ≡ b ∷ spelled_line (w ∷ vs)
    longer [] = refl
    longer (v ∷ vs) = refl

onto_all : (b : ℕ) (raws : List (List ℕ)) → eqb b 10 ≡ false → AllByRecursion Spelled raws → AllByRecursion Spelled (onto_first b raws)
unfolding words_of Spelled
onto_all b [] other all = (rw other (λ has. onto_spelled b [] [] (λ none. absurd (omega (arith, none))) has), tt)
onto_all b (raw ∷ raws) other all = (rw other (onto_spelled b raw (words_of raw) all.0), all.1)

all_spelled : (bytes : List ℕ) → AllByRecursion Spelled (ended_lines bytes)
unfolding ended_lines words_of Spelled spelled_line
all_spelled [] = tt
all_spelled (b ∷ bytes) =
    elim (cases_Bool (eqb b 10)) [
      | inl lf ↦ rw lf ((λ has. refl), all_spelled bytes)
      | inr other ↦ rw other (onto_all b (ended_lines bytes) other (all_spelled bytes))
    ]

take_all_of : {A : Type 0} (P : A → Type 0) (n : ℕ) (xs : List A) → AllByRecursion P xs → AllByRecursion P (take n xs)
take_all_of P zero xs all = tt
take_all_of P (suc n) [] all = tt
take_all_of P (suc n) (x ∷ xs) all = (all.0, take_all_of P n xs all.1)

spelled_again : (raws : List (List ℕ)) → AllByRecursion Spelled raws → AllByRecursion HasWord (map words_of raws) → map spelled_line (map words_of raws) ≡ raws
unfolding Spelled
spelled_again [] all has = refl
spelled_again (raw ∷ raws) all has = rw (all.0 has.0, spelled_again raws all.1 has.1) refl

-- the first lines by their words
front_bytes : (bytes : List ℕ) (k : ℕ) (good : List Line) → take k (cert_lines_of bytes) ≡ good → AllByRecursion HasWord good → take k (ended_lines bytes) ≡ map spelled_line good
front_bytes bytes k good e has =
    let raws : List (List ℕ) = take k (ended_lines bytes) in
    let words : map words_of raws ≡ good = sym (take-map words_of k (ended_lines bytes)) ∙ ap (take k) (sym (lines_words bytes)) ∙ e in
    sym (spelled_again raws (take_all_of Spelled k (ended_lines bytes) (all_spelled bytes)) (subst (AllByRecursion HasWord) (sym words) has)) ∙ ap (map spelled_line) words

front_words : (a b : List ℕ) (n : ℕ) → take n (ended_lines a) ≡ take n (ended_lines b) → take n (cert_lines_of a) ≡ take n (cert_lines_of b)
front_words a b n same =
    ap (take n) (lines_words a) ∙ take-map words_of n (ended_lines a) ∙ ap (map words_of) same ∙ sym (take-map words_of n (ended_lines b)) ∙ ap (take n) (sym (lines_words b))

-- ---- lines that begin alike

head_same : (lines rest : List Line) → take 1 rest ≡ take 1 lines → SameHead lines rest
head_same [] [] e = tt
head_same [] (b ∷ bs) e = absurd cc
head_same (a ∷ as') [] e = absurd cc
head_same (a ∷ as') (b ∷ bs) e = cc

record GoesOn (good rest lines : List Line) : Type 0 where
  other : List Line
  parts : lines ≡ good ++ other
  head : SameHead other rest

begins_alike : (good rest lines : List Line) (n : ℕ) → n ≡ suc (length good) → take n (good ++ rest) ≡ take n lines → GoesOn good rest lines
begins_alike [] rest lines n is e = record { other = lines; parts = refl; head = head_same lines rest (ap (λ (k : ℕ). take k rest) (sym is) ∙ e ∙ ap (λ (k : ℕ). take k lines) is) }
begins_alike (g ∷ good) rest lines zero is e = absurd (omega arith)
begins_alike (g ∷ good) rest [] (suc n) is e = absurd cc
begins_alike (g ∷ good) rest (l ∷ lines) (suc n) is e =
    let same : g ≡ l = cc in
    let front : take n (good ++ rest) ≡ take n lines = cc in
    let others = begins_alike good rest lines n (omega arith) front in
    record { other = others.other; parts = ap (λ (x : Line). x ∷ lines) (sym same) ∙ ap (λ (ls : List Line). g ∷ ls) others.parts; head = others.head }

-- ---- texts

-- what a form is to a reader of whole texts
record IsFormOf {B : Type 0} (Fits : B → Type 0) (lines : B → List Line) (W : Spot → Result B ℕ) : Type 0 where
  takes : (s : Spot) (x : B) → W s ≡ Ok x → (s.lines ≡ lines x) × Fits x
  again : (x : B) → Fits x → W (spot 1 (lines x)) ≡ Ok x
  are_lines : (x : B) → Fits x → AllByRecursion IsLine (lines x)

abbrev TextIn : {B : Type 0} → (B → Type 0) → (B → List Line) → List ℕ → Type 0
TextIn {B} Fits lines text = (x : B) × Fits x × (text ≡ text_of (lines x))

front_all : {A : Type 0} (P : A → Type 0) (xs ys : List A) → AllByRecursion P (xs ++ ys) → AllByRecursion P xs
front_all P [] ys all = tt
front_all P (x ∷ xs) ys all = (all.0, front_all P xs ys all.1)

begins : {B : Type 0} (Fits : B → Type 0) (lines : B → List Line) (W : Spot → Result B ℕ) → IsFormOf Fits lines W → (bytes : List ℕ) (n : ℕ) (p : Stopped W (spot 1 (cert_lines_of bytes)) n)
    → BeginsInForm (TextIn Fits lines) bytes (n - 1)
begins Fits lines W form bytes n p =
    let t = form.takes (spot 1 (p.good ++ p.more)) p.value p.ends in
    let are : AllByRecursion IsLine (lines p.value) = form.are_lines p.value t.1 in
    let clean : AllByRecursion HasWord p.good = front_all HasWord p.good p.more (with_words (p.good ++ p.more) (subst (AllByRecursion IsLine) (sym t.0) are)) in
    let k : n - 1 ≡ length p.good = omega (arith, p.place) in
    let text = text_of (lines p.value) in
    let ours : take (n - 1) (cert_lines_of bytes) ≡ p.good = ap (take (n - 1)) p.parts ∙ take_at p.good p.rest (n - 1) (sym k) in
    let theirs : take (n - 1) (cert_lines_of text) ≡ p.good = ap (take (n - 1)) (lines_again (lines p.value) are ∙ sym t.0) ∙ take_at p.good p.more (n - 1) (sym k) in
    record { whole = text; in_form = (p.value, t.1, refl); same = front_bytes bytes (n - 1) p.good ours clean ∙ sym (front_bytes text (n - 1) p.good theirs clean) }

never : {B : Type 0} (Fits : B → Type 0) (lines : B → List Line) (W : Spot → Result B ℕ) → IsFormOf Fits lines W → (bytes : List ℕ) (n : ℕ) (p : Stopped W (spot 1 (cert_lines_of bytes)) n)
    → BeginsInForm (TextIn Fits lines) bytes n → ⊥
never {B} Fits lines W form bytes n p begin =
    let x = begin.in_form.0 in
    let fits = begin.in_form.1 in
    let whole : cert_lines_of begin.whole ≡ lines x = ap cert_lines_of begin.in_form.2 ∙ lines_again (lines x) (form.are_lines x fits) in
    let alike : take n (p.good ++ p.rest) ≡ take n (lines x) = ap (take n) (sym p.parts) ∙ front_words bytes begin.whole n begin.same ∙ ap (take n) whole in
    let on = begins_alike p.good p.rest (lines x) n (omega (arith, p.place)) alike in
    let err : W (spot 1 (lines x)) ≡ Err n = ap (λ (ls : List Line). W (spot 1 ls)) on.parts ∙ p.bad on.other on.head in
    let both : ◌≡◌ {A = Result B ℕ} (Ok x) (Err n) = sym (form.again x fits) ∙ err in
    absurd cc

first_bad : {B : Type 0} (Fits : B → Type 0) (lines : B → List Line) (W : Spot → Result B ℕ) → IsFormOf Fits lines W → Whole W → (bytes : List ℕ) (n : ℕ) → W (spot 1 (cert_lines_of bytes)) ≡ Err n
    → IsFirstBadLine (TextIn Fits lines) bytes n
first_bad Fits lines W form whole bytes n e =
    let p = whole.stopped (spot 1 (cert_lines_of bytes)) n e in
    record { counted = omega (arith, p.place); before = begins Fits lines W form bytes n p; bad = never Fits lines W form bytes n p }

cert_form : IsFormOf IsCert cert_lines cert_at
cert_form = record { takes = cert_takes; again = λ c is. cert_again c 1 is; are_lines = cert_is_lines }

extra_form : IsFormOf IsExtra extra_lines extra_at
extra_form = record { takes = stage_takes; again = λ s is. stage_again s 1 is; are_lines = extra_is_lines }

pub first_bad_line : (bytes : List ℕ) (r : Result Certificate CertFault) → Gives (λ c. c) r (cert_of bytes) → IfBadLine r (IsFirstBadLine IsCertText bytes)
first_bad_line bytes (Ok c) given = tt
first_bad_line bytes (Err Memory) given = tt
first_bad_line bytes (Err (BadLine line)) given = first_bad IsCert cert_lines cert_at cert_form whole_cert bytes line given

pub first_bad_extra_line : (bytes : List ℕ) (r : Result StageCert CertFault) → Gives (λ s. s) r (extra_of bytes) → IfBadLine r (IsFirstBadLine IsExtraText bytes)
first_bad_extra_line bytes (Ok s) given = tt
first_bad_extra_line bytes (Err Memory) given = tt
first_bad_extra_line bytes (Err (BadLine line)) given = first_bad IsExtra extra_lines extra_at extra_form whole_extra bytes line given
