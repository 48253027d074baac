-- Lines are cut from their text again, and the text of the lines of a text is that text.
use Rattle.std.proofs.Common.{◌≡◌, ℕ, suc, ◌+◌, ◌^◌, ◌<◌, ◌≤◌, Bool, true, false, cond, eqb, List, [], ◌∷◌, ◌++◌, length, Option, Some, None, refl, sym, ap, ◌∙◌, append_assoc, arith, inl, inr, codes}
use Rattle.std.specs.Prelude.{ℤ, pos, negsuc, IfSome, ◌&&◌, not}
use Rattle.std.specs.Fmt.{decimal, signed_decimal}
use Rattle.std.specs.List.{AllByRecursion, list_all}
use Rattle.std.proofs.lemmas.Bool.{cases_Bool, and_parts, eqb-true, eqb-false, ne_eqb}
use Rattle.std.proofs.lemmas.List.{append-nil}
use Rattle.std.proofs.lemmas.List.Concat.{flat_map-cons}
use Rattle.cert_format.specs.Lines.{Word, spelled_line, text_of}
use Rattle.cert_format.specs.Private.Cuts.{onto_lines, cert_lines_of}
use Rattle.choice_problem.specs.declared.vectors.Price.{Price}
use Rattle.choice_problem.specs.declared.nodes.Node.{Node}
use Rattle.choice_problem.specs.declared.nodes.Node.TheVariants.{Split, Leaf, Over, Undone}
use Rattle.cost_fixing.specs.declared.fixings.Fixing.{Fixing}
use Rattle.cert_format.specs.declared.cert.Floor.{Floor}
use Rattle.cert_format.specs.declared.cert.Mark.{Mark}
use Rattle.cert_format.specs.declared.cert.Mark.TheVariants.{Optimal, Infeasible, Unsettled, NotTried}
use Rattle.cert_format.specs.declared.cert.StageCert.{StageCert}
use Rattle.cert_format.specs.declared.cert.Certificate.{Certificate}
use Rattle.cert_format.specs.Spelling.{numbered, count_words, alternative_lines, price_lines, vector_lines, seen_word, undone_words, node_words, is_undone, node_lines, fixing_lines, optional_lines, choice_lines, stage_words, is_tried, proof_lines, stage_lines, cert_lines, NodeFits, FloorFits, FixingFits, PriceFits, VectorFits, IsLong, ProofFits, StageFitsAs, StageFits, IsCert}
use Rattle.cert_format.proofs.WordLemmas.{Each, Each-weaker, IsDigit, digits_of_number}

-- a byte of a word
abbrev pub IsPlain : ℕ → Type 0
IsPlain b = (b ≡ 32 → ⊥) × (b ≡ 10 → ⊥)

abbrev pub IsWord : Word → Type 0
IsWord w = Each IsPlain w

abbrev pub IsLine : List Word → Type 0
IsLine ws = (0 < length ws) × AllByRecursion IsWord ws

-- a word in front of a line
word_front : (w : Word) (z : List ℕ) (v : Word) (vs : List Word) (rest : List (List Word)) → IsWord w → cert_lines_of z ≡ (v ∷ vs) ∷ rest → cert_lines_of (w ++ z) ≡ ((w ++ v) ∷ vs) ∷ rest
unfolding cert_lines_of
word_front [] z v vs rest plain e = e
word_front (b ∷ w) z v vs rest plain e =
    rw (ne_eqb b 10 plain.0.1, word_front w z v vs rest plain.1 e, ne_eqb b 32 plain.0.0) refl

line_front : (ws : List Word) (rest : List ℕ) → IsLine ws → cert_lines_of (spelled_line ws ++ rest) ≡ ws ∷ cert_lines_of rest
unfolding cert_lines_of spelled_line
line_front [] rest is = absurd (omega (arith, is.0))
line_front (w ∷ []) rest is =
    let end : cert_lines_of (10 ∷ rest) ≡ ([] ∷ []) ∷ cert_lines_of rest = refl in
    ap cert_lines_of (append_assoc w (10 ∷ []) rest) ∙ word_front w (10 ∷ rest) [] [] (cert_lines_of rest) is.1.0 end ∙ ap (λ (v : Word). (v ∷ []) ∷ cert_lines_of rest) (append-nil w)
line_front (w ∷ v ∷ ws) rest is =
    let tail : cert_lines_of (spelled_line (v ∷ ws) ++ rest) ≡ (v ∷ ws) ∷ cert_lines_of rest = line_front (v ∷ ws) rest (omega arith, is.1.1) in
    let blank : cert_lines_of (32 ∷ (spelled_line (v ∷ ws) ++ rest)) ≡ ([] ∷ v ∷ ws) ∷ cert_lines_of rest = ap (onto_lines 32) tail in
    ap cert_lines_of (append_assoc w (32 ∷ spelled_line (v ∷ ws)) rest) ∙ word_front w (32 ∷ (spelled_line (v ∷ ws) ++ rest)) [] (v ∷ ws) (cert_lines_of rest) is.1.0 blank ∙ ap (λ (u : Word). (u ∷ v ∷ ws) ∷ cert_lines_of rest) (append-nil w)

pub lines_again : (lines : List (List Word)) → AllByRecursion IsLine lines → cert_lines_of (text_of lines) ≡ lines
unfolding cert_lines_of
lines_again [] is = refl
lines_again (ws ∷ lines) is =
    ap cert_lines_of (flat_map-cons spelled_line ws lines) ∙ line_front ws (text_of lines) is.0 ∙ ap (λ (ls : List (List Word)). ws ∷ ls) (lines_again lines is.1)

-- each line has a word
abbrev pub HasWord : List Word → Type 0
HasWord ws = 0 < length ws

text_onto : (b : ℕ) (bytes : List ℕ) (lines : List (List Word)) → (b ≡ 10 → ⊥) → AllByRecursion HasWord (onto_lines b lines) → (AllByRecursion HasWord lines → text_of lines ≡ bytes) → text_of (onto_lines b lines) ≡ b ∷ bytes
unfolding spelled_line
text_onto b bytes [] no_lf whole h = absurd (omega (arith, whole.0))
text_onto b bytes ([] ∷ lines) no_lf whole h = absurd (omega (arith, whole.0))
text_onto b bytes ((w ∷ ws) ∷ lines) no_lf whole h =
    let so_far = h (omega arith, whole.1) in
    elim (cases_Bool (eqb b 32)) [
      | inl blank ↦ rw (blank, flat_map-cons spelled_line ([] ∷ w ∷ ws) lines) (ap (λ (x : ℕ). x ∷ (spelled_line (w ∷ ws) ++ text_of lines)) (sym (eqb-true b 32 blank)) ∙ ap (λ (t : List ℕ). b ∷ t) (sym (flat_map-cons spelled_line (w ∷ ws) lines) ∙ so_far))
      | inr byte ↦ rw (byte, flat_map-cons spelled_line ((b ∷ w) ∷ ws) lines) (longer ws ∙ ap (λ (t : List ℕ). b ∷ t) (sym (flat_map-cons spelled_line (w ∷ ws) lines) ∙ so_far))
    ]
  where
    longer : (vs : List Word) → spelled_line ((b ∷ w) ∷ vs) ++ text_of lines ≡ b ∷ (spelled_line (w ∷ vs) ++ text_of lines)
    longer [] = refl
    longer (v ∷ vs) = refl

by_byte : (b : ℕ) (bytes : List ℕ) (lines : List (List Word)) (t : Bool) → eqb b 10 ≡ t → (AllByRecursion HasWord lines → text_of lines ≡ bytes) → AllByRecursion HasWord (cond t (([] ∷ []) ∷ lines) (onto_lines b lines)) → text_of (cond t (([] ∷ []) ∷ lines) (onto_lines b lines)) ≡ b ∷ bytes
unfolding spelled_line
by_byte b bytes lines true is h whole = flat_map-cons spelled_line ([] ∷ []) lines ∙ ap (λ (t : List ℕ). 10 ∷ t) (h whole.1) ∙ ap (λ (x : ℕ). x ∷ bytes) (sym (eqb-true b 10 is))
by_byte b bytes lines false is h whole = text_onto b bytes lines (eqb-false b 10 is) whole h

pub text_again : (bytes : List ℕ) → AllByRecursion HasWord (cert_lines_of bytes) → text_of (cert_lines_of bytes) ≡ bytes
unfolding cert_lines_of
text_again [] whole = refl
text_again (b ∷ bytes) whole = by_byte b bytes (cert_lines_of bytes) (eqb b 10) refl (text_again bytes) whole

-- ---- the lines of a certificate are lines

plain_byte : (b : ℕ) → (not (eqb b 32) && not (eqb b 10)) ≡ true → IsPlain b
plain_byte b e =
    let p = and_parts (not (eqb b 32)) (not (eqb b 10)) e in
    (eqb-false b 32 (was_false (eqb b 32) p.0), eqb-false b 10 (was_false (eqb b 10) p.1))
  where
    was_false : (t : Bool) → not t ≡ true → t ≡ false
    was_false false h = refl
    was_false true h = absurd cc

-- a literal is a word
pub literal : (w : Word) → list_all (λ b. not (eqb b 32) && not (eqb b 10)) w ≡ true → IsWord w
literal [] e = tt
literal (b ∷ w) e =
    let p = and_parts (not (eqb b 32) && not (eqb b 10)) (list_all (λ x. not (eqb x 32) && not (eqb x 10)) w) e in
    (plain_byte b p.0, literal w p.1)

pub number_word : (n : ℕ) → n < 2 ^ 64 → IsWord (decimal n)
number_word n small = Each-weaker IsDigit IsPlain (decimal n) (λ b d. (λ e. omega (arith, e, d.0), λ e. omega (arith, e, d.0))) (digits_of_number n small)

pub signed_word : (z : ℤ) → IsLong z → IsWord (signed_decimal z)
signed_word (pos n) fits = number_word n (omega (arith, fits))
signed_word (negsuc n) fits = ((λ e. absurd (omega arith), λ e. absurd (omega arith)), number_word (suc n) (omega (arith, fits)))

pub seen_is_word : (seen : Option ℕ) → IfSome seen (λ n. n < 2 ^ 64) → IsWord (seen_word seen)
seen_is_word None h = literal (codes "-") refl
seen_is_word (Some n) h = number_word n h

pub tag_line : (tag : Word) (ws : List Word) → list_all (λ b. not (eqb b 32) && not (eqb b 10)) tag ≡ true → AllByRecursion IsWord ws → IsLine (tag ∷ ws)
tag_line tag ws plain rest = (omega arith, (literal tag plain, rest))

pub lines_join : (a b : List (List Word)) → AllByRecursion IsLine a → AllByRecursion IsLine b → AllByRecursion IsLine (a ++ b)
lines_join [] b p q = q
lines_join (x ∷ a) b p q = (p.0, lines_join a b p.1 q)

pub numbered_lines : {A : Type 0} (lines : ℕ → A → List (List Word)) (P : A → Type 0) (most : ℕ) → ((i : ℕ) (x : A) → i < most → P x → AllByRecursion IsLine (lines i x)) → (xs : List A) (i : ℕ) → i + length xs ≤ most → AllByRecursion P xs → AllByRecursion IsLine (numbered lines i xs)
numbered_lines lines P most each [] i le fits = tt
numbered_lines lines P most each (x ∷ xs) i le fits = lines_join (lines i x) (numbered lines (suc i) xs) (each i x (omega arith) fits.0) (numbered_lines lines P most each xs (suc i) (omega arith) fits.1)

count_line : (tag : Word) (n : ℕ) → list_all (λ b. not (eqb b 32) && not (eqb b 10)) tag ≡ true → n < 2 ^ 64 → IsLine (count_words tag n)
count_line tag n plain small = tag_line tag (decimal n ∷ []) plain (number_word n small, tt)

choice_is_lines : (choice : Option (List ℕ)) → IfSome choice (λ alts. (length alts < 2 ^ 32) × AllByRecursion (λ alt. alt < 2 ^ 32) alts) → AllByRecursion IsLine (choice_lines choice)
choice_is_lines None fits = (tag_line (codes "CHOICES") (codes "NONE" ∷ []) refl (literal (codes "NONE") refl, tt), tt)
choice_is_lines (Some alts) fits = (
  count_line (codes "CHOICES") (length alts) refl (omega (arith, fits.0)),
  numbered_lines alternative_lines (λ alt. alt < 2 ^ 32) 4294967296 (λ i x lt small. (tag_line (codes "C") (decimal i ∷ decimal x ∷ []) refl (number_word i (omega arith), (number_word x (omega (arith, small)), tt)), tt)) alts 0 (omega (arith, fits.0)) fits.1,
)

optional_is_lines : (tag : Word) (n : Option ℕ) → list_all (λ b. not (eqb b 32) && not (eqb b 10)) tag ≡ true → IfSome n (λ k. k < 2 ^ 64) → AllByRecursion IsLine (optional_lines tag n)
optional_is_lines tag None plain h = tt
optional_is_lines tag (Some n) plain h = (count_line tag n plain h, tt)

vector_is_lines : (i : ℕ) (prices : List Price) → VectorFits prices → AllByRecursion IsLine (vector_lines i prices)
vector_is_lines i prices fits = (
  count_line (codes "VECTOR") (length prices) refl (omega (arith, fits.0)),
  numbered_lines price_lines PriceFits 4294967296 (λ j p lt f. (tag_line (codes "P") (decimal p.resource ∷ signed_decimal p.price ∷ []) refl (number_word p.resource (omega (arith, f.0)), (signed_word p.price f.1, tt)), tt)) prices 0 (omega (arith, fits.0)) fits.1,
)

floor_line : (f : Floor) → FloorFits f → IsLine (undone_words (Some f))
floor_line f fits = tag_line (codes "U") (decimal f.vector ∷ decimal f.scale ∷ []) refl (number_word f.vector (omega (arith, fits.0)), (number_word f.scale fits.1, tt))

node_line : (node : Node) (floor : Option Floor) → NodeFits node → IfSome floor FloorFits → IsLine (node_words node floor)
node_line (Split unit cut seen) floor fits f = tag_line (codes "S") (decimal unit ∷ decimal cut ∷ seen_word seen ∷ []) refl (number_word unit (omega (arith, fits.0)), (number_word cut (omega (arith, fits.1)), (seen_is_word seen fits.2, tt)))
node_line (Leaf vector scale seen) floor fits f = tag_line (codes "L") (decimal vector ∷ decimal scale ∷ seen_word seen ∷ []) refl (number_word vector (omega (arith, fits.0)), (number_word scale fits.1, (seen_is_word seen fits.2, tt)))
node_line (Over resource) floor fits f = tag_line (codes "O") (decimal resource ∷ []) refl (number_word resource (omega (arith, fits)), tt)
node_line Undone None fits f = tag_line (codes "U") [] refl tt
node_line Undone (Some floor) fits f = floor_line floor f

nodes_are_lines : (nodes : List Node) (floors : List Floor) → AllByRecursion NodeFits nodes → AllByRecursion FloorFits floors → AllByRecursion IsLine (node_lines nodes floors)
nodes_are_lines [] floors n f = tt
nodes_are_lines (node ∷ nodes) [] n f = (node_line node None n.0 tt, nodes_are_lines nodes [] n.1 tt)
nodes_are_lines (node ∷ nodes) (floor ∷ floors) n f =
    elim (cases_Bool (is_undone node)) [
      | inl undone ↦ rw undone (node_line node (Some floor) n.0 f.0, nodes_are_lines nodes floors n.1 f.1)
      | inr other ↦ rw other (node_line node None n.0 tt, nodes_are_lines nodes (floor ∷ floors) n.1 f)
    ]

fixing_is_lines : (fixing : Option Fixing) → IfSome fixing FixingFits → AllByRecursion IsLine (fixing_lines fixing)
fixing_is_lines None fits = tt
fixing_is_lines (Some f) fits =
    (tag_line (codes "FIX") (decimal f.vector ∷ decimal f.scale ∷ decimal f.cost ∷ []) refl (number_word f.vector (omega (arith, fits.0)), (number_word f.scale fits.1, (number_word f.cost fits.2, tt))), tt)

pub proof_is_lines : (version : ℕ) (s : StageCert) → ProofFits version s → AllByRecursion IsLine (proof_lines s)
proof_is_lines version s fits =
    lines_join (choice_lines s.choice) _ (choice_is_lines s.choice fits.choice)
    (lines_join (optional_lines (codes "COST") s.cost) _ (optional_is_lines (codes "COST") s.cost refl fits.cost)
    (lines_join (optional_lines (codes "BOUND") s.bound) _ (optional_is_lines (codes "BOUND") s.bound refl fits.bound) (
      count_line (codes "VECTORS") (length s.vectors) refl (omega (arith, fits.vector_count)),
      lines_join (numbered vector_lines 0 s.vectors) _ (numbered_lines vector_lines VectorFits 64 (λ i v lt f. vector_is_lines i v f) s.vectors 0 (omega (arith, fits.vector_count)) fits.vectors)
          (lines_join (fixing_lines s.fixing) _ (fixing_is_lines s.fixing fits.fixing) (count_line (codes "TREE") (length s.tree) refl (omega (arith, fits.node_count)), nodes_are_lines s.tree s.floors fits.nodes fits.floors)),
    )))

pub mark_is_line : (i : ℕ) (m : Mark) → i < 2 ^ 64 → IsLine (stage_words i m)
mark_is_line i Optimal lt = tag_line (codes "STAGE") (decimal i ∷ codes "OPTIMAL" ∷ []) refl (number_word i lt, (literal (codes "OPTIMAL") refl, tt))
mark_is_line i Infeasible lt = tag_line (codes "STAGE") (decimal i ∷ codes "INFEASIBLE" ∷ []) refl (number_word i lt, (literal (codes "INFEASIBLE") refl, tt))
mark_is_line i Unsettled lt = tag_line (codes "STAGE") (decimal i ∷ codes "OPEN" ∷ []) refl (number_word i lt, (literal (codes "OPEN") refl, tt))
mark_is_line i NotTried lt = tag_line (codes "STAGE") (decimal i ∷ codes "NOT" ∷ codes "TRIED" ∷ []) refl (number_word i lt, (literal (codes "NOT") refl, (literal (codes "TRIED") refl, tt)))

rest_is_lines : (version : ℕ) (s : StageCert) (tried : Bool) → StageFitsAs version s tried → AllByRecursion IsLine (cond tried (proof_lines s) [])
rest_is_lines version s true fits = proof_is_lines version s fits
rest_is_lines version s false fits = tt

pub stage_is_lines : (version i : ℕ) (s : StageCert) → i < 2 ^ 64 → StageFits version s → AllByRecursion IsLine (stage_lines i s)
stage_is_lines version i s lt fits = (mark_is_line i s.mark lt, rest_is_lines version s (is_tried s.mark) fits)

pub cert_is_lines : (c : Certificate) → IsCert c → AllByRecursion IsLine (cert_lines c)
cert_is_lines c is = (
  count_line (codes "CERT") c.version refl (omega (arith, is.version.1)),
  lines_join (numbered stage_lines 1 c.stages) ((codes "END" ∷ []) ∷ [])
      (numbered_lines stage_lines (StageFits c.version) 64 (λ i s lt f. stage_is_lines c.version i s (omega arith) f) c.stages 1 (omega (arith, is.count)) is.stages)
      (tag_line (codes "END") [] refl tt, tt),
)

pub with_words : (lines : List (List Word)) → AllByRecursion IsLine lines → AllByRecursion HasWord lines
with_words [] is = tt
with_words (ws ∷ lines) is = (is.0.0, with_words lines is.1)
