-- A line that is read is the line that spells the value, and what was spelled is read again.
use Rattle.std.proofs.Common.{◌≡◌, ℕ, ◌^◌, ◌<◌, ◌≤◌, ◌⊎◌, Bool, true, false, cond, eqb, List, [], ◌∷◌, Option, Some, None, refl, ap, subst, ◌∙◌, arith, inl, inr, codes}
use Rattle.std.specs.Prelude.{IfSome, nat_le, ◌&&◌}
use Rattle.std.specs.Fmt.{decimal, signed_decimal}
use Rattle.std.specs.Str.{bytes_eq}
use Rattle.std.proofs.lemmas.Slice.Eq.{bytes_eq-Decides}
use Rattle.std.proofs.lemmas.Bool.{and_parts, and_from, leb-true, le-leb, eqb-true, eq-eqb}
use Rattle.std.proofs.lemmas.Option.{cond_some}
use Rattle.choice_problem.specs.declared.vectors.Price.{Price}
use Rattle.cert_format.specs.declared.cert.Mark.{Mark}
use Rattle.cert_format.specs.declared.cert.Mark.TheVariants.{Optimal, Infeasible, Unsettled, NotTried}
use Rattle.cert_format.specs.Lines.{Word}
use Rattle.cert_format.specs.Private.Words.{◌>>=◌, most_small, number_of, price_of, choices_word, after_tag, next_by, is_end}
use Rattle.cert_format.specs.Private.Rows.{count_row, choices_row, alternative_row, price_row, mark_word, mark_words, mark_row, version_row, end_row}
use Rattle.cert_format.specs.Spelling.{count_words, choices_words, alternative_words, price_words, mark_name, stage_words, PriceFits, IsVersion}
use Rattle.cert_format.proofs.WordLemmas.{number_takes, number_again, tag_takes, tag_again, next_takes, next_again, end_takes, bind_some, some_is, optional_small, choices_again_some, choices_again_none, price_takes, price_again}

pub is_end_nil : (ws : List Word) → is_end ws ≡ true → ws ≡ []
is_end_nil [] e = refl
is_end_nil (w ∷ ws) e = absurd cc

-- ---- a word and a number

pub count_takes : (tag : Word) (most : ℕ) (ws : List Word) (n : ℕ) → count_row tag most ws ≡ Some n → (ws ≡ count_words tag n) × (n ≤ most)
unfolding count_row
count_takes tag most ws n e =
    let a = bind_some (after_tag tag ws) (λ vs. next_by (number_of most) vs >>= λ x. cond (is_end x.1) (Some x.0) None) n e in
    let b = bind_some (next_by (number_of most) a.0) (λ x. cond (is_end x.1) (Some x.0) None) n a.2 in
    let c = end_takes b.0.1 b.0.0 n b.2 in
    let t0 = tag_takes tag ws a.0 a.1 in
    let t1 = next_takes (number_of most) a.0 b.0 b.1 in
    let p = number_takes most b.0.0 t1.word t1.reads in
    let whole : ws ≡ tag ∷ decimal b.0.0 ∷ [] = cc (t0, t1.parts, p.0, c.0) in
    subst (λ (m : ℕ). (ws ≡ count_words tag m) × (m ≤ most)) c.1 (whole, p.1)

pub count_again : (tag : Word) (most n : ℕ) → n ≤ most → n < 2 ^ 64 → count_row tag most (count_words tag n) ≡ Some n
unfolding count_row
count_again tag most n le small =
    rw (tag_again tag (decimal n ∷ []), next_again (number_of most) (decimal n) n [] (number_again most n le small)) refl

-- ---- choices

pub choices_take : (ws : List Word) (n : Option ℕ) → choices_row ws ≡ Some n → (ws ≡ choices_words n) × IfSome n (λ k. k < 2 ^ 32)
unfolding choices_row
choices_take ws n e =
    let a = bind_some (after_tag (codes "CHOICES") ws) (λ vs. next_by choices_word vs >>= λ x. cond (is_end x.1) (Some x.0) None) n e in
    let b = bind_some (next_by choices_word a.0) (λ x. cond (is_end x.1) (Some x.0) None) n a.2 in
    let c = end_takes b.0.1 b.0.0 n b.2 in
    let t0 = tag_takes (codes "CHOICES") ws a.0 a.1 in
    let t1 = next_takes choices_word a.0 b.0 b.1 in
    let p = optional_small t1.word b.0.0 t1.reads in
    let whole : ws ≡ choices_words b.0.0 = cc (t0, t1.parts, p.0, c.0) in
    subst (λ (m : Option ℕ). (ws ≡ choices_words m) × IfSome m (λ k. k < 2 ^ 32)) c.1 (whole, p.1)

pub choices_again : (n : Option ℕ) → IfSome n (λ k. k < 2 ^ 32) → choices_row (choices_words n) ≡ Some n
unfolding choices_row
choices_again None h =
    rw (tag_again (codes "CHOICES") (codes "NONE" ∷ []), next_again choices_word (codes "NONE") None [] choices_again_none) refl
choices_again (Some n) h =
    rw (tag_again (codes "CHOICES") (decimal n ∷ []), next_again choices_word (decimal n) (Some n) [] (choices_again_some n h)) refl

-- ---- alternatives and prices

pub alternative_takes : (unit : ℕ) (ws : List Word) (alt : ℕ) → alternative_row unit ws ≡ Some alt → (ws ≡ alternative_words unit alt) × (alt < 2 ^ 32)
unfolding alternative_row
alternative_takes unit ws alt e =
    let a = bind_some (after_tag (codes "C") ws) (λ vs. next_by (number_of most_small) vs >>= λ u. next_by (number_of most_small) u.1 >>= λ x. cond (eqb u.0 unit && is_end x.1) (Some x.0) None) alt e in
    let b = bind_some (next_by (number_of most_small) a.0) (λ u. next_by (number_of most_small) u.1 >>= λ x. cond (eqb u.0 unit && is_end x.1) (Some x.0) None) alt a.2 in
    let c = bind_some (next_by (number_of most_small) b.0.1) (λ x. cond (eqb b.0.0 unit && is_end x.1) (Some x.0) None) alt b.2 in
    let g = cond_some (eqb b.0.0 unit && is_end c.0.1) c.0.0 alt c.2 in
    let both = and_parts (eqb b.0.0 unit) (is_end c.0.1) g.0 in
    let same : b.0.0 ≡ unit = eqb-true b.0.0 unit both.0 in
    let end = is_end_nil c.0.1 both.1 in
    let t0 = tag_takes (codes "C") ws a.0 a.1 in
    let t1 = next_takes (number_of most_small) a.0 b.0 b.1 in
    let t2 = next_takes (number_of most_small) b.0.1 c.0 c.1 in
    let p1 = number_takes most_small b.0.0 t1.word t1.reads in
    let p2 = number_takes most_small c.0.0 t2.word t2.reads in
    let whole : ws ≡ alternative_words unit c.0.0 = cc (t0, t1.parts, t2.parts, p1.0, p2.0, ap decimal same, end) in
    subst (λ (m : ℕ). (ws ≡ alternative_words unit m) × (m < 2 ^ 32)) g.1 (whole, omega (arith, p2.1))

pub alternative_again : (unit alt : ℕ) → unit < 2 ^ 32 → alt < 2 ^ 32 → alternative_row unit (alternative_words unit alt) ≡ Some alt
unfolding alternative_row
alternative_again unit alt lt small =
    let r1 : number_of most_small (decimal unit) ≡ Some unit = number_again most_small unit (omega arith) (omega arith) in
    let r2 : number_of most_small (decimal alt) ≡ Some alt = number_again most_small alt (omega arith) (omega arith) in
    rw (tag_again (codes "C") (decimal unit ∷ decimal alt ∷ []), next_again (number_of most_small) (decimal unit) unit (decimal alt ∷ []) r1, next_again (number_of most_small) (decimal alt) alt [] r2, eq-eqb unit unit refl) refl

pub price_row_takes : (ws : List Word) (p : Price) → price_row ws ≡ Some p → (ws ≡ price_words p) × PriceFits p
unfolding price_row
price_row_takes ws p e =
    let a = bind_some (after_tag (codes "P") ws) (λ vs. next_by (number_of most_small) vs >>= λ r. next_by price_of r.1 >>= λ x. cond (is_end x.1) (Some (record { resource = r.0; price = x.0 })) None) p e in
    let b = bind_some (next_by (number_of most_small) a.0) (λ r. next_by price_of r.1 >>= λ x. cond (is_end x.1) (Some (record { resource = r.0; price = x.0 })) None) p a.2 in
    let c = bind_some (next_by price_of b.0.1) (λ x. cond (is_end x.1) (Some (record { resource = b.0.0; price = x.0 })) None) p b.2 in
    let made : Price = record { resource = b.0.0; price = c.0.0 } in
    let g = end_takes c.0.1 made p c.2 in
    let t0 = tag_takes (codes "P") ws a.0 a.1 in
    let t1 = next_takes (number_of most_small) a.0 b.0 b.1 in
    let t2 = next_takes price_of b.0.1 c.0 c.1 in
    let p1 = number_takes most_small b.0.0 t1.word t1.reads in
    let p2 = price_takes t2.word c.0.0 t2.reads in
    let whole : ws ≡ price_words made = cc (t0, t1.parts, t2.parts, p1.0, p2.0, g.0) in
    subst (λ (q : Price). (ws ≡ price_words q) × PriceFits q) g.1 (whole, (omega (arith, p1.1), p2.1))

pub price_row_again : (p : Price) → PriceFits p → price_row (price_words p) ≡ Some p
unfolding price_row
price_row_again p fits =
    let r1 : number_of most_small (decimal p.resource) ≡ Some p.resource = number_again most_small p.resource (omega (arith, fits.0)) (omega (arith, fits.0)) in
    rw (tag_again (codes "P") (decimal p.resource ∷ signed_decimal p.price ∷ []), next_again (number_of most_small) (decimal p.resource) p.resource (signed_decimal p.price ∷ []) r1, next_again price_of (signed_decimal p.price) p.price [] (price_again p.price fits.1)) refl

-- ---- marks

chosen : {A : Type 0} (b : Bool) (x y z : A) → cond b x y ≡ z → ((b ≡ true) × (x ≡ z)) ⊎ ((b ≡ false) × (y ≡ z))
chosen true x y z e = inl (refl, e)
chosen false x y z e = inr (refl, e)

mark_word_takes : (w : Word) (m : Mark) → mark_word w ≡ Some m → w ∷ [] ≡ mark_name m
unfolding mark_word
mark_word_takes w m e =
    elim (chosen (bytes_eq w (codes "OPTIMAL")) (Some Optimal) (cond (bytes_eq w (codes "INFEASIBLE")) (Some Infeasible) (cond (bytes_eq w (codes "OPEN")) (Some Unsettled) None)) (Some m) e) [
      | inl h ↦ is_mark (codes "OPTIMAL") Optimal h.0 h.1 refl
      | inr first ↦ elim (chosen (bytes_eq w (codes "INFEASIBLE")) (Some Infeasible) (cond (bytes_eq w (codes "OPEN")) (Some Unsettled) None) (Some m) first.1) [
        | inl h ↦ is_mark (codes "INFEASIBLE") Infeasible h.0 h.1 refl
        | inr other ↦
            let g = cond_some (bytes_eq w (codes "OPEN")) Unsettled m other.1 in
            is_mark (codes "OPEN") Unsettled g.0 (ap (λ (x : Mark). Some x) g.1) refl
      ]
    ]
  where
    is_mark : (t : Word) (x : Mark) → bytes_eq w t ≡ true → ◌≡◌ {A = Option Mark} (Some x) (Some m) → t ∷ [] ≡ mark_name x → w ∷ [] ≡ mark_name m
    is_mark t x same is text =
        let word : w ≡ t = (bytes_eq-Decides w t).0 same in
        ap (λ (v : Word). v ∷ []) word ∙ text ∙ ap mark_name (some_is x m is)

mark_words_take : (ws : List Word) (m : Mark) → mark_words ws ≡ Some m → ws ≡ mark_name m
unfolding mark_words
mark_words_take [] m e = absurd cc
mark_words_take (w ∷ []) m e = mark_word_takes w m e
mark_words_take (w ∷ v ∷ ws) m e =
    let g = cond_some ((bytes_eq w (codes "NOT") && bytes_eq v (codes "TRIED")) && is_end ws) NotTried m e in
    let p = and_parts (bytes_eq w (codes "NOT") && bytes_eq v (codes "TRIED")) (is_end ws) g.0 in
    let q = and_parts (bytes_eq w (codes "NOT")) (bytes_eq v (codes "TRIED")) p.0 in
    let first : w ≡ codes "NOT" = (bytes_eq-Decides w (codes "NOT")).0 q.0 in
    let second : v ≡ codes "TRIED" = (bytes_eq-Decides v (codes "TRIED")).0 q.1 in
    let text : w ∷ v ∷ ws ≡ mark_name NotTried = rw (first, second, is_end_nil ws p.1) refl in
    text ∙ ap mark_name g.1

mark_words_again : (m : Mark) → mark_words (mark_name m) ≡ Some m
unfolding mark_words mark_word
mark_words_again Optimal = refl
mark_words_again Infeasible = refl
mark_words_again Unsettled = refl
mark_words_again NotTried = refl

pub mark_takes : (stage : ℕ) (ws : List Word) (m : Mark) → mark_row stage ws ≡ Some m → ws ≡ stage_words stage m
unfolding mark_row
mark_takes stage ws m e =
    let a = bind_some (after_tag (codes "STAGE") ws) (λ vs. next_by (number_of most_small) vs >>= λ s. cond (eqb s.0 stage) (mark_words s.1) None) m e in
    let b = bind_some (next_by (number_of most_small) a.0) (λ s. cond (eqb s.0 stage) (mark_words s.1) None) m a.2 in
    let g = when (eqb b.0.0 stage) (mark_words b.0.1) m b.2 in
    let t0 = tag_takes (codes "STAGE") ws a.0 a.1 in
    let t1 = next_takes (number_of most_small) a.0 b.0 b.1 in
    let p = number_takes most_small b.0.0 t1.word t1.reads in
    let rest = mark_words_take b.0.1 m g.1 in
    let same : b.0.0 ≡ stage = eqb-true b.0.0 stage g.0 in
    cc (t0, t1.parts, p.0, ap decimal same, rest)
  where
    when : {A : Type 0} (b : Bool) (o : Option A) (x : A) → cond b o None ≡ Some x → (b ≡ true) × (o ≡ Some x)
    when true o x e = (refl, e)
    when false o x e = absurd cc

pub mark_again : (stage : ℕ) (m : Mark) → stage < 2 ^ 32 → mark_row stage (stage_words stage m) ≡ Some m
unfolding mark_row
mark_again stage m small =
    let r : number_of most_small (decimal stage) ≡ Some stage = number_again most_small stage (omega arith) (omega arith) in
    rw (tag_again (codes "STAGE") (decimal stage ∷ mark_name m), next_again (number_of most_small) (decimal stage) stage (mark_name m) r, eq-eqb stage stage refl) (mark_words_again m)

-- ---- the first line and the last

from_one : (v : ℕ) → (nat_le 1 v && nat_le v 3) ≡ true → IsVersion v
from_one v e =
    let both = and_parts (nat_le 1 v) (nat_le v 3) e in
    (leb-true 1 v both.0, leb-true v 3 both.1)

one_to_three : (v : ℕ) → IsVersion v → (nat_le 1 v && nat_le v 3) ≡ true
one_to_three v h = and_from _ _ (le-leb 1 v h.0) (le-leb v 3 h.1)

pub version_takes : (ws : List Word) (v : ℕ) → version_row ws ≡ Some v → (ws ≡ count_words (codes "CERT") v) × IsVersion v
unfolding version_row
version_takes ws v e =
    let a = bind_some (after_tag (codes "CERT") ws) (λ vs. next_by (number_of most_small) vs >>= λ x. cond ((nat_le 1 x.0 && nat_le x.0 3) && is_end x.1) (Some x.0) None) v e in
    let b = bind_some (next_by (number_of most_small) a.0) (λ x. cond ((nat_le 1 x.0 && nat_le x.0 3) && is_end x.1) (Some x.0) None) v a.2 in
    let g = cond_some ((nat_le 1 b.0.0 && nat_le b.0.0 3) && is_end b.0.1) b.0.0 v b.2 in
    let both = and_parts (nat_le 1 b.0.0 && nat_le b.0.0 3) (is_end b.0.1) g.0 in
    let t0 = tag_takes (codes "CERT") ws a.0 a.1 in
    let t1 = next_takes (number_of most_small) a.0 b.0 b.1 in
    let p = number_takes most_small b.0.0 t1.word t1.reads in
    let end = is_end_nil b.0.1 both.1 in
    let whole : ws ≡ count_words (codes "CERT") b.0.0 = cc (t0, t1.parts, p.0, end) in
    subst (λ (m : ℕ). (ws ≡ count_words (codes "CERT") m) × IsVersion m) g.1 (whole, from_one b.0.0 both.0)

pub version_again : (v : ℕ) → IsVersion v → version_row (count_words (codes "CERT") v) ≡ Some v
unfolding version_row
version_again v h =
    let r : number_of most_small (decimal v) ≡ Some v = number_again most_small v (omega (arith, h.1)) (omega (arith, h.1)) in
    rw (tag_again (codes "CERT") (decimal v ∷ []), next_again (number_of most_small) (decimal v) v [] r, one_to_three v h) refl

pub end_line_takes : (ws : List Word) (n : ℕ) → end_row ws ≡ Some n → ws ≡ codes "END" ∷ []
unfolding end_row
end_line_takes ws n e =
    let a = bind_some (after_tag (codes "END") ws) (λ vs. cond (is_end vs) (Some 0) None) n e in
    let g = end_takes a.0 0 n a.2 in
    tag_takes (codes "END") ws a.0 a.1 ∙ ap (λ (vs : List Word). codes "END" ∷ vs) g.0

pub end_line_again : end_row (codes "END" ∷ []) ≡ Some 0
unfolding end_row
end_line_again = rw (tag_again (codes "END") []) refl
