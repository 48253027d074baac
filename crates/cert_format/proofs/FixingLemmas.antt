-- The first line of a tree is read as it is spelled: that of a fixing, or the one that counts the nodes.
use Rattle.std.proofs.Common.{◌≡◌, ℕ, ◌^◌, ◌<◌, List, [], ◌∷◌, Option, Some, None, refl, subst, ◌∙◌, arith, codes, cond}
use Rattle.std.specs.Fmt.{decimal}
use Rattle.cost_fixing.specs.declared.fixings.Fixing.{Fixing}
use Rattle.cert_format.specs.declared.rows.FixLine.{FixLine}
use Rattle.cert_format.specs.declared.rows.FixLine.TheVariants.{Never, Maybe, Always}
use Rattle.cert_format.specs.declared.rows.TreeLine.{TreeLine}
use Rattle.cert_format.specs.declared.rows.TreeLine.TheVariants.{Fixed, Counted}
use Rattle.cert_format.specs.Lines.{Word}
use Rattle.cert_format.specs.Private.Words.{◌>>=◌, most_small, most_large, number_of, after_tag, next_by, is_end}
use Rattle.cert_format.specs.Private.Rows.{count_row, fixing_row, counted_row, fixed_row, one_or_other, tree_row}
use Rattle.cert_format.specs.Spelling.{count_words, fixing_words, FixingFits}
use Rattle.cert_format.proofs.WordLemmas.{number_takes, number_again, tag_takes, tag_again, next_takes, next_again, end_takes, bind_some, some_is}
use Rattle.cert_format.proofs.RowLemmas.{count_takes, count_again}

pub fixing_takes : (ws : List Word) (f : Fixing) → fixing_row ws ≡ Some f → (ws ≡ fixing_words f) × FixingFits f
unfolding fixing_row
fixing_takes ws f e =
    let a = bind_some (after_tag (codes "FIX") ws) (λ vs. next_by (number_of most_small) vs >>= λ v. next_by (number_of most_large) v.1 >>= λ s. next_by (number_of most_large) s.1 >>= λ x. cond (is_end x.1) (Some (record { vector = v.0; scale = s.0; cost = x.0 })) None) f e in
    let b = bind_some (next_by (number_of most_small) a.0) (λ v. next_by (number_of most_large) v.1 >>= λ s. next_by (number_of most_large) s.1 >>= λ x. cond (is_end x.1) (Some (record { vector = v.0; scale = s.0; cost = x.0 })) None) f a.2 in
    let c = bind_some (next_by (number_of most_large) b.0.1) (λ s. next_by (number_of most_large) s.1 >>= λ x. cond (is_end x.1) (Some (record { vector = b.0.0; scale = s.0; cost = x.0 })) None) f b.2 in
    let d = bind_some (next_by (number_of most_large) c.0.1) (λ x. cond (is_end x.1) (Some (record { vector = b.0.0; scale = c.0.0; cost = x.0 })) None) f c.2 in
    let made : Fixing = record { vector = b.0.0; scale = c.0.0; cost = d.0.0 } in
    let g = end_takes d.0.1 made f d.2 in
    let t0 = tag_takes (codes "FIX") ws a.0 a.1 in
    let t1 = next_takes (number_of most_small) a.0 b.0 b.1 in
    let t2 = next_takes (number_of most_large) b.0.1 c.0 c.1 in
    let t3 = next_takes (number_of most_large) c.0.1 d.0 d.1 in
    let p1 = number_takes most_small b.0.0 t1.word t1.reads in
    let p2 = number_takes most_large c.0.0 t2.word t2.reads in
    let p3 = number_takes most_large d.0.0 t3.word t3.reads in
    let whole : ws ≡ fixing_words made = cc (t0, t1.parts, t2.parts, t3.parts, p1.0, p2.0, p3.0, g.0) in
    subst (λ (x : Fixing). (ws ≡ fixing_words x) × FixingFits x) g.1 (whole, (omega (arith, p1.1), omega (arith, p2.1), omega (arith, p3.1)))

pub fixing_again : (f : Fixing) → FixingFits f → fixing_row (fixing_words f) ≡ Some f
unfolding fixing_row
fixing_again f fits =
    let r1 : number_of most_small (decimal f.vector) ≡ Some f.vector = number_again most_small f.vector (omega (arith, fits.0)) (omega (arith, fits.0)) in
    let r2 : number_of most_large (decimal f.scale) ≡ Some f.scale = number_again most_large f.scale (omega (arith, fits.1)) fits.1 in
    let r3 : number_of most_large (decimal f.cost) ≡ Some f.cost = number_again most_large f.cost (omega (arith, fits.2)) fits.2 in
    rw (tag_again (codes "FIX") (decimal f.vector ∷ decimal f.scale ∷ decimal f.cost ∷ []), next_again (number_of most_small) (decimal f.vector) f.vector (decimal f.scale ∷ decimal f.cost ∷ []) r1, next_again (number_of most_large) (decimal f.scale) f.scale (decimal f.cost ∷ []) r2, next_again (number_of most_large) (decimal f.cost) f.cost [] r3) refl

-- ---- the first line of a tree

abbrev pub head_words : TreeLine → List Word
head_words (Fixed f) = fixing_words f
head_words (Counted n) = count_words (codes "TREE") n

abbrev pub HeadFits : TreeLine → Type 0
HeadFits (Fixed f) = FixingFits f
HeadFits (Counted n) = n < 2 ^ 32

abbrev pub MayBegin : FixLine → TreeLine → Type 0
MayBegin Never (Fixed f) = ⊥
MayBegin Never (Counted n) = Unit {0}
MayBegin Maybe line = Unit {0}
MayBegin Always (Fixed f) = Unit {0}
MayBegin Always (Counted n) = ⊥

pub record HeadTakes (fix : FixLine) (ws : List Word) (line : TreeLine) : Type 0 where
  pub words : ws ≡ head_words line
  pub fits : HeadFits line
  pub may : MayBegin fix line

-- a line that is read in some way is read in another that admits it
abbrev Reads : List Word → TreeLine → Type 0
Reads ws line = (ws ≡ head_words line) × HeadFits line

counted_takes : (ws : List Word) (line : TreeLine) → counted_row ws ≡ Some line → Reads ws line × MayBegin Never line
counted_takes ws line e =
    let a = bind_some (count_row (codes "TREE") most_small ws) (λ n. Some (Counted n)) line e in
    let t = count_takes (codes "TREE") most_small ws a.0 a.1 in
    subst (λ (l : TreeLine). Reads ws l × MayBegin Never l) (some_is (Counted a.0) line a.2) ((t.0, omega (arith, t.1)), tt)

fixed_takes : (ws : List Word) (line : TreeLine) → fixed_row ws ≡ Some line → Reads ws line × MayBegin Always line
fixed_takes ws line e =
    let a = bind_some (fixing_row ws) (λ f. Some (Fixed f)) line e in
    subst (λ (l : TreeLine). Reads ws l × MayBegin Always l) (some_is (Fixed a.0) line a.2) (fixing_takes ws a.0 a.1, tt)

either_takes : (ws : List Word) (line : TreeLine) (o : Option TreeLine) → fixed_row ws ≡ o → one_or_other o (counted_row ws) ≡ Some line → Reads ws line
either_takes ws line None is e = (counted_takes ws line e).0
either_takes ws line (Some other) is e = (fixed_takes ws line (is ∙ e)).0

pub head_takes : (fix : FixLine) (ws : List Word) (line : TreeLine) → tree_row fix ws ≡ Some line → HeadTakes fix ws line
unfolding tree_row
head_takes Never ws line e = let t = counted_takes ws line e in record { words = t.0.0; fits = t.0.1; may = t.1 }
head_takes Maybe ws line e = let t = either_takes ws line (fixed_row ws) refl e in record { words = t.0; fits = t.1; may = tt }
head_takes Always ws line e = let t = fixed_takes ws line e in record { words = t.0.0; fits = t.0.1; may = t.1 }

counted_again : (n : ℕ) → n < 2 ^ 32 → counted_row (count_words (codes "TREE") n) ≡ Some (Counted n)
counted_again n small = rw (count_again (codes "TREE") most_small n (omega arith) (omega arith)) refl

not_fixed : (n : ℕ) → fixed_row (count_words (codes "TREE") n) ≡ None
unfolding fixing_row after_tag
not_fixed n = refl

pub head_again : (fix : FixLine) (line : TreeLine) → HeadFits line → MayBegin fix line → tree_row fix (head_words line) ≡ Some line
unfolding tree_row
head_again Never (Fixed f) fits may = absurd may
head_again Never (Counted n) fits may = counted_again n fits
head_again Maybe (Fixed f) fits may = rw (fixing_again f fits) refl
head_again Maybe (Counted n) fits may = rw (not_fixed n) (counted_again n fits)
head_again Always (Fixed f) fits may = rw (fixing_again f fits) refl
head_again Always (Counted n) fits may = absurd may
