-- Stages and whole certificates are read as they are spelled.
use Rattle.std.proofs.Common.{◌≡◌, ℕ, ◌^◌, ◌<◌, ◌≤◌, Bool, true, false, cond, List, [], ◌∷◌, ◌++◌, refl, sym, ap, subst, ◌∙◌, append_assoc, Ok, arith, inl, inr, codes}
use Rattle.std.specs.Prelude.{Option, Some, None, IfSome, is_some, nat_le}
use Rattle.std.proofs.lemmas.Bool.{cases_Bool, leb-true, le-leb}
use Rattle.cost_fixing.specs.declared.fixings.Fixing.{Fixing}
use Rattle.cert_format.specs.declared.cert.Mark.{Mark}
use Rattle.cert_format.specs.declared.cert.StageCert.{StageCert}
use Rattle.cert_format.specs.declared.cert.Certificate.{Certificate}
use Rattle.cert_format.specs.declared.rows.FixLine.{FixLine}
use Rattle.cert_format.specs.Private.Spots.{Spot, ◌>>=◌, line_by}
use Rattle.cert_format.specs.Private.Rows.{fix_line, mark_row, version_row, end_row}
use Rattle.cert_format.specs.Private.Reading.{many, choice_at, vectors_at, optional_at, tree_at, proof_at, stage_at, ended_by, ended, cert_at}
use Rattle.cert_format.specs.Spelling.{not_tried, numbered, count_words, optional_lines, choice_lines, stage_words, is_tried, proof_lines, stage_lines, cert_lines, has_bound, ProofFits, HoldsNothing, StageFitsAs, StageFits, IsCert}
use Rattle.cert_format.proofs.RowLemmas.{mark_takes, mark_again, version_takes, version_again, end_line_takes, end_line_again}
use Rattle.cert_format.proofs.BlockLemmas.{Line, bind_ok, done, ok_is, line_takes, Again, line_again, OneTakes, many_take, OneAgain, many_again, choice_takes, choice_again, optional_takes, optional_again, vectors_lines, vectors_take, vectors_again}
use Rattle.cert_format.proofs.TreeLemmas.{HasFixing, tree_lines, tree_takes, tree_again}

-- ---- stages

regroup : (a b c d t z : List Line) → a ++ (b ++ (c ++ (d ++ (t ++ z)))) ≡ (a ++ (b ++ (c ++ (d ++ t)))) ++ z
regroup a b c d t z = simp append_assoc

-- what follows the line of a mark, part by part
abbrev parts_of : StageCert → List Line
parts_of s = choice_lines s.choice ++ (optional_lines (codes "COST") s.cost ++ (optional_lines (codes "BOUND") s.bound ++ (vectors_lines s.vectors ++ tree_lines (s.fixing, (s.tree, s.floors)))))

same_parts : (s : StageCert) → parts_of s ≡ proof_lines s
same_parts s = refl

-- where there may be a fixing the version is 3 at least
abbrev pub AllowsFrom : ℕ → FixLine → Type 0
AllowsFrom version fix = (f : Option Fixing) → HasFixing fix f → IfSome f (λ x. 3 ≤ version)

fixed_from : (version : ℕ) → AllowsFrom version (fix_line version)
fixed_from version None has = tt
fixed_from version (Some f) has =
    elim (cases_Bool (nat_le 3 version)) [
      | inl late ↦ leb-true 3 version late
      | inr early ↦ absurd (rw early at has)
    ]

may_have : (version : ℕ) (f : Option Fixing) → IfSome f (λ x. 3 ≤ version) → HasFixing (fix_line version) f
may_have version None from =
    elim (cases_Bool (nat_le 3 version)) [ inl late ↦ rw late tt | inr early ↦ rw early tt ]
may_have version (Some f) from = rw (le-leb 3 version from) tt

pub record ProofTakes (version : ℕ) (fix : FixLine) (mark : Mark) (s : Spot) (x : StageCert) (q : Spot) : Type 0 where
  pub parts : s.lines ≡ proof_lines x ++ q.lines
  pub mark_is : x.mark ≡ mark
  pub allowed : HasFixing fix x.fixing
  pub fits : ProofFits version x

pub proof_takes : (version : ℕ) (fix : FixLine) (mark : Mark) (s : Spot) (x : StageCert) (q : Spot) → AllowsFrom version fix → proof_at version fix mark s ≡ Ok (x, q) → ProofTakes version fix mark s x q
unfolding proof_at
proof_takes version fix mark s x q from e =
    let a = bind_ok (choice_at s) (λ choice. optional_at (codes "COST") (is_some choice.0) choice.1 >>= λ cost. optional_at (codes "BOUND") (has_bound version mark) cost.1 >>= λ bound. vectors_at bound.1 >>= λ vectors. tree_at version fix vectors.1 >>= λ tree. Ok (record { mark = mark; choice = choice.0; cost = cost.0; bound = bound.0; vectors = vectors.0; fixing = tree.0.0; tree = tree.0.1.0; floors = tree.0.1.1 }, tree.1)) (x, q) e in
    let b = bind_ok (optional_at (codes "COST") (is_some a.0.0) a.0.1) (λ cost. optional_at (codes "BOUND") (has_bound version mark) cost.1 >>= λ bound. vectors_at bound.1 >>= λ vectors. tree_at version fix vectors.1 >>= λ tree. Ok (record { mark = mark; choice = a.0.0; cost = cost.0; bound = bound.0; vectors = vectors.0; fixing = tree.0.0; tree = tree.0.1.0; floors = tree.0.1.1 }, tree.1)) (x, q) a.2 in
    let c = bind_ok (optional_at (codes "BOUND") (has_bound version mark) b.0.1) (λ bound. vectors_at bound.1 >>= λ vectors. tree_at version fix vectors.1 >>= λ tree. Ok (record { mark = mark; choice = a.0.0; cost = b.0.0; bound = bound.0; vectors = vectors.0; fixing = tree.0.0; tree = tree.0.1.0; floors = tree.0.1.1 }, tree.1)) (x, q) b.2 in
    let d = bind_ok (vectors_at c.0.1) (λ vectors. tree_at version fix vectors.1 >>= λ tree. Ok (record { mark = mark; choice = a.0.0; cost = b.0.0; bound = c.0.0; vectors = vectors.0; fixing = tree.0.0; tree = tree.0.1.0; floors = tree.0.1.1 }, tree.1)) (x, q) c.2 in
    let t = bind_ok (tree_at version fix d.0.1) (λ tree. Ok (record { mark = mark; choice = a.0.0; cost = b.0.0; bound = c.0.0; vectors = d.0.0; fixing = tree.0.0; tree = tree.0.1.0; floors = tree.0.1.1 }, tree.1)) (x, q) d.2 in
    let made : StageCert = record { mark = mark; choice = a.0.0; cost = b.0.0; bound = c.0.0; vectors = d.0.0; fixing = t.0.0.0; tree = t.0.0.1.0; floors = t.0.0.1.1 } in
    let ta = choice_takes s a.0.0 a.0.1 a.1 in
    let tb = optional_takes (codes "COST") (is_some a.0.0) a.0.1 b.0.0 b.0.1 b.1 in
    let tc = optional_takes (codes "BOUND") (has_bound version mark) b.0.1 c.0.0 c.0.1 c.1 in
    let td = vectors_take c.0.1 d.0.0 d.0.1 d.1 in
    let tt' = tree_takes version fix d.0.1 t.0.0 t.0.1 t.1 in
    let parts : s.lines ≡ parts_of made ++ t.0.1.lines =
    ta.0 ∙ ap (λ (z : List Line). choice_lines a.0.0 ++ z) (tb.0 ∙ ap (λ (z : List Line). optional_lines (codes "COST") b.0.0 ++ z) (tc.0 ∙ ap (λ (z : List Line). optional_lines (codes "BOUND") c.0.0 ++ z) (td.0 ∙ ap (λ (z : List Line). vectors_lines d.0.0 ++ z) tt'.parts)))
    ∙ regroup (choice_lines a.0.0) (optional_lines (codes "COST") b.0.0) (optional_lines (codes "BOUND") c.0.0) (vectors_lines d.0.0) (tree_lines t.0.0) t.0.1.lines in
    let fits : ProofFits version made = record {
      choice = ta.1;
      has_cost = tb.1;
      cost = tb.2;
      has_bound = tc.1;
      bound = tc.2;
      vector_count = td.1;
      vectors = td.2;
      fixed_from = from t.0.0.0 tt'.allowed;
      fixing = tt'.fixing_fits;
      node_count = tt'.count;
      nodes = tt'.fits.nodes_fit;
      floor_count = tt'.fits.count;
      floors = tt'.fits.floors_fit;
    } in
    subst (λ (y : StageCert × Spot). ProofTakes version fix mark s y.0 y.1) (ok_is (made, t.0.1) (x, q) t.2) (record { parts = parts; mark_is = refl; allowed = tt'.allowed; fits = fits })

pub proof_again : (version : ℕ) (fix : FixLine) (s : Spot) (x : StageCert) (rest : List Line) → ProofFits version x → HasFixing fix x.fixing → s.lines ≡ proof_lines x ++ rest → Again (proof_at version fix x.mark s) x rest
unfolding proof_at
proof_again version fix s x rest fits has e =
    let la = choice_lines x.choice in
    let lb = optional_lines (codes "COST") x.cost in
    let lc = optional_lines (codes "BOUND") x.bound in
    let ld = vectors_lines x.vectors in
    let lt = tree_lines (x.fixing, (x.tree, x.floors)) in
    let parts : s.lines ≡ la ++ (lb ++ (lc ++ (ld ++ (lt ++ rest)))) = e ∙ sym (regroup la lb lc ld lt rest) in
    let a = choice_again s x.choice (lb ++ (lc ++ (ld ++ (lt ++ rest)))) fits.choice parts in
    let b = optional_again (codes "COST") (is_some x.choice) a.spot x.cost (lc ++ (ld ++ (lt ++ rest))) fits.has_cost fits.cost a.left in
    let c = optional_again (codes "BOUND") (has_bound version x.mark) b.spot x.bound (ld ++ (lt ++ rest)) fits.has_bound fits.bound b.left in
    let d = vectors_again c.spot x.vectors (lt ++ rest) fits.vector_count fits.vectors c.left in
    let t = tree_again version fix d.spot (x.fixing, (x.tree, x.floors)) rest fits.fixing has fits.node_count (record { nodes_fit = fits.nodes; count = fits.floor_count; floors_fit = fits.floors }) d.left in
    record { spot = t.spot; reads = rw (a.reads, b.reads, c.reads, d.reads, t.reads) refl; left = t.left }

pub stage_one : (version : ℕ) → OneTakes (stage_at version) stage_lines (StageFits version)
unfolding stage_at
stage_one version i s x q e =
    let a = bind_ok (line_by (mark_row i) s) (λ mark. cond (is_tried mark.0) (proof_at version (fix_line version) mark.0 mark.1) (Ok (not_tried mark.0, mark.1))) (x, q) e in
    let t = line_takes (mark_row i) s a.0 a.1 in
    let w = mark_takes i t.words a.0.0 t.reads in
    let head : s.lines ≡ stage_words i a.0.0 ∷ a.0.1.lines = t.parts ∙ ap (λ (ws : Line). ws ∷ a.0.1.lines) w in
    elim (cases_Bool (is_tried a.0.0)) [
      | inl tried ↦
          let p = proof_takes version (fix_line version) a.0.0 a.0.1 x q (fixed_from version) (rw tried at a.2) in
          let is : is_tried x.mark ≡ true = ap is_tried p.mark_is ∙ tried in
          let parts : s.lines ≡ (stage_words i x.mark ∷ proof_lines x) ++ q.lines =
          head ∙ ap (λ (m : Mark). stage_words i m ∷ a.0.1.lines) (sym p.mark_is) ∙ ap (λ (ls : List Line). stage_words i x.mark ∷ ls) p.parts in
          (parts ∙ ap (λ (b : Bool). (stage_words i x.mark ∷ cond b (proof_lines x) []) ++ q.lines) (sym is), subst (StageFitsAs version x) (sym is) p.fits)
      | inr not_tried_mark ↦
          let same = ok_is {A = StageCert × Spot} (not_tried a.0.0, a.0.1) (x, q) (rw not_tried_mark at a.2) in
          let nothing : HoldsNothing (not_tried a.0.0) = record { choice = refl; cost = refl; bound = refl; vectors = refl; fixing = refl; tree = refl; floors = refl } in
          let made : (s.lines ≡ stage_lines i (not_tried a.0.0) ++ a.0.1.lines) × StageFits version (not_tried a.0.0) =
          (head ∙ ap (λ (b : Bool). (stage_words i a.0.0 ∷ cond b (proof_lines (not_tried a.0.0)) []) ++ a.0.1.lines) (sym not_tried_mark), subst (StageFitsAs version (not_tried a.0.0)) (sym not_tried_mark) nothing) in
          subst (λ (y : StageCert × Spot). (s.lines ≡ stage_lines i y.0 ++ y.1.lines) × StageFits version y.0) same made
    ]

stage_by : (version i : ℕ) (tried : Bool) (s : Spot) (x : StageCert) (rest : List Line) → i < 2 ^ 32 → is_tried x.mark ≡ tried → StageFitsAs version x tried → s.lines ≡ (stage_words i x.mark ∷ cond tried (proof_lines x) []) ++ rest → Again (stage_at version i s) x rest
unfolding stage_at
stage_by version i true s x rest lt is fits e =
    let a = line_again (mark_row i) s (stage_words i x.mark) (proof_lines x ++ rest) x.mark e (mark_again i x.mark lt) in
    let b = proof_again version (fix_line version) a.spot x rest fits (may_have version x.fixing fits.fixed_from) a.left in
    record { spot = b.spot; reads = rw (a.reads, is, b.reads) refl; left = b.left }
stage_by version i false s x rest lt is fits e =
    let a = line_again (mark_row i) s (stage_words i x.mark) rest x.mark e (mark_again i x.mark lt) in
    let same : not_tried x.mark ≡ x = sym (holds_nothing x fits) in
    record { spot = a.spot; reads = rw (a.reads, is) (ap (λ (y : StageCert). done (y, a.spot)) same); left = a.left }
  where
    holds_nothing : (y : StageCert) → HoldsNothing y → y ≡ not_tried y.mark
    holds_nothing y h = rw (h.choice, h.cost, h.bound, h.vectors, h.fixing, h.tree, h.floors) refl

pub stage_once : (version : ℕ) → OneAgain (stage_at version) stage_lines (StageFits version) 4294967296
stage_once version i s x rest lt fits e = stage_by version i (is_tried x.mark) s x rest (omega arith) refl fits e

-- ---- whole certificates

pub ended_takes : {A : Type 0} (x y : A) (line : ℕ) (lines : List Line) → ended_by x line lines ≡ Ok y → (lines ≡ []) × (x ≡ y)
ended_takes x y line [] e = (refl, ok_is x y e)
ended_takes x y line (ws ∷ rest) e = absurd cc

pub cert_takes : (s : Spot) (c : Certificate) → cert_at s ≡ Ok c → (s.lines ≡ cert_lines c) × IsCert c
unfolding cert_at
cert_takes s c e =
    let a = bind_ok (line_by version_row s) (λ version. many (stage_at version.0) 1 4 version.1 >>= λ stages. line_by end_row stages.1 >>= λ last. ended (record { version = version.0; stages = stages.0 }) last.1) c e in
    let b = bind_ok (many (stage_at a.0.0) 1 4 a.0.1) (λ stages. line_by end_row stages.1 >>= λ last. ended (record { version = a.0.0; stages = stages.0 }) last.1) c a.2 in
    let d = bind_ok (line_by end_row b.0.1) (λ last. ended (record { version = a.0.0; stages = b.0.0 }) last.1) c b.2 in
    let made : Certificate = record { version = a.0.0; stages = b.0.0 } in
    let g = ended_takes made c d.0.1.line d.0.1.lines d.2 in
    let ta = line_takes version_row s a.0 a.1 in
    let wa = version_takes ta.words a.0.0 ta.reads in
    let tb = many_take (stage_at a.0.0) stage_lines (StageFits a.0.0) (stage_one a.0.0) 4 1 a.0.1 b.0.0 b.0.1 b.1 in
    let td = line_takes end_row b.0.1 d.0 d.1 in
    let wd = end_line_takes td.words d.0.0 td.reads in
    let last : b.0.1.lines ≡ (codes "END" ∷ []) ∷ [] = td.parts ∙ ap (λ (ws : Line). ws ∷ d.0.1.lines) wd ∙ ap (λ (ls : List Line). (codes "END" ∷ []) ∷ ls) g.0 in
    let parts : s.lines ≡ cert_lines made =
    ta.parts ∙ ap (λ (ws : Line). ws ∷ a.0.1.lines) wa.0 ∙ ap (λ (ls : List Line). count_words (codes "CERT") a.0.0 ∷ ls) (tb.0 ∙ ap (λ (ls : List Line). numbered stage_lines 1 b.0.0 ++ ls) last) in
    subst (λ (y : Certificate). (s.lines ≡ cert_lines y) × IsCert y) g.1 (parts, record { version = wa.1; count = tb.1; stages = tb.2 })

pub cert_again : (c : Certificate) (line : ℕ) → IsCert c → cert_at (record { line = line; lines = cert_lines c }) ≡ Ok c
unfolding cert_at
cert_again c line is =
    let s : Spot = record { line = line; lines = cert_lines c } in
    let end : List Line = (codes "END" ∷ []) ∷ [] in
    let a = line_again version_row s (count_words (codes "CERT") c.version) (numbered stage_lines 1 c.stages ++ end) c.version refl (version_again c.version is.version) in
    let b = many_again (stage_at c.version) stage_lines (StageFits c.version) 4294967296 (stage_once c.version) c.stages 1 a.spot end (omega (arith, is.count)) is.stages a.left in
    let four : many (stage_at c.version) 1 4 a.spot ≡ Ok (c.stages, b.spot) = ap (λ (n : ℕ). many (stage_at c.version) 1 n a.spot) (sym is.count) ∙ b.reads in
    let d = line_again end_row b.spot (codes "END" ∷ []) [] 0 b.left end_line_again in
    rw (a.reads, four, d.reads, d.left) refl
