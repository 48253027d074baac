-- The line of a node is read as it is spelled, with the floor that it has from version 2 on.
use Rattle.std.proofs.Common.{◌≡◌, ℕ, ◌^◌, ◌<◌, true, false, cond, List, [], ◌∷◌, Option, Some, None, refl, sym, ap, subst, arith, inl, inr, codes}
use Rattle.std.specs.Prelude.{◌&&◌}
use Rattle.std.specs.Fmt.{decimal}
use Rattle.std.specs.Str.{bytes_eq}
use Rattle.std.proofs.lemmas.Slice.Eq.{bytes_eq-Decides}
use Rattle.std.proofs.lemmas.Bool.{cases_Bool, both_ways}
use Rattle.std.proofs.lemmas.Option.{some_pair_parts}
use Rattle.choice_problem.specs.declared.nodes.Node.{Node}
use Rattle.choice_problem.specs.declared.nodes.Node.TheVariants.{Split, Leaf, Over, Undone}
use Rattle.cert_format.specs.declared.cert.Floor.{Floor}
use Rattle.cert_format.specs.Lines.{Word}
use Rattle.cert_format.specs.Private.Words.{◌>>=◌, most_small, most_large, number_of, seen_of, next_by, is_end}
use Rattle.cert_format.specs.Private.Rows.{split_row, leaf_row, over_row, floor_row, with_no_floor, undone_row, node_row}
use Rattle.cert_format.specs.Spelling.{seen_word, node_words, undone_words, is_undone, has_floors, SeenFits, NodeFits, FloorFits}
use Rattle.cert_format.proofs.WordLemmas.{number_takes, number_again, next_takes, next_again, end_takes, bind_some, seen_takes, seen_again}

split_takes : (ws : List Word) (n : Node) → split_row ws ≡ Some n → (codes "S" ∷ ws ≡ node_words n None) × NodeFits n × (is_undone n ≡ false)
unfolding split_row
split_takes ws n e =
    let a = bind_some (next_by (number_of most_small) ws) (λ u. next_by (number_of most_small) u.1 >>= λ c. next_by seen_of c.1 >>= λ s. cond (is_end s.1) (Some (Split u.0 c.0 s.0)) None) n e in
    let b = bind_some (next_by (number_of most_small) a.0.1) (λ c. next_by seen_of c.1 >>= λ s. cond (is_end s.1) (Some (Split a.0.0 c.0 s.0)) None) n a.2 in
    let c = bind_some (next_by seen_of b.0.1) (λ s. cond (is_end s.1) (Some (Split a.0.0 b.0.0 s.0)) None) n b.2 in
    let g = end_takes c.0.1 (Split a.0.0 b.0.0 c.0.0) n c.2 in
    let t0 = next_takes (number_of most_small) ws a.0 a.1 in
    let t1 = next_takes (number_of most_small) a.0.1 b.0 b.1 in
    let t2 = next_takes seen_of b.0.1 c.0 c.1 in
    let p0 = number_takes most_small a.0.0 t0.word t0.reads in
    let p1 = number_takes most_small b.0.0 t1.word t1.reads in
    let p2 = seen_takes t2.word c.0.0 t2.reads in
    let rest : ws ≡ decimal a.0.0 ∷ decimal b.0.0 ∷ seen_word c.0.0 ∷ [] = cc (t0.parts, t1.parts, t2.parts, p0.0, p1.0, p2.0, g.0) in
    subst (λ (m : Node). (codes "S" ∷ ws ≡ node_words m None) × NodeFits m × (is_undone m ≡ false)) g.1 (ap (λ (vs : List Word). codes "S" ∷ vs) rest, (omega (arith, p0.1), omega (arith, p1.1), p2.1), refl)

leaf_takes : (ws : List Word) (n : Node) → leaf_row ws ≡ Some n → (codes "L" ∷ ws ≡ node_words n None) × NodeFits n × (is_undone n ≡ false)
unfolding leaf_row
leaf_takes ws n e =
    let a = bind_some (next_by (number_of most_small) ws) (λ u. next_by (number_of most_large) u.1 >>= λ c. next_by seen_of c.1 >>= λ s. cond (is_end s.1) (Some (Leaf u.0 c.0 s.0)) None) n e in
    let b = bind_some (next_by (number_of most_large) a.0.1) (λ c. next_by seen_of c.1 >>= λ s. cond (is_end s.1) (Some (Leaf a.0.0 c.0 s.0)) None) n a.2 in
    let c = bind_some (next_by seen_of b.0.1) (λ s. cond (is_end s.1) (Some (Leaf a.0.0 b.0.0 s.0)) None) n b.2 in
    let g = end_takes c.0.1 (Leaf a.0.0 b.0.0 c.0.0) n c.2 in
    let t0 = next_takes (number_of most_small) ws a.0 a.1 in
    let t1 = next_takes (number_of most_large) a.0.1 b.0 b.1 in
    let t2 = next_takes seen_of b.0.1 c.0 c.1 in
    let p0 = number_takes most_small a.0.0 t0.word t0.reads in
    let p1 = number_takes most_large b.0.0 t1.word t1.reads in
    let p2 = seen_takes t2.word c.0.0 t2.reads in
    let rest : ws ≡ decimal a.0.0 ∷ decimal b.0.0 ∷ seen_word c.0.0 ∷ [] = cc (t0.parts, t1.parts, t2.parts, p0.0, p1.0, p2.0, g.0) in
    subst (λ (m : Node). (codes "L" ∷ ws ≡ node_words m None) × NodeFits m × (is_undone m ≡ false)) g.1 (ap (λ (vs : List Word). codes "L" ∷ vs) rest, (omega (arith, p0.1), omega (arith, p1.1), p2.1), refl)

over_takes : (ws : List Word) (n : Node) → over_row ws ≡ Some n → (codes "O" ∷ ws ≡ node_words n None) × NodeFits n × (is_undone n ≡ false)
unfolding over_row
over_takes ws n e =
    let a = bind_some (next_by (number_of most_small) ws) (λ u. cond (is_end u.1) (Some (Over u.0)) None) n e in
    let g = end_takes a.0.1 (Over a.0.0) n a.2 in
    let t0 = next_takes (number_of most_small) ws a.0 a.1 in
    let p0 = number_takes most_small a.0.0 t0.word t0.reads in
    let rest : ws ≡ decimal a.0.0 ∷ [] = cc (t0.parts, p0.0, g.0) in
    subst (λ (m : Node). (codes "O" ∷ ws ≡ node_words m None) × NodeFits m × (is_undone m ≡ false)) g.1 (ap (λ (vs : List Word). codes "O" ∷ vs) rest, omega (arith, p0.1), refl)

floor_takes : (ws : List Word) (f : Floor) → floor_row ws ≡ Some f → (codes "U" ∷ ws ≡ undone_words (Some f)) × FloorFits f
unfolding floor_row
floor_takes ws f e =
    let a = bind_some (next_by (number_of most_small) ws) (λ u. next_by (number_of most_large) u.1 >>= λ c. cond (is_end c.1) (Some (record { vector = u.0; scale = c.0 })) None) f e in
    let b = bind_some (next_by (number_of most_large) a.0.1) (λ c. cond (is_end c.1) (Some (record { vector = a.0.0; scale = c.0 })) None) f a.2 in
    let made : Floor = record { vector = a.0.0; scale = b.0.0 } in
    let g = end_takes b.0.1 made f b.2 in
    let t0 = next_takes (number_of most_small) ws a.0 a.1 in
    let t1 = next_takes (number_of most_large) a.0.1 b.0 b.1 in
    let p0 = number_takes most_small a.0.0 t0.word t0.reads in
    let p1 = number_takes most_large b.0.0 t1.word t1.reads in
    let rest : ws ≡ decimal a.0.0 ∷ decimal b.0.0 ∷ [] = cc (t0.parts, t1.parts, p0.0, p1.0, g.0) in
    subst (λ (m : Floor). (codes "U" ∷ ws ≡ undone_words (Some m)) × FloorFits m) g.1 (ap (λ (vs : List Word). codes "U" ∷ vs) rest, (omega (arith, p0.1), omega (arith, p1.1)))

-- the floor that a node of this version has
abbrev pub FloorIs : ℕ → Node → Option Floor → Type 0
FloorIs version node None = (is_undone node && has_floors version) ≡ false
FloorIs version node (Some f) = ((is_undone node && has_floors version) ≡ true) × FloorFits f

pub record NodeTakes (version : ℕ) (ws : List Word) (node : Node) (floor : Option Floor) : Type 0 where
  pub words : ws ≡ node_words node floor
  pub fits : NodeFits node
  pub floor_is : FloorIs version node floor

no_floor_takes : (version : ℕ) (ws : List Word) (row : Option Node) (node : Node) (floor : Option Floor)
    → ((n : Node) → row ≡ Some n → (ws ≡ node_words n None) × NodeFits n × (is_undone n ≡ false)) → with_no_floor row ≡ Some (node, floor) → NodeTakes version ws node floor
no_floor_takes version ws None node floor takes e = absurd cc
no_floor_takes version ws (Some n) node floor takes e =
    let same = some_pair_parts n node None floor e in
    let t = takes n refl in
    let made : NodeTakes version ws n None = record { words = t.0; fits = t.1; floor_is = rw t.2 refl } in
    subst (λ (f : Option Floor). NodeTakes version ws node f) same.1 (subst (λ (m : Node). NodeTakes version ws m None) same.0 made)

undone_takes : (version : ℕ) (ws : List Word) (node : Node) (floor : Option Floor) → undone_row version ws ≡ Some (node, floor) → NodeTakes version (codes "U" ∷ ws) node floor
unfolding undone_row
undone_takes version ws node floor e =
    elim (cases_Bool (has_floors version)) [
      | inl two ↦
          let a = bind_some (floor_row ws) (λ f. Some (Undone, Some f)) (node, floor) (rw two at e) in
          let same = some_pair_parts Undone node (Some a.0) floor a.2 in
          let t = floor_takes ws a.0 a.1 in
          let made : NodeTakes version (codes "U" ∷ ws) Undone (Some a.0) = record { words = t.0; fits = tt; floor_is = (two, t.1) } in
          subst (λ (f : Option Floor). NodeTakes version (codes "U" ∷ ws) node f) same.1 (subst (λ (m : Node). NodeTakes version (codes "U" ∷ ws) m (Some a.0)) same.0 made)
      | inr one ↦
          let no_floor : Option Floor = None in
          let g = end_takes ws (Undone, no_floor) (node, floor) (rw one at e) in
          let made : NodeTakes version (codes "U" ∷ ws) Undone None = record { words = ap (λ (vs : List Word). codes "U" ∷ vs) g.0; fits = tt; floor_is = one } in
          subst (λ (x : Node × Option Floor). NodeTakes version (codes "U" ∷ ws) x.0 x.1) g.1 made
    ]

tagged : (w : Word) (ws : List Word) (tag : Word) (version : ℕ) (node : Node) (floor : Option Floor) → bytes_eq w tag ≡ true → NodeTakes version (tag ∷ ws) node floor → NodeTakes version (w ∷ ws) node floor
tagged w ws tag version node floor t takes =
    let same : w ≡ tag = (bytes_eq-Decides w tag).0 t in
    subst (λ (v : Word). NodeTakes version (v ∷ ws) node floor) (sym same) takes

pub node_takes : (version : ℕ) (ws : List Word) (node : Node) (floor : Option Floor) → node_row version ws ≡ Some (node, floor) → NodeTakes version ws node floor
unfolding node_row
node_takes version [] node floor e = absurd cc
node_takes version (w ∷ ws) node floor e =
    elim (cases_Bool (bytes_eq w (codes "S"))) [
      | inl s ↦ tagged w ws (codes "S") version node floor s (no_floor_takes version (codes "S" ∷ ws) (split_row ws) node floor (split_takes ws) (rw s at e))
      | inr no_s ↦ elim (cases_Bool (bytes_eq w (codes "L"))) [
        | inl l ↦ tagged w ws (codes "L") version node floor l (no_floor_takes version (codes "L" ∷ ws) (leaf_row ws) node floor (leaf_takes ws) (rw (no_s, l) at e))
        | inr no_l ↦ elim (cases_Bool (bytes_eq w (codes "O"))) [
          | inl o ↦ tagged w ws (codes "O") version node floor o (no_floor_takes version (codes "O" ∷ ws) (over_row ws) node floor (over_takes ws) (rw (no_s, no_l, o) at e))
          | inr no_o ↦ elim (cases_Bool (bytes_eq w (codes "U"))) [
            | inl u ↦ tagged w ws (codes "U") version node floor u (undone_takes version ws node floor (rw (no_s, no_l, no_o, u) at e))
            | inr no_u ↦
                let none : ◌≡◌ {A = Option (Node × Option Floor)} None (Some (node, floor)) = rw (no_s, no_l, no_o, no_u) at e in
                absurd cc
          ]
        ]
      ]
    ]

split_again : (unit cut : ℕ) (seen : Option ℕ) → unit < 2 ^ 32 → cut < 2 ^ 32 → SeenFits seen → split_row (decimal unit ∷ decimal cut ∷ seen_word seen ∷ []) ≡ Some (Split unit cut seen)
unfolding split_row
split_again unit cut seen a b c =
    let r0 : number_of most_small (decimal unit) ≡ Some unit = number_again most_small unit (omega arith) (omega arith) in
    let r1 : number_of most_small (decimal cut) ≡ Some cut = number_again most_small cut (omega arith) (omega arith) in
    rw (next_again (number_of most_small) (decimal unit) unit (decimal cut ∷ seen_word seen ∷ []) r0, next_again (number_of most_small) (decimal cut) cut (seen_word seen ∷ []) r1, next_again seen_of (seen_word seen) seen [] (seen_again seen c)) refl

leaf_again : (vector scale : ℕ) (seen : Option ℕ) → vector < 2 ^ 32 → scale < 2 ^ 64 → SeenFits seen → leaf_row (decimal vector ∷ decimal scale ∷ seen_word seen ∷ []) ≡ Some (Leaf vector scale seen)
unfolding leaf_row
leaf_again vector scale seen a b c =
    let r0 : number_of most_small (decimal vector) ≡ Some vector = number_again most_small vector (omega arith) (omega arith) in
    let r1 : number_of most_large (decimal scale) ≡ Some scale = number_again most_large scale (omega arith) (omega arith) in
    rw (next_again (number_of most_small) (decimal vector) vector (decimal scale ∷ seen_word seen ∷ []) r0, next_again (number_of most_large) (decimal scale) scale (seen_word seen ∷ []) r1, next_again seen_of (seen_word seen) seen [] (seen_again seen c)) refl

over_again : (resource : ℕ) → resource < 2 ^ 32 → over_row (decimal resource ∷ []) ≡ Some (Over resource)
unfolding over_row
over_again resource a =
    let r0 : number_of most_small (decimal resource) ≡ Some resource = number_again most_small resource (omega arith) (omega arith) in
    rw (next_again (number_of most_small) (decimal resource) resource [] r0) refl

floor_again : (f : Floor) → FloorFits f → floor_row (decimal f.vector ∷ decimal f.scale ∷ []) ≡ Some f
unfolding floor_row
floor_again f fits =
    let r0 : number_of most_small (decimal f.vector) ≡ Some f.vector = number_again most_small f.vector (omega (arith, fits.0)) (omega (arith, fits.0)) in
    let r1 : number_of most_large (decimal f.scale) ≡ Some f.scale = number_again most_large f.scale (omega (arith, fits.1)) fits.1 in
    rw (next_again (number_of most_small) (decimal f.vector) f.vector (decimal f.scale ∷ []) r0, next_again (number_of most_large) (decimal f.scale) f.scale [] r1) refl

pub node_again : (version : ℕ) (node : Node) (floor : Option Floor) → NodeFits node → FloorIs version node floor → node_row version (node_words node floor) ≡ Some (node, floor)
unfolding node_row undone_row
node_again version (Split unit cut seen) None fits floor = rw (split_again unit cut seen fits.0 fits.1 fits.2) refl
node_again version (Split unit cut seen) (Some f) fits floor = absurd (both_ways false refl floor.0)
node_again version (Leaf vector scale seen) None fits floor = rw (leaf_again vector scale seen fits.0 fits.1 fits.2) refl
node_again version (Leaf vector scale seen) (Some f) fits floor = absurd (both_ways false refl floor.0)
node_again version (Over resource) None fits floor = rw (over_again resource fits) refl
node_again version (Over resource) (Some f) fits floor = absurd (both_ways false refl floor.0)
node_again version Undone None fits floor = rw floor refl
node_again version Undone (Some f) fits floor =
    let two : has_floors version ≡ true = floor.0 in
    rw (two, floor_again f floor.1) refl
