-- A tree is read as it is spelled, with its fixing, and each node with its floor.
use Rattle.std.proofs.Common.{◌≡◌, ℕ, zero, suc, ◌^◌, ◌<◌, Bool, true, false, cond, List, [], ◌∷◌, ◌++◌, length, Option, Some, None, refl, sym, ap, subst, ◌∙◌, append_assoc, Ok, arith, inl, inr, codes}
use Rattle.std.specs.Prelude.{IfSome, option_to_list}
use Rattle.std.specs.List.{AllByRecursion}
use Rattle.std.proofs.lemmas.Bool.{cases_Bool, both_ways}
use Rattle.std.proofs.lemmas.List.{nil_from_length}
use Rattle.choice_problem.specs.declared.nodes.Node.{Node}
use Rattle.choice_problem.specs.declared.nodes.Node.TheVariants.{Split, Leaf, Over, Undone}
use Rattle.cost_fixing.specs.declared.fixings.Fixing.{Fixing}
use Rattle.cert_format.specs.declared.cert.Floor.{Floor}
use Rattle.cert_format.specs.declared.rows.FixLine.{FixLine}
use Rattle.cert_format.specs.declared.rows.FixLine.TheVariants.{Never, Maybe, Always}
use Rattle.cert_format.specs.declared.rows.TreeLine.{TreeLine}
use Rattle.cert_format.specs.declared.rows.TreeLine.TheVariants.{Fixed, Counted}
use Rattle.cert_format.specs.Private.Words.{most_small}
use Rattle.cert_format.specs.Private.Spots.{Spot, ◌>>=◌, line_by}
use Rattle.cert_format.specs.Private.Rows.{count_row, tree_row, node_row}
use Rattle.cert_format.specs.Private.Reading.{nodes_at, after_head, head_at, tree_at}
use Rattle.cert_format.specs.Spelling.{count_words, fixing_words, fixing_lines, node_words, is_undone, node_lines, FixingFits, NodeFits, FloorFits, undone_count, has_floors, floor_count}
use Rattle.cert_format.proofs.RowLemmas.{count_takes, count_again}
use Rattle.cert_format.proofs.FixingLemmas.{head_words, HeadFits, MayBegin, head_takes, head_again}
use Rattle.cert_format.proofs.NodeRowLemmas.{FloorIs, node_takes, node_again}
use Rattle.cert_format.proofs.BlockLemmas.{Line, bind_ok, done, ok_is, line_takes, Again, line_again}

not_undone_lines : (node : Node) (nodes : List Node) (floors : List Floor) → is_undone node ≡ false → node_lines (node ∷ nodes) floors ≡ node_words node None ∷ node_lines nodes floors
not_undone_lines node nodes [] no_floor = refl
not_undone_lines node nodes (f ∷ floors) no_floor = rw no_floor refl

-- a tree with its floors
pub record TreeFits (version : ℕ) (nodes : List Node) (floors : List Floor) : Type 0 where
  pub nodes_fit : AllByRecursion NodeFits nodes
  pub count : length floors ≡ floor_count version nodes
  pub floors_fit : AllByRecursion FloorFits floors

-- one more node with its floor, if it has one
more_lines : (version : ℕ) (node : Node) (floor : Option Floor) (nodes : List Node) (floors : List Floor) → NodeFits node → FloorIs version node floor → TreeFits version nodes floors
    → (node_words node floor ∷ node_lines nodes floors ≡ node_lines (node ∷ nodes) (option_to_list floor ++ floors)) × TreeFits version (node ∷ nodes) (option_to_list floor ++ floors)
more_lines version (Split unit cut seen) None nodes floors fits is tree = (sym (not_undone_lines (Split unit cut seen) nodes floors refl), record { nodes_fit = (fits, tree.nodes_fit); count = tree.count; floors_fit = tree.floors_fit })
more_lines version (Split unit cut seen) (Some f) nodes floors fits is tree = absurd (both_ways false refl is.0)
more_lines version (Leaf vector scale seen) None nodes floors fits is tree = (sym (not_undone_lines (Leaf vector scale seen) nodes floors refl), record { nodes_fit = (fits, tree.nodes_fit); count = tree.count; floors_fit = tree.floors_fit })
more_lines version (Leaf vector scale seen) (Some f) nodes floors fits is tree = absurd (both_ways false refl is.0)
more_lines version (Over resource) None nodes floors fits is tree = (sym (not_undone_lines (Over resource) nodes floors refl), record { nodes_fit = (fits, tree.nodes_fit); count = tree.count; floors_fit = tree.floors_fit })
more_lines version (Over resource) (Some f) nodes floors fits is tree = absurd (both_ways false refl is.0)
more_lines version Undone None nodes floors fits is tree =
    let none : length floors ≡ 0 = tree.count ∙ ap (λ (b : Bool). cond b (undone_count nodes) 0) is in
    let empty : floors ≡ [] = nil_from_length floors none in
    let lines : node_words Undone None ∷ node_lines nodes floors ≡ node_lines (Undone ∷ nodes) floors = rw empty refl in
    (lines, record { nodes_fit = (tt, tree.nodes_fit); count = none ∙ sym (ap (λ (b : Bool). cond b (undone_count (Undone ∷ nodes)) 0) is); floors_fit = tree.floors_fit })
more_lines version Undone (Some f) nodes floors fits is tree =
    let two : has_floors version ≡ true = is.0 in
    let count : length floors ≡ undone_count nodes = tree.count ∙ ap (λ (b : Bool). cond b (undone_count nodes) 0) two in
    (refl, record { nodes_fit = (tt, tree.nodes_fit); count = ap suc count ∙ sym (ap (λ (b : Bool). cond b (undone_count (Undone ∷ nodes)) 0) two); floors_fit = (is.1, tree.floors_fit) })

abbrev pub Nodes : Type 0
Nodes = List Node × List Floor

pub record NodesTake (version n : ℕ) (s : Spot) (x : Nodes) (q : Spot) : Type 0 where
  pub parts : s.lines ≡ node_lines x.0 x.1 ++ q.lines
  pub count : length x.0 ≡ n
  pub fits : TreeFits version x.0 x.1

nodes_take : (version n : ℕ) (s : Spot) (x : Nodes) (q : Spot) → nodes_at version n s ≡ Ok (x, q) → NodesTake version n s x q
unfolding nodes_at
nodes_take version zero s x q e =
    let same = ok_is {A = Nodes × Spot} (([], []), s) (x, q) e in
    subst (λ (y : Nodes × Spot). NodesTake version 0 s y.0 y.1) same (record { parts = refl; count = refl; fits = record { nodes_fit = tt; count = no_floors version; floors_fit = tt } })
  where
    no_floors : (v : ℕ) → 0 ≡ floor_count v []
    no_floors v = elim (cases_Bool (has_floors v)) [ inl two ↦ rw two refl | inr one ↦ rw one refl ]
nodes_take version (suc n) s x q e =
    let a = bind_ok (line_by (node_row version) s) (λ first. nodes_at version n first.1 >>= λ others. Ok ((first.0.0 ∷ others.0.0, option_to_list first.0.1 ++ others.0.1), others.1)) (x, q) e in
    let b = bind_ok (nodes_at version n a.0.1) (λ others. Ok ((a.0.0.0 ∷ others.0.0, option_to_list a.0.0.1 ++ others.0.1), others.1)) (x, q) a.2 in
    let t = line_takes (node_row version) s a.0 a.1 in
    let w = node_takes version t.words a.0.0.0 a.0.0.1 t.reads in
    let others = nodes_take version n a.0.1 b.0.0 b.0.1 b.1 in
    let m = more_lines version a.0.0.0 a.0.0.1 b.0.0.0 b.0.0.1 w.fits w.floor_is others.fits in
    let made : Nodes × Spot = ((a.0.0.0 ∷ b.0.0.0, option_to_list a.0.0.1 ++ b.0.0.1), b.0.1) in
    let parts : s.lines ≡ node_lines made.0.0 made.0.1 ++ b.0.1.lines =
    t.parts ∙ ap (λ (ws : Line). ws ∷ a.0.1.lines) w.words ∙ ap (λ (ls : List Line). node_words a.0.0.0 a.0.0.1 ∷ ls) others.parts ∙ ap (λ (ls : List Line). ls ++ b.0.1.lines) m.0 in
    subst (λ (y : Nodes × Spot). NodesTake version (suc n) s y.0 y.1) (ok_is made (x, q) b.2) (record { parts = parts; count = ap suc others.count; fits = m.1 })

-- the next node with its floor, if it has one
record NextNode (version : ℕ) (node : Node) (nodes : List Node) (floors : List Floor) : Type 0 where
  floor : Option Floor
  others : List Floor
  split : option_to_list floor ++ others ≡ floors
  floor_is : FloorIs version node floor
  lines : node_lines (node ∷ nodes) floors ≡ node_words node floor ∷ node_lines nodes others
  fits : TreeFits version nodes others

undone_next : (version : ℕ) (nodes : List Node) (floors : List Floor) (two : Bool) → has_floors version ≡ two → AllByRecursion NodeFits nodes → length floors ≡ cond two (suc (undone_count nodes)) 0 → AllByRecursion FloorFits floors → NextNode version Undone nodes floors
undone_next version nodes [] true is nodes_fit count floors_fit = absurd (omega arith)
undone_next version nodes (f ∷ floors) true is nodes_fit count floors_fit =
    let same : length floors ≡ undone_count nodes = omega arith in
    record { floor = Some f; others = floors; split = refl; floor_is = (is, floors_fit.0); lines = refl; fits = record { nodes_fit = nodes_fit; count = same ∙ sym (ap (λ (b : Bool). cond b (undone_count nodes) 0) is); floors_fit = floors_fit.1 } }
undone_next version nodes [] false is nodes_fit count floors_fit =
    record { floor = None; others = []; split = refl; floor_is = is; lines = refl; fits = record { nodes_fit = nodes_fit; count = sym (ap (λ (b : Bool). cond b (undone_count nodes) 0) is); floors_fit = tt } }
undone_next version nodes (f ∷ floors) false is nodes_fit count floors_fit = absurd (omega arith)

next_node : (version : ℕ) (node : Node) (nodes : List Node) (floors : List Floor) → TreeFits version (node ∷ nodes) floors → NextNode version node nodes floors
next_node version (Split unit cut seen) nodes floors tree =
    record { floor = None; others = floors; split = refl; floor_is = refl; lines = not_undone_lines (Split unit cut seen) nodes floors refl; fits = record { nodes_fit = tree.nodes_fit.1; count = tree.count; floors_fit = tree.floors_fit } }
next_node version (Leaf vector scale seen) nodes floors tree =
    record { floor = None; others = floors; split = refl; floor_is = refl; lines = not_undone_lines (Leaf vector scale seen) nodes floors refl; fits = record { nodes_fit = tree.nodes_fit.1; count = tree.count; floors_fit = tree.floors_fit } }
next_node version (Over resource) nodes floors tree =
    record { floor = None; others = floors; split = refl; floor_is = refl; lines = not_undone_lines (Over resource) nodes floors refl; fits = record { nodes_fit = tree.nodes_fit.1; count = tree.count; floors_fit = tree.floors_fit } }
next_node version Undone nodes floors tree = undone_next version nodes floors (has_floors version) refl tree.nodes_fit.1 tree.count tree.floors_fit

nodes_again : (version : ℕ) (nodes : List Node) (floors : List Floor) (s : Spot) (rest : List Line) → TreeFits version nodes floors → s.lines ≡ node_lines nodes floors ++ rest → Again (nodes_at version (length nodes) s) (nodes, floors) rest
unfolding nodes_at
nodes_again version [] floors s rest tree e =
    let none : length floors ≡ 0 = tree.count ∙ elim (cases_Bool (has_floors version)) [ inl two ↦ rw two refl | inr one ↦ rw one refl ] in
    let empty : floors ≡ [] = nil_from_length floors none in
    record { spot = s; reads = rw empty refl; left = e }
nodes_again version (node ∷ nodes) floors s rest tree e =
    let next = next_node version node nodes floors tree in
    let a = line_again (node_row version) s (node_words node next.floor) (node_lines nodes next.others ++ rest) (node, next.floor) (e ∙ ap (λ (ls : List Line). ls ++ rest) next.lines) (node_again version node next.floor tree.nodes_fit.0 next.floor_is) in
    let b = nodes_again version nodes next.others a.spot rest next.fits a.left in
    record { spot = b.spot; reads = rw (a.reads, b.reads) (ap (λ (fs : List Floor). done ((node ∷ nodes, fs), b.spot)) next.split); left = b.left }

-- ---- the fixing

-- whether there may be a fixing, or has to be one
abbrev pub HasFixing : FixLine → Option Fixing → Type 0
HasFixing Never None = Unit {0}
HasFixing Never (Some f) = ⊥
HasFixing Maybe fixing = Unit {0}
HasFixing Always None = ⊥
HasFixing Always (Some f) = Unit {0}

abbrev Head : Type 0
Head = Option Fixing × ℕ

abbrev head_lines : Head → List Line → List Line
head_lines x rest = fixing_lines x.0 ++ (count_words (codes "TREE") x.1 ∷ rest)

-- what was read of a line and of what follows it
record HeadIs (fix : FixLine) (lines : List Line) (x : Head) (q : Spot) : Type 0 where
  parts : lines ≡ head_lines x q.lines
  fixing_fits : IfSome x.0 FixingFits
  few : x.1 < 2 ^ 32
  allowed : HasFixing fix x.0

no_fixing : (fix : FixLine) (n : ℕ) → MayBegin fix (Counted n) → HasFixing fix None
no_fixing Never n may = tt
no_fixing Maybe n may = tt
no_fixing Always n may = absurd may

some_fixing : (fix : FixLine) (f : Fixing) → MayBegin fix (Fixed f) → HasFixing fix (Some f)
some_fixing Never f may = absurd may
some_fixing Maybe f may = tt
some_fixing Always f may = tt

after_takes : (fix : FixLine) (line : TreeLine) (s : Spot) (x : Head) (q : Spot) → HeadFits line → MayBegin fix line → after_head line s ≡ Ok (x, q) → HeadIs fix (head_words line ∷ s.lines) x q
unfolding after_head
after_takes fix (Counted n) s x q fits may e =
    let no_one : Option Fixing = None in
    let same = ok_is {A = Head × Spot} ((no_one, n), s) (x, q) e in
    subst (λ (y : Head × Spot). HeadIs fix (count_words (codes "TREE") n ∷ s.lines) y.0 y.1) same (record { parts = refl; fixing_fits = tt; few = fits; allowed = no_fixing fix n may })
after_takes fix (Fixed f) s x q fits may e =
    let a = bind_ok (line_by (count_row (codes "TREE") most_small) s) (λ n. Ok ((Some f, n.0), n.1)) (x, q) e in
    let t = line_takes (count_row (codes "TREE") most_small) s a.0 a.1 in
    let w = count_takes (codes "TREE") most_small t.words a.0.0 t.reads in
    let made : Head × Spot = ((Some f, a.0.0), a.0.1) in
    let parts : fixing_words f ∷ s.lines ≡ head_lines made.0 a.0.1.lines = ap (λ (ls : List Line). fixing_words f ∷ ls) (t.parts ∙ ap (λ (ws : Line). ws ∷ a.0.1.lines) w.0) in
    subst (λ (y : Head × Spot). HeadIs fix (fixing_words f ∷ s.lines) y.0 y.1) (ok_is made (x, q) a.2) (record { parts = parts; fixing_fits = fits; few = omega (arith, w.1); allowed = some_fixing fix f may })

head_is : (fix : FixLine) (s : Spot) (x : Head) (q : Spot) → head_at fix s ≡ Ok (x, q) → HeadIs fix s.lines x q
unfolding head_at
head_is fix s x q e =
    let a = bind_ok (line_by (tree_row fix) s) (λ first. after_head first.0 first.1) (x, q) e in
    let t = line_takes (tree_row fix) s a.0 a.1 in
    let w = head_takes fix t.words a.0.0 t.reads in
    let h = after_takes fix a.0.0 a.0.1 x q w.fits w.may a.2 in
    let parts : s.lines ≡ head_lines x q.lines = t.parts ∙ ap (λ (ws : Line). ws ∷ a.0.1.lines) w.words ∙ h.parts in
    record { parts = parts; fixing_fits = h.fixing_fits; few = h.few; allowed = h.allowed }

counted_begins : (fix : FixLine) (n : ℕ) → HasFixing fix None → MayBegin fix (Counted n)
counted_begins Never n has = tt
counted_begins Maybe n has = tt
counted_begins Always n has = absurd has

fixed_begins : (fix : FixLine) (f : Fixing) → HasFixing fix (Some f) → MayBegin fix (Fixed f)
fixed_begins Never f has = absurd has
fixed_begins Maybe f has = tt
fixed_begins Always f has = tt

head_is_again : (fix : FixLine) (s : Spot) (fixing : Option Fixing) (n : ℕ) (rest : List Line) → IfSome fixing FixingFits → n < 2 ^ 32 → HasFixing fix fixing → s.lines ≡ head_lines (fixing, n) rest → Again (head_at fix s) (fixing, n) rest
unfolding head_at after_head
head_is_again fix s None n rest fits small has e =
    let a = line_again (tree_row fix) s (count_words (codes "TREE") n) rest (Counted n) e (head_again fix (Counted n) small (counted_begins fix n has)) in
    record { spot = a.spot; reads = rw a.reads refl; left = a.left }
head_is_again fix s (Some f) n rest fits small has e =
    let a = line_again (tree_row fix) s (fixing_words f) (count_words (codes "TREE") n ∷ rest) (Fixed f) e (head_again fix (Fixed f) fits (fixed_begins fix f has)) in
    let b = line_again (count_row (codes "TREE") most_small) a.spot (count_words (codes "TREE") n) rest n a.left (count_again (codes "TREE") most_small n (omega arith) (omega arith)) in
    record { spot = b.spot; reads = rw (a.reads, b.reads) refl; left = b.left }

-- ---- a tree with its fixing

abbrev pub FixedTree : Type 0
FixedTree = Option Fixing × Nodes

abbrev pub tree_lines : FixedTree → List Line
tree_lines x = fixing_lines x.0 ++ (count_words (codes "TREE") (length x.1.0) ∷ node_lines x.1.0 x.1.1)

pub record TreeTakes (version : ℕ) (fix : FixLine) (s : Spot) (x : FixedTree) (q : Spot) : Type 0 where
  pub parts : s.lines ≡ tree_lines x ++ q.lines
  pub fixing_fits : IfSome x.0 FixingFits
  pub allowed : HasFixing fix x.0
  pub count : length x.1.0 < 2 ^ 32
  pub fits : TreeFits version x.1.0 x.1.1

pub tree_takes : (version : ℕ) (fix : FixLine) (s : Spot) (x : FixedTree) (q : Spot) → tree_at version fix s ≡ Ok (x, q) → TreeTakes version fix s x q
unfolding tree_at
tree_takes version fix s x q e =
    let a = bind_ok (head_at fix s) (λ head. nodes_at version head.0.1 head.1 >>= λ nodes. Ok ((head.0.0, nodes.0), nodes.1)) (x, q) e in
    let b = bind_ok (nodes_at version a.0.0.1 a.0.1) (λ nodes. Ok ((a.0.0.0, nodes.0), nodes.1)) (x, q) a.2 in
    let h = head_is fix s a.0.0 a.0.1 a.1 in
    let n = nodes_take version a.0.0.1 a.0.1 b.0.0 b.0.1 b.1 in
    let made : FixedTree × Spot = ((a.0.0.0, b.0.0), b.0.1) in
    let nodes : List Line = node_lines b.0.0.0 b.0.0.1 in
    let count : count_words (codes "TREE") a.0.0.1 ≡ count_words (codes "TREE") (length b.0.0.0) = ap (count_words (codes "TREE")) (sym n.count) in
    let parts : s.lines ≡ tree_lines made.0 ++ b.0.1.lines =
    h.parts ∙ ap (λ (ls : List Line). fixing_lines a.0.0.0 ++ (count_words (codes "TREE") a.0.0.1 ∷ ls)) n.parts
    ∙ ap (λ (ws : Line). fixing_lines a.0.0.0 ++ (ws ∷ (nodes ++ b.0.1.lines))) count
    ∙ sym (append_assoc (fixing_lines a.0.0.0) (count_words (codes "TREE") (length b.0.0.0) ∷ nodes) b.0.1.lines) in
    subst (λ (y : FixedTree × Spot). TreeTakes version fix s y.0 y.1) (ok_is made (x, q) b.2)
    (record { parts = parts; fixing_fits = h.fixing_fits; allowed = h.allowed; count = omega (arith, n.count, h.few); fits = n.fits })

pub tree_again : (version : ℕ) (fix : FixLine) (s : Spot) (x : FixedTree) (rest : List Line) → IfSome x.0 FixingFits → HasFixing fix x.0 → length x.1.0 < 2 ^ 32 → TreeFits version x.1.0 x.1.1 → s.lines ≡ tree_lines x ++ rest → Again (tree_at version fix s) x rest
unfolding tree_at
tree_again version fix s x rest fixing has small fits e =
    let nodes : List Line = node_lines x.1.0 x.1.1 in
    let parts : s.lines ≡ head_lines (x.0, length x.1.0) (nodes ++ rest) = e ∙ append_assoc (fixing_lines x.0) (count_words (codes "TREE") (length x.1.0) ∷ nodes) rest in
    let a = head_is_again fix s x.0 (length x.1.0) (nodes ++ rest) fixing small has parts in
    let b = nodes_again version x.1.0 x.1.1 a.spot rest fits a.left in
    record { spot = b.spot; reads = rw (a.reads, b.reads) refl; left = b.left }
