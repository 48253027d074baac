-- What the lines of a certificate say, line by line.
use Rattle.std.specs.Prelude.{ℕ, ◌==◌, ◌&&◌, nat_le, if◌then◌else◌, List, [], ◌∷◌, Option, Some, None, codes}
use Rattle.std.specs.Str.{bytes_eq}
use Rattle.choice_problem.specs.declared.vectors.Price.{Price}
use Rattle.choice_problem.specs.declared.nodes.Node.{Node}
use Rattle.choice_problem.specs.declared.nodes.Node.TheVariants.{Split, Leaf, Over, Undone}
use Rattle.cost_fixing.specs.declared.fixings.Fixing.{Fixing}
use Rattle.cert_format.specs.declared.cert.Floor.{Floor}
use Rattle.cert_format.specs.declared.cert.Mark.{Mark}
use Rattle.cert_format.specs.declared.cert.Mark.TheVariants.{Optimal, Infeasible, Unsettled, NotTried}
use Rattle.cert_format.specs.declared.rows.FixLine.{FixLine}
use Rattle.cert_format.specs.declared.rows.FixLine.TheVariants.{Never, Maybe, Always}
use Rattle.cert_format.specs.declared.rows.TreeLine.{TreeLine}
use Rattle.cert_format.specs.declared.rows.TreeLine.TheVariants.{Fixed, Counted}
use Rattle.cert_format.specs.Spelling.{has_floors}
use Rattle.cert_format.specs.Lines.{Word}
use Rattle.cert_format.specs.Private.Words.{◌>>=◌, most_small, most_large, number_of, seen_of, price_of, after_tag, next_by, is_end, choices_word}

-- a word, and then one number up to `most`
unfoldable pub count_row : Word → ℕ → List Word → Option ℕ
count_row tag most ws = do
  ws ← after_tag tag ws
  n ← next_by (number_of most) ws
  if is_end n.1 then Some n.0 else None

-- `CHOICES NONE`, or `CHOICES` and a number
unfoldable pub choices_row : List Word → Option (Option ℕ)
choices_row ws = do
  ws ← after_tag (codes "CHOICES") ws
  n ← next_by choices_word ws
  if is_end n.1 then Some n.0 else None

-- the alternative of this unit
unfoldable pub alternative_row : ℕ → List Word → Option ℕ
alternative_row unit ws = do
  ws ← after_tag (codes "C") ws
  u ← next_by (number_of most_small) ws
  a ← next_by (number_of most_small) u.1
  if (u.0 == unit) && is_end a.1 then Some a.0 else None

unfoldable pub price_row : List Word → Option Price
price_row ws = do
  ws ← after_tag (codes "P") ws
  r ← next_by (number_of most_small) ws
  p ← next_by price_of r.1
  if is_end p.1 then Some (record { resource = r.0; price = p.0 }) else None

unfoldable pub split_row : List Word → Option Node
split_row ws = do
  unit ← next_by (number_of most_small) ws
  cut ← next_by (number_of most_small) unit.1
  seen ← next_by seen_of cut.1
  if is_end seen.1 then Some (Split unit.0 cut.0 seen.0) else None

unfoldable pub leaf_row : List Word → Option Node
leaf_row ws = do
  vector ← next_by (number_of most_small) ws
  scale ← next_by (number_of most_large) vector.1
  seen ← next_by seen_of scale.1
  if is_end seen.1 then Some (Leaf vector.0 scale.0 seen.0) else None

unfoldable pub over_row : List Word → Option Node
over_row ws = do
  resource ← next_by (number_of most_small) ws
  if is_end resource.1 then Some (Over resource.0) else None

-- the floor of an undone node, which version 1 doesn't have
unfoldable pub floor_row : List Word → Option Floor
floor_row ws = do
  vector ← next_by (number_of most_small) ws
  scale ← next_by (number_of most_large) vector.1
  if is_end scale.1 then Some (record { vector = vector.0; scale = scale.0 }) else None

abbrev pub with_no_floor : Option Node → Option (Node × Option Floor)
with_no_floor row = row >>= λ node. Some (node, None)

unfoldable pub undone_row : ℕ → List Word → Option (Node × Option Floor)
undone_row version ws =
    if has_floors version then (floor_row ws >>= λ floor. Some (Undone, Some floor))
    else (if is_end ws then Some (Undone, None) else None)

-- a node, and its floor if it has one
unfoldable pub node_row : ℕ → List Word → Option (Node × Option Floor)
node_row version [] = None
node_row version (w ∷ ws) =
    if bytes_eq w (codes "S") then with_no_floor (split_row ws)
    else (if bytes_eq w (codes "L") then with_no_floor (leaf_row ws)
    else (if bytes_eq w (codes "O") then with_no_floor (over_row ws)
    else (if bytes_eq w (codes "U") then undone_row version ws else None)))

-- the vector, the scale and the cost of a fixing
unfoldable pub fixing_row : List Word → Option Fixing
fixing_row ws = do
  ws ← after_tag (codes "FIX") ws
  vector ← next_by (number_of most_small) ws
  scale ← next_by (number_of most_large) vector.1
  cost ← next_by (number_of most_large) scale.1
  if is_end cost.1 then Some (record { vector = vector.0; scale = scale.0; cost = cost.0 }) else None

abbrev pub counted_row : List Word → Option TreeLine
counted_row ws = count_row (codes "TREE") most_small ws >>= λ n. Some (Counted n)

abbrev pub fixed_row : List Word → Option TreeLine
fixed_row ws = fixing_row ws >>= λ f. Some (Fixed f)

abbrev pub one_or_other : Option TreeLine → Option TreeLine → Option TreeLine
one_or_other None other = other
one_or_other (Some line) other = Some line

-- the first line of a tree: that of a fixing, or the one that counts the nodes
unfoldable pub tree_row : FixLine → List Word → Option TreeLine
tree_row Never ws = counted_row ws
tree_row Maybe ws = one_or_other (fixed_row ws) (counted_row ws)
tree_row Always ws = fixed_row ws

-- from version 3 on there may be a fixing
abbrev pub fix_line : ℕ → FixLine
fix_line version = if nat_le 3 version then Maybe else Never

unfoldable pub mark_word : Word → Option Mark
mark_word w =
    if bytes_eq w (codes "OPTIMAL") then Some Optimal
    else (if bytes_eq w (codes "INFEASIBLE") then Some Infeasible
    else (if bytes_eq w (codes "OPEN") then Some Unsettled else None))

unfoldable pub mark_words : List Word → Option Mark
mark_words [] = None
mark_words (w ∷ []) = mark_word w
mark_words (w ∷ v ∷ ws) =
    if (bytes_eq w (codes "NOT") && bytes_eq v (codes "TRIED")) && is_end ws then Some NotTried else
    None

-- the mark of this stage
unfoldable pub mark_row : ℕ → List Word → Option Mark
mark_row stage ws = do
  ws ← after_tag (codes "STAGE") ws
  s ← next_by (number_of most_small) ws
  if s.0 == stage then mark_words s.1 else None

-- the version, from 1 to 3
unfoldable pub version_row : List Word → Option ℕ
version_row ws = do
  ws ← after_tag (codes "CERT") ws
  version ← next_by (number_of most_small) ws
  if (nat_le 1 version.0 && nat_le version.0 3) && is_end version.1 then Some version.0 else None

unfoldable pub end_row : List Word → Option ℕ
end_row ws = do
  ws ← after_tag (codes "END") ws
  if is_end ws then Some 0 else None

-- 2 where there is a fixing, and else 1
unfoldable pub extra_number : Word → Option FixLine
extra_number w =
    if bytes_eq w (codes "1") then Some Never
    else (if bytes_eq w (codes "2") then Some Always else None)

-- the first line of one more stage
unfoldable pub extra_row : List Word → Option FixLine
extra_row ws = do
  ws ← after_tag (codes "EXTRA") ws
  line ← next_by extra_number ws
  if is_end line.1 then Some line.0 else None

abbrev pub tried_mark : Mark → Option Mark
tried_mark Optimal = Some Optimal
tried_mark Infeasible = Some Infeasible
tried_mark Unsettled = Some Unsettled
tried_mark NotTried = None

-- the mark of stage 5, which was tried
unfoldable pub tried_row : List Word → Option Mark
tried_row ws = mark_row 5 ws >>= tried_mark
