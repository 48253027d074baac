-- Tests of what can be printed.
use Rattle.std.proofs.Common.{◌≡◌, ℕ, zero, suc, ◌+◌, ◌<◌, ◌≤◌, List, [], ◌∷◌, ◌++◌, length, take, get_or, ap, ◌∙◌, arith}
use Rattle.std.specs.List.{AllByRecursion}
use Rattle.std.proofs.lemmas.List.{take_more}
use Rattle.choice_problem.specs.declared.nodes.Node.{Node}
use Rattle.choice_problem.specs.declared.nodes.Node.TheVariants.{Split, Leaf, Over, Undone}
use Rattle.cert_format.specs.Spelling.{undone_count}

undone_append : (nodes more : List Node) → undone_count (nodes ++ more) ≡ undone_count nodes + undone_count more
undone_append [] more = omega arith
undone_append (Split unit cut seen ∷ nodes) more = undone_append nodes more
undone_append (Leaf vector scale seen ∷ nodes) more = undone_append nodes more
undone_append (Over resource ∷ nodes) more = undone_append nodes more
undone_append (Undone ∷ nodes) more = omega (arith, undone_append nodes more)

pub undone_more : (nodes : List Node) (k : ℕ) (d : Node) → k < length nodes → undone_count (take (k + 1) nodes) ≡ undone_count (take k nodes) + undone_count (get_or nodes k d ∷ [])
undone_more nodes k d lt = ap undone_count (take_more nodes k d lt) ∙ undone_append (take k nodes) (get_or nodes k d ∷ [])

pub undone_one : (node : Node) → undone_count (node ∷ []) ≤ 1
undone_one (Split unit cut seen) = omega arith
undone_one (Leaf vector scale seen) = omega arith
undone_one (Over resource) = omega arith
undone_one Undone = omega arith

pub all_at : {A : Type 0} (P : A → Type 0) (xs : List A) (k : ℕ) (d : A) → k < length xs → AllByRecursion P xs → P (get_or xs k d)
all_at P [] k d lt all = absurd (omega arith)
all_at P (x ∷ xs) zero d lt all = all.0
all_at P (x ∷ xs) (suc k) d lt all = all_at P xs k d (omega arith) all.1
