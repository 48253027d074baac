-- The parts of a certificate are read line by line: each reader stops where its line is not in the form.
use Rattle.std.proofs.Common.{ℕ, zero, suc, ◌^◌, ◌<◌, Bool, cond, List, [], ◌∷◌, ◌++◌, Option, Some, None, refl, Ok, arith, codes, pos}
use Rattle.std.specs.Prelude.{IfSome, is_some, option_to_list}
use Rattle.choice_problem.specs.declared.vectors.Price.{Price}
use Rattle.choice_problem.specs.declared.nodes.Node.TheVariants.{Over}
use Rattle.cost_fixing.specs.declared.fixings.Fixing.{Fixing}
use Rattle.cert_format.specs.declared.cert.Mark.{Mark}
use Rattle.cert_format.specs.declared.cert.Mark.TheVariants.{Optimal, NotTried}
use Rattle.cert_format.specs.declared.rows.FixLine.{FixLine}
use Rattle.cert_format.specs.declared.rows.FixLine.TheVariants.{Never, Maybe, Always}
use Rattle.cert_format.specs.declared.rows.TreeLine.{TreeLine}
use Rattle.cert_format.specs.declared.rows.TreeLine.TheVariants.{Fixed, Counted}
use Rattle.cert_format.specs.Private.Words.{most_small, most_large}
use Rattle.cert_format.specs.Private.Spots.{◌>>=◌, line_by}
use Rattle.cert_format.specs.Private.Rows.{count_row, choices_row, alternative_row, price_row, tree_row, fix_line, node_row, mark_row, version_row, end_row, extra_row, tried_row}
use Rattle.cert_format.specs.Private.Reading.{many, alternative_at, alternatives_at, choice_at, price_at, one_vector, vector_at, vectors_at, optional_at, nodes_at, after_head, head_at, tree_at, proof_at, stage_at, ended, cert_at, extra_at}
use Rattle.cert_format.specs.Spelling.{not_tried, count_words, choices_words, alternative_words, price_words, node_words, stage_words, is_tried, has_bound}
use Rattle.cert_format.proofs.RowLemmas.{count_again, choices_take, choices_again, alternative_again, price_row_again, mark_again, version_again, end_line_again}
use Rattle.cert_format.proofs.FixingLemmas.{head_words, HeadFits, MayBegin, head_again}
use Rattle.cert_format.proofs.NodeRowLemmas.{node_again}
use Rattle.cert_format.proofs.BlockLemmas.{line_takes}
use Rattle.cert_format.proofs.ExtraLemmas.{extra_again, tried_row_again}
use Rattle.cert_format.proofs.StopLemmas.{Steady, steady_done, steady_line, Post, steady_then_by, steady_then, steady_cond, steady_many}
use Rattle.cert_format.proofs.WholeLemmas.{Whole, whole_ended, whole_then}

steady_count : (tag : List ℕ) (most : ℕ) → Steady (line_by (count_row tag most))
steady_count tag most = steady_line (count_row tag most) (count_words tag 0) 0 (count_again tag most 0 (omega arith) (omega arith))

-- ---- choices

steady_alternative : (unit : ℕ) → unit < 4294967296 → Steady (alternative_at unit)
steady_alternative unit small = steady_line (alternative_row unit) (alternative_words unit 0) 0 (alternative_again unit 0 (omega arith) (omega arith))

abbrev IsSmallCount : Option ℕ → Type 0
IsSmallCount n = IfSome n (λ k. k < 2 ^ 32)

few_choices : Post (line_by choices_row) IsSmallCount
few_choices s n q e =
    let t = line_takes choices_row s (n, q) e in
    (choices_take t.words n t.reads).1

steady_alternatives : (n : Option ℕ) → IsSmallCount n → Steady (alternatives_at n)
unfolding alternatives_at
steady_alternatives None small = steady_done None
steady_alternatives (Some n) small =
    steady_then (many alternative_at 0 n) (λ alts q. Ok (Some alts, q)) (steady_many alternative_at 4294967296 steady_alternative n 0 (omega (arith, small))) (λ alts. steady_done (Some alts))

steady_choice : Steady choice_at
unfolding choice_at
steady_choice = steady_then_by IsSmallCount (line_by choices_row) alternatives_at (steady_line choices_row (choices_words None) None (choices_again None tt)) few_choices steady_alternatives

-- ---- lines that may be left out

steady_optional : (tag : List ℕ) (wanted : Bool) → Steady (optional_at tag wanted)
unfolding optional_at
steady_optional tag wanted =
    steady_cond wanted (λ s. line_by (count_row tag most_large) s >>= λ n. Ok (Some n.0, n.1)) (λ s. Ok (None, s))
    (steady_then (line_by (count_row tag most_large)) (λ n q. Ok (Some n, q)) (steady_count tag most_large) (λ n. steady_done (Some n))) (steady_done None)

-- ---- vectors

abbrev free : Price
free = record { resource = 0; price = pos 0 }

steady_price : (i : ℕ) → Steady (price_at i)
steady_price i = steady_line price_row (price_words free) free (price_row_again free (let small : 0 < 2 ^ 32 = omega arith in small, let long : 0 < 2 ^ 63 = omega arith in long))

steady_vector : Steady one_vector
unfolding one_vector
steady_vector = steady_then (line_by (count_row (codes "VECTOR") most_small)) (λ n q. many price_at 0 n q) (steady_count (codes "VECTOR") most_small) (λ n. steady_many price_at n (λ i lt. steady_price i) n 0 (omega arith))

steady_vectors : Steady vectors_at
unfolding vectors_at
steady_vectors = steady_then (line_by (count_row (codes "VECTORS") 64)) (λ n q. many vector_at 0 n q) (steady_count (codes "VECTORS") 64) (λ n. steady_many vector_at n (λ i lt. steady_vector) n 0 (omega arith))

-- ---- trees

steady_node : (version : ℕ) → Steady (line_by (node_row version))
steady_node version = steady_line (node_row version) (node_words (Over 0) None) (Over 0, None) (node_again version (Over 0) None (let small : 0 < 2 ^ 32 = omega arith in small) refl)

steady_nodes : (version n : ℕ) → Steady (nodes_at version n)
unfolding nodes_at
steady_nodes version zero = steady_done ([], [])
steady_nodes version (suc n) =
    steady_then (line_by (node_row version)) (λ first q. nodes_at version n q >>= λ others. Ok ((first.0 ∷ others.0.0, option_to_list first.1 ++ others.0.1), others.1)) (steady_node version)
    (λ first. steady_then (nodes_at version n) (λ others q. Ok ((first.0 ∷ others.0, option_to_list first.1 ++ others.1), q)) (steady_nodes version n) (λ others. steady_done (first.0 ∷ others.0, option_to_list first.1 ++ others.1)))

abbrev no_fixing : Fixing
no_fixing = record { vector = 0; scale = 0; cost = 0 }

-- a line that a tree may begin with
abbrev a_head : FixLine → TreeLine
a_head Never = Counted 0
a_head Maybe = Counted 0
a_head Always = Fixed no_fixing

a_head_fits : (fix : FixLine) → HeadFits (a_head fix)
a_head_fits Never = let small : 0 < 2 ^ 32 = omega arith in small
a_head_fits Maybe = let small : 0 < 2 ^ 32 = omega arith in small
a_head_fits Always =
    let small : 0 < 2 ^ 32 = omega arith in
    let long : 0 < 2 ^ 64 = omega arith in
    (small, long, long)

a_head_may : (fix : FixLine) → MayBegin fix (a_head fix)
a_head_may Never = tt
a_head_may Maybe = tt
a_head_may Always = tt

steady_head_line : (fix : FixLine) → Steady (line_by (tree_row fix))
steady_head_line fix = steady_line (tree_row fix) (head_words (a_head fix)) (a_head fix) (head_again fix (a_head fix) (a_head_fits fix) (a_head_may fix))

steady_after : (line : TreeLine) → Steady (after_head line)
unfolding after_head
steady_after (Counted n) = steady_done (None, n)
steady_after (Fixed f) =
    steady_then (line_by (count_row (codes "TREE") most_small)) (λ n q. Ok ((Some f, n), q)) (steady_count (codes "TREE") most_small) (λ n. steady_done (Some f, n))

steady_head : (fix : FixLine) → Steady (head_at fix)
unfolding head_at
steady_head fix = steady_then (line_by (tree_row fix)) after_head (steady_head_line fix) steady_after

steady_tree : (version : ℕ) (fix : FixLine) → Steady (tree_at version fix)
unfolding tree_at
steady_tree version fix =
    steady_then (head_at fix) (λ head q. nodes_at version head.1 q >>= λ nodes. Ok ((head.0, nodes.0), nodes.1)) (steady_head fix)
    (λ head. steady_then (nodes_at version head.1) (λ nodes q. Ok ((head.0, nodes), q)) (steady_nodes version head.1) (λ nodes. steady_done (head.0, nodes)))

-- ---- stages

steady_proof : (version : ℕ) (fix : FixLine) (mark : Mark) → Steady (proof_at version fix mark)
unfolding proof_at
steady_proof version fix mark =
    steady_then choice_at
    (λ choice p. optional_at (codes "COST") (is_some choice) p >>= λ cost. optional_at (codes "BOUND") (has_bound version mark) cost.1 >>= λ bound. vectors_at bound.1 >>= λ vectors. tree_at version fix vectors.1 >>= λ tree. Ok (record { mark = mark; choice = choice; cost = cost.0; bound = bound.0; vectors = vectors.0; fixing = tree.0.0; tree = tree.0.1.0; floors = tree.0.1.1 }, tree.1))
    steady_choice
    (λ choice. steady_then (optional_at (codes "COST") (is_some choice))
    (λ cost p. optional_at (codes "BOUND") (has_bound version mark) p >>= λ bound. vectors_at bound.1 >>= λ vectors. tree_at version fix vectors.1 >>= λ tree. Ok (record { mark = mark; choice = choice; cost = cost; bound = bound.0; vectors = vectors.0; fixing = tree.0.0; tree = tree.0.1.0; floors = tree.0.1.1 }, tree.1))
    (steady_optional (codes "COST") (is_some choice))
    (λ cost. steady_then (optional_at (codes "BOUND") (has_bound version mark))
    (λ bound p. vectors_at p >>= λ vectors. tree_at version fix vectors.1 >>= λ tree. Ok (record { mark = mark; choice = choice; cost = cost; bound = bound; vectors = vectors.0; fixing = tree.0.0; tree = tree.0.1.0; floors = tree.0.1.1 }, tree.1))
    (steady_optional (codes "BOUND") (has_bound version mark))
    (λ bound. steady_then vectors_at
    (λ vectors p. tree_at version fix p >>= λ tree. Ok (record { mark = mark; choice = choice; cost = cost; bound = bound; vectors = vectors; fixing = tree.0.0; tree = tree.0.1.0; floors = tree.0.1.1 }, tree.1))
    steady_vectors
    (λ vectors. steady_then (tree_at version fix)
    (λ tree p. Ok (record { mark = mark; choice = choice; cost = cost; bound = bound; vectors = vectors; fixing = tree.0; tree = tree.1.0; floors = tree.1.1 }, p))
    (steady_tree version fix)
    (λ tree. steady_done (record { mark = mark; choice = choice; cost = cost; bound = bound; vectors = vectors; fixing = tree.0; tree = tree.1.0; floors = tree.1.1 }))))))

steady_stage : (version stage : ℕ) → stage < 2 ^ 32 → Steady (stage_at version stage)
unfolding stage_at
steady_stage version stage small =
    steady_then (line_by (mark_row stage)) (λ mark p. cond (is_tried mark) (proof_at version (fix_line version) mark p) (Ok (not_tried mark, p)))
    (steady_line (mark_row stage) (stage_words stage NotTried) NotTried (mark_again stage NotTried small))
    (λ mark. steady_cond (is_tried mark) (proof_at version (fix_line version) mark) (λ p. Ok (not_tried mark, p)) (steady_proof version (fix_line version) mark) (steady_done (not_tried mark)))

steady_stages : (version : ℕ) → Steady (many (stage_at version) 1 4)
steady_stages version = steady_many (stage_at version) 5 (λ i lt. steady_stage version i (omega arith)) 4 1 (omega arith)

-- ---- whole texts

steady_end : Steady (line_by end_row)
steady_end = steady_line end_row (codes "END" ∷ []) 0 end_line_again

whole_end : {A : Type 0} (x : A) → Whole (λ s. line_by end_row s >>= λ last. ended x last.1)
whole_end x = whole_then (line_by end_row) (λ last p. ended x p) steady_end (λ last. whole_ended x)

pub whole_cert : Whole cert_at
unfolding cert_at
whole_cert =
    whole_then (line_by version_row)
    (λ version p. many (stage_at version) 1 4 p >>= λ stages. line_by end_row stages.1 >>= λ last. ended (record { version = version; stages = stages.0 }) last.1)
    (steady_line version_row (count_words (codes "CERT") 1) 1 (version_again 1 (omega arith, omega arith)))
    (λ version. whole_then (many (stage_at version) 1 4)
    (λ stages p. line_by end_row p >>= λ last. ended (record { version = version; stages = stages }) last.1)
    (steady_stages version) (λ stages. whole_end (record { version = version; stages = stages })))

pub whole_extra : Whole extra_at
unfolding extra_at
whole_extra =
    whole_then (line_by extra_row)
    (λ head p. line_by tried_row p >>= λ mark. proof_at 3 head mark.0 mark.1 >>= λ stage. line_by end_row stage.1 >>= λ last. ended stage.0 last.1)
    (steady_line extra_row (codes "EXTRA" ∷ codes "1" ∷ []) Never (extra_again None))
    (λ head. whole_then (line_by tried_row)
    (λ mark p. proof_at 3 head mark p >>= λ stage. line_by end_row stage.1 >>= λ last. ended stage.0 last.1)
    (steady_line tried_row (stage_words 5 Optimal) Optimal (tried_row_again Optimal refl))
    (λ mark. whole_then (proof_at 3 head mark) (λ stage p. line_by end_row p >>= λ last. ended stage last.1) (steady_proof 3 head mark) (λ stage. whole_end stage)))
