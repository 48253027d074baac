use Rattle.std.proofs.Common.{length, codes, ◌∷◌, ◌++◌}
use Rattle.std.proofs.lemmas.Result.{on_ok_weaker}
use Rattle.cert_format.specs.Spelling.{choice_lines, optional_lines, fixing_lines, count_words, numbered, vector_lines, node_lines}
use Rattle.cert_format.proofs.WriteLemmas.{five}
use Rattle.cert_format.proofs.printing.put_proof.Goals as goal

pub returns-clause-text : goal.returns-clause-text
returns-clause-text c =
    let s = c.args.stage.now in
    on_ok_weaker c.put_fixed_tree.result (λ last. five (choice_lines s.choice) (optional_lines (codes "COST") s.cost) (optional_lines (codes "BOUND") s.bound) (count_words (codes "VECTORS") (length s.vectors) ∷ numbered vector_lines 0 s.vectors) (fixing_lines s.fixing ++ (count_words (codes "TREE") (length s.tree) ∷ node_lines s.tree s.floors))
    c.args.out.now.items c.put_choice.new.out.items c.put_optional.new.out.items c.put_optional-2.new.out.items c.put_vector_list.new.out.items c.put_fixed_tree.new.out.items
    c.in_ok-put_choice.ensures.text c.in_ok-put_optional.ensures.text c.in_ok-put_optional-2.ensures.text c.in_ok-put_vector_list.ensures.text last) c.put_fixed_tree.ensures.text

pub returns-clause-range : goal.returns-clause-range
returns-clause-range c =
    on_ok_weaker c.put_fixed_tree.result (λ last. record { choice = c.in_ok-put_choice.ensures.range; cost = c.in_ok-put_optional.ensures.range; bound = c.in_ok-put_optional-2.ensures.range; vectors = c.in_ok-put_vector_list.ensures.range; fixing = last.0; nodes = last.1; floors = last.2 }) c.put_fixed_tree.ensures.range
