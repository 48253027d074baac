use Rattle.std.proofs.Common.{rules, arith, ap, inl, inr, List, ℕ, sym, ◌≡◌, ◌++◌, ◌∷◌, [], true, reverse, length, replicate, ◌∙◌}
use Rattle.std.specs.Prelude.{slice_index_or}
use Rattle.std.proofs.lemmas.List.{get_or_default}
use Rattle.choice_problem.specs.declared.nodes.Node.TheVariants.{Undone}
use Rattle.search_workers.specs.declared.searchers.Done.{Done}
use Rattle.search_workers.specs.Searchers.{made, HasProgress, IsBegun}
use Rattle.search_workers.specs.Work.{IsWork}
use Rattle.search_workers.proofs.PieceLemmas.{piece_done}
use Rattle.search_workers.proofs.searchers.Searcher.search_piece.Goals as goal

pub returns-clause-searcher : goal.returns-clause-searcher
returns-clause-searcher g c =
    let d : Done = record { piece = c.args.piece; tree = c.in_ok-tree.tree } in
    let pushed : c.push.new.self.items ≡ c.args.self.now.done.items ++ d ∷ [] = search rules in
    let work : IsWork c.args.task.now c.visit_on.new.self.seat.view.worker c.visit_on.new.self.best (made c.args.self.now.done.items ++ c.visit_on.new.growth.nodes.items) = search rules in
    let there : slice_index_or c.args.pieces.now c.args.piece [] ≡ c.index-pieces-piece.result =
    sym (c.index-pieces-piece.is ∙ get_or_default c.args.pieces.now c.args.piece c.index-pieces-piece.result [] c.requires.piece) in
    let walk : IsBegun c.args.task.now (slice_index_or c.args.pieces.now c.args.piece []) c.visit_on.new.growth.nodes.items (reverse c.visit_on.new.growth.pending.items) = rw there c.in_ok-visit_on.ensures.tree in
    let tree : c.in_ok-tree.tree.items ≡ c.visit_on.new.growth.nodes.items ++ replicate (length c.visit_on.new.growth.pending.items) Undone = search rules in
    let begun : HasProgress c.visit_on.new.self.seat.view c.visit_on.new.growth.nodes.items = search rules in
    let marks : c.args.self.now.seat.view.no_number_left ≡ true → c.visit_on.new.self.seat.view.no_number_left ≡ true =
    λ m. c.in_ok-visit_on.ensures.marks.0 (c.in_ok-step.ensures.marks.0 m) in
    rw pushed (piece_done c.args.task.now c.args.pieces.now c.args.self.now.seat.view c.visit_on.new.self.seat.view c.args.self.now.cost
    c.visit_on.new.self.cost c.args.self.now.best c.visit_on.new.self.best c.args.self.now.done.items d c.visit_on.new.growth.nodes.items
    c.visit_on.new.growth.pending.items c.requires.searcher work c.in_ok-visit_on.ensures.cost walk tree c.requires.piece begun marks)

pub returns-in_err-step-clause-share : goal.returns-in_err-step-clause-share
returns-in_err-step-clause-share g c = c.in_err-step.ensures.share

pub returns-in_err-visit_on-clause-share : goal.returns-in_err-visit_on-clause-share
returns-in_err-visit_on-clause-share g c = c.in_err-visit_on.ensures.share ∙ c.in_ok-step.ensures.share

pub returns-in_err-tree-clause-share : goal.returns-in_err-tree-clause-share
returns-in_err-tree-clause-share g c = c.in_ok-visit_on.ensures.share ∙ c.in_ok-step.ensures.share

pub returns-in_err-push-clause-share : goal.returns-in_err-push-clause-share
returns-in_err-push-clause-share g c = c.in_ok-visit_on.ensures.share ∙ c.in_ok-step.ensures.share

pub returns-clause-share : goal.returns-clause-share
returns-clause-share g c = c.in_ok-visit_on.ensures.share ∙ c.in_ok-step.ensures.share

pub returns-in_err-step-clause-same : goal.returns-in_err-step-clause-same
returns-in_err-step-clause-same g c = c.in_err-step.ensures.pieces

pub returns-in_err-visit_on-clause-same : goal.returns-in_err-visit_on-clause-same
returns-in_err-visit_on-clause-same g c = c.in_err-visit_on.ensures.pieces ∙ c.in_ok-step.ensures.pieces

pub returns-in_err-tree-clause-same : goal.returns-in_err-tree-clause-same
returns-in_err-tree-clause-same g c = c.in_ok-visit_on.ensures.pieces ∙ c.in_ok-step.ensures.pieces

pub returns-in_err-push-clause-same : goal.returns-in_err-push-clause-same
returns-in_err-push-clause-same g c = c.in_ok-visit_on.ensures.pieces ∙ c.in_ok-step.ensures.pieces

pub returns-clause-same : goal.returns-clause-same
returns-clause-same g c = c.in_ok-visit_on.ensures.pieces ∙ c.in_ok-step.ensures.pieces

pub visit_on-requires-clause-begun : goal.visit_on-requires-clause-begun
visit_on-requires-clause-begun g c =
    let begun : HasProgress c.step.new.self.seat.view c.step.new.growth.nodes.items = elim c.in_ok-step.ensures.begun [
      | inl h ↦ h
      | inr none ↦ absurd (omega (arith, ap (λ (l : List (List (ℕ × ℕ))). length l) none, ap (λ (l : List (List (ℕ × ℕ))). length l) c.in_ok-growth.ensures.pending))
    ] in
    λ κs lives. begun
