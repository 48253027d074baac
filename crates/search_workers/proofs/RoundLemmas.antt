-- Workers joined, and a round's end.
use Rattle.std.proofs.Common.{◌≡◌, ℕ, ◌<◌, ◌≤◌, Bool, true, false, ◌||◌, List, [], ◌∷◌, ◌++◌, length, refl, ◌∙◌, ap, Option, inl, inr}
use Rattle.std.specs.Prelude.{slice_index_or}
use Rattle.std.proofs.lemmas.List.Elements.{All-append}
use Rattle.choice_problem.specs.Trees.{node_count}
use Rattle.incumbent_word.specs.declared.view.View.{View}
use Rattle.incumbent_word.specs.Core.{lesser}
use Rattle.incumbent_word.specs.Calls.{both_views}
use Rattle.search_workers.specs.declared.searchers.Done.{Done}
use Rattle.search_workers.specs.Settings.{Setting, AreGrown}
use Rattle.search_workers.specs.Work.{lesser_choice}
use Rattle.search_workers.specs.Searchers.{made, pieces_of, IsSearcher}
use Rattle.search_workers.proofs.WorkLemmas.{work_joined}
use Rattle.search_workers.proofs.PieceLemmas.{made-append}

pub or_left : (a b : Bool) → a ≡ true → (a || b) ≡ true
or_left a b e = rw e refl

or_right : (a b : Bool) → b ≡ true → (a || b) ≡ true
or_right true b e = refl
or_right false b e = e

pub pieces-append : (ds es : List Done) → pieces_of (ds ++ es) ≡ pieces_of ds ++ pieces_of es
pieces-append [] es = refl
pieces-append (d ∷ ds) es = ap (λ l. d.piece ∷ l) (pieces-append ds es)

pub searcher_joined : (s : Setting) (pieces : List (List (ℕ × ℕ))) (v w u : View) (a b c : Option ℕ)
    (x y : Option (List ℕ)) (ds es : List Done) → IsSearcher s pieces v a x ds → IsSearcher s pieces w b y es →
    u ≡ both_views v w u.log → c ≡ lesser a b → IsSearcher s pieces u c (lesser_choice a b x y) (ds ++ es)
searcher_joined s pieces v w u a b c x y ds es h k is least = rw is (record {
  work = rw (made-append ds es, h.cost_is, k.cost_is) (work_joined s v.worker w.worker x y (made ds) (made es) h.work k.work);
  cost_is = least ∙ (ap (λ z. lesser z b) h.cost_is ∙ ap (λ z. lesser v.worker.best z) k.cost_is);
  there = All-append (λ (d : Done). d.piece < length pieces) ds es h.there k.there;
  trees = All-append (λ (d : Done). AreGrown s (slice_index_or pieces d.piece [] ∷ []) d.tree.items) ds es h.trees k.trees;
  progress = elim h.progress [
    | inl m ↦ inl (or_left v.no_number_left w.no_number_left m)
    | inr all ↦ elim k.progress [
      | inl m ↦ inl (or_right v.no_number_left w.no_number_left m)
      | inr more ↦ inr (All-append (λ (d : Done). 1 ≤ node_count d.tree.items) ds es all more)
    ]
  ];
})
