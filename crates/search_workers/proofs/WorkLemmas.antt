-- What workers did, joined, and a least cost that falls.
use Rattle.std.proofs.Common.{◌≡◌, ℕ, ◌+◌, min, Bool, true, false, List, [], ◌∷◌, ◌++◌, length, get_or, refl, ◌∙◌, ap, arith, Option, Some, None, ◌⊎◌, inl, inr, length-append}
use Rattle.std.specs.Prelude.{All, Contains, nat_lt, if◌then◌else◌}
use Rattle.std.proofs.lemmas.List.Elements.{All-push, All-append, All-nil, All-contains, All-contains_itself, Contains-append_left, Contains-append_right, Contains-push}
use Rattle.choice_problem.specs.declared.nodes.Node.{Node}
use Rattle.choice_problem.specs.declared.nodes.Node.TheVariants.{Split, Leaf, Over, Undone}
use Rattle.choice_problem.specs.Problems.{ProblemView}
use Rattle.choice_problem.specs.Bounds.{whole_of}
use Rattle.choice_problem.specs.Choices.{IsFeasible, choice_cost}
use Rattle.choice_problem.specs.Trees.{node_count}
use Rattle.search_workers.proofs.NodeLemmas.{node_count-append}
use Rattle.choice_problem.specs.Driven.{IsSeenBetween, RecordsBetween, Records}
use Rattle.search_workers.specs.Outcomes.{IsBestFound}
use Rattle.search_workers.specs.Settings.{Setting, AreGrown}
use Rattle.incumbent_word.specs.declared.view.Worker.{Worker}
use Rattle.incumbent_word.specs.Core.{AtMost, lesser, joined, newcomer}
use Rattle.search_workers.proofs.CostLemmas.{lesser_left, lesser_right, lesser_either}
use Rattle.search_workers.specs.Work.{IsRecorded, IsWork, IsMadeOf, IsSoFar, lesser_choice}

module _ (greedy : Option ℕ) where
  pub seen_falls : (cost least seen : Option ℕ) → AtMost least cost → IsSeenBetween cost greedy seen → IsSeenBetween least greedy seen
  seen_falls cost least None a h = h
  seen_falls None least (Some s) a h = absurd h
  seen_falls (Some c) None (Some s) a h = absurd a
  seen_falls (Some c) (Some l) (Some s) a h = bounded greedy h
    where
      bounded : (g : Option ℕ) → IsSeenBetween (Some c) g (Some s) → IsSeenBetween (Some l) g (Some s)
      bounded None k = omega (arith, a, k)
      bounded (Some g) k = (omega (arith, a, k.0), k.1)

  -- the cost itself, as it falls
  pub now_falls : (cost least : Option ℕ) → AtMost least cost → IsSeenBetween cost greedy cost → IsSeenBetween least greedy least
  now_falls None None a h = h
  now_falls None (Some l) a h = rw h (omega arith)
  now_falls (Some c) None a h = absurd a
  now_falls (Some c) (Some l) a h = bounded greedy h
    where
      bounded : (g : Option ℕ) → IsSeenBetween (Some c) g (Some c) → IsSeenBetween (Some l) g (Some l)
      bounded None k = omega arith
      bounded (Some g) k = (omega arith, omega (arith, a, k.1))

  pub record_falls : (cost least : Option ℕ) (node : Node) → AtMost least cost → RecordsBetween cost greedy node → RecordsBetween least greedy node
  record_falls cost least (Split unit cut seen) a h = seen_falls cost least seen a h
  record_falls cost least (Leaf vector scale seen) a h = seen_falls cost least seen a h
  record_falls cost least (Over resource) a h = tt
  record_falls cost least Undone a h = tt

  pub records_fall : (cost least : Option ℕ) (nodes : List Node) → AtMost least cost → All (RecordsBetween cost greedy) nodes →
      All (RecordsBetween least greedy) nodes
  records_fall cost least nodes a h = λ k d l. record_falls cost least (get_or nodes k d) a (h k d l)

-- the cheaper of two choices
pub lesser_found : (p : ProblemView) (a b : Option ℕ) (x y : Option (List ℕ)) → IsBestFound p a x → IsBestFound p b y →
    IsBestFound p (lesser a b) (lesser_choice a b x y)
lesser_found p None None x y h k = h
lesser_found p None (Some b) x y h k = k
lesser_found p (Some a) None x y h k = h
lesser_found p (Some a) (Some b) x y h k = picked (nat_lt b a) refl
  where
    picked : (yes : Bool) → nat_lt b a ≡ yes → IsBestFound p (Some (min a b)) (if yes then y else x)
    picked true e = let m : min a b ≡ b = grind arith in rw m k
    picked false e = let m : min a b ≡ a = grind arith in rw m h

pub recorded_left : (cost : Option ℕ) (nodes more : List Node) → IsRecorded cost nodes → IsRecorded cost (nodes ++ more)
recorded_left None nodes more h = tt
recorded_left (Some c) nodes more h = (h.0, Contains-append_left nodes more h.0 h.1, h.2)

pub recorded_right : (cost : Option ℕ) (nodes more : List Node) → IsRecorded cost more → IsRecorded cost (nodes ++ more)
recorded_right None nodes more h = tt
recorded_right (Some c) nodes more h = (h.0, Contains-append_right nodes more h.0 h.1, h.2)

pub recorded_both : (a b : Option ℕ) (nodes more : List Node) → IsRecorded a nodes → IsRecorded b more → IsRecorded (lesser a b) (nodes ++ more)
recorded_both a b nodes more h k = elim (lesser_either a b) [
  | inl e ↦ rw e (recorded_left a nodes more h)
  | inr e ↦ rw e (recorded_right b nodes more k)
]

module _ (s : Setting) where
  -- a worker that has seen the start cost and done nothing
  pub work_none : (seen : Option ℕ) → IsSeenBetween seen s.greedy seen → IsWork s (newcomer seen) None []
  work_none seen h = record { found = tt; recorded = tt; now = h; between = All-nil (RecordsBetween seen s.greedy); numbers = refl }

  -- the work of two workers is that of the joined one
  pub work_joined : (w v : Worker) (x y : Option (List ℕ)) (nodes more : List Node) → IsWork s w x nodes → IsWork s v y more →
      IsWork s (joined w v) (lesser_choice w.best v.best x y) (nodes ++ more)
  work_joined w v x y nodes more h k = record {
    found = lesser_found s.problem w.best v.best x y h.found k.found;
    recorded = recorded_both w.best v.best nodes more h.recorded k.recorded;
    now = now_falls s.greedy w.seen (lesser w.seen v.seen) (lesser_left w.seen v.seen) h.now;
    between = All-append (RecordsBetween (lesser w.seen v.seen) s.greedy) nodes more
        (records_fall s.greedy w.seen (lesser w.seen v.seen) nodes (lesser_left w.seen v.seen) h.between)
        (records_fall s.greedy v.seen (lesser w.seen v.seen) more (lesser_right w.seen v.seen) k.between);
    numbers = length-append w.numbers v.numbers ∙ omega (arith, h.numbers, k.numbers, node_count-append nodes more);
  }

  -- one number, a look at the least cost, and a node that records no less than was seen
  pub work_node : (w v : Worker) (x : Option (List ℕ)) (nodes : List Node) (node : Node) → IsWork s w x nodes →
      v.best ≡ w.best → AtMost v.seen w.seen → length v.numbers ≡ length w.numbers + 1 → RecordsBetween v.seen s.greedy node →
      node_count (node ∷ []) ≡ 1 → IsWork s v x (nodes ++ node ∷ [])
  work_node w v x nodes node h same fell more between one = record {
    found = rw same h.found;
    recorded = rw same (recorded_left w.best nodes (node ∷ []) h.recorded);
    now = now_falls s.greedy w.seen v.seen fell h.now;
    between = All-push (RecordsBetween v.seen s.greedy) nodes node (records_fall s.greedy w.seen v.seen nodes fell h.between) between;
    numbers = omega (arith, more, h.numbers, one, node_count-append nodes (node ∷ []));
  }

  -- a choice found, and its cost posted
  pub work_found : (w v : Worker) (x : Option (List ℕ)) (nodes : List Node) (node : Node) (y : List ℕ) → IsWork s w x nodes → IsFeasible s.problem y →
      v.best ≡ lesser w.best (Some (choice_cost s.problem y)) → AtMost v.seen w.seen → length v.numbers ≡ length w.numbers + 1 →
      RecordsBetween v.seen s.greedy node → Records (Some (choice_cost s.problem y)) node → node_count (node ∷ []) ≡ 1 →
      IsWork s v (lesser_choice w.best (Some (choice_cost s.problem y)) x (Some y)) (nodes ++ node ∷ [])
  work_found w v x nodes node y h f best fell more between records one = record {
    found = rw best (lesser_found s.problem w.best (Some (choice_cost s.problem y)) x (Some y) h.found (f, refl));
    recorded = rw best (recorded_both w.best (Some (choice_cost s.problem y)) nodes (node ∷ []) h.recorded (node, Contains-push [] node, records));
    now = now_falls s.greedy w.seen v.seen fell h.now;
    between = All-push (RecordsBetween v.seen s.greedy) nodes node (records_fall s.greedy w.seen v.seen nodes fell h.between) between;
    numbers = omega (arith, more, h.numbers, one, node_count-append nodes (node ∷ []));
  }

-- a fact of each node of the list, and of an undone node, is one of each node of the tree
pub made-all : (P : Node → Type 0) (tree nodes : List Node) → IsMadeOf tree nodes → P Undone → All P nodes → All P tree
made-all P tree nodes m u h = λ k d l. elim (m.from_list (get_or tree k d) (All-contains_itself tree k d l)) [
  | inl e ↦ rw e u
  | inr c ↦ All-contains P nodes (get_or tree k d) h c
]

undone_none : (cost : Option ℕ) (node : Node) → node ≡ Undone → Records cost node → ⊥
undone_none cost (Split unit cut seen) e r = absurd (cc e)
undone_none cost (Leaf vector scale seen) e r = absurd (cc e)
undone_none cost (Over resource) e r = r
undone_none cost Undone e r = r

pub made-reached : (cost : Option ℕ) (tree nodes : List Node) → IsMadeOf tree nodes → ((node : Node) × Contains nodes node × Records cost node) →
    (node : Node) × Contains tree node × Records cost node
made-reached cost tree nodes m h = elim (m.in_tree h.0 h.1) [
  | inl e ↦ absurd (undone_none cost h.0 e h.2)
  | inr c ↦ (h.0, c, h.2)
]

-- a cost reached before a board's end, or at it
module _ (s : Setting) (start least : Option ℕ) (best best' : Option (List ℕ)) (w : Worker) (before made tree : List Node)
    (h : IsSoFar s start best before) (k : IsWork s w best' made) (is : least ≡ lesser start w.best) (under : AtMost least w.seen)
    (shape : AreGrown s (whole_of s.problem ∷ []) tree) (m : IsMadeOf tree (before ++ made)) where
  fell : AtMost least start
  fell = rw is (lesser_left start w.best)

  reached_before : least ≡ start → (least ≡ s.greedy) ⊎ ((node : Node) × Contains tree node × Records least node)
  reached_before e = elim h.driven.reached [
    | inl g ↦ inl (e ∙ g)
    | inr r ↦ inr (made-reached least tree (before ++ made) m (r.0, Contains-append_left before made r.0 r.1, rw e r.2))
  ]

  reached_now : (best_cost : Option ℕ) → w.best ≡ best_cost → IsRecorded best_cost made → least ≡ best_cost → (least ≡ s.greedy) ⊎ ((node : Node) × Contains tree node × Records least node)
  reached_now None b r e = reached_before (is ∙ (ap (lesser start) b ∙ none_right start))
    where
      none_right : (a : Option ℕ) → lesser a None ≡ a
      none_right None = refl
      none_right (Some a) = refl
  reached_now (Some c) b r e = inr (made-reached least tree (before ++ made) m (r.0, Contains-append_right before made r.0 r.1, rw e r.2))

  -- the tree after a board is driven for the least cost at its end
  pub board_ends : IsSoFar s least (lesser_choice start w.best best best') tree
  board_ends = record {
    found = rw is (lesser_found s.problem start w.best best best' h.found k.found);
    now = now_falls s.greedy start least fell h.now;
    driven = record {
      trees = shape;
      between = made-all (RecordsBetween least s.greedy) tree (before ++ made) m tt (All-append (RecordsBetween least s.greedy) before made
          (records_fall s.greedy start least before fell h.driven.between) (records_fall s.greedy w.seen least made under k.between));
      reached = elim (lesser_either start w.best) [
        | inl e ↦ reached_before (is ∙ e)
        | inr e ↦ reached_now w.best refl k.recorded (is ∙ e)
      ];
    };
  }

  pub board_count : node_count tree ≡ node_count before + length w.numbers
  board_count = omega (arith, m.count, node_count-append before made, k.numbers)
