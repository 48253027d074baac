-- What every run of the search keeps.
use Rattle.std.proofs.Common.{◌≡◌, ◌≢◌, ℕ, ◌+◌, ◌<◌, ◌≤◌, min, eqb, cond, Bool, List, [], ◌∷◌, ◌++◌, set, Option, Some, None, ◌⊎◌, inl, inr, ⊎_elim, refl, ap, sym, ◌∙◌, subst, eq-eqb, ne_eqb, lt_of_not-le, arith}
use mathlib.Core.Logic.{dite}
use native.Mathlib.Decide.{dec_le, ℕ_discrete}
use Rattle.incumbent_word.specs.declared.view.Terms.{Terms}
use Rattle.incumbent_word.specs.declared.view.Worker.{Worker}
use Rattle.std.specs.List.{sum_by, count_by}
use Rattle.std.proofs.lemmas.List.Sums.{sum_by-append}
use Rattle.incumbent_word.specs.declared.view.Event.{Event}
use Rattle.incumbent_word.specs.declared.view.Event.TheVariants.{Claim, Take, Post, Read, Split, Join}
use Rattle.incumbent_word.specs.Core.{lesser, AtMost, Core, opening, newcomer, worker_at, Has, Claims, Takes, after_post, joined, Steps, Runs, least_posted, of_worker, piece_holders, number_holders, EachOnce, IsLawful}
use Rattle.incumbent_word.proofs.Costs.{at_most_refl, at_most_none, at_most_trans, at_most_both, lesser_left, lesser_right, lesser_greatest, lesser_none, lesser_assoc, lesser_either}
use Rattle.incumbent_word.proofs.Workers.{at_here, at_else, at_longer, total_set, count_append, Each, each_set, each_gone, each_snoc, some_same}

pub runs_append : (t : Terms) (a b c : Core) (xs ys : List Event) → Runs t a xs b → Runs t b ys c → Runs t a (xs ++ ys) c
runs_append t a b c [] ys e r = subst (λ s. Runs t s ys c) (sym e) r
runs_append t a b c (x ∷ xs) ys h r = (h.0, h.1, runs_append t h.0 b c xs ys h.2 r)

-- one event more
pub runs_snoc : (t : Terms) (a b c : Core) (xs : List Event) (e : Event) → Runs t a xs b → Steps t b e c → Runs t a (xs ++ e ∷ []) c
runs_snoc t a b c xs e h s = runs_append t a b c xs (e ∷ []) h (c, s, refl)

abbrev pub Knows : Terms → Option ℕ → Worker → Type 0
Knows t least w = AtMost least w.best × AtMost least w.seen × AtMost w.seen t.start × AtMost w.seen w.best

abbrev pub Attained : Option ℕ → Option ℕ → List (Option Worker) → Type 0
Attained start least ws = (least ≡ start) ⊎ ((i : ℕ) × (w : Worker) × (worker_at ws i ≡ Some w) × (w.best ≡ least))

pub record Sound (t : Terms) (s : Core) : Type 0 where
  pub pieces : EachOnce (piece_holders s) (min s.claimed t.pieces)
  pub numbers : EachOnce (number_holders s) (min s.taken t.budget)
  pub start : AtMost s.least t.start
  pub each : Each (Knows t s.least) s.workers
  pub attained : Attained t.start s.least s.workers

pub sound_opening : (t : Terms) → Sound t (opening t)
sound_opening t = record {
  pieces = λ x. ((λ h. omega arith), (λ h. refl));
  numbers = λ x. ((λ h. omega arith), (λ h. refl));
  start = at_most_refl t.start;
  each = each_snoc (Knows t t.start) [] (λ i w e. absurd (Rattle.incumbent_word.proofs.Workers.not_none w e)) (newcomer t.start) (at_most_none t.start, at_most_refl t.start, at_most_refl t.start, at_most_none t.start);
  attained = inl refl;
}

abbrev pub hit : ℕ → ℕ → ℕ
hit n x = cond (eqb n x) 1 0

pub hit_same : (n x : ℕ) → n ≡ x → hit n x ≡ 1
hit_same n x is = ap (λ (b : Bool). cond {A = ℕ} b 1 0) (eq-eqb n x is)

pub hit_other : (n x : ℕ) → n ≢ x → hit n x ≡ 0
hit_other n x other = ap (λ (b : Bool). cond {A = ℕ} b 1 0) (ne_eqb n x other)

-- a new number n in one list
once_more : (had had' : ℕ → ℕ) (n : ℕ) → ((x : ℕ) → had' x ≡ had x + hit n x) → EachOnce had n → EachOnce had' (n + 1)
once_more had had' n more once x = dite (ℕ_discrete n x)
    (λ is. let m = more x in let one = hit_same n x is in let none : had x ≡ 0 = (once x).1 (omega arith) in ((λ h. omega arith), (λ h. absurd (omega arith))))
    (λ other. let m = more x in let miss = hit_other n x other in
    ((λ h. let one : had x ≡ 1 = (once x).0 (omega arith) in omega arith), (λ h. let none : had x ≡ 0 = (once x).1 (omega arith) in omega arith)))

once_as : (had had' : ℕ → ℕ) (n m : ℕ) → ((x : ℕ) → had' x ≡ had x) → n ≡ m → EachOnce had n → EachOnce had' m
once_as had had' n m same is once x = let e = same x in let o = once x in ((λ h. omega arith), (λ h. omega arith))

-- the worker w became v, which has `more` besides
gives : (of : Worker → List ℕ) (ws : List (Option Worker)) (i : ℕ) (w v : Worker) (more : List ℕ) → worker_at ws i ≡ Some w → of v ≡ of w ++ more
    → (x : ℕ) → sum_by (of_worker (λ u. count_by (λ y. eqb y x) (of u))) (set ws i (Some v)) ≡ sum_by (of_worker (λ u. count_by (λ y. eqb y x) (of u))) ws + count_by (λ y. eqb y x) more
gives of ws i w v more at is x = let t = total_set (λ u. count_by (λ y. eqb y x) (of u)) ws i w (Some v) at in let e : count_by (λ y. eqb y x) (of v) ≡ count_by (λ y. eqb y x) (of w ++ more) = ap (count_by (λ y. eqb y x)) is in let a = count_append x (of w) more in omega arith

keeps_all : (of : Worker → List ℕ) (ws : List (Option Worker)) (i : ℕ) (w v : Worker) → worker_at ws i ≡ Some w → of v ≡ of w
    → (x : ℕ) → sum_by (of_worker (λ u. count_by (λ y. eqb y x) (of u))) (set ws i (Some v)) ≡ sum_by (of_worker (λ u. count_by (λ y. eqb y x) (of u))) ws
keeps_all of ws i w v at is x = let t = total_set (λ u. count_by (λ y. eqb y x) (of u)) ws i w (Some v) at in let e : count_by (λ y. eqb y x) (of v) ≡ count_by (λ y. eqb y x) (of w) = ap (count_by (λ y. eqb y x)) is in omega arith

draws : (of : Worker → List ℕ) (ws : List (Option Worker)) (i n most : ℕ) (w v : Worker) → worker_at ws i ≡ Some w → (n < most → of v ≡ of w ++ n ∷ []) → (most ≤ n → of v ≡ of w)
    → EachOnce (λ x. sum_by (of_worker (λ u. count_by (λ y. eqb y x) (of u))) ws) (min n most) → EachOnce (λ x. sum_by (of_worker (λ u. count_by (λ y. eqb y x) (of u))) (set ws i (Some v))) (min (n + 1) most)
draws of ws i n most w v at some none once = dite (dec_le most n)
    (λ past. once_as _ _ (min n most) _ (keeps_all of ws i w v at (none past)) (omega arith) once)
    (λ not_past. let room : n < most = lt_of_not-le not_past in let was : min n most ≡ n = omega arith in let is : n + 1 ≡ min (n + 1) most = omega arith in
    once_as _ _ (n + 1) _ (λ x. refl) is
    (once_more (λ x. sum_by (of_worker (λ u. count_by (λ y. eqb y x) (of u))) ws) _ n (λ x. gives of ws i w v (n ∷ []) at (some room) x ∙ omega arith) (once_as _ _ (min n most) n (λ x. refl) was once)))

-- one worker became another with the same best cost
same_best : (start least : Option ℕ) (ws : List (Option Worker)) (i : ℕ) (w v : Worker) → worker_at ws i ≡ Some w → v.best ≡ w.best → Attained start least ws → Attained start least (set ws i (Some v))
same_best start least ws i w v at is (inl e) = inl e
same_best start least ws i w v at is (inr (k, u, there, best)) = dite (ℕ_discrete k i)
    (λ here. let same : w ≡ u = some_same w u (sym at ∙ subst (λ (z : ℕ). worker_at ws z ≡ Some u) here there) in inr (i, v, at_here ws i (Some v) w at, is ∙ (ap (λ (z : Worker). z.best) same ∙ best)))
    (λ other. inr (k, u, at_else ws i k (Some v) other ∙ there, best))

module _ (t : Terms) (s : Core) (h : Sound t s) where
  -- the worker i, which is w, becomes v, and no cost changes
  sound_draw : (i claimed taken : ℕ) (w v : Worker) → Has s i w → v.best ≡ w.best → v.seen ≡ w.seen → EachOnce (piece_holders record s { workers = set s.workers i (Some v) }) (min claimed t.pieces)
      → EachOnce (number_holders record s { workers = set s.workers i (Some v) }) (min taken t.budget) → Sound t record { claimed = claimed; taken = taken; least = s.least; workers = set s.workers i (Some v) }
  sound_draw i claimed taken w v at best seen pieces numbers = record {
    pieces = pieces;
    numbers = numbers;
    start = h.start;
    each = each_set (Knows t s.least) s.workers h.each i v (subst (λ (b : Option ℕ × Option ℕ). AtMost s.least b.0 × AtMost s.least b.1 × AtMost b.1 t.start × AtMost b.1 b.0) (λ k. (sym best k, sym seen k)) (h.each i w at));
    attained = same_best t.start s.least s.workers i w v at best h.attained;
  }

  sound_claim : (i : ℕ) (w v : Worker) → Has s i w → Claims t s.claimed w v → Sound t record { claimed = s.claimed + 1; taken = s.taken; least = s.least; workers = set s.workers i (Some v) }
  sound_claim i w v at c = dite (dec_le t.pieces s.claimed)
      (λ past. let e = c.1 past in sound_draw i (s.claimed + 1) s.taken w v at (ap (λ (z : Worker). z.best) e) (ap (λ (z : Worker). z.seen) e)
      (draws (λ u. u.pieces) s.workers i s.claimed t.pieces w v at (λ l. absurd (omega arith)) (λ _. ap (λ (z : Worker). z.pieces) e) h.pieces)
      (once_as _ _ (min s.taken t.budget) _ (keeps_all (λ u. u.numbers) s.workers i w v at (ap (λ (z : Worker). z.numbers) e)) refl h.numbers))
      (λ not_past. let e = c.0 (lt_of_not-le not_past) in sound_draw i (s.claimed + 1) s.taken w v at (ap (λ (z : Worker). z.best) e) (ap (λ (z : Worker). z.seen) e)
      (draws (λ u. u.pieces) s.workers i s.claimed t.pieces w v at (λ l. ap (λ (z : Worker). z.pieces) e) (λ l. absurd (not_past l)) h.pieces)
      (once_as _ _ (min s.taken t.budget) _ (keeps_all (λ u. u.numbers) s.workers i w v at (ap (λ (z : Worker). z.numbers) e)) refl h.numbers))

  sound_take : (i : ℕ) (w v : Worker) → Has s i w → Takes t s.taken w v → Sound t record { claimed = s.claimed; taken = s.taken + 1; least = s.least; workers = set s.workers i (Some v) }
  sound_take i w v at c = dite (dec_le t.budget s.taken)
      (λ past. let e = c.1 past in sound_draw i s.claimed (s.taken + 1) w v at (ap (λ (z : Worker). z.best) e) (ap (λ (z : Worker). z.seen) e)
      (once_as _ _ (min s.claimed t.pieces) _ (keeps_all (λ u. u.pieces) s.workers i w v at (ap (λ (z : Worker). z.pieces) e)) refl h.pieces)
      (draws (λ u. u.numbers) s.workers i s.taken t.budget w v at (λ l. absurd (omega arith)) (λ _. ap (λ (z : Worker). z.numbers) e) h.numbers))
      (λ not_past. let e = c.0 (lt_of_not-le not_past) in sound_draw i s.claimed (s.taken + 1) w v at (ap (λ (z : Worker). z.best) e) (ap (λ (z : Worker). z.seen) e)
      (once_as _ _ (min s.claimed t.pieces) _ (keeps_all (λ u. u.pieces) s.workers i w v at (ap (λ (z : Worker). z.pieces) e)) refl h.pieces)
      (draws (λ u. u.numbers) s.workers i s.taken t.budget w v at (λ l. ap (λ (z : Worker). z.numbers) e) (λ l. absurd (not_past l)) h.numbers))

  sound_post : (i c : ℕ) (w : Worker) → Has s i w → Sound t record { claimed = s.claimed; taken = s.taken; least = lesser s.least (Some c); workers = set s.workers i (Some (after_post s.least c w)) }
  sound_post i c w at = let least : Option ℕ = lesser s.least (Some c) in let v : Worker = after_post s.least c w in let knows = h.each i w at in
      let down : AtMost least s.least = lesser_left s.least (Some c) in
      let low : AtMost least v.best = lesser_greatest w.best (Some c) least (at_most_trans least s.least w.best down knows.0) (lesser_right s.least (Some c)) in
      let others : Each (Knows t least) s.workers = λ j u there. let k = h.each j u there in (at_most_trans least s.least u.best down k.0, at_most_trans least s.least u.seen down k.1, k.2, k.3) in
      let begun : AtMost least t.start = at_most_trans least s.least t.start down h.start in record {
        pieces = once_as _ _ (min s.claimed t.pieces) _ (keeps_all (λ u. u.pieces) s.workers i w v at refl) refl h.pieces;
        numbers = once_as _ _ (min s.taken t.budget) _ (keeps_all (λ u. u.numbers) s.workers i w v at refl) refl h.numbers;
        start = begun;
        each = each_set (Knows t least) s.workers others i v (low, at_most_refl least, begun, low);
        attained = ⊎_elim
            (λ (stays : least ≡ s.least). ⊎_elim
            (λ (e : s.least ≡ t.start). inl (stays ∙ e))
            (λ (q : (k : ℕ) × (u : Worker) × (worker_at s.workers k ≡ Some u) × (u.best ≡ s.least)). dite (ℕ_discrete q.0 i)
            (λ here. let same : w ≡ q.1 = some_same w q.1 (sym at ∙ subst (λ (z : ℕ). worker_at s.workers z ≡ Some q.1) here q.2) in
            inr (i, v, at_here s.workers i (Some v) w at, ap (λ (b : Option ℕ). lesser b (Some c)) (ap (λ (z : Worker). z.best) same ∙ q.3)))
            (λ other. inr (q.0, q.1, at_else s.workers i q.0 (Some v) other ∙ q.2, q.3 ∙ sym stays)))
            h.attained)
            (λ (is : least ≡ Some c). inr (i, v, at_here s.workers i (Some v) w at, at_most_both v.best least (subst (λ (z : Option ℕ). AtMost v.best z) (sym is) (lesser_right w.best (Some c))) low))
            (lesser_either s.least (Some c));
      }

  sound_read : (i : ℕ) (w : Worker) → Has s i w → Sound t record { claimed = s.claimed; taken = s.taken; least = s.least; workers = set s.workers i (Some (record w { seen = s.least })) }
  sound_read i w at = let v : Worker = record w { seen = s.least } in let knows = h.each i w at in record {
    pieces = once_as _ _ (min s.claimed t.pieces) _ (keeps_all (λ u. u.pieces) s.workers i w v at refl) refl h.pieces;
    numbers = once_as _ _ (min s.taken t.budget) _ (keeps_all (λ u. u.numbers) s.workers i w v at refl) refl h.numbers;
    start = h.start;
    each = each_set (Knows t s.least) s.workers h.each i v (knows.0, at_most_refl s.least, h.start, knows.0);
    attained = same_best t.start s.least s.workers i w v at refl h.attained;
  }

  sound_split : (i : ℕ) (w : Worker) → Has s i w → Sound t record { claimed = s.claimed; taken = s.taken; least = s.least; workers = s.workers ++ Some (newcomer w.seen) ∷ [] }
  sound_split i w at = let v : Worker = newcomer w.seen in let knows = h.each i w at in record {
    pieces = once_as _ _ (min s.claimed t.pieces) _ (λ x. sum_by-append (of_worker (λ u. count_by (λ y. eqb y x) u.pieces)) s.workers (Some v ∷ []) ∙ omega arith) refl h.pieces;
    numbers = once_as _ _ (min s.taken t.budget) _ (λ x. sum_by-append (of_worker (λ u. count_by (λ y. eqb y x) u.numbers)) s.workers (Some v ∷ []) ∙ omega arith) refl h.numbers;
    start = h.start;
    each = each_snoc (Knows t s.least) s.workers h.each v (at_most_none s.least, knows.1, knows.2, at_most_none w.seen);
    attained = ⊎_elim (λ (e : s.least ≡ t.start). inl e)
        (λ (q : (k : ℕ) × (u : Worker) × (worker_at s.workers k ≡ Some u) × (u.best ≡ s.least)). inr (q.0, q.1, at_longer s.workers (Some v ∷ []) q.0 q.1 q.2, q.3)) h.attained;
  }

  sound_join : (i j : ℕ) (w v : Worker) → Has s i w → Has s j v → ¬ (j ≡ i) → Sound t record { claimed = s.claimed; taken = s.taken; least = s.least; workers = set (set s.workers i (Some (joined w v))) j None }
  sound_join i j w v at there apart = let u : Worker = joined w v in let one : List (Option Worker) = set s.workers i (Some u) in let kw = h.each i w at in let kv = h.each j v there in
      let there' : worker_at one j ≡ Some v = at_else s.workers i j (Some u) apart ∙ there in
      let apart' : ¬ (i ≡ j) = λ e. apart (sym e) in
      let here : worker_at (set one j None) i ≡ Some u = at_else one j i None apart' ∙ at_here s.workers i (Some u) w at in
      let low : AtMost s.least u.best = lesser_greatest w.best v.best s.least kw.0 kv.0 in
      let both : (of : Worker → List ℕ) → of u ≡ of w ++ of v → (x : ℕ) → sum_by (of_worker (λ z. count_by (λ y. eqb y x) (of z))) (set one j None) ≡ sum_by (of_worker (λ z. count_by (λ y. eqb y x) (of z))) s.workers
      = λ of is x. (let a = gives of s.workers i w u (of v) at is x in let b = total_set (λ z. count_by (λ y. eqb y x) (of z)) one j v None there' in omega arith) in record {
        pieces = once_as _ _ (min s.claimed t.pieces) _ (both (λ z. z.pieces) refl) refl h.pieces;
        numbers = once_as _ _ (min s.taken t.budget) _ (both (λ z. z.numbers) refl) refl h.numbers;
        start = h.start;
        each = each_gone (Knows t s.least) one (each_set (Knows t s.least) s.workers h.each i u (
          low,
          lesser_greatest w.seen v.seen s.least kw.1 kv.1,
          at_most_trans u.seen w.seen t.start (lesser_left w.seen v.seen) kw.2,
          lesser_greatest w.best v.best u.seen (at_most_trans u.seen w.seen w.best (lesser_left w.seen v.seen) kw.3) (at_most_trans u.seen v.seen v.best (lesser_right w.seen v.seen) kv.3),
        )) j;
        attained = ⊎_elim (λ (e : s.least ≡ t.start). inl e)
            (λ (q : (k : ℕ) × (z : Worker) × (worker_at s.workers k ≡ Some z) × (z.best ≡ s.least)). dite (ℕ_discrete q.0 i)
            (λ is_i. let same : w ≡ q.1 = some_same w q.1 (sym at ∙ subst (λ (y : ℕ). worker_at s.workers y ≡ Some q.1) is_i q.2) in
            let best : w.best ≡ s.least = ap (λ (y : Worker). y.best) same ∙ q.3 in
            inr (i, u, here, at_most_both u.best s.least (subst (λ (y : Option ℕ). AtMost u.best y) best (lesser_left w.best v.best)) low))
            (λ not_i. dite (ℕ_discrete q.0 j)
            (λ is_j. let same : v ≡ q.1 = some_same v q.1 (sym there ∙ subst (λ (y : ℕ). worker_at s.workers y ≡ Some q.1) is_j q.2) in
            let best : v.best ≡ s.least = ap (λ (y : Worker). y.best) same ∙ q.3 in
            inr (i, u, here, at_most_both u.best s.least (subst (λ (y : Option ℕ). AtMost u.best y) best (lesser_right w.best v.best)) low))
            (λ not_j. inr (q.0, q.1, at_else one j q.0 None not_j ∙ (at_else s.workers i q.0 (Some u) not_i ∙ q.2), q.3))))
            h.attained;
      }

pub sound_step : (t : Terms) (s : Core) (e : Event) (r : Core) → Sound t s → Steps t s e r → Sound t r
sound_step t s (Claim i) r h (w, v, at, c, is) = subst (Sound t) (sym is) (sound_claim t s h i w v at c)
sound_step t s (Take i) r h (w, v, at, c, is) = subst (Sound t) (sym is) (sound_take t s h i w v at c)
sound_step t s (Post i c) r h (w, at, is) = subst (Sound t) (sym is) (sound_post t s h i c w at)
sound_step t s (Read i) r h (w, at, is) = subst (Sound t) (sym is) (sound_read t s h i w at)
sound_step t s (Split i) r h (w, at, is) = subst (Sound t) (sym is) (sound_split t s h i w at)
sound_step t s (Join i j) r h (w, v, at, there, apart, is) = subst (Sound t) (sym is) (sound_join t s h i j w v at there apart)

pub sound_runs : (t : Terms) (s : Core) (es : List Event) (r : Core) → Sound t s → Runs t s es r → Sound t r
sound_runs t s [] r h e = subst (Sound t) e h
sound_runs t s (e ∷ es) r h (m, one, more) = sound_runs t m es r (sound_step t s e m h one) more

least_step : (t : Terms) (s : Core) (e : Event) (r : Core) (rest : Option ℕ) → Steps t s e r → lesser r.least rest ≡ lesser s.least (lesser (least_posted (e ∷ [])) rest)
least_step t s (Claim i) r rest (w, v, at, c, is) = ap (λ (z : Core). lesser z.least rest) is
least_step t s (Take i) r rest (w, v, at, c, is) = ap (λ (z : Core). lesser z.least rest) is
least_step t s (Post i c) r rest (w, at, is) = ap (λ (z : Core). lesser z.least rest) is ∙ lesser_assoc s.least (Some c) rest
least_step t s (Read i) r rest (w, at, is) = ap (λ (z : Core). lesser z.least rest) is
least_step t s (Split i) r rest (w, at, is) = ap (λ (z : Core). lesser z.least rest) is
least_step t s (Join i j) r rest (w, v, at, there, apart, is) = ap (λ (z : Core). lesser z.least rest) is

least_cons : (e : Event) (es : List Event) → lesser (least_posted (e ∷ [])) (least_posted es) ≡ least_posted (e ∷ es)
least_cons (Claim i) es = refl
least_cons (Take i) es = refl
least_cons (Post i c) es = refl
least_cons (Read i) es = refl
least_cons (Split i) es = refl
least_cons (Join i j) es = refl

pub least_runs : (t : Terms) (s : Core) (es : List Event) (r : Core) → Runs t s es r → r.least ≡ lesser s.least (least_posted es)
least_runs t s [] r e = ap (λ (z : Core). z.least) (sym e) ∙ sym (lesser_none s.least)
least_runs t s (e ∷ es) r (m, one, more) = least_runs t m es r more ∙ (least_step t s e m (least_posted es) one ∙ ap (lesser s.least) (least_cons e es))

pub lawful : (t : Terms) (xs ys : List Event) (middle last : Core) → Runs t (opening t) xs middle → Runs t middle ys last → IsLawful t xs ys middle last
lawful t xs ys middle last first more = let was = sound_runs t (opening t) xs middle (sound_opening t) first in let is = sound_runs t middle ys last was more in
    let falls : AtMost last.least middle.least = subst (λ (z : Option ℕ). AtMost z middle.least) (sym (least_runs t middle ys last more)) (lesser_left middle.least (least_posted ys)) in record {
      smallest = least_runs t (opening t) (xs ++ ys) last (runs_append t (opening t) middle last xs ys first more);
      never_rises = falls;
      seen = λ i w there. at_most_trans last.least middle.least w.seen falls (was.each i w there).1;
      within_start = λ i w there. (was.each i w there).2;
      within_best = λ i w there. (was.each i w there).3;
      pieces = is.pieces;
      numbers = is.numbers;
    }
