-- What a seat knows as the value goes into the slot, and it gives the turn back.
use Rattle.std.proofs.Common.{◌≡◌, ℕ, Bool, true, false, List, [], ◌∷◌, map, Option, Some, refl, ap, sym, ◌∙◌, subst}
use Rattle.atomic_table.specs.Table.{Me, rest}
use Rattle.turn_lock.specs.declared.view.Caller.{Caller}
use Rattle.turn_lock.specs.declared.view.View.{View}
use Rattle.turn_lock.specs.History.{MayGive}
use Rattle.turn_lock.specs.Views.{after_seeing}
use Rattle.turn_lock.specs.Inside.{IsSeat, caller_after, seen_of}
use Rattle.turn_lock.proofs.OpenKeeps.{true_not_false}
use Rattle.turn_lock.proofs.Moves.{view_after, told}

module _ {T O E : Type 0} (origin : T → O) (entries : T → List E) (caller : E → ℕ) where
  -- the value is in the slot again
  pub put_in : (number taken : ℕ) (y : T) (m m' : Me (Option T) (View O E)) → (s : IsSeat caller number taken m)
      → m.0.holds ≡ true → m' ≡ (m.0, (0, Some y) ∷ rest m.1) → m' ≡ (m.0, (0, Some y) ∷ [])
  put_in number taken y m m' s holds is = is
      ∙ ap (λ (l : List (ℕ × Option T)). (m.0, (0, Some y) ∷ l)) (ap rest (s.at_work holds).0)

  pub may_give : (number taken : ℕ) (m : Me (Option T) (View O E)) → (s : IsSeat caller number taken m)
      → (history : List E) → MayGive caller number (seen_of m.0.callers) history
      → MayGive caller s.one.number s.one.seen history
  may_give number taken m s history may = subst (λ (n : ℕ). MayGive caller n s.one.seen history) (sym s.number_is) (subst (λ (l : List E). MayGive caller number l history) (ap seen_of s.alone) may)

  -- the view after the deciding step
  pub decided_view : (number taken : ℕ) (y : T) (m m' : Me (Option T) (View O E)) (v : View O E)
      → (s : IsSeat caller number taken m) → m.0.holds ≡ true → m' ≡ (m.0, (0, Some y) ∷ [])
      → v ≡ record { origin = m'.0.origin; callers = map (after_seeing caller (entries y)) m'.0.callers; holds = m'.0.holds } → v ≡ view_after caller m.0.origin number (entries y) true
  decided_view number taken y m m' v s holds is now = now
      ∙ (ap (λ (n : Me (Option T) (View O E)). record { origin = n.0.origin; callers = map (after_seeing caller (entries y)) n.0.callers; holds = n.0.holds }) is
      ∙ (ap (λ (cs : List (Caller E)). record { origin = m.0.origin; callers = cs; holds = m.0.holds }) (told caller number (entries y) m.0.callers s.one s.alone s.number_is) ∙ ap (λ (b : Bool). view_after caller m.0.origin number (entries y) b) holds))

  -- the seat as it is after it gave the turn back
  pub is_seat_free : (number taken : ℕ) (x : T) (o : Option O) (m : Me (Option T) (View O E))
      → m.0 ≡ view_after caller o number (entries x) false → m.1 ≡ [] → IsSeat caller number taken m
  is_seat_free number taken x o m is empty = record {
    one = caller_after caller number (entries x);
    alone = ap (λ (v : View O E). v.callers) is;
    number_is = refl;
    own_is = refl;
    at_rest = λ _. empty;
    at_work = λ e. absurd (true_not_false (sym e ∙ ap (λ (v : View O E). v.holds) is));
  }
