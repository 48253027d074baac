-- What a seat knows as it takes the turn, and the value goes out of the slot.
use Rattle.std.proofs.Common.{◌≡◌, ℕ, true, false, List, [], ◌∷◌, ◌++◌, length, Option, Some, None, refl, ap, sym, ◌∙◌, subst}
use Rattle.std.specs.List.{AllByRecursion}
use Rattle.std.proofs.lemmas.Option.{same_Some}
use Rattle.atomic_table.specs.Table.{Me, rest}
use Rattle.turn_lock.specs.declared.view.Caller.{Caller}
use Rattle.turn_lock.specs.declared.view.View.{View}
use Rattle.turn_lock.specs.History.{StartsWith, own, GoesOnFrom}
use Rattle.turn_lock.specs.Plays.{Won}
use Rattle.turn_lock.specs.Inside.{IsSeat, caller_after, seen_of, own_of}
use Rattle.turn_lock.proofs.HistoryLemmas.{own_append, no_more}
use Rattle.turn_lock.proofs.OpenKeeps.{true_not_false}
use Rattle.turn_lock.proofs.DecideKeeps.{first_value}
use Rattle.turn_lock.proofs.Moves.{view_after, told}

module _ {T O E : Type 0} (origin : T → O) (entries : T → List E) (caller : E → ℕ) where
  -- the seat before and after, where the value x came out of the slot
  pub record Taken (number : ℕ) (x : T) (one : Caller E) (me me' : Me (Option T) (View O E)) : Type 0 where
    pub now : me' ≡ (view_after caller me.0.origin number (entries x) true, (0, None) ∷ [])
    pub origin_is : me.0.origin ≡ Some (origin x)
    pub longer : GoesOnFrom caller number one.seen (entries x)
    pub own_is : own caller number (entries x) ≡ one.own

  some_value : (x y : T) (t t' : List (ℕ × Option T)) → (0, Some x) ∷ t ≡ (0, Some y) ∷ t' → x ≡ y
  some_value x y t t' e = ap (first_value x) e

  others_only : (number : ℕ) (one : Caller E) (history : List E) → one.number ≡ number
      → one.own ≡ own caller number one.seen → StartsWith history one.seen → own caller one.number history ≡ one.own
      → GoesOnFrom caller number one.seen history
  others_only number one history is mine (between, e) all = (
    between,
    e,
    no_more one.own (own caller number between)
        (sym all ∙ (ap (λ (n : ℕ). own caller n history) is ∙ (ap (own caller number) e ∙ (own_append caller number one.seen between ∙ ap (λ (l : List E). l ++ own caller number between) (sym mine))))),
  )

  pub takes_out : (number taken : ℕ) (x : T) (m0 m1 m2 : Me (Option T) (View O E))
      → (s : IsSeat caller number taken m0) → m0.0.holds ≡ false → Won origin entries caller m0 m1
      → m1.1 ≡ (0, Some x) ∷ rest m1.1
      → m2 ≡ (m1.0, (0, None) ∷ rest m1.1) → Taken number x s.one m0 m2
  takes_out number taken x m0 m1 m2 s free won head is = let empty = s.at_rest free in
      let slot : m1.1 ≡ (0, Some won.value) ∷ [] = won.slot
      ∙ ap (λ (l : List (ℕ × Option T)). (0, Some won.value) ∷ l) empty in
      let same : won.value ≡ x = some_value won.value x [] (rest m1.1) (sym slot ∙ head) in
      let view : m1.0 ≡ view_after caller m0.0.origin number (entries won.value) true
      = won.view ∙ ap (λ (cs : List (Caller E)). record { origin = m0.0.origin; callers = cs; holds = true }) (told caller number (entries won.value) m0.0.callers s.one s.alone s.number_is) in
      let first = (subst (AllByRecursion (λ c. StartsWith (entries won.value) c.seen × (own caller c.number (entries won.value) ≡ c.own))) s.alone won.longer).0 in record {
        now = is ∙ (ap (λ (v : View O E). (v, (0, None) ∷ rest m1.1)) view
            ∙ (ap (λ (l : List (ℕ × Option T)). (view_after caller m0.0.origin number (entries won.value) true, (0, None) ∷ l)) (ap rest slot) ∙ ap (λ (y : T). (view_after caller m0.0.origin number (entries y) true, (0, None) ∷ [])) same));
        origin_is = won.origin_is ∙ ap (λ (y : T). Some (origin y)) same;
        longer = subst (λ (y : T). GoesOnFrom caller number s.one.seen (entries y)) same (others_only number s.one (entries won.value) s.number_is s.own_is first.0 first.1);
        own_is = ap (λ (y : T). own caller number (entries y)) (sym same)
            ∙ (ap (λ (n : ℕ). own caller n (entries won.value)) (sym s.number_is) ∙ first.1);
      }

  -- the seat as it is while it has the turn
  pub is_seat_holding : (number : ℕ) (x : T) (o : Option O) (m : Me (Option T) (View O E))
      → m ≡ (view_after caller o number (entries x) true, (0, None) ∷ []) → (taken : ℕ) → taken ≡ length (entries x)
      → IsSeat caller number taken m
  is_seat_holding number x o m is taken long = record {
    one = caller_after caller number (entries x);
    alone = ap (λ (n : Me (Option T) (View O E)). n.0.callers) is;
    number_is = refl;
    own_is = refl;
    at_rest = λ e. absurd (true_not_false (sym (ap (λ (n : Me (Option T) (View O E)). n.0.holds) is) ∙ e));
    at_work = λ _. (ap (λ (n : Me (Option T) (View O E)). n.1) is, long);
  }

pub goes_on_as : {E : Type 0} (caller : E → ℕ) (n m : ℕ) (seen seen' history : List E) → n ≡ m → seen ≡ seen'
    → GoesOnFrom caller n seen history → GoesOnFrom caller m seen' history
goes_on_as caller n m seen seen' history is same (between, e, none_own) = (
  between,
  e
      ∙ ap (λ l. l ++ between) same,
  ap (λ (k : ℕ). own caller k between) (sym is) ∙ none_own,
)

-- the value has the origin that the seat was made with
pub origin_as : {O : Type 0} (found made : O) (of_seat of_view : Option O) → of_view ≡ Some found
    → of_view ≡ of_seat → of_seat ≡ Some made → found ≡ made
origin_as found made of_seat of_view is same made_with = same_Some found made (sym is ∙ (same ∙ made_with))

-- a seat's own entries are those of its number in what it has seen
pub own_of_seat : {T O E : Type 0} (caller : E → ℕ) (number taken : ℕ) (me : Me (Option T) (View O E))
    → IsSeat caller number taken me → own_of me.0.callers ≡ own caller number (seen_of me.0.callers)
own_of_seat caller number taken me s = ap own_of s.alone
    ∙ (s.own_is ∙ ap (λ l. own caller number l) (sym (ap seen_of s.alone)))
