-- A seat's one caller, and the slot that a seat carries.
use Rattle.std.proofs.Common.{◌≡◌, ℕ, Bool, List, [], ◌∷◌, map, Option, ap, sym, ◌∙◌}
use Rattle.atomic_table.specs.Table.{rest}
use Rattle.turn_lock.specs.declared.view.Caller.{Caller}
use Rattle.turn_lock.specs.declared.view.View.{View}
use Rattle.turn_lock.specs.Views.{after_seeing}
use Rattle.turn_lock.specs.Inside.{caller_after, seen_of, own_of}

pub with_rest : {A : Type 0} (l : List (ℕ × A)) (x : ℕ × A) → l ≡ x ∷ [] → l ≡ x ∷ rest l
with_rest l x e = e ∙ ap (λ t. x ∷ t) (sym (ap rest e))

module _ {O E : Type 0} (caller : E → ℕ) where
  -- the view of a seat that has seen the history
  abbrev pub view_after : Option O → ℕ → List E → Bool → View O E
  view_after origin number history holds = record { origin = origin; callers = caller_after caller number history ∷ []; holds = holds }

module _ {E : Type 0} where
  -- the one caller has seen the history
  pub told : (caller : E → ℕ) (number : ℕ) (history : List E) (cs : List (Caller E)) (c : Caller E) → cs ≡ c ∷ []
      → c.number ≡ number → map (after_seeing caller history) cs ≡ caller_after caller number history ∷ []
  told caller number history cs c alone is = ap (map (after_seeing caller history)) alone
      ∙ ap (λ (n : ℕ). caller_after caller n history ∷ []) is

  -- what the seat says of its one caller
  pub alone_is : (cs : List (Caller E)) (one : Caller E) (number : ℕ) → cs ≡ one ∷ [] → one.number ≡ number
      → one ∷ [] ≡ record { number = number; seen = seen_of cs; own = own_of cs } ∷ []
  alone_is cs one number alone is = ap (λ (n : ℕ). record { number = n; seen = one.seen; own = one.own } ∷ []) is
      ∙ ap (λ (l : List (Caller E)). record { number = number; seen = seen_of l; own = own_of l } ∷ []) (sym alone)
