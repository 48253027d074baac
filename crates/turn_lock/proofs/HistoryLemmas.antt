-- Lemmas on histories and on the entries of one caller.
use Rattle.std.proofs.Common.{◌≡◌, ◌≢◌, ℕ, ◌≤◌, eqb, cond, Bool, true, false, List, [], ◌∷◌, ◌++◌, length, refl, ap, sym, ◌∙◌, eq-eqb, ne_eqb, append_assoc, length-append, arith}
use Rattle.std.proofs.lemmas.List.{append-nil}
use Rattle.std.proofs.lemmas.List.Elements.{filter-append}
use Rattle.turn_lock.specs.History.{StartsWith, own, BeginningsChain, BeginningsNest, OwnEntriesBegin, OthersAddNoOwn, GoingOnChains}

module _ {E : Type 0} where
  pub starts_with_itself : (xs : List E) → StartsWith xs xs
  starts_with_itself xs = ([], sym (append-nil xs))

  pub starts_longer : (xs ys zs : List E) → StartsWith xs zs → StartsWith (xs ++ ys) zs
  starts_longer xs ys zs (rest, e) = (rest ++ ys, ap (λ (l : List E). l ++ ys) e ∙ append_assoc zs rest ys)

  pub beginnings_chain : BeginningsChain E
  beginnings_chain history middle seen (late, e) (between, f) = (
    between ++ late,
    e
        ∙ (ap (λ (l : List E). l ++ late) f ∙ append_assoc seen between late),
  )

  abbrev head_or : E → List E → E
  head_or d [] = d
  head_or d (x ∷ xs) = x

  abbrev tail_of : List E → List E
  tail_of [] = []
  tail_of (x ∷ xs) = xs

  nested : (shorter longer a b : List E) → longer ++ a ≡ shorter ++ b → length shorter ≤ length longer
      → StartsWith longer shorter
  nested [] longer a b e less = (longer, refl)
  nested (x ∷ xs) [] a b e less = absurd (omega arith)
  nested (x ∷ xs) (y ∷ ys) a b e less = let h = nested xs ys a b (ap tail_of e) (omega arith) in
      (h.0, ap (λ (z : E). z ∷ ys) (ap (head_or x) e) ∙ ap (λ (l : List E). x ∷ l) h.1)

  pub beginnings_nest : BeginningsNest E
  beginnings_nest history longer shorter (a, e) (b, f) less = nested shorter longer a b (sym e ∙ f) less

  -- a list that is no longer with another behind it
  pub no_more : (xs ys : List E) → xs ≡ xs ++ ys → ys ≡ []
  no_more xs [] e = refl
  no_more xs (y ∷ ys) e = absurd (let l : length xs ≡ length (xs ++ y ∷ ys) = ap length e in
      let m = length-append xs (y ∷ ys) in omega arith)

  -- a beginning that is as long as the whole
  pub whole_beginning : (history seen : List E) → StartsWith history seen → length seen ≡ length history
      → seen ≡ history
  whole_beginning history seen ([], e) same = sym (e ∙ append-nil seen)
  whole_beginning history seen (x ∷ xs, e) same = absurd (let l : length history ≡ length (seen ++ x ∷ xs) = ap length e in let m = length-append seen (x ∷ xs) in omega arith)

module _ {E : Type 0} (caller : E → ℕ) where
  pub own_append : (n : ℕ) (xs ys : List E) → own caller n (xs ++ ys) ≡ own caller n xs ++ own caller n ys
  own_append n xs ys = filter-append (λ e. eqb (caller e) n) xs ys

  one_own : (n : ℕ) (e : E) (b : Bool) → eqb (caller e) n ≡ b → own caller n (e ∷ []) ≡ cond b (e ∷ []) []
  one_own n e b is = ap (λ (z : Bool). cond z (e ∷ []) []) is

  pub own_one : (n : ℕ) (e : E) → caller e ≡ n → own caller n (e ∷ []) ≡ e ∷ []
  own_one n e is = one_own n e true (eq-eqb (caller e) n is)

  pub own_other : (n : ℕ) (e : E) → caller e ≢ n → own caller n (e ∷ []) ≡ []
  own_other n e other = one_own n e false (ne_eqb (caller e) n other)

  pub own_begins : OwnEntriesBegin caller
  own_begins n history seen (later, e) = (own caller n later, ap (own caller n) e ∙ own_append n seen later)

  pub others_add_no_own : OthersAddNoOwn caller
  others_add_no_own n seen history (between, e, none) = ap (own caller n) e
      ∙ (own_append n seen between
      ∙ (ap (λ (l : List E). own caller n seen ++ l) none ∙ append-nil (own caller n seen)))

  pub going_on_chains : GoingOnChains caller
  going_on_chains n seen middle history (a, e, p) (b, f, q) = (
    a ++ b,
    f ∙ (ap (λ (l : List E). l ++ b) e ∙ append_assoc seen a b),
    own_append n a b ∙ (ap (λ (l : List E). l ++ own caller n b) p ∙ q),
  )
