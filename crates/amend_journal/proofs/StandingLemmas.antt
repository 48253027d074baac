-- A file stands for one list of pairs at most.
use Rattle.std.proofs.Common.{◌≡◌, ◌≢◌, ◌⊎◌, ℕ, ◌-◌, ◌<◌, ◌≤◌, List, [], ◌∷◌, ◌++◌, length, take, refl, sym, ap, ◌∙◌, append_assoc, length-append, inl, inr, arith}
use Rattle.std.specs.Prelude.{All, replicate}
use Rattle.std.proofs.lemmas.List.{append_cancel_left, take_at}
use Rattle.std.proofs.lemmas.List.Elements.{All-head, All-tail}
use Rattle.season_days.specs.Term.{Term}
use Rattle.scr_reader.specs.Printed.{item_text}
use Rattle.scr_reader.specs.Again.{IsItemText}
use Rattle.scr_reader.specs.declared.line.Item.{Item}
use Rattle.amend_journal.specs.Format.{header, slot_bytes, open_slots, IsFit}
use Rattle.amend_journal.specs.Standing.{StandsFor, IsOther, IsBadSlot}
use Rattle.amend_journal.specs.declared.asked.Asked.{Asked}
use Rattle.amend_journal.specs.declared.asked.TheConstants.{MOST_PAIRS}
use Rattle.amend_journal.proofs.FormatLemmas.{ShortItems, length-header, length-slot, same_asked}
use Rattle.amend_journal.proofs.OpenLemmas.{short_none}

-- the law that a text is that of one item at most
abbrev pub OneItem : Type 0
OneItem = (season : Term) (text : List ℕ) (a b : Item) → season.year < 100 → IsItemText season text a → IsItemText season text b → a ≡ b

-- fronts of the same length of one list
front_same : (a b xs ys : List ℕ) → length a ≡ length b → a ++ xs ≡ b ++ ys → a ≡ b
front_same a b xs ys long same =
    sym (take_at a xs (length b) long) ∙ ap (take (length b)) same ∙ take_at b ys (length b) refl

back_same : (a b xs ys : List ℕ) → length a ≡ length b → a ++ xs ≡ b ++ ys → xs ≡ ys
back_same a b xs ys long same =
    append_cancel_left b xs ys (ap (λ (l : List ℕ). l ++ xs) (sym (front_same a b xs ys long same)) ∙ same)

module _ (season : Term) (year : season.year < 100) (short : ShortItems) (one : OneItem) where
  one_slot : (a b : Asked) → IsFit season a → IsFit season b → slot_bytes season a ≡ slot_bytes season b → a ≡ b
  unfolding slot_bytes
  one_slot a b fit other same =
      let first = item_text season a.ask in
      let second = item_text season b.ask in
      let caller : a.caller ≡ b.caller = cc in
      let long : length first ≡ length second = cc in
      let rest : first ++ replicate (253 - length first) 0 ≡ second ++ replicate (253 - length second) 0 = cc in
      let text = front_same first second _ _ long rest in
      same_asked a b caller
      (one season first a.ask b.ask year (record { fit = fit; spelled = refl }) (record { fit = other; spelled = text }))

  -- two rows of open slots, with a gate behind each
  heads : (a b : Asked) (us bs : List Asked) (xs ys : List ℕ) → IsFit season a → IsFit season b → open_slots season (a ∷ us) ++ xs ≡ open_slots season (b ∷ bs) ++ ys → (a ≡ b) × (open_slots season us ++ xs ≡ open_slots season bs ++ ys)
  heads a b us bs xs ys fit other same =
      let long : length (slot_bytes season a) ≡ length (slot_bytes season b) = length-slot season a short fit ∙ sym (length-slot season b short other) in
      let tails : (slot_bytes season a ++ open_slots season us) ++ xs ≡ (slot_bytes season b ++ open_slots season bs) ++ ys = cc in
      let flat : slot_bytes season a ++ (open_slots season us ++ xs) ≡ slot_bytes season b ++ (open_slots season bs ++ ys) =
      sym (append_assoc (slot_bytes season a) (open_slots season us) xs) ∙ tails ∙ append_assoc (slot_bytes season b) (open_slots season bs) ys in
      (one_slot a b fit other (front_same (slot_bytes season a) (slot_bytes season b) _ _ long flat), back_same (slot_bytes season a) (slot_bytes season b) _ _ long flat)

  both_closed : (us bs : List Asked) (g h : ℕ) (xs ys : List ℕ) → All (IsFit season) us → All (IsFit season) bs → g ≢ 1 → h ≢ 1 → open_slots season us ++ g ∷ xs ≡ open_slots season bs ++ h ∷ ys → us ≡ bs
  both_closed [] [] g h xs ys fit other a b same = refl
  both_closed [] (y ∷ bs) g h xs ys fit other a b same = absurd (a (let e : g ≡ 1 = cc in e))
  both_closed (x ∷ us) [] g h xs ys fit other a b same = absurd (b (let e : h ≡ 1 = cc in e))
  both_closed (x ∷ us) (y ∷ bs) g h xs ys fit other a b same =
      let head = heads x y us bs (g ∷ xs) (h ∷ ys) (All-head (IsFit season) x us fit) (All-head (IsFit season) y bs other) same in
      let rest : us ≡ bs = both_closed us bs g h xs ys (All-tail (IsFit season) x us fit) (All-tail (IsFit season) y bs other) a b head.1 in
      let first : x ≡ y = head.0 in
      cc

  -- an open gate behind fewer slots: behind it there is the next of the longer row
  record HasNext (bs : List Asked) (us : List Asked) (behind : List ℕ) : Type 0 where
    pub more : length bs < length us
    pub next : Asked
    pub fit : IsFit season next
    pub rest : List ℕ
    pub some : 0 < length rest
    pub is : behind ≡ slot_bytes season next ++ rest

  next_of : (x : Asked) (us bs : List Asked) (xs behind : List ℕ) → length bs < length (x ∷ us) → IsFit season x → 0 < length xs → behind ≡ slot_bytes season x ++ (open_slots season us ++ xs) → HasNext bs (x ∷ us) behind
  next_of x us bs xs behind more fit some is = record {
    more = more;
    next = x;
    fit = fit;
    rest = open_slots season us ++ xs;
    some = omega (arith, some, length-append (open_slots season us) xs);
    is = is;
  }

  longer : (x : Asked) (us bs : List Asked) (y : Asked) (behind : List ℕ) → HasNext bs us behind → HasNext (y ∷ bs) (x ∷ us) behind
  longer x us bs y behind h = record { more = omega (arith, h.more); next = h.next; fit = h.fit; rest = h.rest; some = h.some; is = h.is }

  -- one row ends with a closed gate, the other with an open one
  closed_open : (us bs : List Asked) (g : ℕ) (xs behind : List ℕ) → All (IsFit season) us → All (IsFit season) bs → g ≢ 1 → open_slots season us ++ g ∷ xs ≡ open_slots season bs ++ 1 ∷ behind → HasNext bs us behind
  closed_open [] [] g xs behind fit other a same = absurd (a (let e : g ≡ 1 = cc in e))
  closed_open [] (y ∷ bs) g xs behind fit other a same = absurd (a (let e : g ≡ 1 = cc in e))
  closed_open (x ∷ us) [] g xs behind fit other a same =
      let flat : (slot_bytes season x ++ open_slots season us) ++ g ∷ xs ≡ behind = cc in
      next_of x us [] (g ∷ xs) behind (omega arith) (All-head (IsFit season) x us fit) (omega arith) (sym flat ∙ append_assoc (slot_bytes season x) (open_slots season us) (g ∷ xs))
  closed_open (x ∷ us) (y ∷ bs) g xs behind fit other a same =
      let head = heads x y us bs (g ∷ xs) (1 ∷ behind) (All-head (IsFit season) x us fit) (All-head (IsFit season) y bs other) same in
      longer x us bs y behind (closed_open us bs g xs behind (All-tail (IsFit season) x us fit) (All-tail (IsFit season) y bs other) a head.1)

  -- both end with an open gate: us many slots, or one has a next slot
  both_open : (us bs : List Asked) (xs ys : List ℕ) → All (IsFit season) us → All (IsFit season) bs → open_slots season us ++ 1 ∷ xs ≡ open_slots season bs ++ 1 ∷ ys → (length us ≡ length bs) ⊎ (HasNext bs us ys ⊎ HasNext us bs xs)
  both_open [] [] xs ys fit other same = inl refl
  both_open [] (y ∷ bs) xs ys fit other same =
      let flat : xs ≡ (slot_bytes season y ++ open_slots season bs) ++ 1 ∷ ys = cc in
      inr (inr (next_of y bs [] (1 ∷ ys) xs (omega arith) (All-head (IsFit season) y bs other) (omega arith) (flat ∙ append_assoc (slot_bytes season y) (open_slots season bs) (1 ∷ ys))))
  both_open (x ∷ us) [] xs ys fit other same =
      let flat : (slot_bytes season x ++ open_slots season us) ++ 1 ∷ xs ≡ ys = cc in
      inr (inl (next_of x us [] (1 ∷ xs) ys (omega arith) (All-head (IsFit season) x us fit) (omega arith) (sym flat ∙ append_assoc (slot_bytes season x) (open_slots season us) (1 ∷ xs))))
  both_open (x ∷ us) (y ∷ bs) xs ys fit other same =
      let head = heads x y us bs (1 ∷ xs) (1 ∷ ys) (All-head (IsFit season) x us fit) (All-head (IsFit season) y bs other) same in
      elim (both_open us bs xs ys (All-tail (IsFit season) x us fit) (All-tail (IsFit season) y bs other) head.1) [
        | inl same_count ↦ inl (omega (arith, same_count))
        | inr (inl h) ↦ inr (inl (longer x us bs y ys h))
        | inr (inr h) ↦ inr (inr (longer y bs us x xs h))
      ]

  -- the slot behind the open gate of a bad slot is no good
  no_next : (file : List ℕ) (number : ℕ) (bad : IsBadSlot season number file) (us : List Asked) → length us ≤ MOST_PAIRS → HasNext bad.asks us bad.behind → ⊥
  no_next file number bad us few h =
      let long = length-slot season h.next short h.fit in
      elim bad.bad [
        | inl past ↦ absurd (omega (arith, past, long, h.some, ap length h.is, length-append (slot_bytes season h.next) h.rest))
        | inr (inl none) ↦ none h.next h.fit (ap (take 255) h.is ∙ take_at (slot_bytes season h.next) h.rest 255 long)
        | inr (inr full) ↦ absurd (omega (arith, full, bad.number_is, h.more, few))
      ]

  block_same : (file xs ys : List ℕ) (us bs : List Asked) → file ≡ (header ++ open_slots season us) ++ xs → file ≡ (header ++ open_slots season bs) ++ ys → open_slots season us ++ xs ≡ open_slots season bs ++ ys
  block_same file xs ys us bs one two =
      append_cancel_left header (open_slots season us ++ xs) (open_slots season bs ++ ys)
      (sym (append_assoc header (open_slots season us) xs) ∙ sym one ∙ two ∙ append_assoc header (open_slots season bs) ys)

  pub one_list : (file : List ℕ) (us bs : List Asked) → StandsFor season us file → StandsFor season bs file → us ≡ bs
  one_list file us bs (inl a) b = a.1 ∙ sym (short_none season bs file a.0 b)
  one_list file us bs (inr a) (inl b) = short_none season us file b.0 (inr a) ∙ sym b.1
  one_list file us bs (inr a) (inr b) =
      both_closed us bs a.closed.gate b.closed.gate a.closed.at.behind b.closed.at.behind a.fit b.fit a.closed.closed b.closed.closed
      (block_same file (a.closed.gate ∷ a.closed.at.behind) (b.closed.gate ∷ b.closed.at.behind) us bs a.closed.at.is b.closed.at.is)

  pub not_bad : (file : List ℕ) (us : List Asked) (number : ℕ) → StandsFor season us file → IsBadSlot season number file → ⊥
  not_bad file us number (inl a) bad = absurd (omega (arith, a.0, bad.long))
  not_bad file us number (inr a) bad =
      no_next file number bad us a.few
      (closed_open us bad.asks a.closed.gate a.closed.at.behind bad.behind a.fit bad.fit a.closed.closed
      (block_same file (a.closed.gate ∷ a.closed.at.behind) (1 ∷ bad.behind) us bad.asks a.closed.at.is bad.is))

  pub one_number : (file : List ℕ) (m n : ℕ) → IsBadSlot season m file → IsBadSlot season n file → m ≡ n
  one_number file m n a b =
      elim (both_open a.asks b.asks a.behind b.behind a.fit b.fit (block_same file (1 ∷ a.behind) (1 ∷ b.behind) a.asks b.asks a.is b.is)) [
        | inl same ↦ sym a.number_is ∙ same ∙ b.number_is
        | inr (inl h) ↦ absurd (no_next file n b a.asks (omega (arith, a.number_is, a.few)) h)
        | inr (inr h) ↦ absurd (no_next file m a b.asks (omega (arith, b.number_is, b.few)) h)
      ]

-- ---- the header

head_of : (file rest : List ℕ) → file ≡ header ++ rest → take 16 file ≡ header
head_of file rest is = ap (take 16) is ∙ take_at header rest 16 length-header

pub not_other : (season : Term) (file : List ℕ) (us : List Asked) → StandsFor season us file → IsOther file → ⊥
not_other season file us (inl a) other = absurd (omega (arith, a.0, other.long))
not_other season file us (inr a) other =
    other.other (head_of file (open_slots season us ++ a.closed.gate ∷ a.closed.at.behind) (a.closed.at.is ∙ append_assoc header (open_slots season us) (a.closed.gate ∷ a.closed.at.behind)))

pub bad_or_other : (season : Term) (file : List ℕ) (number : ℕ) → IsBadSlot season number file → IsOther file → ⊥
bad_or_other season file number bad other =
    other.other (head_of file (open_slots season bad.asks ++ 1 ∷ bad.behind) (bad.is ∙ append_assoc header (open_slots season bad.asks) (1 ∷ bad.behind)))
