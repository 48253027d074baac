-- The loads of what was given, unit by unit, and limits that are lowered by them.
use Rattle.std.proofs.Common.{◌≡◌, ℕ, ◌+◌, ◌-◌, ◌<◌, ◌≤◌, ◌∙◌, Bool, refl, ap, arith, List, [], ◌∷◌, length, map, zero, suc, get_or, set, take, sym, subst, pos, ℤ, inl, inr}
use Rattle.std.specs.Prelude.{All, slice_get, Some, None, nat_le, ◌&&◌, ◌*◌, if◌then◌else◌}
use Rattle.std.proofs.lemmas.Grind.{flat_map-append}
use Rattle.std.proofs.lemmas.List.{take_more, append-nil, get_or-set_same, get_or-set_other, length-set, length-map}
use Rattle.std.proofs.lemmas.Option.{get_or_from_slice_get}
use Rattle.std.proofs.lemmas.Bool.{cases_lt, lt-ltb, le-ltb, le-leb, ne_eqb}
use Rattle.std.proofs.lemmas.Nat.{mul-le}
use Rattle.season_days.specs.declared.declaration.Kind.TheVariants.{Arr, Dep}
use Rattle.scr_reader.specs.declared.line.Code.TheVariants.{N}
use Rattle.series_model.specs.declared.group.Group.TheVariants.{F}
use Rattle.capacity_windows.specs.Windows.{Capacity, capacity_of, window_limit, window_load}
use Rattle.capacity_windows.specs.declared.movement.Movement.{Movement}
use Rattle.series_model.specs.declared.unit.Unit.{Unit as SlotUnit}
use Rattle.series_model.specs.declared.times.Times.{Times}
use Rattle.series_model.specs.declared.times.Times.TheVariants.{At}
use Rattle.series_model.specs.Movements.{stop_load, movements_of}
use Rattle.series_model.specs.declared.state.UnitState.{UnitState}
use Rattle.season_days.specs.declared.declaration.TheConstants.{HIGHEST_NIGHT_LIMIT, HIGHEST_SHARE}
use Rattle.season_days.specs.declared.declaration.Declaration.{Declaration}
use Rattle.series_model.specs.Stages.{given_movements, movements_given, share_of, limit_left, stage_limit}
use Rattle.finite_sums.specs.Sums.{count_below}
use Rattle.finite_sums.proofs.SumLemmas.{sum_below-more}
use Rattle.choice_problem.specs.declared.strips.Strip.{Strip}
use Rattle.choice_problem.specs.Strips.{run_start, is_in_run}
use Rattle.choice_problem.specs.Loops.{run_uses}
use Rattle.wasg_stages.specs.Steps.{LowersBy, AreLimitsOf, AreShares}
use Rattle.wasg_stages.proofs.ZipLemmas.{window_load-append}
use Rattle.wasg_stages.proofs.PartLemmas.{LoadsOfStops}

pub times-load : LoadsOfStops → (c : Capacity) (unit : SlotUnit) (times : Times) (arrival departure r : ℕ) → times ≡ At arrival departure →
    window_load c (movements_of c.season unit times) r ≡ stop_load c Arr unit.request.arrival arrival unit.request.period r + stop_load c Dep unit.request.departure departure unit.request.period r
times-load loads c unit times arrival departure r is =
    ap (λ (t : Times). window_load c (movements_of c.season unit t) r) is ∙ loads c unit.request arrival departure r

-- what stands past the end of a list of units
abbrev pub no_state : UnitState
no_state = record {
  unit = record {
    line = 0;
    group = F;
    historic = None;
    request = record {
      code = N;
      arrival = None;
      departure = None;
      nights = 0;
      seats = 0;
      craft = record { 0 = [] };
      period = record { first = record { 0 = 0 }; last = record { 0 = 0 }; days = 0 };
    };
  };
  given = None;
}

abbrev state_load : Capacity → List UnitState → ℕ → ℕ → ℕ
state_load c states i r = window_load c (given_movements c.season (get_or states i no_state)) r

-- one unit more
pub load-more : (c : Capacity) (states : List UnitState) (i r : ℕ) → i < length states →
    window_load c (movements_given c.season (take (i + 1) states)) r ≡ window_load c (movements_given c.season (take i states)) r + state_load c states i r
load-more c states i r lt =
    ap (λ (s : List UnitState). window_load c (movements_given c.season s) r) (take_more states i no_state lt)
    ∙ ap (λ (m : List Movement). window_load c m r) (flat_map-append (given_movements c.season) (take i states) (get_or states i no_state ∷ []))
    ∙ window_load-append c (movements_given c.season (take i states)) (movements_given c.season (get_or states i no_state ∷ [])) r
    ∙ ap (λ (m : List Movement). window_load c (movements_given c.season (take i states)) r + window_load c m r) (append-nil (given_movements c.season (get_or states i no_state)))

-- ---- limits that are lowered

pub lowers-on : (old mid new : List ℤ) (one two all : ℕ → ℕ) → length mid ≡ length old → LowersBy old mid one → LowersBy mid new two → ((r : ℕ) → all r ≡ one r + two r) → LowersBy old new all
lowers-on old mid new one two all long first second sum r n lt few is =
    let same : n - one r - two r ≡ n - all r = omega (arith, sum r) in
    second r (n - one r) (omega (arith, lt, long)) (omega (arith, few)) (first r n lt few is) ∙ ap pos same

-- one run more of a strip
pub run-more : (s : Strip) (i r start end : ℕ) → start ≡ run_start s i → end ≡ run_start s i + s.width →
    count_below (i + 1) (λ k. is_in_run s r k) ≡ count_below i (λ k. is_in_run s r k) + run_uses start end r
run-more s i r start end from to =
    sum_below-more i (λ k. if is_in_run s r k then 1 else 0)
    ∙ ap (λ (n : ℕ). count_below i (λ k. is_in_run s r k) + n) (sym (ap (λ (n : ℕ). run_uses n end r) from ∙ ap (λ (n : ℕ). run_uses (run_start s i) n r) to))

pub until-end : (old new : List ℤ) (uses : ℕ → ℕ → ℕ) (i end : ℕ) → i ≡ end → LowersBy old new (uses i) → LowersBy old new (uses end)
until-end old new uses i end same lowered = subst (λ (k : ℕ). LowersBy old new (uses k)) same lowered

use-below : (start at r : ℕ) → r < at → run_uses start at r ≡ run_uses start (at + 1) r
use-below start at r lt = ap (λ (b : Bool). if nat_le start r && b then 1 else 0) (lt-ltb r at lt ∙ sym (lt-ltb r (at + 1) (omega arith)))

use-above : (start at r : ℕ) → at < r → run_uses start at r ≡ run_uses start (at + 1) r
use-above start at r lt = ap (λ (b : Bool). if nat_le start r && b then 1 else 0) (le-ltb r at (omega arith) ∙ sym (le-ltb r (at + 1) (omega arith)))

use-none : (start at : ℕ) → start ≤ at → run_uses start at at ≡ 0
use-none start at le = rw (le-leb start at le, le-ltb at at (omega arith)) refl

use-one : (start at : ℕ) → start ≤ at → run_uses start (at + 1) at ≡ 1
use-one start at le = rw (le-leb start at le, lt-ltb at (at + 1) (omega arith)) refl

-- one place more of a run
pub run-lowers : (old now : List ℤ) (start at : ℕ) (z : ℤ) → at < length now → length now ≡ length old → start ≤ at → LowersBy old now (λ r. run_uses start at r) →
    ((n : ℕ) → n ≤ HIGHEST_NIGHT_LIMIT → get_or now at (pos 0) ≡ pos n → z ≡ pos (n - 1)) → LowersBy old (set now at z) (λ r. run_uses start (at + 1) r)
run-lowers old now start at z there long from lowered less r n lt few is =
    elim (cases_lt r at) [
      | inl below ↦
          get_or-set_other now at r z (pos 0) (λ e. let no : ⊥ = omega (arith, below, e) in no)
          ∙ lowered r n lt few is ∙ ap (λ (k : ℕ). pos (n - k)) (use-below start at r below)
      | inr past ↦ elim (cases_lt at r) [
        | inl above ↦
            get_or-set_other now at r z (pos 0) (λ e. let no : ⊥ = omega (arith, above, e) in no)
            ∙ lowered r n lt few is ∙ ap (λ (k : ℕ). pos (n - k)) (use-above start at r above)
        | inr last ↦
            let same : at ≡ r = omega (arith, past, last) in
            let here : get_or old at (pos 0) ≡ pos n = ap (λ (k : ℕ). get_or old k (pos 0)) same ∙ is in
            let left : n - run_uses start at at - 1 ≡ n - run_uses start (at + 1) at = omega (arith, use-none start at from, use-one start at from) in
            subst (λ (k : ℕ). get_or (set now at z) k (pos 0) ≡ pos (n - run_uses start (at + 1) k)) same
            (get_or-set_same now at z (pos 0) there ∙ less (n - run_uses start at at) (omega (arith, few)) (lowered at n (omega (arith, there, long)) few here) ∙ ap pos left)
      ]
    ]

pub lowers-same : (old new : List ℤ) (one two : ℕ → ℕ) → ((r : ℕ) → one r ≡ two r) → LowersBy old new one → LowersBy old new two
lowers-same old new one two same lowered r n lt few is = lowered r n lt few is ∙ ap (λ (k : ℕ). pos (n - k)) (same r)

-- one share more
pub shares-on : (share : ℕ) (old now : List ℤ) (at : ℕ) (z : ℤ) → at < length old → length now ≡ length old → AreShares share old now at →
    ((n : ℕ) → n ≤ HIGHEST_NIGHT_LIMIT → get_or old at (pos 0) ≡ pos n → z ≡ pos (share_of share n)) →
    record { count : length (set now at z) ≡ length old; shares : AreShares share old (set now at z) (at + 1) }
shares-on share old now at z lt long are value = record {
  count = length-set now at z ∙ long;
  shares = record {
    shared = λ r n below few is. elim (cases_lt r at) [
      | inl before ↦ get_or-set_other now at r z (pos 0) (λ e. let no : ⊥ = omega (arith, before, e) in no) ∙ are.shared r n before few is
      | inr past ↦
          let same : at ≡ r = omega (arith, past, below) in
          let here : get_or old at (pos 0) ≡ pos n = ap (λ (k : ℕ). get_or old k (pos 0)) same ∙ is in
          subst (λ (k : ℕ). get_or (set now at z) k (pos 0) ≡ pos (share_of share n)) same (get_or-set_same now at z (pos 0) (omega (arith, lt, long)) ∙ value n few here)
    ];
    others = λ r from. get_or-set_other now at r z (pos 0) (λ e. let no : ⊥ = omega (arith, from, e) in no) ∙ are.others r (omega (arith, from));
  };
}

-- what is left of the declared limits
pub left-small : (d : Declaration) (states : List UnitState) (c : Capacity) (old new : List ℤ) → c ≡ capacity_of d → length new ≡ length old → AreLimitsOf old (window_limit c) →
    LowersBy old new (λ r. window_load c (movements_given c.season states) r) → AreLimitsOf new (limit_left d states)
left-small d states c old new is long declared lowered r lt =
    let before : r < length old = omega (arith, lt, long) in
    let one = declared r before in
    let same : window_limit c r - window_load c (movements_given c.season states) r ≡ limit_left d states r =
    ap (λ (k : Capacity). window_limit k r - window_load k (movements_given k.season states) r) is in
    (lowered r (window_limit c r) before one.1 one.0 ∙ ap pos same, omega (arith, same, one.1))

pub stage-other : (d : Declaration) (stage : ℕ) (states : List UnitState) (new : List ℤ) → (stage ≡ 3 → ⊥) → AreLimitsOf new (limit_left d states) → AreLimitsOf new (stage_limit d stage states)
stage-other d stage states new other left r lt =
    let same : stage_limit d stage states r ≡ limit_left d states r =
    ap (λ (b : Bool). if b then share_of d.share (limit_left d states r) else limit_left d states r) (ne_eqb stage 3 other) in
    subst (λ (n : ℕ). (get_or new r (pos 0) ≡ pos n) × (n ≤ HIGHEST_NIGHT_LIMIT)) (sym same) (left r lt)

share-small : (share n : ℕ) → share ≤ HIGHEST_SHARE → n ≤ HIGHEST_NIGHT_LIMIT → share_of share n ≤ HIGHEST_NIGHT_LIMIT
share-small share n le few =
    let most : n * share ≤ n * 100 = mul-le n share n 100 (omega arith) (omega (arith, le)) in
    omega (arith, most, few)

pub stage-third : (d : Declaration) (stage : ℕ) (states : List UnitState) (mid new : List ℤ) → stage ≡ 3 → d.share ≤ HIGHEST_SHARE → length new ≡ length mid → AreLimitsOf mid (limit_left d states) → AreShares d.share mid new (length mid) →
    AreLimitsOf new (stage_limit d stage states)
stage-third d stage states mid new third share long left shares r lt =
    let before : r < length mid = omega (arith, lt, long) in
    let one = left r before in
    let same : stage_limit d stage states r ≡ share_of d.share (limit_left d states r) = ap (λ (k : ℕ). stage_limit d k states r) third in
    (shares.shared r (limit_left d states r) before one.1 one.0 ∙ ap pos (sym same), subst (λ (n : ℕ). n ≤ HIGHEST_NIGHT_LIMIT) (sym same) (share-small d.share (limit_left d states r) share one.1))

-- declared limits as signed numbers
get_or-signed : (numbers : List ℕ) (r : ℕ) → get_or (map pos numbers) r (pos 0) ≡ pos (get_or numbers r 0)
get_or-signed [] r = refl
get_or-signed (n ∷ numbers) zero = refl
get_or-signed (n ∷ numbers) (suc r) = get_or-signed numbers r

pub signed-limits : (c : Capacity) (numbers : List ℕ) (count : ℕ) → length numbers ≡ count → ((r : ℕ) → r < count → slice_get numbers r ≡ Some (window_limit c r)) →
    ((r : ℕ) → window_limit c r ≤ HIGHEST_NIGHT_LIMIT) → AreLimitsOf (map pos numbers) (window_limit c)
signed-limits c numbers count long each few r lt =
    let there : r < count = omega (arith, lt, long, length-map numbers pos) in
    (get_or-signed numbers r ∙ ap pos (get_or_from_slice_get numbers r (window_limit c r) 0 (each r there)), few r)

-- limits that were given
pub given-limits : (numbers : List ℕ) → All (λ (n : ℕ). n ≤ HIGHEST_NIGHT_LIMIT) numbers → AreLimitsOf (map pos numbers) (λ r. get_or numbers r 0)
given-limits numbers low r lt =
    let there : r < length numbers = omega (arith, lt, length-map numbers pos) in
    (get_or-signed numbers r, low r 0 there)
