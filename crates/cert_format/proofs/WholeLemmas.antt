-- Where the reading of a whole text stops.
use Rattle.std.proofs.Common.{◌≡◌, ℕ, ◌+◌, List, [], ◌∷◌, ◌++◌, length, refl, sym, ap, ◌∙◌, append_assoc, length-append, Result, Ok, Err, arith, inl, inr}
use Rattle.std.proofs.lemmas.List.{append-nil}
use Rattle.cert_format.specs.Private.Spots.{Spot, Read, ◌>>=◌}
use Rattle.cert_format.specs.Private.Reading.{ended_by, ended}
use Rattle.cert_format.proofs.BlockLemmas.{Line, Again}
use Rattle.cert_format.proofs.StopLemmas.{spot, SameHead, Steady, bind_err, bind_is}

-- the reading of a whole text stops after the good lines at whatever begins like the rest, and the good lines can be completed
pub record Stopped {B : Type 0} (W : Spot → Result B ℕ) (s : Spot) (n : ℕ) : Type 0 where
  pub good : List Line
  pub rest : List Line
  pub parts : s.lines ≡ good ++ rest
  pub place : n ≡ s.line + length good
  pub bad : (other : List Line) → SameHead other rest → W (spot s.line (good ++ other)) ≡ Err n
  pub more : List Line
  pub value : B
  pub ends : W (spot s.line (good ++ more)) ≡ Ok value

-- a reader of a whole text
pub record Whole {B : Type 0} (W : Spot → Result B ℕ) : Type 0 where
  pub stopped : (s : Spot) (n : ℕ) → W s ≡ Err n → Stopped W s n
  pub more : List Line
  pub value : B
  pub reads : (s : Spot) → s.lines ≡ more → W s ≡ Ok value

end_bad : {A : Type 0} (x : A) (line n : ℕ) (lines other : List Line) → ended_by x line lines ≡ Err n → SameHead other lines → (ended_by x line other ≡ Err n) × (n ≡ line)
end_bad x line n [] other e h = absurd cc
end_bad x line n (a ∷ lines) [] e h = absurd h
end_bad x line n (a ∷ lines) (b ∷ bs) e h = (e, cc)

same_head : (lines : List Line) → SameHead lines lines
same_head [] = tt
same_head (ws ∷ lines) = refl

pub whole_ended : {A : Type 0} (x : A) → Whole (ended x)
whole_ended x = record {
  stopped = λ s n e.
      let here = end_bad x s.line n s.lines s.lines e (same_head s.lines) in
      record { good = []; rest = s.lines; parts = refl; place = omega (arith, here.1); bad = λ other same. (end_bad x s.line n s.lines other e same).0; more = []; value = x; ends = refl };
  more = [];
  value = x;
  reads = λ s e. rw e refl;
}

abbrev pub then_whole : {A B : Type 0} → (Spot → Read A) → (A → Spot → Result B ℕ) → Spot → Result B ℕ
then_whole R W s = R s >>= λ y. W y.0 y.1

ends_whole : {A B : Type 0} (W : A → Spot → Result B ℕ) (r : Read A) (x : A) (w : Whole (W x)) → Again r x (w.more ++ []) → (r >>= λ y. W y.0 y.1) ≡ Ok w.value
ends_whole W r x w p = bind_is r (λ y. W y.0 y.1) (x, p.spot) (Ok w.value) p.reads (w.reads p.spot (p.left ∙ append-nil w.more))

whole_stopped : {A B : Type 0} (R : Spot → Read A) (W : A → Spot → Result B ℕ) → Steady R → ((x : A) → Whole (W x)) → (s : Spot) (n : ℕ) → then_whole R W s ≡ Err n → Stopped (then_whole R W) s n
whole_stopped {A} {B} R W a k s n e =
    elim (bind_err (R s) (λ y. W y.0 y.1) n e) [
      | inl first ↦
          let b = a.stuck s n first in
          let w = k b.value in
          record {
            good = b.good;
            rest = b.rest;
            parts = b.parts;
            place = b.place;
            bad = λ other same. rw (b.bad other same) refl;
            more = b.more ++ (w.more ++ []);
            value = w.value;
            ends = ends_whole W (R (spot s.line (b.good ++ (b.more ++ (w.more ++ []))))) b.value w (b.ends (w.more ++ []));
          }
      | inr f ↦
          let x = f.0.0 in
          let q = f.0.1 in
          let t = a.taken s x q f.1 in
          let b = (k x).stopped q n f.2 in
          let apart : (ls : List Line) → then_whole R W (spot s.line ((t.used ++ b.good) ++ ls)) ≡ W x (spot q.line (b.good ++ ls)) =
          λ ls. ap (λ (m : List Line). then_whole R W (spot s.line m)) (append_assoc t.used b.good ls)
          ∙ bind_is (R (spot s.line (t.used ++ (b.good ++ ls)))) (λ y. W y.0 y.1) (x, spot q.line (b.good ++ ls)) (W x (spot q.line (b.good ++ ls))) (t.same (b.good ++ ls)) refl in
          record {
            good = t.used ++ b.good;
            rest = b.rest;
            parts = t.parts ∙ ap (λ (ls : List Line). t.used ++ ls) b.parts ∙ sym (append_assoc t.used b.good b.rest);
            place = omega (arith, t.place, b.place, length-append t.used b.good);
            bad = λ other same. apart other ∙ b.bad other same;
            more = b.more;
            value = b.value;
            ends = apart b.more ∙ b.ends;
          }
    ]

pub whole_then : {A B : Type 0} (R : Spot → Read A) (W : A → Spot → Result B ℕ) → Steady R → ((x : A) → Whole (W x)) → Whole (then_whole R W)
whole_then R W a k =
    let f = a.fills in
    let w = k f.value in
    record {
      stopped = whole_stopped R W a k;
      more = f.more ++ (w.more ++ []);
      value = w.value;
      reads = λ s e. ends_whole W (R s) f.value w (f.reads s (w.more ++ []) e);
    }
