-- The texts of units, one after the other.
use Rattle.std.proofs.Common.{◌≡◌, ℕ, ◌+◌, ◌<◌, ◌≤◌, sym, ◌∙◌, ap, arith, List, [], ◌∷◌, ◌++◌, length, get_or, drop}
use Rattle.std.specs.Prelude.{Vec}
use Rattle.std.proofs.lemmas.List.{append_assoc, append-nil, drop_more, drop_all, get_or-map, length-map}
use Rattle.season_days.specs.declared.declaration.Declaration.{Declaration}
use Rattle.season_report.specs.declared.decided.Decided.{Decided}
use Rattle.season_report.specs.Reports.{unit_text, units_text}
use Rattle.season_report.specs.Private.{texts_of}

pub units_next : {A : Type 0} (d : Declaration) (units : List Decided) (reasons : List (Vec ℕ A)) (i : ℕ) (e : Decided) (was : Vec ℕ A) (text out after whole : List ℕ) → i < length units → length reasons ≡ length units → was ≡ get_or reasons i was → text ≡ was.items →
    after ≡ out ++ unit_text d (get_or units i e) text → out ++ units_text d (drop i units) (drop i (texts_of reasons)) ≡ whole →
    after ++ units_text d (drop (i + 1) units) (drop (i + 1) (texts_of reasons)) ≡ whole
units_next {A} d units reasons i e was text out after whole lt same is reads wrote so_far =
    let items : Vec ℕ A → List ℕ = λ (v : Vec ℕ A). v.items in
    let texts : List (List ℕ) = texts_of reasons in
    let unit = get_or units i e in
    let later = units_text d (drop (i + 1) units) (drop (i + 1) texts) in
    let there : i < length texts = omega (arith, lt, same, length-map reasons items) in
    let own : get_or texts i [] ≡ text = get_or-map items reasons i was [] (omega (arith, lt, same)) ∙ ap items (sym is) ∙ sym reads in
    let all : units_text d (drop i units) (drop i texts) ≡ unit_text d unit text ++ later =
    ap (λ (us : List Decided). units_text d us (drop i texts)) (drop_more units i e lt)
    ∙ ap (λ (ts : List (List ℕ)). units_text d (unit ∷ drop (i + 1) units) ts) (drop_more texts i [] there)
    ∙ ap (λ (t : List ℕ). unit_text d unit t ++ later) own in
    ap (λ (t : List ℕ). t ++ later) wrote
    ∙ append_assoc out (unit_text d unit text) later
    ∙ ap (λ (t : List ℕ). out ++ t) (sym all)
    ∙ so_far

pub units_end : (d : Declaration) (units : List Decided) (texts : List (List ℕ)) (i : ℕ) (out whole : List ℕ) → length units ≤ i → out ++ units_text d (drop i units) texts ≡ whole → out ≡ whole
units_end d units texts i out whole past so_far =
    sym (append-nil out) ∙ ap (λ (t : List ℕ). out ++ t) (sym (ap (λ (us : List Decided). units_text d us texts) (drop_all i units past))) ∙ so_far
