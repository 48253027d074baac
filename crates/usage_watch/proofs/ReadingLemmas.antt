-- Line after line of reports: one more line, the end, and a bad line.
use Rattle.std.proofs.Common.{◌≡◌, ℕ, ◌+◌, ◌&&◌, Bool, true, false, List, [], ◌∷◌, ◌++◌, refl, sym, ap, ◌∙◌, subst, inl, inr, append_assoc, append-nil}
use Rattle.std.specs.Prelude.{◌⊎◌, Result, Ok, Err, IfErr, IsErrAnd}
use Rattle.std.proofs.lemmas.Bool.{false≢true}
use Rattle.slot_text.specs.Lines.{lines_of}
use Rattle.slot_text.specs.Reads.{GivesOr}
use Rattle.slot_text.specs.Fields.{is_blank, is_blank_line, fields_of}
use Rattle.season_days.specs.Term.{Term}
use Rattle.usage_watch.specs.declared.operated.Operated.{Operated}
use Rattle.usage_watch.specs.declared.fault.OperatedFault.{OperatedFault}
use Rattle.usage_watch.specs.declared.fault.OperatedFault.TheVariants.{BadLine, Memory}
use Rattle.usage_watch.specs.Reports.{IsReport, AreReports, SaysOperated, IsNoReport, IsFirstBad, HasOperatedFault}
use Rattle.usage_watch.specs.Private.Reading.{IsOnlyReport, AddsLine, IsReadSoFar}

-- ---- an empty line says no report

first_blank : (a b : Bool) → (a && b) ≡ true → a ≡ false → ⊥
first_blank true b e f = false≢true (sym f)
first_blank false b e f = false≢true e

no_empty_report : (season : Term) (line : List ℕ) (report : Operated) → is_blank_line line ≡ true → IsReport season line report → ⊥
unfolding is_blank_line fields_of
no_empty_report season [] report blank is = let e = is.fields in cc
no_empty_report season (b ∷ line) report blank is = first_blank (is_blank b) (is_blank_line line) blank is.trimmed.begins

-- ---- the begin

pub read_none : (season : Term) (lines : List (List ℕ)) → IsReadSoFar season lines lines 1 []
read_none season lines = record {
  onward = λ more are. are;
  back = λ whole are. (whole, refl, are);
  bad_onward = λ bad is. is;
  bad_back = λ bad is. is;
}

-- ---- one more line

module _ (season : Term) (all : List (List ℕ)) (line : List ℕ) (rest : List (List ℕ)) (number : ℕ) (before : List Operated) (so_far : IsReadSoFar season all (line ∷ rest) number before) where
  good : (IsNoReport season line → ⊥) → (after : List Operated) → ((more : List Operated) → AreReports season rest more → AreReports season all (after ++ more)) → ((whole : List Operated) → AreReports season all whole → (more : List Operated) × (whole ≡ after ++ more) × AreReports season rest more) → IsReadSoFar season all rest (number + 1) after
  good is_good after on back_to = record {
    onward = on;
    back = back_to;
    bad_onward = λ bad is. so_far.bad_onward bad (inr (is_good, is));
    bad_back = λ bad is. elim (so_far.bad_back bad is) [
      | inl here ↦ absurd (is_good here.0)
      | inr later ↦ later.1
    ];
  }

  empty_more : is_blank_line line ≡ true → IsReadSoFar season all rest (number + 1) before
  empty_more blank = good (λ no. false≢true (sym no.full ∙ blank)) before
      (λ more are. so_far.onward more (inl (blank, are)))
      (λ whole are.
      let b = so_far.back whole are in
      elim (b.2) [
        | inl skipped ↦ (b.0, b.1, skipped.1)
        | inr said ↦ absurd (no_empty_report season line said.0 blank said.2)
      ])

  report_more : (report : Operated) → IsOnlyReport season line report → IsReadSoFar season all rest (number + 1) (before ++ report ∷ [])
  report_more report is = good (λ no. no.nothing report is.says) (before ++ report ∷ [])
      (λ more are. subst (λ (l : List Operated). AreReports season all l) (sym (append_assoc before (report ∷ []) more)) (so_far.onward (report ∷ more) (inr (report, more, is.says, refl, are))))
      (λ whole are.
      let b = so_far.back whole are in
      elim (b.2) [
        | inl skipped ↦ absurd (no_empty_report season line report skipped.0 is.says)
        | inr said ↦
            let same : said.0 ≡ report = is.only said.0 said.2 in
            let head : said.0 ∷ said.1 ≡ report ∷ said.1 = ap (λ (r : Operated). r ∷ said.1) same in
            let e : whole ≡ before ++ (report ∷ said.1) = b.1 ∙ ap (λ (l : List Operated). before ++ l) (said.3 ∙ head) in
            (said.1, e ∙ sym (append_assoc before (report ∷ []) said.1), said.4)
      ])

  pub read_more : (after : List Operated) → AddsLine season line before after → IsReadSoFar season all rest (number + 1) after
  read_more after adds = elim (adds) [
    | inl skipped ↦ subst (λ (l : List Operated). IsReadSoFar season all rest (number + 1) l) (sym skipped.1) (empty_more skipped.0)
    | inr said ↦ subst (λ (l : List Operated). IsReadSoFar season all rest (number + 1) l) (sym said.2) (report_more said.0 said.1)
  ]

  -- the line is bad: it is the first one, and the lines say nothing
  pub is_first_bad : IsNoReport season line → IsFirstBad season 1 all number
  is_first_bad found = so_far.bad_onward number (inl (found, refl))

  pub no_reports : IsNoReport season line → (whole : List Operated) → AreReports season all whole → ⊥
  no_reports found whole are =
      elim ((so_far.back whole are).2) [
        | inl skipped ↦ false≢true (sym found.full ∙ skipped.0)
        | inr said ↦ found.nothing said.0 said.2
      ]

  pub only_bad : IsNoReport season line → (bad : ℕ) → IsFirstBad season 1 all bad → bad ≡ number
  only_bad found bad is =
      elim (so_far.bad_back bad is) [
        | inl here ↦ here.1
        | inr later ↦ absurd (later.0 found)
      ]

-- ---- the end

module _ (season : Term) (all : List (List ℕ)) (number : ℕ) (reports : List Operated) (so_far : IsReadSoFar season all [] number reports) where
  pub read_all : AreReports season all reports
  read_all = subst (λ (l : List Operated). AreReports season all l) (append-nil reports) (so_far.onward [] refl)

  pub only_reports : (whole : List Operated) → AreReports season all whole → whole ≡ reports
  only_reports whole are =
      let b = so_far.back whole are in
      b.1 ∙ ap (λ (l : List Operated). reports ++ l) b.2 ∙ append-nil reports

  pub no_bad : (bad : ℕ) → IsFirstBad season 1 all bad → ⊥
  no_bad bad is = so_far.bad_back bad is

-- ---- what the call answers

pub same_read : (one other : List Operated) → one ≡ other → let a : Result (List Operated) OperatedFault = Ok one in let b : Result (List Operated) OperatedFault = Ok other in a ≡ b
same_read one other e = cc

same_fault : (one other : OperatedFault) → one ≡ other → let a : Result (List Operated) OperatedFault = Err one in let b : Result (List Operated) OperatedFault = Err other in a ≡ b
same_fault one other e = cc

same_line : (one other : ℕ) → one ≡ other → let a : OperatedFault = BadLine one in let b : OperatedFault = BadLine other in a ≡ b
same_line one other e = cc

-- at a line that adds nothing: it is bad, or memory ran out
module _ (season : Term) (text line : List ℕ) (rest : List (List ℕ)) (number : ℕ) (before : List Operated) (so_far : IsReadSoFar season (lines_of text) (line ∷ rest) number before) (e : OperatedFault) (why : (IsNoReport season line × (e ≡ BadLine number)) ⊎ (e ≡ Memory)) where
  pub stop_only : (r : Result (List Operated) OperatedFault) → IsErrAnd r (λ f. f ≡ e) → (whole : List Operated) → SaysOperated season text whole → GivesOr Memory r (Ok whole)
  stop_only (Ok x) err whole are = absurd (err)
  stop_only (Err f) err whole are = elim (why) [
    | inl bad ↦ absurd (no_reports season (lines_of text) line rest number before so_far bad.0 whole are)
    | inr memory ↦ inr (same_fault f Memory (err ∙ memory))
  ]

  pub stop_fault : (r : Result (List Operated) OperatedFault) → IsErrAnd r (λ f. f ≡ e) → IfErr r (λ f. HasOperatedFault season text f ⊎ (f ≡ Memory))
  stop_fault (Ok x) err = tt
  stop_fault (Err f) err = elim (why) [
    | inl bad ↦ inl (subst (λ (x : OperatedFault). HasOperatedFault season text x) (sym (err ∙ bad.1)) (is_first_bad season (lines_of text) line rest number before so_far bad.0))
    | inr memory ↦ inr (err ∙ memory)
  ]

  pub stop_exact : (r : Result (List Operated) OperatedFault) → IsErrAnd r (λ f. f ≡ e) → (fault : OperatedFault) → HasOperatedFault season text fault → GivesOr Memory r (Err fault)
  stop_exact (Ok x) err fault has = absurd (err)
  stop_exact (Err f) err (BadLine at) has = elim (why) [
    | inl bad ↦ inl (same_fault f (BadLine at) (err ∙ bad.1 ∙ same_line number at (sym (only_bad season (lines_of text) line rest number before so_far bad.0 at has))))
    | inr memory ↦ inr (same_fault f Memory (err ∙ memory))
  ]
  stop_exact (Err f) err Memory has = absurd (has)

-- at the end of the text
pub none_left : (season : Term) (text left : List ℕ) (number : ℕ) (reports : List Operated) → left ≡ [] → IsReadSoFar season (lines_of text) (lines_of left) number reports → IsReadSoFar season (lines_of text) [] number reports
unfolding lines_of
none_left season text left number reports e so_far = subst (λ (l : List ℕ). IsReadSoFar season (lines_of text) (lines_of l) number reports) e so_far

pub end_exact : (season : Term) (text : List ℕ) (number : ℕ) (reports : List Operated) → IsReadSoFar season (lines_of text) [] number reports → (fault : OperatedFault) → HasOperatedFault season text fault → ⊥
end_exact season text number reports so_far (BadLine at) has = no_bad season (lines_of text) number reports so_far at has
end_exact season text number reports so_far Memory has = has
