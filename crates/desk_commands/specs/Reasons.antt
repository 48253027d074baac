-- The report on a certificate: its text, the page that shows it, and the tally that is printed.
use Rattle.std.specs.Prelude.{◌≡◌, ℕ, List}
use Rattle.series_model.specs.Submissions.{SubmissionView}
use Rattle.cert_format.specs.declared.cert.Certificate.{Certificate}
use Rattle.season_report.specs.Reports.{report_text, season_tally}
use Rattle.report_page.specs.Pages.{page_text}

-- what is written first is the report on the certificate, what is written then is the page of that
-- report, and what is printed is the tally of all units
pub record IsReported (s : SubmissionView) (c : Certificate) (report page text : List ℕ) : Type 0
  where
    pub told : report ≡ report_text s c
    pub shown : page ≡ page_text report
    pub printed : text ≡ season_tally s c
