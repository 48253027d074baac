use Rattle.std.proofs.Common.{◌∙◌, ap}
use Rattle.report_page.specs.Pages.{page_text}
use Rattle.desk_commands.proofs.report.report_output.Goals as goal

pub returns : goal.returns
returns c = record {
  told = c.in_ok-report.ensures;
  shown = c.in_ok-page.ensures ∙ ap page_text c.deref.ensures.value;
  printed = c.in_ok-text.ensures;
}
