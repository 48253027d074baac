use Rattle.std.proofs.Common.{◌↔◌, subst, sym}
use Rattle.std.specs.Prelude.{IsTrue}
use Rattle.fault_causes.specs.Forms.{HasForm}
use Rattle.fault_causes.specs.declared.form.Form.{Form}
use Rattle.fault_causes.proofs.FormLemmas.{airport_form}
use Rattle.fault_causes.proofs.form.has_form.Goals as goal

pub returns-in-Airport : goal.returns-in-Airport
returns-in-Airport c =
    subst (λ (form : Form). IsTrue c.is_some.result ↔ HasForm form c.args.text.now) (sym c.in-Airport.is)
    (airport_form c.args.text.now c.read.result c.is_some.result c.is_some.ensures c.read.ensures.found c.read.ensures.only)
