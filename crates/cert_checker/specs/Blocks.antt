-- The lines of one stage in a certificate. Contracts of private functions alone cite this.
use Rattle.std.specs.Prelude.{◌≡◌, ℕ, ◌+◌, Bool, List, length}
use Rattle.season_days.specs.declared.declaration.Declaration.{Declaration}
use Rattle.cert_format.specs.declared.cert.StageCert.{StageCert}
use Rattle.cert_format.specs.Spelling.{is_tried, stage_lines}
use Rattle.series_model.specs.declared.state.UnitState.{UnitState}
use Rattle.cert_checker.specs.declared.verdict.Verdict.{Verdict}
use Rattle.cert_checker.specs.declared.verdict.Verdict.TheVariants.{Yes, No}
use Rattle.cert_checker.specs.Certificates.{StageFails, StagePasses}

-- the verdict on the lines of a stage, the first of which has this number, and where it is Yes the
-- number of the line after them
abbrev pub IsBlockVerdict : Declaration → ℕ → List UnitState → Bool → ℕ → StageCert → Verdict →
    ℕ → Type 0
IsBlockVerdict d stage states follows number c Yes next =
    StagePasses d stage states c (is_tried c.mark) follows
    × (next ≡ number + length (stage_lines stage c))
IsBlockVerdict d stage states follows number c (No line reason) next =
    StageFails d stage states number c (is_tried c.mark) follows line reason
