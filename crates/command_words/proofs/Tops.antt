-- A command's shape is the top of what its builder describes.
use Rattle.std.proofs.Common.{◌≡◌, ap}
use Rattle.std.specs.Prelude.{Result, Ok, Err, IfOk}
use Rattle.clap.specs.Words.{App, app_of, shape_of}
use Rattle.clap.specs.declared.builder.command.Command.{Command}

pub top_shape : {E : Type 0} (r : Result Command E) (app : App) → IfOk r (λ c. app_of c ≡ app) → IfOk r (λ c. shape_of c ≡ app.top)
top_shape (Ok c) app e = ap (λ (a : App). a.top) e
top_shape (Err f) app e = tt
