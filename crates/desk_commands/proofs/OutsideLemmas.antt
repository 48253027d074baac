-- What holds whatever is outside holds of what is there.
use Rattle.std.proofs.Common.{[], None, Result, Ok, Err}
use Rattle.std.specs.Prelude.{IfOk, IfErr}
use Rattle.desk_commands.specs.Outside.{Outside}

pub nowhere : Outside
nowhere = record { doors = []; disk = None }

pub ok_at : {A E : Type 0} (P : A → Outside → Type 0) (o : Outside) (r : Result A E) → IfOk r (λ a. (p : Outside) → P a p) → IfOk r (λ a. P a o)
ok_at P o (Ok a) h = h o
ok_at P o (Err e) h = tt

pub err_at : {A E : Type 0} (P : E → Outside → Type 0) (o : Outside) (r : Result A E) → IfErr r (λ e. (p : Outside) → P e p) → IfErr r (λ e. P e o)
err_at P o (Ok a) h = tt
err_at P o (Err e) h = h o
