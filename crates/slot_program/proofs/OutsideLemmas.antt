-- What holds of any world, of each port, number of workers and disk, holds of what is there.
use Rattle.std.proofs.Common.{ℕ, Option, Result, Ok, Err}
use Rattle.std.specs.Prelude.{IfOk, IfErr}
use Rattle.desk_disk.specs.Disks.{DiskView}
use Rattle.desk_commands.specs.Outside.{Outside}
use Rattle.desk_commands.specs.Desk.{World}

pub ok_tried : {A E : Type 0} (P : A → World → Outside → Type 0) (o : Outside) (w : World) (r : Result A E) → IfOk r (λ a. (u : World) (p : Outside) → P a u p) → IfOk r (λ a. P a w o)
ok_tried P o w (Ok a) h = h w o
ok_tried P o w (Err e) h = tt

-- the same for each port and number of workers
pub ok_numbered : {A E : Type 0} (P : A → ℕ → ℕ → Type 0) (port workers : ℕ) (r : Result A E) → IfOk r (λ a. (p k : ℕ) → P a p k) → IfOk r (λ a. P a port workers)
ok_numbered P port workers (Ok a) h = h port workers
ok_numbered P port workers (Err e) h = tt

pub err_numbered : {A E : Type 0} (P : E → ℕ → ℕ → Type 0) (port workers : ℕ) (r : Result A E) → IfErr r (λ e. (p k : ℕ) → P e p k) → IfErr r (λ e. P e port workers)
err_numbered P port workers (Ok a) h = tt
err_numbered P port workers (Err e) h = h port workers

-- and for each disk, which such a job does not use
pub ok_served : {A E : Type 0} (P : A → ℕ → ℕ → Option DiskView → Type 0) (port workers : ℕ) (disk : Option DiskView) (r : Result A E) → IfOk r (λ a. (p k : ℕ) (d : Option DiskView) → P a p k d) → IfOk r (λ a. P a port workers disk)
ok_served P port workers disk (Ok a) h = h port workers disk
ok_served P port workers disk (Err e) h = tt

pub err_served : {A E : Type 0} (P : E → ℕ → ℕ → Option DiskView → Type 0) (port workers : ℕ) (disk : Option DiskView) (r : Result A E) → IfErr r (λ e. (p k : ℕ) (d : Option DiskView) → P e p k d) → IfErr r (λ e. P e port workers disk)
err_served P port workers disk (Ok a) h = tt
err_served P port workers disk (Err e) h = h port workers disk
