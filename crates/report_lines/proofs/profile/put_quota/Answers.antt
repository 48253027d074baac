use Rattle.std.proofs.Common.{◌≡◌, ℕ, List, ◌++◌, ◌∙◌, ap, arith, rules}
use Rattle.std.specs.Prelude.{Some, None, sum_by}
use Rattle.season_days.specs.Capacity.{Capacity, windows_of}
use Rattle.report_lines.proofs.WindowLemmas.{from_some, quota_there}
use Rattle.report_lines.proofs.PeakLemmas.{quota_is, quota_line, none_is}
use Rattle.report_lines.proofs.profile.put_quota.Goals as goal

pub returns-in_default : goal.returns-in_default
returns-in_default c = λ load has.
    let k = c.args.windows.now in
    let night : k.night ≡ None = ap (λ (q : Capacity). q.night) c.requires.windows ∙ c.in_default.is in
    quota_is load k.night (sum_by (windows_of k) k.rules) c.args.out.now.items night

pub returns-in_default-night : goal.returns-in_default-night
returns-in_default-night c = λ load has.
    let k = c.args.windows.now in
    let night : k.night ≡ None = none_is k.night (c.night.ensures.none.0 (search rules)) in
    quota_is load k.night (sum_by (windows_of k) k.rules) c.args.out.now.items night

pub returns : goal.returns
returns c = λ load has.
    let k = c.args.windows.now in
    let quota = c.in-Some-night.quota in
    let night : k.night ≡ Some c.in-Some.night = ap (λ (q : Capacity). q.night) c.requires.windows ∙ c.in-Some.is in
    let number : quota ≡ sum_by (windows_of k) k.rules = from_some c.night.result quota (λ (r : ℕ). r ≡ sum_by (windows_of k) k.rules) c.in-Some-night.is c.night.ensures.number in
    let there = quota_there k c.in-Some.night night in
    c.in_ok-put_night.ensures
    ∙ ap (λ (t : List ℕ). c.args.out.now.items ++ t) (quota_line load k.night c.in-Some.night quota (sum_by (windows_of k) k.rules) _ night number (has quota (omega (arith, there, number))))
