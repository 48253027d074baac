use Rattle.std.proofs.Common.{◌≡◌, ℕ, ◌<◌, List, [], ◌++◌, length, take, Option, Some, None, IfSome, ap, ◌∙◌, arith}
use Rattle.std.specs.Option.{option_map}
use Rattle.std.proofs.lemmas.List.{length-take, take_all}
use Rattle.desk_outside.proofs.real_cabinet.read_whole.Goals as goal

-- what was read up to a limit that it does not reach is all that there is
whole_below : (inner known : Option (List ℕ)) (items start : List ℕ) (limit : ℕ) → inner ≡ known → start ≡ [] → IfSome (option_map (take limit) inner) (λ read. items ≡ start ++ read) → length items < limit → IfSome known (λ all. items ≡ all)
whole_below inner None items start limit same empty read lt = tt
whole_below None (Some all) items start limit same empty read lt = absurd cc
whole_below (Some given) (Some all) items start limit same empty read lt =
    let is : given ≡ all = cc in
    let front : items ≡ take limit given = read ∙ ap (λ (s : List ℕ). s ++ take limit given) empty in
    front ∙ take_all limit given (omega (arith, ap length front, length-take limit given)) ∙ is

pub returns-in-Ok-read_to_end-clause-whole : goal.returns-in-Ok-read_to_end-clause-whole
returns-in-Ok-read_to_end-clause-whole g c =
    let counted = c.read_to_end.new.buf.ok.0 in
    let fits = c.read_to_end.new.buf.ok.1 in
    let small = c.read_to_end.new.buf.small in
    whole_below (g.F.Read.remaining c.take-limited.result.inner) (g.F.Read.remaining c.args.file) c.read_to_end.new.buf.items c.in-Ok.bytes.items c.take-limited.result.limit
    (ap g.F.Read.remaining c.take-limited.ensures.inner) c.in-Ok.ensures.items c.in-Ok-read_to_end.ensures.bytes (omega arith)
