use Rattle.std.proofs.Common.{◌≡◌, drop, map}
use Rattle.std.specs.List.{list_any}
use Rattle.std.specs.Str.{bytes_eq}
use Rattle.nr_requests.proofs.record_request.is_among.Given as goal

abbrev pub invariant-loop-other : goal.invariant-loop-other
invariant-loop-other l =
    list_any (bytes_eq l.name) (map (λ s. s.now) (drop l.other-index l.others)) ≡ list_any (bytes_eq l.name) (map (λ s. s.now) l.others)
