-- A path that is seen is no longer than its bytes.
use Rattle.std.proofs.Common.{◌≡◌, ℕ, ◌≤◌, Bool, true, List, [], length, Result, Ok, Err, refl, ap, arith}
use Rattle.std.specs.Prelude.{is_ok}
use Rattle.std.specs.Result.{result_unwrap_or}
use Rattle.nr_spec_wire.specs.Reading.{start_of}
use Rattle.nr_spec_bgp.specs.Paths.{Segment, segment_at, segments_at, segments_in, path_len}
use Rattle.nr_spec_bgp.specs.Attributes.{is_path}
use Rattle.nr_spec_bgp.proofs.Walks.{all_end}
use Rattle.nr_spec_bgp.proofs.Short.{segments_are_short}

short_of : (r : Result (List Segment) ℕ) (room : ℕ) → ((path : List Segment) → r ≡ Ok path → path_len path ≤ room) → path_len (result_unwrap_or r []) ≤ room
short_of (Ok path) room h = h path refl
short_of (Err e) room h = omega arith

pub path_is_short : (as4 : Bool) (value : List ℕ) → path_len (segments_in as4 value) ≤ length value
path_is_short as4 value = short_of (segments_at as4 (start_of value)) (length value) (segments_are_short as4 (start_of value))

no_segments : (as4 : Bool) → segments_at as4 (start_of []) ≡ Ok []
no_segments as4 = all_end (segment_at as4) (start_of []) refl

pub no_path : (as4 : Bool) → (is_path as4 [] ≡ true) × (segments_in as4 [] ≡ [])
no_path as4 = (ap is_ok (no_segments as4), ap (λ (r : Result (List Segment) ℕ). result_unwrap_or r []) (no_segments as4))
