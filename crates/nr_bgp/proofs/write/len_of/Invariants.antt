use Rattle.std.proofs.Common.{◌≡◌, ◌*◌, ◌≤◌, length, take, ℕ, ◌<◌, slice_index_or}
use Rattle.nr_spec_bgp.specs.Prefixes.{Cidr, IsCidr}
use Rattle.nr_spec_bgp.specs.Messages.{cidrs_bytes}
use Rattle.nr_bgp.proofs.write.len_of.Given as goal

abbrev pub invariant-loop-p : goal.invariant-loop-p
invariant-loop-p l = record { value : l.len ≡ length (cidrs_bytes (take l.p-index l.prefixes)); bound : l.len ≤ 5 * l.p-index; cidrs : (k : ℕ) (d : Cidr) → k < l.p-index → IsCidr (slice_index_or l.prefixes k d) }
