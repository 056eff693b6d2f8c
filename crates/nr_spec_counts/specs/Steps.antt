-- What one entry makes of what is known: the code keeps this, and the definitions look back.
use Rattle.std.specs.Prelude.{if◌then◌else◌, ℕ, ◌+◌, None, Option, Some, unwrap_or}
use Rattle.nr_spec_entry.specs.Contents.{Content}
use Rattle.nr_spec_routes.specs.LookBack.{later_or}
use Rattle.nr_spec_counts.specs.Tallies.{Tally, ack_from, is_commit, is_commit_to, is_exchange_with, is_send_to, promise_in}

-- what one content makes of what is known
abbrev pub counted : Tally → Option Content → ℕ → Tally
counted t c time = record {
  sends = λ n. t.sends n + (if is_send_to n c then 1 else 0);
  acked = λ n. unwrap_or (ack_from n c) (t.acked n);
  oldest = λ n.
      if is_commit_to n c then None else later_or (t.oldest n) (if is_exchange_with n c then Some time else None);
  commits = t.commits + (if is_commit c then 1 else 0);
  in_force = later_or (promise_in c) t.in_force;
  last = time;
}
