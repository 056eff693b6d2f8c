use Rattle.std.proofs.Common.{◌∙◌, ℕ, List, Bor, ap, map}
use Rattle.nr_recording.specs.Recordings.{Recorded}
use Rattle.nr_command_parts.specs.Keys.{key_view}
use Rattle.nr_command_parts.specs.Views.{promise_file_of}
use Rattle.nr_requests.specs.Views.{record_request_of}
use Rattle.nr_log_commands.proofs.Prepared.{recorded_by}
use Rattle.nr_log_commands.proofs.recording.record_events.Goals as goal

pub returns : goal.returns
returns g c =
    recorded_by (record_request_of c.args.request.now) (promise_file_of c.in_ok-promise.promise) (key_view c.in_ok-key.key) c.in_ok-recording.recording.neighbours _ c.in_ok-recording.recording.files c.in_ok-found.found _ _ _ _ _ _ _
    c.in_ok-promise.ensures c.in_ok-key.ensures (ap (λ (l : List (Bor (List ℕ))). map (λ s. s.now) l) c.deref.ensures.value) c.in_ok-recording.ensures.does c.in_ok-found.ensures.does
    (c.in_ok-recording.ensures.same ∙ ap (λ (r : Recorded). r.neighbours) c.new-recording.ensures ∙ c.in_ok-speakers_in.ensures.value) c.record_behind.ensures
