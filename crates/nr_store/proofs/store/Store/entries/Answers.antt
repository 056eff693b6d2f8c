use Rattle.std.proofs.Common.{◌≡◌, ap, subst, sym, ◌∙◌}
use Rattle.nr_spec_wire.specs.Reading.{IsBytes, start_of}
use Rattle.nr_spec_log.specs.Answer.{AreEntriesFrom}
use Rattle.std.specs.Prelude.{length, ◌≤◌}
use Rattle.nr_spec_store.specs.LogFile.{LogFile, most_log}
use Rattle.nr_store.specs.Views.{birth_of}
use Rattle.nr_store.proofs.Fits.{log_fits, log_is_short}
use Rattle.nr_store.proofs.Opening.{has_entries, front_reads_on}
use Rattle.nr_store.proofs.store.Store.entries.Goals as goal

pub unreachable-requires : goal.unreachable-requires
unreachable-requires c =
    let whole = c.bytes_in.ensures.same ∙ c.deref.ensures.value in
    front_reads_on c.self.inside.bytes.items _ c.new-beyond.result _ c.self.invariant.0 (c.new-beyond.ensures ∙ ap start_of whole) c.in-Err.ensures.value

pub begin-requires : goal.begin-requires
begin-requires c =
    let whole = c.bytes_in.ensures.same ∙ c.deref.ensures.value in
    (has_entries c.self.inside.bytes.items _ c.new-beyond.result c.read_front.new.cursor (birth_of c.in-Ok.field-0) c.self.invariant.0 (c.new-beyond.ensures ∙ ap start_of whole) c.in-Ok.ensures.value).none

pub returns : goal.returns
returns c =
    let whole = c.bytes_in.ensures.same ∙ c.deref.ensures.value in
    let h = has_entries c.self.inside.bytes.items _ c.new-beyond.result c.read_front.new.cursor (birth_of c.in-Ok.field-0) c.self.invariant.0 (c.new-beyond.ensures ∙ ap start_of whole) c.in-Ok.ensures.value in
    let kept = c.begin.ensures ∙ h.entries in
    let are = subst IsBytes c.deref.ensures.value c.bytes_in.ensures.bytes in
    record {
      value = kept ∙ ap (λ (l : LogFile). l.entries) c.self.view_is;
      fit = subst (AreEntriesFrom 0) (sym kept) (log_fits c.self.inside.bytes.items _ are c.self.invariant.0);
      few = subst (λ es. length es ≤ most_log) (sym kept) (log_is_short c.self.inside.bytes.items _ are c.self.invariant.0 c.self.invariant.1);
    }
