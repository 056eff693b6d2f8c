use Rattle.std.proofs.Common.{◌≡◌, ◌≤◌, length, true, false, Option, Some, rules, sym, ap, subst, ◌∙◌, arith}
use Rattle.std.proofs.lemmas.List.{length-take}
use Rattle.nr_spec_plans.specs.Plans.{Done}
use Rattle.nr_spec_wire.specs.Reading.{start_of, IsBytes}
use Rattle.nr_spec_store.specs.LogFile.{LogFile, IsLog, is_born, log_of}
use Rattle.nr_spec_store.specs.StorePlans.{Work, understood}
use Rattle.nr_store.specs.Views.{birth_of}
use Rattle.nr_store.proofs.Owned.{made}
use Rattle.nr_store.proofs.Opening.{unborn, front_fault, batches_fault, opened, front_reads}
use Rattle.nr_store.proofs.store.open.Goals as goal

pub returns-then-not-is_born_file-clause-gives : goal.returns-then-not-is_born_file-clause-gives
returns-then-not-is_born_file-clause-gives c =
    let none : is_born c.args.bytes.items ≡ false = search rules in
    ap understood (unborn c.args.bytes.items none)

pub returns-in-Err-clause-gives : goal.returns-in-Err-clause-gives
returns-in-Err-clause-gives c =
    let is : is_born c.args.bytes.items ≡ true = search rules in
    let start : c.new-cursor.result ≡ start_of c.args.bytes.items = search rules in
    ap understood (front_fault c.args.bytes.items c.new-cursor.result c.in-Err.place.0 is start c.in-Err.ensures.value)

pub returns-in-Err-check_batches-clause-gives : goal.returns-in-Err-check_batches-clause-gives
returns-in-Err-check_batches-clause-gives c =
    let is : is_born c.args.bytes.items ≡ true = search rules in
    let start : c.new-cursor.result ≡ start_of c.args.bytes.items = search rules in
    ap understood (batches_fault c.args.bytes.items c.new-cursor.result c.read_front.new.cursor (birth_of c.in-Ok.front) c.in-Err-check_batches.place.0 is start c.in-Ok.ensures.value c.in-Err-check_batches.ensures)

pub invariant_of-result : goal.invariant_of-result
invariant_of-result c =
    let is : is_born c.args.bytes.items ≡ true = search rules in
    let start : c.new-cursor.result ≡ start_of c.args.bytes.items = search rules in
    let fits : IsBytes c.args.bytes.items = search rules in
    let o = opened c.args.bytes.items c.new-cursor.result c.read_front.new.cursor (birth_of c.in-Ok.front) c.in-Ok-check_batches.end fits is start c.in-Ok.ensures.value c.in-Ok-check_batches.ensures in
    let front = c.truncate.ensures.items ∙ o.front in
    let size : length c.truncate.new.self.items ≤ 2147483647 = omega (arith, ap length c.truncate.ensures.items, length-take c.in-Ok-check_batches.end c.args.bytes.items, c.requires) in
    ((made c.in-Ok.front.asn c.in-Ok.front.root.0 c.truncate.new.self.items o.log o.asn o.root front (ap log_of front ∙ front_reads o.log o.is_log)).invariant, size)

pub returns-clause-log : goal.returns-clause-log
returns-clause-log c =
    let is : is_born c.args.bytes.items ≡ true = search rules in
    let start : c.new-cursor.result ≡ start_of c.args.bytes.items = search rules in
    let fits : IsBytes c.args.bytes.items = search rules in
    let o = opened c.args.bytes.items c.new-cursor.result c.read_front.new.cursor (birth_of c.in-Ok.front) c.in-Ok-check_batches.end fits is start c.in-Ok.ensures.value c.in-Ok-check_batches.ensures in
    let front = c.truncate.ensures.items ∙ o.front in
    let m = made c.in-Ok.front.asn c.in-Ok.front.root.0 c.truncate.new.self.items o.log o.asn o.root front (ap log_of front ∙ front_reads o.log o.is_log) in
    subst IsLog (sym m.view) o.is_log

pub returns-clause-gives : goal.returns-clause-gives
returns-clause-gives c =
    let is : is_born c.args.bytes.items ≡ true = search rules in
    let start : c.new-cursor.result ≡ start_of c.args.bytes.items = search rules in
    let fits : IsBytes c.args.bytes.items = search rules in
    let o = opened c.args.bytes.items c.new-cursor.result c.read_front.new.cursor (birth_of c.in-Ok.front) c.in-Ok-check_batches.end fits is start c.in-Ok.ensures.value c.in-Ok-check_batches.ensures in
    let front = c.truncate.ensures.items ∙ o.front in
    let m = made c.in-Ok.front.asn c.in-Ok.front.root.0 c.truncate.new.self.items o.log o.asn o.root front (ap log_of front ∙ front_reads o.log o.is_log) in
    let gives : LogFile → Work (Option LogFile) = λ l. Done (Some l) in
    ap understood o.reads ∙ ap gives (sym m.view)
