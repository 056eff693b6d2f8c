use Rattle.std.proofs.Common.{◌≡◌, ◌≤◌, ◌∙◌, Err, ap, refl, sym, subst, length, take}
use Rattle.std.specs.Prelude.{option_map}
use Rattle.nr_spec_log.specs.Answer.{answer_file}
use Rattle.nr_spec_history.specs.KeyFiles.{Key}
use Rattle.nr_spec_steps.specs.Heads.{answer_from_first}
use Rattle.nr_heads.specs.Views.{seal_view}
use Rattle.nr_command_parts.specs.Keys.{key_view}
use Rattle.nr_answer.specs.Writing.{Writes}
use Rattle.nr_log_commands.specs.declared.answering.WholeAnswer.{WholeAnswer}
use Rattle.nr_log_commands.proofs.Answered.{unwritten_is, whole_is, whole_made}
use Rattle.nr_log_commands.proofs.answering.answer_of_log.Goals as goal

pub returns-in-Ok : goal.returns-in-Ok
returns-in-Ok c =
    let log = c.args.store.now.entries in
    let is = sym (ap (option_map seal_view) c.in-Some.is) ∙ c.seal_in.ensures in
    let same = ap (λ h. let k : Key = record { asn = c.args.key.now.asn; height = h; seed = c.args.key.now.seed.0 } in k) c.requires.height in
    let written = subst (λ (k : Key). (c.in-Ok.bytes.items ≡ answer_file (answer_from_first k (take c.in-Some.seal.seq log))) × (length (answer_file (answer_from_first k (take c.in-Some.seal.seq log))) ≤ 2147483647)) same (c.in-Ok.ensures log is c.in_ok-entries.ensures.value) in
    whole_made (key_view c.args.key.now) log (seal_view c.in-Some.seal) _ is refl written.0 written.1

pub returns : goal.returns
returns c =
    let log = c.args.store.now.entries in
    let key = key_view c.args.key.now in
    let is = sym (ap (option_map seal_view) c.in-Some.is) ∙ c.seal_in.ensures in
    let same = ap (λ h. let k : Key = record { asn = c.args.key.now.asn; height = h; seed = c.args.key.now.seed.0 } in k) c.requires.height in
    unwritten_is key log (answer_from_first key (take c.in-Some.seal.seq log)) c.in-Err.fault _ (whole_is key log (seal_view c.in-Some.seal) is)
    (subst (λ (k : Key). Writes {V = WholeAnswer} (λ w. w.bytes.items) (Err c.in-Err.fault) (answer_file (answer_from_first k (take c.in-Some.seal.seq log)))) same (c.in-Err.ensures log is c.in_ok-entries.ensures.value))
    c.from.ensures
