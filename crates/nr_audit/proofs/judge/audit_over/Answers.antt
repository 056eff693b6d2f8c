use Rattle.std.proofs.Common.{ap, sym, ◌∙◌, arith}
use Rattle.std.specs.Prelude.{map, option_map}
use Rattle.nr_answer.specs.Views.{auth_of}
use Rattle.nr_chain.specs.Views.{digest_bytes}
use Rattle.nr_evidence.specs.Views.{period_of}
use Rattle.nr_runs.specs.Views.{runs_in}
use Rattle.nr_audit.specs.Slots.{accuses}
use Rattle.nr_audit.specs.Views.{audited_of, marked, wrong_of}
use Rattle.nr_audit.proofs.Judging.{head_passes, head_refuses, marked_by, network_passes, network_refuses, other_bytes, promise_passes, promise_refuses, same_bytes, short_passes, short_refuses, signed_passes, signed_refuses}
use Rattle.nr_audit.proofs.judge.audit_over.Goals as goal

pub returns-in-Some-clause-outcome : goal.returns-in-Some-clause-outcome
returns-in-Some-clause-outcome g c = λ base before.
    network_refuses c.args.root.now.0 (map audited_of c.args.files.now) (g.J.Judge.truth c.args.judge.now) base c.args.answer.now (period_of c.args.period.now) c.args.auths.now c.asn.result c.asn-in-Some.result (audited_of c.in-Some.other)
    c.asn.ensures c.asn-in-Some.ensures c.in-Some.ensures

pub returns-then-not-is_signed-clause-outcome : goal.returns-then-not-is_signed-clause-outcome
returns-then-not-is_signed-clause-outcome g c = λ base before.
    let root = c.args.root.now.0 in
    let files = map audited_of c.args.files.now in
    let truth = g.J.Judge.truth c.args.judge.now in
    let answer = c.args.answer.now in
    let period = period_of c.args.period.now in
    let auths = c.args.auths.now in
    let asked = network_passes root files truth base answer period auths c.asn.result c.asn.ensures c.in_default.ensures in
    signed_refuses root files truth base answer period auths (auth_of c.head-head.result) c.is_signed.result asked c.head-head.ensures.value c.is_signed.ensures c.if-not-is_signed.true

pub returns-then-ne-clause-outcome : goal.returns-then-ne-clause-outcome
returns-then-ne-clause-outcome g c = λ base before.
    let root = c.args.root.now.0 in
    let files = map audited_of c.args.files.now in
    let truth = g.J.Judge.truth c.args.judge.now in
    let answer = c.args.answer.now in
    let period = period_of c.args.period.now in
    let auths = c.args.auths.now in
    let head = auth_of c.head-head.result in
    let value = c.in_ok-value.field-0.value.0 in
    let asked = network_passes root files truth base answer period auths c.asn.result c.asn.ensures c.in_default.ensures in
    let signed = signed_passes root files truth base answer period auths head c.is_signed.result asked c.head-head.ensures.value c.is_signed.ensures c.if-not-is_signed.false in
    head_refuses root files truth base answer period auths head value signed c.head-head.ensures.value c.in_ok-value.ensures.value
    (other_bytes head.hash value c.as_slice.result.now c.as_slice-2.result.now c.ne.result c.as_slice.ensures c.as_slice-2.ensures c.ne.ensures c.if-ne.true)

pub returns-then-head-period-clause-outcome : goal.returns-then-head-period-clause-outcome
returns-then-head-period-clause-outcome g c = λ base before.
    let root = c.args.root.now.0 in
    let files = map audited_of c.args.files.now in
    let truth = g.J.Judge.truth c.args.judge.now in
    let answer = c.args.answer.now in
    let period = period_of c.args.period.now in
    let auths = c.args.auths.now in
    let head = auth_of c.head-head.result in
    let value = c.in_ok-value.field-0.value.0 in
    let asked = network_passes root files truth base answer period auths c.asn.result c.asn.ensures c.in_default.ensures in
    let signed = signed_passes root files truth base answer period auths head c.is_signed.result asked c.head-head.ensures.value c.is_signed.ensures c.if-not-is_signed.false in
    let linked = head_passes root files truth base answer period auths head value signed c.head-head.ensures.value c.in_ok-value.ensures.value
    (same_bytes head.hash value c.as_slice.result.now c.as_slice-2.result.now c.ne.result c.as_slice.ensures c.as_slice-2.ensures c.ne.ensures c.if-ne.false) in
    short_refuses root files truth base answer period auths head linked c.head-head.ensures.value (omega (arith, c.if-head-period.true))

pub returns-in-Some-misfit-clause-outcome : goal.returns-in-Some-misfit-clause-outcome
returns-in-Some-misfit-clause-outcome g c = λ base before.
    let root = c.args.root.now.0 in
    let files = map audited_of c.args.files.now in
    let truth = g.J.Judge.truth c.args.judge.now in
    let answer = c.args.answer.now in
    let period = period_of c.args.period.now in
    let auths = c.args.auths.now in
    let head = auth_of c.head-head.result in
    let value = c.in_ok-value.field-0.value.0 in
    let asked = network_passes root files truth base answer period auths c.asn.result c.asn.ensures c.in_default.ensures in
    let signed = signed_passes root files truth base answer period auths head c.is_signed.result asked c.head-head.ensures.value c.is_signed.ensures c.if-not-is_signed.false in
    let linked = head_passes root files truth base answer period auths head value signed c.head-head.ensures.value c.in_ok-value.ensures.value
    (same_bytes head.hash value c.as_slice.result.now c.as_slice-2.result.now c.ne.result c.as_slice.ensures c.as_slice-2.ensures c.ne.ensures c.if-ne.false) in
    let long = short_passes root files truth base answer period auths head linked c.head-head.ensures.value (omega (arith, c.if-head-period.false)) in
    promise_refuses root files truth base answer period auths (option_map digest_bytes c.in-Some-misfit.found) c.first_digest.result.0 long
    (ap (option_map (option_map digest_bytes)) (sym c.in-Some-misfit.is) ∙ c.in_ok-value.ensures.misfit base before) c.first_digest.ensures

pub returns-clause-outcome : goal.returns-clause-outcome
returns-clause-outcome g c = λ base before.
    let root = c.args.root.now.0 in
    let files = map audited_of c.args.files.now in
    let truth = g.J.Judge.truth c.args.judge.now in
    let answer = c.args.answer.now in
    let period = period_of c.args.period.now in
    let auths = c.args.auths.now in
    let head = auth_of c.head-head.result in
    let found = c.in_ok-value.field-0 in
    let asked = network_passes root files truth base answer period auths c.asn.result c.asn.ensures c.in_default.ensures in
    let signed = signed_passes root files truth base answer period auths head c.is_signed.result asked c.head-head.ensures.value c.is_signed.ensures c.if-not-is_signed.false in
    let linked = head_passes root files truth base answer period auths head found.value.0 signed c.head-head.ensures.value c.in_ok-value.ensures.value
    (same_bytes head.hash found.value.0 c.as_slice.result.now c.as_slice-2.result.now c.ne.result c.as_slice.ensures c.as_slice-2.ensures c.ne.ensures c.if-ne.false) in
    let long = short_passes root files truth base answer period auths head linked c.head-head.ensures.value (omega (arith, c.if-head-period.false)) in
    promise_passes root files truth base answer period auths (marked auths c.in_ok-conflicts.conflicts.items) (map wrong_of found.wrong.items) (runs_in found.broken.items) long
    (ap (option_map (option_map digest_bytes)) (sym c.in_default-misfit.is) ∙ c.in_ok-value.ensures.misfit base before)
    (ap (marked auths) (c.in_ok-conflicts.ensures ∙ (λ i. map (accuses root (c.asn-2.ensures i) period found.slots.links.entries) auths))
    ∙ (marked_by (accuses root answer.asn period found.slots.links.entries) auths ∙ c.in_ok-value.ensures.conflicts root))
    (c.in_ok-value.ensures.wrong base before) (c.in_ok-value.ensures.broken base before)
