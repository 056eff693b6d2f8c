use Rattle.std.proofs.Common.{◌≡◌, ◌∙◌, sym, subst}
use Rattle.std.specs.Prelude.{filter, map}
use Rattle.nr_discipline.specs.Views.{numbers_of}
use Rattle.nr_spec_history.specs.Conflicts.{conflicts_of}
use Rattle.nr_evidence.specs.Views.{period_of}
use Rattle.nr_judging.specs.Views.{files_in}
use Rattle.nr_audit.specs.declared.slots.Slots.{Slots}
use Rattle.nr_audit.specs.Slots.{accuses}
use Rattle.nr_audit.specs.Views.{wrong_of}
use Rattle.nr_discipline.specs.Decoded.{base_view}
use Rattle.nr_audit.proofs.Before.{stated}
use Rattle.nr_audit.proofs.Walking.{checked_is, conflicts_are, counted_is, force_is, order_is, value_is, wrong_is}
use Rattle.nr_audit.proofs.findings.found_in.Goals as goal

pub returns-in_err-wrong-clause-counted : goal.returns-in_err-wrong-clause-counted
returns-in_err-wrong-clause-counted g c = λ base before.
    let files = map numbers_of c.args.files.now in
    let promises = files_in c.args.promises.now in
    let truth = g.J.Judge.truth c.args.judge.now in
    let period = period_of c.args.period.now in
    let answer = c.args.answer.now in
    let auths = c.args.auths.now in
    let walks = c.in_ok-links.ensures.walks base before in
    c.close.ensures.counted files base answer.first c.args.steps.now answer.entries
    (order_is files promises truth base period answer auths _ _ c.in_ok-links.field-0 walks)
    (checked_is files promises truth base period answer auths _ _ c.in_ok-links.field-0 walks)
    (counted_is files promises truth base period answer auths _ _ c.in_ok-links.field-0 walks)

pub returns-clause-counted : goal.returns-clause-counted
returns-clause-counted g c = λ base before.
    let files = map numbers_of c.args.files.now in
    let promises = files_in c.args.promises.now in
    let truth = g.J.Judge.truth c.args.judge.now in
    let period = period_of c.args.period.now in
    let answer = c.args.answer.now in
    let auths = c.args.auths.now in
    let walks = c.in_ok-links.ensures.walks base before in
    c.close.ensures.counted files base answer.first c.args.steps.now answer.entries
    (order_is files promises truth base period answer auths _ _ c.in_ok-links.field-0 walks)
    (checked_is files promises truth base period answer auths _ _ c.in_ok-links.field-0 walks)
    (counted_is files promises truth base period answer auths _ _ c.in_ok-links.field-0 walks)

pub returns-clause-broken : goal.returns-clause-broken
returns-clause-broken g c = λ base before.
    let files = map numbers_of c.args.files.now in
    let promises = files_in c.args.promises.now in
    let truth = g.J.Judge.truth c.args.judge.now in
    let period = period_of c.args.period.now in
    let answer = c.args.answer.now in
    let auths = c.args.auths.now in
    let walks = c.in_ok-links.ensures.walks base before in
    c.in_ok-wrong.ensures.broken files base answer.first answer.entries
    (order_is files promises truth base period answer auths _ _ c.in_ok-links.field-0 walks)
    (checked_is files promises truth base period answer auths _ _ c.in_ok-links.field-0 walks)

pub returns-clause-conflicts : goal.returns-clause-conflicts
returns-clause-conflicts g c = λ root.
    let answer = c.args.answer.now in
    let period = period_of c.args.period.now in
    let auths = c.args.auths.now in
    let base = base_view (c.args.state, c.args.counts) in
    subst (λ (s : Slots). filter (accuses root answer.asn period s.links.entries) auths ≡ conflicts_of root answer period auths) (sym c.into_slots.ensures)
    (conflicts_are (map numbers_of c.args.files.now) (files_in c.args.promises.now) (g.J.Judge.truth c.args.judge.now) base period answer auths _ _ c.in_ok-links.field-0 (c.in_ok-links.ensures.walks base (stated c.args.state c.args.counts)) root)

pub returns-clause-misfit : goal.returns-clause-misfit
returns-clause-misfit g c = λ base before.
    c.misfit.ensures base (period_of c.args.period.now) c.args.answer.now.entries
    (force_is (map numbers_of c.args.files.now) (files_in c.args.promises.now) (g.J.Judge.truth c.args.judge.now) base (period_of c.args.period.now) c.args.answer.now c.args.auths.now _ _ c.in_ok-links.field-0 (c.in_ok-links.ensures.walks base before))

pub returns-clause-value : goal.returns-clause-value
returns-clause-value g c =
    let base = base_view (c.args.state, c.args.counts) in
    c.value.ensures
    ∙ value_is (map numbers_of c.args.files.now) (files_in c.args.promises.now) (g.J.Judge.truth c.args.judge.now) base (period_of c.args.period.now) c.args.answer.now c.args.auths.now _ _ c.in_ok-links.field-0
    (c.in_ok-links.ensures.walks base (stated c.args.state c.args.counts))

pub returns-clause-wrong : goal.returns-clause-wrong
returns-clause-wrong g c = λ base before.
    (λ i. map wrong_of (c.in_ok-wrong.ensures.wrong i).items)
    ∙ wrong_is (map numbers_of c.args.files.now) (files_in c.args.promises.now) (g.J.Judge.truth c.args.judge.now) base (period_of c.args.period.now) c.args.answer.now c.args.auths.now _ _ c.in_ok-links.field-0
    (c.in_ok-links.ensures.walks base before)
