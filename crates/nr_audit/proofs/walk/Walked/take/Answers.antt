use Rattle.std.proofs.Common.{◌∙◌}
use Rattle.std.specs.Prelude.{map}
use Rattle.nr_chain.specs.Views.{entry_of}
use Rattle.nr_discipline.specs.Views.{numbers_of}
use Rattle.nr_evidence.specs.Views.{period_of}
use Rattle.nr_judging.specs.Views.{files_in}
use Rattle.nr_spec_history.specs.Conflicts.{answer_links, answer_value}
use Rattle.nr_spec_promises.specs.Files.{first_promised}
use Rattle.nr_audit.proofs.Walking.{few_more, walked_more}
use Rattle.nr_audit.proofs.walk.Walked.take.Goals as goal

pub returns-in_err-checked-clause-counted : goal.returns-in_err-checked-clause-counted
returns-in_err-checked-clause-counted g c = λ base answer auths before rest.
    few_more (map numbers_of c.args.files.now) (files_in c.args.promises.now) (g.J.Judge.truth c.args.judge.now) base (period_of c.args.period.now) answer auths
    before c.args.steps.now c.take.new.steps (entry_of c.args.entry.now) rest c.args.self
    (λ past. c.take.ensures.counted base (first_promised answer.entries) answer.first past)

pub returns-in_err-take-clause-counted : goal.returns-in_err-take-clause-counted
returns-in_err-take-clause-counted g c = λ base answer auths before rest.
    few_more (map numbers_of c.args.files.now) (files_in c.args.promises.now) (g.J.Judge.truth c.args.judge.now) base (period_of c.args.period.now) answer auths
    before c.args.steps.now c.take.new.steps (entry_of c.args.entry.now) rest c.args.self
    (λ past. c.take.ensures.counted base (first_promised answer.entries) answer.first past)

pub returns-clause-counted : goal.returns-clause-counted
returns-clause-counted g c = λ base answer auths before rest.
    few_more (map numbers_of c.args.files.now) (files_in c.args.promises.now) (g.J.Judge.truth c.args.judge.now) base (period_of c.args.period.now) answer auths
    before c.args.steps.now c.take.new.steps (entry_of c.args.entry.now) rest c.args.self
    (λ past. c.take.ensures.counted base (first_promised answer.entries) answer.first past)

pub returns-clause-walks : goal.returns-clause-walks
returns-clause-walks g c = λ base answer auths before rest.
    walked_more (map numbers_of c.args.files.now) (files_in c.args.promises.now) (g.J.Judge.truth c.args.judge.now) base (period_of c.args.period.now) answer auths
    before c.args.steps.now c.take.new.steps (entry_of c.args.entry.now) rest c.args.self
    (record { links = c.take-2.new.self; checked = c.in_ok-checked.checked; force = c.take-3.new.self })
    c.in_ok-take.ensures.number
    (c.in_ok-take.ensures.linked auths (answer_links answer) (answer_value answer) rest)
    (λ past number. c.in_ok-checked.ensures.follows base (first_promised answer.entries) answer.first past (c.next_seq-seq.ensures ∙ number))
    (c.take-3.ensures base)
    (λ past. c.take.ensures.counted base (first_promised answer.entries) answer.first past)
