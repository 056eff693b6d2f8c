use Rattle.nr_verify_runs.proofs.watch.Watch.observe.Goals as goal
use Rattle.nr_verify_runs.proofs.watch.Watch.observe.Goals.{then-self, else-self}
use Rattle.nr_spec_claims.specs.Claims.{same_span}
use Rattle.nr_spec_runs.specs.Runs.{Span}
use Rattle.nr_spec_runs.specs.Runs.{Moment}
use Rattle.nr_verify_runs.proofs.Watching.{ended, first_bad, goes, idle}
use Rattle.nr_verify_runs.specs.Walked.{Watch, Watched}
use Rattle.std.proofs.Common.{[], ap, arith, false, subst, sym, true, ◌++◌, ◌||◌, ◌∙◌, ◌∷◌, ◌≡◌}

pub returns-after-self-clause-seen : goal.returns-after-self-clause-seen
returns-after-self-clause-seen c ms h =
    let span : Span = record { begin = c.self.inside.begin; end = c.self.inside.end } in
    let m : Moment = record { begin = c.args.time; bad = c.args.bad } in
    let e : c.args.bad ≡ false = grind arith in
    let n : c.if-self.self ≡ (c.self.inside.found || same_span span (record { begin = c.in-Some.since; end = c.args.time }))
    = elim c.if-self.branch [ then-self w ↦ w.self-is ∙ w.if-self.true ∙ sym (ap (λ t. t || same_span span (record { begin = c.in-Some.since; end = c.args.time })) w.if-self.true) | else-self w ↦ w.self-is ∙ (w.is_sought-self-inside.ensures ∙ ap (λ (w : Watch). same_span w.span (record { begin = c.in-Some.since; end = c.args.time })) (sym c.self.view_is) ∙ sym (ap (λ t. t || same_span span (record { begin = c.in-Some.since; end = c.args.time })) w.if-self.false)) ] in
    ended ms m span c.self.inside.since c.in-Some.since c.self.inside.found c.if-self.self c.in-Some.is (subst (Watched ms) (sym c.self.view_is) h) e n

pub returns-else-not-bad-clause-seen : goal.returns-else-not-bad-clause-seen
returns-else-not-bad-clause-seen c ms h =
    let span : Span = record { begin = c.self.inside.begin; end = c.self.inside.end } in
    let m : Moment = record { begin = c.args.time; bad = c.args.bad } in
    let e : c.args.bad ≡ true = grind arith in
    subst (Watched (ms ++ m ∷ [])) c.self.view_is (goes ms m span c.self.inside.since c.in-Some.since c.self.inside.found c.in-Some.is (subst (Watched ms) (sym c.self.view_is) h) e)

pub returns-then-bad-clause-seen : goal.returns-then-bad-clause-seen
returns-then-bad-clause-seen c ms h =
    let span : Span = record { begin = c.self.inside.begin; end = c.self.inside.end } in
    let m : Moment = record { begin = c.args.time; bad = c.args.bad } in
    first_bad ms m span c.self.inside.since c.self.inside.found c.in-None.is (subst (Watched ms) (sym c.self.view_is) h) c.if-bad.true

pub returns-else-bad-clause-seen : goal.returns-else-bad-clause-seen
returns-else-bad-clause-seen c ms h =
    let span : Span = record { begin = c.self.inside.begin; end = c.self.inside.end } in
    let m : Moment = record { begin = c.args.time; bad = c.args.bad } in
    subst (Watched (ms ++ m ∷ [])) c.self.view_is (idle ms m span c.self.inside.since c.self.inside.found c.in-None.is (subst (Watched ms) (sym c.self.view_is) h) c.if-bad.false)
