use Rattle.std.proofs.Common.{◌≡◌, Bool, true, false, ◌&&◌, ap, sym, subst, ◌∙◌, arith}
use Rattle.std.specs.Prelude.{IfOk, Some}
use Rattle.std.specs.List.{list_any}
use Rattle.nr_spec_report.specs.Wrong.{nothing_before}
use Rattle.nr_spec_runs.specs.Runs.{Key, Span, key_of, runs_of}
use Rattle.nr_spec_truth.specs.Truths.{meant}
use Rattle.nr_spec_promises.specs.Files.{first_promised}
use Rattle.nr_spec_promises.specs.Broken.{lasts}
use Rattle.nr_spec_claims.specs.Claims.{same_span}
use Rattle.nr_evidence.specs.Views.{period_of}
use Rattle.nr_verify_runs.specs.Views.{files_in, says_in, says_of}
use Rattle.nr_verify_runs.specs.Walked.{Charge, moments_after}
use Rattle.nr_verify_runs.proofs.Claimed.{its_promise, its_text, told, untold}
use Rattle.nr_verify_runs.proofs.walk.is_broken_in.Goals as goal

pub returns-in-None : goal.returns-in-None
returns-in-None c =
    sym (untold (files_in c.args.texts.now) (meant (says_in c.args.texts.now)) nothing_before (period_of c.args.period.now) c.args.entries (key_of c.args.file c.args.promise c.args.prefix)
    (record { begin = c.args.begin; end = c.args.end })
    (its_promise c.args.texts.now c.args.file c.args.promise c.args.prefix c.args.text.now c.requires.there ∙ sym c.in-None.ensures))

pub returns-then-not-lasts : goal.returns-then-not-lasts
returns-then-not-lasts c =
    let t = c.args.text.now in
    let s : Span = record { begin = c.args.begin; end = c.args.end } in
    let key : Key = key_of c.args.file c.args.promise c.args.prefix in
    let files = files_in c.args.texts.now in
    let period = period_of c.args.period.now in
    let charge : Charge = record { files = files; first = first_promised c.args.entries; file = c.args.file; neighbours = t.neighbours.now; promise = c.in-Some.promise.now; prefix = c.args.prefix; period = period } in
    let found : Bool = list_any (same_span s) (runs_of period.to (moments_after nothing_before charge c.args.entries)) in
    let is = told files (says_in c.args.texts.now) (says_of t) c.in-Some.promise.now nothing_before period c.args.entries key s
    (its_promise c.args.texts.now c.args.file c.args.promise c.args.prefix t c.requires.there ∙ sym c.in-Some.ensures)
    (its_text c.args.texts.now c.args.file t c.requires.there) (sym c.in-Some.ensures) in
    let short : c.lasts.result ≡ false = grind arith in
    let e : lasts (Some c.in-Some.promise.now) s ≡ false = sym c.lasts.ensures ∙ short in
    sym (is ∙ ap (λ (b : Bool). b && found) e)

pub returns-else-not-lasts : goal.returns-else-not-lasts
returns-else-not-lasts c =
    let t = c.args.text.now in
    let s : Span = record { begin = c.args.begin; end = c.args.end } in
    let key : Key = key_of c.args.file c.args.promise c.args.prefix in
    let files = files_in c.args.texts.now in
    let period = period_of c.args.period.now in
    let charge : Charge = record { files = files; first = first_promised c.args.entries; file = c.args.file; neighbours = t.neighbours.now; promise = c.in-Some.promise.now; prefix = c.args.prefix; period = period } in
    let found : Bool = list_any (same_span s) (runs_of period.to (moments_after nothing_before charge c.args.entries)) in
    let is = told files (says_in c.args.texts.now) (says_of t) c.in-Some.promise.now nothing_before period c.args.entries key s
    (its_promise c.args.texts.now c.args.file c.args.promise c.args.prefix t c.requires.there ∙ sym c.in-Some.ensures)
    (its_text c.args.texts.now c.args.file t c.requires.there) (sym c.in-Some.ensures) in
    let long : c.lasts.result ≡ true = grind arith in
    let e : lasts (Some c.in-Some.promise.now) s ≡ true = sym c.lasts.ensures ∙ long in
    subst (λ (b : Bool). IfOk c.has_run.result (λ found. found ≡ b)) (sym (is ∙ ap (λ (b : Bool). b && found) e)) c.has_run.ensures
