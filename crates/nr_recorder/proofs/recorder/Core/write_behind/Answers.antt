use Rattle.std.proofs.Common.{◌≡◌, ◌∙◌, List, Some, ap, length, map, refl, sym, take}
use Rattle.nr_chain.specs.Views.{entry_of}
use Rattle.nr_spec_log.specs.Chain.{LogEntry, value_after}
use Rattle.nr_spec_report.specs.Wrong.{nothing_before}
use Rattle.nr_spec_bodies.specs.Bases.{body_of, state_after}
use Rattle.nr_spec_steps.specs.Heads.{log_chain}
use Rattle.nr_spec_starts.specs.Starts.{answer_behind}
use Rattle.nr_recorder.proofs.recorder.Core.write_behind.Goals as goal
use Rattle.nr_recorder.proofs.Behind.{fit_behind, map_drop, take_within}

pub write-requires-clause-fit : goal.write-requires-clause-fit
write-requires-clause-fit c = fit_behind c.args.before c.args.entries.now c.args.later.now c.requires.later c.requires.fit

pub returns : goal.returns
returns c =
    let log = map entry_of c.args.entries.now in
    let taken : take c.args.before log ≡ take c.args.before c.args.self.now.log =
    ap (take c.args.before) c.requires.first ∙ take_within c.args.before (length c.args.entries.now) c.args.self.now.log c.requires.within in
    let before : map entry_of c.in_ok-first.first ≡ take c.args.before log = c.in_ok-first.ensures.entries ∙ sym taken in
    c.write.ensures (answer_behind c.args.self.now.key c.args.before log) (record {
      asn_is = sym (λ i. (c.self.view_is i).key.asn);
      first_is = refl;
      prev_is = sym (c.tip_of.ensures.value ∙ (λ i. value_after (log_chain (c.self.view_is i).key.asn) (before i)));
      body_is = ap Some (sym (c.deref.ensures.value ∙ (c.in-Ok.ensures.body ∙ ap (λ (l : List LogEntry). body_of (state_after nothing_before l)) (sym taken))));
      entries_are = sym (ap (map entry_of) c.requires.later ∙ map_drop c.args.before c.args.entries.now);
      head_is = sym (c.deref-2.ensures.value ∙ c.in_ok-head.ensures);
    })
