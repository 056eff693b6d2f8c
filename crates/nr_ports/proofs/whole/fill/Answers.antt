use Rattle.std.proofs.Common.{rules, ◌≡◌, ◌∙◌, sym, ap, arith, refl, ℕ, length-drop, take, drop, ◌+◌, ◌-◌, length, List, Err}
use Rattle.std.proofs.lemmas.List.{length-take}
use Rattle.std.proofs.lemmas.Result.{err_from_is_err_and}
use Rattle.nr_spec_plans.specs.Disk.{bytes_of, read, ticked, Disk, counting, ReadFault}
use Rattle.nr_ports.proofs.Pieces.{read_more, read_none, read_idle, read_failed, told_now, read_on, read_end, none_so_far, ends_so, goes_so, fails_so}
use Rattle.nr_ports.proofs.whole.fill.Goals as goal

pub loop-at-init : goal.loop-at-init
loop-at-init g c = record { within = search rules; front = λ t told. refl; disk = (0, sym (read_none _), λ t told. none_so_far _ _ t) }

pub returns-then-n-eq0 : goal.returns-then-n-eq0
returns-then-n-eq0 g c =
    let calls = c.loop-at.invariant.disk.0 in
    let room : length (take (length c.loop-at.into - c.loop-at.at) (drop c.loop-at.at c.loop-at.into)) ≡ length c.args.into.now - c.loop-at.at =
    length-take (length c.loop-at.into - c.loop-at.at) (drop c.loop-at.at c.loop-at.into) ∙ omega (arith, length-drop c.loop-at.at c.loop-at.into) in (
      record {
        calls = calls + 1;
        within = search rules;
        told = λ t told.
            ends_so c.args.name.now (length c.args.into.now) c.loop-at.at c.in_ok-n.n calls t (c.loop-at.invariant.disk.2 t told) (omega arith) (omega (arith, room, c.in_ok-n.ensures.count _ (told_now _ _ c.loop-at.at calls t c.loop-at.invariant.disk.1 told))) c.if-n-eq0.true
            (λ is. let no = c.in_ok-n.ensures.listed _ (told_now _ _ c.loop-at.at calls t c.loop-at.invariant.disk.1 told) is in absurd cc);
        after = c.in_ok-n.ensures.leaves ∙ ap (λ (d : Disk). read c.in_ok-n.n (ticked 1 d)) c.loop-at.invariant.disk.1 ∙ read_idle _ c.loop-at.at c.in_ok-n.n calls c.if-n-eq0.true;
      },
      λ t told.
          read_end (bytes_of (t.holds c.args.name.now)) c.loop-at.into _ c.read_at.new.into _ c.loop-at.at c.in_ok-n.n (length c.args.into.now) (omega arith) room c.if-n-eq0.true c.loop-at.invariant.within (c.loop-at.invariant.front t told)
          (c.in_ok-n.ensures.count _ (told_now _ _ c.loop-at.at calls t c.loop-at.invariant.disk.1 told)) (c.in_ok-n.ensures.bytes _ (told_now _ _ c.loop-at.at calls t c.loop-at.invariant.disk.1 told)),
    )

pub loop-at-preserved : goal.loop-at-preserved
loop-at-preserved g c =
    let calls = c.loop-at.invariant.disk.0 in
    let room : length (take (length c.loop-at.into - c.loop-at.at) (drop c.loop-at.at c.loop-at.into)) ≡ length c.args.into.now - c.loop-at.at =
    length-take (length c.loop-at.into - c.loop-at.at) (drop c.loop-at.at c.loop-at.into) ∙ omega (arith, length-drop c.loop-at.at c.loop-at.into) in
    record {
      within = search rules;
      front = λ t told.
          read_on (bytes_of (t.holds c.args.name.now)) c.loop-at.into _ c.read_at.new.into _ c.loop-at.at c.in_ok-n.n c.loop-at.invariant.within (c.loop-at.invariant.front t told) (c.in_ok-n.ensures.count _ (told_now _ _ c.loop-at.at calls t c.loop-at.invariant.disk.1 told))
          (c.in_ok-n.ensures.bytes _ (told_now _ _ c.loop-at.at calls t c.loop-at.invariant.disk.1 told));
      disk = (
        calls + 1,
        c.in_ok-n.ensures.leaves ∙ ap (λ (d : Disk). read c.in_ok-n.n (ticked 1 d)) c.loop-at.invariant.disk.1 ∙ read_more _ c.loop-at.at c.in_ok-n.n calls,
        λ t told.
            let goes = goes_so c.args.name.now (length c.args.into.now) c.loop-at.at c.in_ok-n.n calls t (c.loop-at.invariant.disk.2 t told) (omega arith) (omega (arith, room, c.in_ok-n.ensures.count _ (told_now _ _ c.loop-at.at calls t c.loop-at.invariant.disk.1 told))) (omega arith)
            (λ is. let no = c.in_ok-n.ensures.listed _ (told_now _ _ c.loop-at.at calls t c.loop-at.invariant.disk.1 told) is in absurd cc) in
            search rules,
      );
    }

pub returns-in_err-n : goal.returns-in_err-n
returns-in_err-n g c =
    let p = err_from_is_err_and c.from_residual.result c.from_residual.ensures.1 in
    rw (p.1) (record {
      cause = refl;
      n = c.loop-at.at;
      calls = c.loop-at.invariant.disk.0 + 1;
      within = omega arith;
      told = λ t told. fails_so c.args.name.now (length c.args.into.now) c.loop-at.at c.loop-at.invariant.disk.0 t (c.loop-at.invariant.disk.2 t told) (omega arith);
      after = c.in_err-n.ensures.leaves ∙ ap (λ (d : Disk). counting {A = List ℕ} (Err ReadFault) (ticked 1 d)) c.loop-at.invariant.disk.1
          ∙ ap (λ (d : Disk). counting {A = List ℕ} (Err ReadFault) d) (read_failed (g.F.Files.disk c.args.files.now) c.loop-at.at c.loop-at.invariant.disk.0);
    })
