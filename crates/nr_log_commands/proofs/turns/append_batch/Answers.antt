use Rattle.std.proofs.Common.{◌∙◌, arith}
use Rattle.std.proofs.lemmas.List.{length-map}
use Rattle.std.proofs.lemmas.Result.{err_from_is_err_and}
use Rattle.nr_chain.specs.Views.{entry_of}
use Rattle.nr_log_commands.proofs.Turning.{append_entries, append_has, batch_err, batch_none, batch_ok, batch_unfound, behind, follows, no_entries, none_left, some_left, whole}
use Rattle.nr_log_commands.proofs.turns.append_batch.Goals as goal

pub returns-in_err-batch-clause-does : goal.returns-in_err-batch-clause-does
returns-in_err-batch-clause-does g c =
    let p = err_from_is_err_and c.from_residual.result c.from_residual.ensures.1 in
    rw (p.1, p.2) (batch_unfound _ _ _ _)

pub returns-then-is_empty-clause-does : goal.returns-then-is_empty-clause-does
returns-then-is_empty-clause-does g c =
    let size = length-map c.in_ok-batch.batch entry_of in
    let is = behind c.args.before _ c.args.core.now.log _ c.in_ok-batch.ensures.entries (omega arith) in
    batch_none _ _ _ _ (no_entries _ _ is (size ∙ none_left _ _ c.is_empty.ensures c.if-is_empty.true))

pub returns-in-Ok-clause-does : goal.returns-in-Ok-clause-does
returns-in-Ok-clause-does g c =
    let size = length-map c.in_ok-batch.batch entry_of in
    let is = behind c.args.before _ c.args.core.now.log _ c.in_ok-batch.ensures.entries (omega arith) in
    batch_ok _ _ _ _ _ _ _ is (omega (arith, size, some_left _ _ c.is_empty.ensures c.if-is_empty.false)) c.in-Ok.ensures

pub returns-in-Ok-clause-holds : goal.returns-in-Ok-clause-holds
returns-in-Ok-clause-holds g c =
    let size = length-map c.in_ok-batch.batch entry_of in
    let more = follows c.args.before _ c.args.core.now.log c.args.store.entries _ (omega arith) c.requires.same c.in_ok-batch.ensures.fit (omega (arith, size, some_left _ _ c.is_empty.ensures c.if-is_empty.false)) in
    append_has _ _ _ _ _ _ c.requires.holds more c.in-Ok.ensures

pub returns-in-Ok-clause-same : goal.returns-in-Ok-clause-same
returns-in-Ok-clause-same g c =
    let is = behind c.args.before _ c.args.core.now.log _ c.in_ok-batch.ensures.entries (omega arith) in
    whole c.args.before c.args.core.now.log c.args.store.entries _ _ (append_entries _ _ _ _ _ _ c.in-Ok.ensures) c.requires.same is

pub returns-clause-does : goal.returns-clause-does
returns-clause-does g c =
    let size = length-map c.in_ok-batch.batch entry_of in
    let is = behind c.args.before _ c.args.core.now.log _ c.in_ok-batch.ensures.entries (omega arith) in
    batch_err _ _ _ _ _ _ c.in-Err.fault _ is (omega (arith, size, some_left _ _ c.is_empty.ensures c.if-is_empty.false)) c.from.ensures c.in-Err.ensures
