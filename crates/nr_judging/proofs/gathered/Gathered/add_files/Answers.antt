use Rattle.std.proofs.Common.{◌+◌, take}
use Rattle.nr_spec_bgp.specs.Prefixes.{Cidr}
use Rattle.nr_spec_routes.specs.Keys.{is_named}
use Rattle.nr_spec_promises.specs.Counted.{named_in}
use Rattle.nr_judging.specs.Views.{file_of, files_in}
use Rattle.nr_judging.proofs.Gathering.{more_named}
use Rattle.nr_judging.proofs.Stages.{files_more}
use Rattle.nr_judging.proofs.gathered.Gathered.add_files.Goals as goal

pub loop-file-preserved : goal.loop-file-preserved
loop-file-preserved c = λ (p : Cidr).
    let i = c.loop-file.file-index in
    let fs = c.args.files.now in
    let f = c.file-item.result in
    more_named named_in (files_in (take i fs)) (files_in (take (i + 1) fs)) (file_of f) p (is_named c.loop-file.self p) (is_named c.args.self.now p) (is_named c.add_named.new.self p)
    (files_more fs i f c.loop-file-test.true c.file-item.is)
    (c.in_ok-add_named.ensures p)
    (c.loop-file.invariant p)
