use Rattle.std.proofs.Common.{rules, ◌∙◌, sym}
use Rattle.nr_ports.proofs.Crashes.{none_crashed, one_more, all_crashed}
use Rattle.nr_ports.proofs.Filling.{none_yet, file_round, all_done}
use Rattle.nr_ports.proofs.stored.crash_all.Goals as goal

pub loop-i-init : goal.loop-i-init
loop-i-init c = record { so_far = none_yet c.args.fill.now c.args.extra c.args.files.now.items; place = c.requires; first = none_crashed c.args.files.now.items }

pub loop-i-preserved : goal.loop-i-preserved
loop-i-preserved c = record {
  so_far = file_round c.args.fill.now c.args.extra c.loop-i.turn c.crash-turn.result c.loop-i.files.items c.loop-i.i c.index_mut.result.now c.crash-turn.new.self (search rules) (search rules) c.crash-turn.ensures.crashed c.crash-turn.ensures.turn ∙ c.loop-i.invariant.so_far;
  place = c.crash-turn.ensures.place;
  first = one_more c.loop-i.i _ _ c.index_mut.result.now c.crash-turn.new.self c.loop-i.invariant.first (search rules) (search rules) c.crash-turn.ensures.name c.crash-turn.ensures.left;
}

pub returns-clause-crashed : goal.returns-clause-crashed
returns-clause-crashed c = sym (all_done c.args.fill.now c.args.extra c.loop-i.turn c.loop-i.i c.loop-i.files.items (search rules)) ∙ c.loop-i.invariant.so_far

pub returns-clause-left : goal.returns-clause-left
returns-clause-left c = all_crashed c.loop-i.i _ _ c.loop-i.invariant.first (search rules)
