use Rattle.std.proofs.Common.{◌≡◌, ◌++◌, drop, map}
use Rattle.std.specs.List.{flat_map}
use Rattle.nr_advice.specs.Plain.{spoken}
use Rattle.nr_advice.proofs.page.Page.texts.Given as goal

abbrev pub invariant-loop-text : goal.invariant-loop-text
invariant-loop-text l = l.self ++ flat_map (λ text. map spoken text.now) (drop l.text-index l.texts) ≡ l.fn.self ++ flat_map (λ text. map spoken text.now) l.texts
