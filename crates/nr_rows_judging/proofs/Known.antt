-- A judge that knows every promise.
use Rattle.std.proofs.Common.{◌≡◌, true, List, refl}
use Rattle.nr_spec_promises.specs.Files.{PromiseFile}
use Rattle.nr_judging.specs.Views.{AreKnown}

pub all_known : (files : List PromiseFile) → AreKnown (λ i r. true ≡ true) files
all_known files i r f is below = refl
