-- The claims of a report.
use Rattle.std.proofs.Common.{◌≡◌, ℕ, ◌≤◌, Bool, List, ◌++◌, append-nil, length, drop, sym, ap, ◌∙◌}
use Rattle.std.specs.Prelude.{map}
use Rattle.std.proofs.lemmas.List.{drop_all}
use Rattle.nr_spec_log.specs.Authenticator.{Authenticator}
use Rattle.nr_spec_report.specs.Claims.{Claim, Conflict}
use Rattle.nr_audit.specs.Views.{marked}
use Rattle.nr_commands.proofs.ReportLemmas.{marked_none}

-- the claims so far are all, where no mark is left
pub all_claimed : (claims before : List Claim) (left auths : List Authenticator) (marks : List Bool) (i : ℕ) → length marks ≤ i
    → claims ++ map Conflict (marked left (drop i marks)) ≡ before ++ map Conflict (marked auths marks) → claims ≡ before ++ map Conflict (marked auths marks)
all_claimed claims before left auths marks i past is =
    sym (append-nil claims) ∙ (sym (ap (λ (l : List Authenticator). claims ++ map Conflict l) (ap (marked left) (drop_all i marks past) ∙ marked_none left)) ∙ is)
