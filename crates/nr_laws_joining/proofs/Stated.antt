-- Conflicts of a period are those of its parts.
use Rattle.std.proofs.Common.{◌≡◌, ℕ, Bool, true, false, not, ◌&&◌, List, filter, refl, sym, ap, ◌∙◌}
use Rattle.std.specs.Prelude.{◌||◌, ◌==◌, nat_le}
use Rattle.std.specs.List.{list_any}
use Rattle.nr_spec_log.specs.Chain.{Link}
use Rattle.nr_spec_log.specs.Authenticator.{Authenticator}
use Rattle.nr_spec_log.specs.Answer.{AnswerFile}
use Rattle.nr_spec_history.specs.Conflicts.{Period, answer_links, conflicts_of, is_conflict, is_signed, is_stated}
use Rattle.nr_spec_report.specs.Wrong.{is_within}
use Rattle.nr_laws_joining.specs.Parts.{Cuts, first_part, second_part}
use Rattle.nr_laws_joining.proofs.Told.{above, early_same, early_second, late_first, late_same, up_to}

within_parts : (period : Period) (last n : ℕ) → Cuts period last → is_within period n ≡ (is_within (first_part period last) n || is_within (second_part period last) n)
within_parts period last n cuts = by (nat_le n last) refl
  where
    right : (b : Bool) → b ≡ (b || false)
    right true = refl
    right false = refl

    by : (b : Bool) → nat_le n last ≡ b → is_within period n ≡ (is_within (first_part period last) n || is_within (second_part period last) n)
    by true is =
        let le = up_to n last is in
        early_same period last n cuts.to le ∙ right (is_within (first_part period last) n)
        ∙ ap (λ b. is_within (first_part period last) n || b) (sym (early_second period last n le))
    by false is =
        let lt = above n last is in
        late_same period last n cuts.from lt ∙ ap (λ b. b || is_within (second_part period last) n) (sym (late_first period last n lt))

spread : (asn one two signed none : Bool) → (((asn && (one || two)) && signed) && none) ≡ ((((asn && one) && signed) && none) || (((asn && two) && signed) && none))
spread false one two signed none = refl
spread true true true signed none = same (signed && none)
  where
    same : (b : Bool) → b ≡ (b || b)
    same true = refl
    same false = refl
spread true true false signed none = same (signed && none)
  where
    same : (b : Bool) → b ≡ (b || false)
    same true = refl
    same false = refl
spread true false two signed none = refl

conflict_parts : (root : List ℕ) (asn : ℕ) (period : Period) (last : ℕ) (links : List Link) → Cuts period last → (a : Authenticator)
    → is_conflict root asn period links a ≡ (is_conflict root asn (first_part period last) links a || is_conflict root asn (second_part period last) links a)
conflict_parts root asn period last links cuts a =
    ap (λ b. ((a.asn == asn && b) && is_signed root a) && not (list_any (is_stated a) links)) (within_parts period last a.time cuts)
    ∙ spread (a.asn == asn) (is_within (first_part period last) a.time) (is_within (second_part period last) a.time) (is_signed root a) (not (list_any (is_stated a) links))

pub conflicts_parts : (root : List ℕ) (answer : AnswerFile) (period : Period) (last : ℕ) (auths : List Authenticator) → Cuts period last
    → conflicts_of root answer period auths
    ≡ filter (λ a. is_conflict root answer.asn (first_part period last) (answer_links answer) a || is_conflict root answer.asn (second_part period last) (answer_links answer) a) auths
conflicts_parts root answer period last auths cuts =
    ap (λ (p : Authenticator → Bool). filter p auths) (λ i a. conflict_parts root answer.asn period last (answer_links answer) cuts a i)
