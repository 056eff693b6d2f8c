-- Entries with a fault are refused there.
use Rattle.std.proofs.Common.{◌≡◌, ℕ, ◌+◌, Bool, drop, Err, sym, subst, arith}
use Rattle.std.proofs.lemmas.Bool.{le-leb, lt-leb}
use Rattle.byteorder.specs.Endian.{big_number}
use Rattle.nr_spec_wire.specs.Reading.{Spot, number_at}
use Rattle.nr_spec_log.specs.Answer.{entry_at}
use Rattle.nr_laws_files.specs.Answers.{EntryFault, time_cut, time_back, kind_cut, kind_other, size_cut, size_other, content_cut}
use Rattle.nr_laws_files.proofs.Cases.{stands_first, then_err, wants_then, wants_fails, number_short, bytes_short, number_long}

abbrev IsEntryAt : Bool → ℕ → Spot → ℕ → Type 0
IsEntryAt checkpoint last s d = entry_at checkpoint last s ≡ Err (s.at + d)

pub entry_faults : (checkpoint : Bool) (last : ℕ) (s : Spot) (d : ℕ) → EntryFault checkpoint last s.rest d → entry_at checkpoint last s ≡ Err (s.at + d)
unfolding entry_at
entry_faults checkpoint last s d (time_cut c e) = subst (IsEntryAt checkpoint last s) (sym e) (number_short s s 0 8 _ (stands_first s) c)
entry_faults checkpoint last s d (time_back w back e) =
    let a = number_long s s 0 8 (stands_first s) w in
    subst (IsEntryAt checkpoint last s) (sym e) (then_err (number_at 8 s) _ _ _ a.is (wants_fails _ s.at _ _ _ (lt-leb last (big_number 8 s.rest) back) (omega arith)))
entry_faults checkpoint last s d (kind_cut time c e) =
    let a = number_long s s 0 8 (stands_first s) c.reaches in
    subst (IsEntryAt checkpoint last s) (sym e) (then_err (number_at 8 s) _ _ _ a.is (wants_then _ s.at _ _ _ (le-leb last (big_number 8 s.rest) time) (number_short s a.next 8 1 _ a.stands c)))
entry_faults checkpoint last s d (kind_other time w other e) =
    let a = number_long s s 0 8 (stands_first s) (omega (arith, w)) in
    let b = number_long s a.next 8 1 a.stands w in
    subst (IsEntryAt checkpoint last s) (sym e)
    (then_err (number_at 8 s) _ _ _ a.is (wants_then _ s.at _ _ _ (le-leb last (big_number 8 s.rest) time) (then_err (number_at 1 a.next) _ _ _ b.is (wants_fails _ a.next.at _ _ _ other a.stands.at_is))))
entry_faults checkpoint last s d (size_cut time kind c e) =
    let a = number_long s s 0 8 (stands_first s) (omega (arith, c.reaches)) in
    let b = number_long s a.next 8 1 a.stands c.reaches in
    subst (IsEntryAt checkpoint last s) (sym e)
    (then_err (number_at 8 s) _ _ _ a.is (wants_then _ s.at _ _ _ (le-leb last (big_number 8 s.rest) time) (then_err (number_at 1 a.next) _ _ _ b.is (wants_then _ a.next.at _ _ _ kind
    (number_short s b.next 9 2 _ b.stands c)))))
entry_faults checkpoint last s d (size_other time kind w other e) =
    let a = number_long s s 0 8 (stands_first s) (omega (arith, w)) in
    let b = number_long s a.next 8 1 a.stands (omega (arith, w)) in
    let g = number_long s b.next 9 2 b.stands w in
    subst (IsEntryAt checkpoint last s) (sym e)
    (then_err (number_at 8 s) _ _ _ a.is (wants_then _ s.at _ _ _ (le-leb last (big_number 8 s.rest) time) (then_err (number_at 1 a.next) _ _ _ b.is (wants_then _ a.next.at _ _ _ kind
    (then_err (number_at 2 b.next) _ _ _ g.is (wants_fails _ b.next.at _ _ _ other b.stands.at_is))))))
entry_faults checkpoint last s d (content_cut time kind size c e) =
    let a = number_long s s 0 8 (stands_first s) (omega (arith, c.reaches)) in
    let b = number_long s a.next 8 1 a.stands (omega (arith, c.reaches)) in
    let g = number_long s b.next 9 2 b.stands c.reaches in
    subst (IsEntryAt checkpoint last s) (sym e)
    (then_err (number_at 8 s) _ _ _ a.is (wants_then _ s.at _ _ _ (le-leb last (big_number 8 s.rest) time) (then_err (number_at 1 a.next) _ _ _ b.is (wants_then _ a.next.at _ _ _ kind
    (then_err (number_at 2 b.next) _ _ _ g.is (wants_then _ b.next.at _ _ _ size (bytes_short s g.next 11 (big_number 2 (drop 9 s.rest)) _ g.stands c)))))))
