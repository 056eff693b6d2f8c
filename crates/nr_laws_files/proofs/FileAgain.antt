-- Files of authenticators with a fault are refused there.
use Rattle.std.proofs.Common.{◌≡◌, ℕ, ◌+◌, ◌-◌, ◌<◌, ◌≤◌, List, [], ◌∷◌, ◌++◌, length, None, Ok, Err, refl, sym, ap, subst, ◌∙◌, append_assoc, arith}
use Rattle.std.specs.List.{flat_map}
use Rattle.std.specs.Str.{bytes_eq}
use Rattle.std.proofs.lemmas.List.{length-append}
use Rattle.std.proofs.lemmas.List.Concat.{flat_map-cons}
use Rattle.std.proofs.lemmas.Slice.Eq.{bytes_eq-Decides}
use Rattle.nr_spec_wire.specs.Reading.{Spot, start_of, ◌>>=◌, wants, rows_at, all_rows_at}
use Rattle.nr_spec_wire.proofs.Steps.{behind, values-more, values-fault}
use Rattle.nr_spec_log.specs.Authenticator.{Authenticator, AreAuthenticators, authenticator, authenticator_at, magic_at, auths_magic, auths_of}
use Rattle.nr_laws_log.proofs.AuthenticatorLaws.{authenticator_again}
use Rattle.nr_laws_log.proofs.Fields.{bytes_again}
use Rattle.nr_laws_files.specs.Authenticators.{AuthFault, AuthsFault, magic_cut, magic_other, auth_fault}
use Rattle.nr_laws_files.proofs.Cases.{stands_first, then_err, bytes_short}
use Rattle.nr_laws_files.proofs.AuthAgain.{wanted_faults}
use Rattle.nr_laws_files.proofs.OpeningAgain.{wants_ok, bind_err, magic_other_is}

-- authenticators, and bytes that are refused
rows_fail : (before : List Authenticator) (fuel at : ℕ) (rest : List ℕ) (d : ℕ) → AreAuthenticators before → length (flat_map authenticator before) < fuel → 0 < length rest → AuthFault None rest d
    → rows_at authenticator_at fuel (record { at = at; rest = flat_map authenticator before ++ rest }) ≡ Err (at + length (flat_map authenticator before) + d)
rows_fail [] fuel at rest d fits enough some fault =
    let s : Spot = record { at = at; rest = rest } in
    let place : at + d ≡ at + 0 + d = omega arith in
    values-fault authenticator_at fuel s (at + d) (λ e. omega (arith, e, enough)) (λ e. omega (arith, e, some)) (wanted_faults None s d fault) ∙ ap (λ (n : ℕ). Err n) place
rows_fail (a ∷ before) fuel at rest d fits enough some fault =
    let others = flat_map authenticator before in
    let size : length (flat_map authenticator (a ∷ before)) ≡ length (authenticator a) + length others = ap length (flat_map-cons authenticator a before) ∙ length-append (authenticator a) others in
    let long : 1 ≤ length (authenticator a) = omega arith in
    let whole : flat_map authenticator (a ∷ before) ++ rest ≡ authenticator a ++ (others ++ rest) =
    ap (λ (t : List ℕ). t ++ rest) (flat_map-cons authenticator a before) ∙ append_assoc (authenticator a) others rest in
    let s : Spot = record { at = at; rest = authenticator a ++ (others ++ rest) } in
    let next : Spot = record { at = at + length (authenticator a); rest = others ++ rest } in
    let fewer : length others < fuel - 1 = omega (arith, enough, size, long) in
    let worse = rows_fail before (fuel - 1) (at + length (authenticator a)) rest d fits.1 fewer some fault in
    let more = values-more authenticator_at fuel s a next (λ e. omega (arith, e, enough)) (λ e. omega (arith, e, length-append (authenticator a) (others ++ rest), long)) (authenticator_again a at (others ++ rest) fits.0) in
    let place : at + length (authenticator a) + length others + d ≡ at + length (flat_map authenticator (a ∷ before)) + d = omega (arith, size) in
    ap (λ (t : List ℕ). rows_at authenticator_at fuel (record { at = at; rest = t })) whole ∙ more ∙ ap (behind a) worse ∙ ap (λ (n : ℕ). Err n) place

magic_read : (more : List ℕ) → magic_at auths_magic (start_of (auths_magic ++ more)) ≡ Ok (auths_magic, record { at = 0 + length auths_magic; rest = more })
magic_read more =
    ap (λ r. r >>= (λ found. wants (bytes_eq found.0 auths_magic) 0 found)) (bytes_again 4 auths_magic 0 more refl)
    ∙ wants_ok (bytes_eq auths_magic auths_magic) 0 _ ((bytes_eq-Decides auths_magic auths_magic).1 refl)

abbrev IsFileAt : List ℕ → ℕ → Type 0
IsFileAt bytes p = auths_of bytes ≡ Err p

pub file_faults : (bytes : List ℕ) (p : ℕ) → AuthsFault bytes p → auths_of bytes ≡ Err p
unfolding auths_of
file_faults bytes p (magic_cut c e) =
    let s = start_of bytes in
    subst (IsFileAt bytes) (sym e) (bind_err (magic_at auths_magic s) _ 0 (bytes_short s s 0 4 (λ found. wants (bytes_eq found.0 auths_magic) s.at found) (stands_first s) c))
file_faults bytes p (magic_other long other e) =
    subst (IsFileAt bytes) (sym e) (bind_err (magic_at auths_magic (start_of bytes)) _ 0 (magic_other_is auths_magic (start_of bytes) long other))
file_faults bytes p (auth_fault before rest fits is some d fault e) =
    let others = flat_map authenticator before in
    let enough : length others < length (others ++ rest) = omega (arith, length-append others rest, some) in
    let worse = rows_fail before (length (others ++ rest)) 4 rest d fits enough some fault in
    let read = magic_read (others ++ rest) in
    subst (λ (t : List ℕ). auths_of t ≡ Err p) (sym is)
    (subst (IsFileAt (auths_magic ++ (others ++ rest))) (sym e)
    (then_err (magic_at auths_magic (start_of (auths_magic ++ (others ++ rest)))) _ _ _ read (bind_err (all_rows_at authenticator_at _) _ _ worse)))
