-- What a store is, from its fields.
use Rattle.std.proofs.Common.{◌≡◌, ℕ, List, Some, Ok, sym, ap, ◌∙◌}
use Rattle.nr_spec_wire.specs.Reading.{IsBytes}
use Rattle.nr_spec_log.specs.Chain.{LogEntry}
use Rattle.nr_spec_store.specs.LogFile.{LogFile, IsLog, log_of}
use Rattle.nr_laws_store.proofs.LogLaws.{log_takes}
use Rattle.nr_store.specs.Walks.{entries_in}

-- what a store is, from its fields
pub record Own (bytes : List ℕ) (log : LogFile) : Type 0 where
  pub is_log : IsLog log
  pub front : bytes ≡ log.front
  pub reads : log_of bytes ≡ Ok (Some log)

pub own : (asn : ℕ) (root bytes : List ℕ) (es : List LogEntry) (log : LogFile) → IsBytes bytes → log_of bytes ≡ Ok (Some (record { asn = asn; root = root; entries = es; front = bytes }))
    → record { asn = asn; root = root; entries = es; front = bytes } ≡ log → Own bytes log
own asn root bytes es log fits reads view =
    let whole : log_of bytes ≡ Ok (Some log) = reads ∙ ap (λ (l : LogFile). Ok (Some l)) view in
    record { is_log = log_takes bytes log fits whole; front = ap (λ (l : LogFile). l.front) view; reads = whole }

-- the same for one that is made of the bytes of a log
pub record Made (asn : ℕ) (root bytes : List ℕ) (log : LogFile) : Type 0 where
  pub invariant : log_of bytes ≡ Ok (Some (record { asn = asn; root = root; entries = entries_in (log_of bytes); front = bytes }))
  pub view : record { asn = asn; root = root; entries = entries_in (log_of bytes); front = bytes } ≡ log

pub made : (asn : ℕ) (root bytes : List ℕ) (log : LogFile) → asn ≡ log.asn → root ≡ log.root → bytes ≡ log.front → log_of bytes ≡ Ok (Some log) → Made asn root bytes log
made asn root bytes log a r f reads =
    let es : entries_in (log_of bytes) ≡ log.entries = ap entries_in reads in
    let view : record { asn = asn; root = root; entries = entries_in (log_of bytes); front = bytes } ≡ log =
    ap (λ (x : ℕ). record { asn = x; root = root; entries = entries_in (log_of bytes); front = bytes }) a
    ∙ ap (λ (x : List ℕ). record { asn = log.asn; root = x; entries = entries_in (log_of bytes); front = bytes }) r
    ∙ ap (λ (x : List LogEntry). record { asn = log.asn; root = log.root; entries = x; front = bytes }) es
    ∙ ap (λ (x : List ℕ). record { asn = log.asn; root = log.root; entries = log.entries; front = x }) f in
    record { invariant = reads ∙ ap (λ (l : LogFile). Ok (Some l)) (sym view); view = view }
