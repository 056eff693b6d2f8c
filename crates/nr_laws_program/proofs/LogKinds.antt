-- What kinds of steps the plans of a log's file have, what they refuse, and in which order they go.
use Rattle.std.proofs.Common.{ℕ, ◌-◌, List, [], ◌∷◌, ◌++◌, Option, Some, None, Result, Ok, Err, inl, inr}
use Rattle.std.specs.Prelude.{nat_lt, length, unwrap_or, drop}
use Rattle.std.proofs.lemmas.Bool.{cases_Bool}
use Rattle.nr_spec_plans.specs.Plans.{Done, followed_by, ◌>>=◌, want, Action, Ask, Read, Write, Sync}
use Rattle.nr_spec_plans.specs.Laws.{Each}
use Rattle.nr_spec_plans.specs.Order.{Allows, Refuses}
use Rattle.nr_spec_plans.proofs.PlanLaws.{each_followed}
use Rattle.nr_spec_plans.proofs.OrderLaws.{allows_followed, refuses_followed}
use Rattle.nr_spec_crash.specs.Firm.{firm}
use Rattle.nr_spec_log.specs.Chain.{LogEntry}
use Rattle.nr_spec_store.specs.LogFile.{LogFile, batch, birth_size, born, log_of, most_log, with_batch}
use Rattle.nr_spec_store.specs.StorePlans.{Refusal, Limit, At, Work, append_plan, birth_plan, close_plan, found_plan, gate_plan, load_plan, understood, within_limit}
use Rattle.nr_laws_program.proofs.Phases.{IsPhased, IsWriting, phased_writing}

-- the steps that load a log are of this kind
pub record KindLoads (kind : Action → Type 0) (name : List ℕ) : Type 0 where
  pub ask : kind (Ask name)
  pub sync : kind (Sync name)
  pub read : (size : ℕ) → kind (Read name size)

-- and those that write it
pub record KindAppends (kind : Action → Type 0) (name : List ℕ) : Type 0 where
  pub write : (at : ℕ) (bytes : List ℕ) → kind (Write name at bytes)
  pub sync : kind (Sync name)

pub writes_log : (name : List ℕ) → KindAppends IsWriting name
writes_log name = record { write = λ at bytes. tt; sync = tt }

-- ---- kinds

limit_each : (kind : Action → Type 0) (size : ℕ) → Each kind (within_limit size)
unfolding within_limit
limit_each kind size = elim (cases_Bool (nat_lt most_log size)) [ inl is ↦ rw is tt | inr is ↦ rw is tt ]

understood_each : {A : Type 0} (kind : Action → Type 0) (found : Result A ℕ) → Each kind (understood found)
understood_each kind (Ok value) = tt
understood_each kind (Err place) = tt

found_each : (kind : Action → Type 0) (name : List ℕ) (size : Option ℕ) → KindLoads kind name → Each kind (found_plan name size)
unfolding found_plan followed_by
found_each kind name None is = tt
found_each kind name (Some size) is = each_followed kind (within_limit size) _ (limit_each kind size) (λ fits. (is.sync, λ synced. (is.read size, λ bytes. understood_each kind (log_of bytes))))

pub load_log_each : (kind : Action → Type 0) (name : List ℕ) → KindLoads kind name → Each kind (load_plan name)
unfolding load_plan followed_by
load_log_each kind name is = (is.ask, λ size. found_each kind name size is)

firm_each : (kind : Action → Type 0) (name : List ℕ) (at : ℕ) (bytes : List ℕ) → KindAppends kind name → Each {E = Refusal} kind (firm name at bytes)
unfolding firm followed_by
firm_each kind name at bytes is = (is.write at bytes, λ a. (is.sync, λ b. tt))

gate_each : (kind : Action → Type 0) (name : List ℕ) (end : ℕ) (body : List ℕ) → KindAppends kind name → Each kind (gate_plan name end body)
unfolding gate_plan
gate_each kind name end body is = each_followed kind _ _ (firm_each kind name end body is) (λ put. firm_each kind name (end - 1) (1 ∷ []) is)

close_each : (kind : Action → Type 0) (name : List ℕ) (size : ℕ) → KindAppends kind name → Each kind (close_plan name size)
unfolding close_plan
close_each kind name size is = elim (cases_Bool (nat_lt size birth_size)) [ inl by ↦ rw by (firm_each kind name 0 (0 ∷ []) is) | inr by ↦ rw by tt ]

-- what a birth does once it knows the size
abbrev sized_birth : (name : List ℕ) (size end : ℕ) (body : List ℕ) → LogFile → Work LogFile
sized_birth name size end body log = within_limit size >>= λ fits. close_plan name size >>= λ closed. gate_plan name end body >>= λ opened. Done log

sized_birth_each : (kind : Action → Type 0) (name : List ℕ) (size end : ℕ) (body : List ℕ) (log : LogFile) → KindAppends kind name
    → Each kind (sized_birth name size end body log)
sized_birth_each kind name size end body log is =
    each_followed kind (within_limit size) _ (limit_each kind size) (λ fits. each_followed kind (close_plan name size) _ (close_each kind name size is) (λ closed. each_followed kind (gate_plan name end body) _ (gate_each kind name end body is) (λ opened. tt)))

pub birth_log_each : (kind : Action → Type 0) (name : List ℕ) (asn : ℕ) (root : List ℕ) → kind (Ask name) → KindAppends kind name → Each kind (birth_plan name asn root)
unfolding birth_plan followed_by
birth_log_each kind name asn root ask is = (ask, λ size. sized_birth_each kind name (unwrap_or size 0) 1 (drop 1 (born asn root).front) (born asn root) is)

pub append_log_each : (kind : Action → Type 0) (name : List ℕ) (log : LogFile) (entries : List LogEntry) → KindAppends kind name → Each kind (append_plan name log entries)
unfolding append_plan
append_log_each kind name log entries is =
    each_followed kind want _ tt (λ spelled. each_followed kind _ _ (limit_each kind (length (with_batch log entries).front)) (λ fits. each_followed kind want _ tt (λ room. each_followed kind _ _ (gate_each kind name (length log.front) (batch entries ++ 0 ∷ []) is) (λ opened. tt))))

-- ---- refusals

limit_refuses : (P : Refusal → Type 0) (size : ℕ) → P (Limit size) → Refuses P (within_limit size)
unfolding within_limit
limit_refuses P size limit = elim (cases_Bool (nat_lt most_log size)) [ inl is ↦ rw is limit | inr is ↦ rw is tt ]

understood_refuses : {A : Type 0} (P : Refusal → Type 0) (found : Result A ℕ) → ((place : ℕ) → P (At place)) → Refuses P (understood found)
understood_refuses P (Ok value) at = tt
understood_refuses P (Err place) at = at place

pub load_log_refuses : (P : Refusal → Type 0) (name : List ℕ) → ((size : ℕ) → P (Limit size)) → ((place : ℕ) → P (At place)) → Refuses P (load_plan name)
unfolding load_plan found_plan followed_by
load_log_refuses P name limit at = λ size. found_refuses size
  where
    found_refuses : (size : Option ℕ) → Refuses P (found_plan name size)
    found_refuses None = tt
    found_refuses (Some size) = refuses_followed P (within_limit size) _ (limit_refuses P size (limit size)) (λ fits. λ synced. λ bytes. understood_refuses P (log_of bytes) at)

firm_refuses : (P : Refusal → Type 0) (name : List ℕ) (at : ℕ) (bytes : List ℕ) → Refuses P (firm name at bytes)
unfolding firm followed_by
firm_refuses P name at bytes = λ a. λ b. tt

gate_refuses : (P : Refusal → Type 0) (name : List ℕ) (end : ℕ) (body : List ℕ) → Refuses P (gate_plan name end body)
unfolding gate_plan
gate_refuses P name end body = refuses_followed P _ _ (firm_refuses P name end body) (λ put. firm_refuses P name (end - 1) (1 ∷ []))

close_refuses : (P : Refusal → Type 0) (name : List ℕ) (size : ℕ) → Refuses P (close_plan name size)
unfolding close_plan
close_refuses P name size = elim (cases_Bool (nat_lt size birth_size)) [ inl by ↦ rw by (firm_refuses P name 0 (0 ∷ [])) | inr by ↦ rw by tt ]

sized_birth_refuses : (P : Refusal → Type 0) (name : List ℕ) (size end : ℕ) (body : List ℕ) (log : LogFile) → P (Limit size)
    → Refuses P (sized_birth name size end body log)
sized_birth_refuses P name size end body log limit =
    refuses_followed P (within_limit size) _ (limit_refuses P size limit) (λ fits. refuses_followed P (close_plan name size) _ (close_refuses P name size) (λ closed. refuses_followed P (gate_plan name end body) _ (gate_refuses P name end body) (λ opened. tt)))

pub birth_log_refuses : (P : Refusal → Type 0) (name : List ℕ) (asn : ℕ) (root : List ℕ) → ((size : ℕ) → P (Limit size)) → Refuses P (birth_plan name asn root)
unfolding birth_plan followed_by
birth_log_refuses P name asn root limit = λ size. sized_birth_refuses P name (unwrap_or size 0) 1 (drop 1 (born asn root).front) (born asn root) (limit (unwrap_or size 0))

pub append_log_refuses : (P : Refusal → Type 0) (name : List ℕ) (log : LogFile) (entries : List LogEntry) → ((size : ℕ) → P (Limit size)) → Refuses P (append_plan name log entries)
unfolding append_plan
append_log_refuses P name log entries limit =
    refuses_followed P want _ tt (λ spelled. refuses_followed P _ _ (limit_refuses P (length (with_batch log entries).front) (limit (length (with_batch log entries).front))) (λ fits.
    refuses_followed P want _ tt (λ room. refuses_followed P _ _ (gate_refuses P name (length log.front) (batch entries ++ 0 ∷ [])) (λ opened. tt))))

-- ---- first what looks, then what writes

pub birth_phased : (kind : Action → Type 0) (late : Refusal → Type 0) (name : List ℕ) (asn : ℕ) (root : List ℕ) → kind (Ask name) → ((size : ℕ) → late (Limit size)) → IsPhased kind late (birth_plan name asn root)
unfolding birth_plan followed_by
birth_phased kind late name asn root ask limit =
    inl (
      ask,
      λ size. phased_writing kind late (sized_birth name (unwrap_or size 0) 1 (drop 1 (born asn root).front) (born asn root)) (sized_birth_each IsWriting name (unwrap_or size 0) 1 (drop 1 (born asn root).front) (born asn root) (writes_log name))
          (sized_birth_refuses late name (unwrap_or size 0) 1 (drop 1 (born asn root).front) (born asn root) (limit (unwrap_or size 0))),
    )

-- ---- order

-- the refusals after each step of a load
pub record LoadAllows (allowed : Refusal → Action → Type 0) (name : List ℕ) : Type 0 where
  pub limit : (size : ℕ) → allowed (Limit size) (Ask name)
  pub asked : (place : ℕ) → allowed (At place) (Ask name)
  pub synced : (place : ℕ) → allowed (At place) (Sync name)
  pub read : (place size : ℕ) → allowed (At place) (Read name size)

limit_allows : (allowed : Refusal → Action → Type 0) (size : ℕ) → Allows allowed (within_limit size)
unfolding within_limit
limit_allows allowed size = elim (cases_Bool (nat_lt most_log size)) [ inl is ↦ rw is tt | inr is ↦ rw is tt ]

understood_allows : {A : Type 0} (allowed : Refusal → Action → Type 0) (found : Result A ℕ) → Allows allowed (understood found)
understood_allows allowed (Ok value) = tt
understood_allows allowed (Err place) = tt

pub load_log_allows : (allowed : Refusal → Action → Type 0) (name : List ℕ) → LoadAllows allowed name → Allows allowed (load_plan name)
unfolding load_plan found_plan followed_by
load_log_allows allowed name of = λ size. (found_refuses size, found_allows size)
  where
    found_refuses : (size : Option ℕ) → Refuses (λ r. allowed r (Ask name)) (found_plan name size)
    found_refuses None = tt
    found_refuses (Some size) = refuses_followed (λ r. allowed r (Ask name)) (within_limit size) _ (limit_refuses (λ r. allowed r (Ask name)) size (of.limit size)) (λ fits. λ synced. λ bytes. understood_refuses (λ r. allowed r (Ask name)) (log_of bytes) of.asked)

    found_allows : (size : Option ℕ) → Allows allowed (found_plan name size)
    found_allows None = tt
    found_allows (Some size) =
        allows_followed allowed (within_limit size) _ (limit_allows allowed size) (limit_each _ size)
        (λ fits. λ synced. (λ bytes. understood_refuses (λ r. allowed r (Sync name)) (log_of bytes) of.synced, λ bytes. (understood_refuses (λ r. allowed r (Read name size)) (log_of bytes) (λ place. of.read place size), understood_allows allowed (log_of bytes))))

firm_allows : (allowed : Refusal → Action → Type 0) (name : List ℕ) (at : ℕ) (bytes : List ℕ) → Allows allowed (firm name at bytes)
unfolding firm followed_by
firm_allows allowed name at bytes = λ a. (λ b. tt, λ b. (tt, tt))

-- of a kind that asks for nothing
nothing_asked : (name : List ℕ) → KindAppends (λ action. Unit {0}) name
nothing_asked name = record { write = λ at bytes. tt; sync = tt }

gate_allows : (allowed : Refusal → Action → Type 0) (name : List ℕ) (end : ℕ) (body : List ℕ) → Allows allowed (gate_plan name end body)
unfolding gate_plan
gate_allows allowed name end body =
    allows_followed allowed _ _ (firm_allows allowed name end body)
    (firm_each _ name end body (record { write = λ at bytes put. firm_refuses (λ r. allowed r (Write name at bytes)) name (end - 1) (1 ∷ []); sync = λ put. firm_refuses (λ r. allowed r (Sync name)) name (end - 1) (1 ∷ []) }))
    (λ put. firm_allows allowed name (end - 1) (1 ∷ []))

close_allows : (allowed : Refusal → Action → Type 0) (name : List ℕ) (size : ℕ) → Allows allowed (close_plan name size)
unfolding close_plan
close_allows allowed name size = elim (cases_Bool (nat_lt size birth_size)) [ inl by ↦ rw by (firm_allows allowed name 0 (0 ∷ [])) | inr by ↦ rw by tt ]

sized_birth_allows : (allowed : Refusal → Action → Type 0) (name : List ℕ) (size end : ℕ) (body : List ℕ) (log : LogFile)
    → Allows allowed (sized_birth name size end body log)
sized_birth_allows allowed name size end body log =
    allows_followed allowed (within_limit size) _ (limit_allows allowed size) (limit_each _ size)
    (λ fits. allows_followed allowed (close_plan name size) _ (close_allows allowed name size)
    (close_each _ name size (record { write = λ at bytes closed. rest_refuses (Write name at bytes); sync = λ closed. rest_refuses (Sync name) }))
    (λ closed. allows_followed allowed (gate_plan name end body) _ (gate_allows allowed name end body)
    (gate_each _ name end body (record { write = λ at bytes opened. tt; sync = λ opened. tt })) (λ opened. tt)))
  where
    rest_refuses : (action : Action) → Refuses {E = Refusal} (λ r. allowed r action) (gate_plan name end body >>= λ opened. Done log)
    rest_refuses action = refuses_followed (λ r. allowed r action) (gate_plan name end body) _ (gate_refuses (λ r. allowed r action) name end body) (λ opened. tt)

-- a birth asks for the size before it may be refused
pub birth_log_allows : (allowed : Refusal → Action → Type 0) (name : List ℕ) (asn : ℕ) (root : List ℕ) → ((size : ℕ) → allowed (Limit size) (Ask name)) → Allows allowed (birth_plan name asn root)
unfolding birth_plan followed_by
birth_log_allows allowed name asn root limit = λ size. (
  sized_birth_refuses (λ r. allowed r (Ask name)) name (unwrap_or size 0) 1 (drop 1 (born asn root).front) (born asn root) (limit (unwrap_or size 0)),
  sized_birth_allows allowed name (unwrap_or size 0) 1 (drop 1 (born asn root).front) (born asn root),
)

-- an append is refused before it writes
pub append_log_allows : (allowed : Refusal → Action → Type 0) (name : List ℕ) (log : LogFile) (entries : List LogEntry) → Allows allowed (append_plan name log entries)
unfolding append_plan
append_log_allows allowed name log entries =
    allows_followed allowed want _ tt tt (λ spelled.
    allows_followed allowed _ _ (limit_allows allowed (length (with_batch log entries).front)) (limit_each _ (length (with_batch log entries).front)) (λ fits.
    allows_followed allowed want _ tt tt (λ room.
    allows_followed allowed _ _ (gate_allows allowed name (length log.front) (batch entries ++ 0 ∷ []))
    (gate_each _ name (length log.front) (batch entries ++ 0 ∷ []) (record { write = λ at bytes opened. tt; sync = λ opened. tt })) (λ opened. tt))))
