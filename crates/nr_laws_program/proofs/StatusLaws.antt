-- What the status of a run says of the faults.
use Rattle.std.proofs.Common.{◌≡◌, ◌≢◌, ℕ, ◌≤◌, List, Option, Some, None, Result, Ok, Err, refl, sym, ap, subst, ◌∙◌, inl, inr, ◌⊎◌, ⊎_elim, arith}
use Rattle.nr_spec_plans.specs.Disk as disk
use Rattle.nr_spec_plans.specs.Plans.{Room, Halt, Refused, Faulted, Runs}
use Rattle.nr_spec_plans.specs.Laws.{CountsOne, fault_in, reads_after, writes_after}
use Rattle.nr_spec_plans.proofs.PlanLaws.{counts_one, ends_so}
use Rattle.nr_spec_commands.specs.Words.{Request, request_in}
use Rattle.nr_spec_program.specs.Command.{Ending, Refusal, refusal_ending, fault_ending, usage_ending}
use Rattle.nr_spec_program.specs.Table.{plan_of, plan_in, plan_for}
use Rattle.nr_spec_program.specs.Running.{RunsTo, Concludes, Answers}
use Rattle.nr_spec_program.specs.Causes.{Caused, EndOf, GaveEnding, GaveRefusal, RanOut, Answered, same}
use Rattle.nr_laws_program.proofs.PlanKinds.{request_ends, ends_low, refusal_status}

-- what the status of an ending says of what ended the work
pub record Says (request : Option Request) (result : Result Ending (Halt Refusal)) (status : ℕ) : Type 0 where
  pub usage : status ≡ 2 → request ≡ None
  pub read : status ≡ 4 → fault_in result ≡ Err disk.ReadFault
  pub wrote : status ≡ 5 → fault_in result ≡ Err disk.WriteFault
  pub no_read : status ≢ 4 → fault_in result ≢ Err disk.ReadFault
  pub no_write : status ≢ 5 → fault_in result ≢ Err disk.WriteFault
  pub known : status ≤ 7

says_done : (request : Option Request) (ending : Ending) → (ending.status ≡ 2 → request ≡ None) → ending.status ≤ 2 → Says request (Ok ending) ending.status
says_done request ending usage low = record {
  usage = usage;
  read = λ is. absurd (omega arith);
  wrote = λ is. absurd (omega arith);
  no_read = λ a. λ is. cc;
  no_write = λ a. λ is. cc;
  known = omega arith;
}

says_refused : (request : Option Request) (refusal : Refusal) (status : ℕ) → (status ≡ 3) ⊎ (status ≡ 7) ⊎ (status ≡ 6) → Says request (Err (Refused refusal)) status
says_refused request refusal status is = record {
  usage = λ e. absurd (omega arith);
  read = λ e. absurd (omega arith);
  wrote = λ e. absurd (omega arith);
  no_read = λ a. λ e. cc;
  no_write = λ a. λ e. cc;
  known = omega arith;
}

says_fault : (request : Option Request) (fault : disk.Fault) → Says request (Err (Faulted fault)) (fault_ending fault).status
says_fault request disk.ReadFault = record { usage = λ e. absurd (omega arith); read = λ e. refl; wrote = λ e. absurd (omega arith); no_read = λ a. absurd (a refl); no_write = λ a. λ e. cc; known = omega arith }
says_fault request disk.WriteFault = record { usage = λ e. absurd (omega arith); read = λ e. absurd (omega arith); wrote = λ e. refl; no_read = λ a. λ e. cc; no_write = λ a. absurd (a refl); known = omega arith }
says_fault request disk.Memory = record { usage = λ e. absurd (omega arith); read = λ e. absurd (omega arith); wrote = λ e. absurd (omega arith); no_read = λ a. λ e. cc; no_write = λ a. λ e. cc; known = omega arith }

-- the value that a run of some words gives is usage, or an ending of the request
done_says : (request : Option Request) (old new : disk.Disk) (ending : Ending) → Runs (Room (plan_in request)) old new (Ok ending) → Says request (Ok ending) ending.status
unfolding Runs
done_says None old new ending (inl (same, is)) = absurd cc
done_says None old new ending (inr (same, is)) = let e : ending ≡ usage_ending = cc in says_done None ending (λ _. refl) (rw e (omega arith))
done_says (Some request) old new ending (inl (same, is)) = absurd cc
done_says (Some request) old new ending (inr runs) =
    let low : ending.status ≤ 1 = ends_low request ending (ends_so (EndOf request) (plan_of request) old new ending (request_ends request) runs) in
    says_done (Some request) ending (λ is. absurd (omega arith)) (omega arith)

pub ending_says : (request : Option Request) (old new : disk.Disk) (result : Result Ending (Halt Refusal)) (e : Ending) → Runs (Room (plan_in request)) old new result → Concludes result e → Says request result e.status
ending_says request old new (Ok ending) e runs is = rw is (done_says request old new ending runs)
ending_says request old new (Err (Refused refusal)) e runs (inl is) = rw is (says_refused request refusal (refusal_ending refusal).status (low (refusal_status refusal)))
  where
    low : ((refusal_ending refusal).status ≡ 3) ⊎ ((refusal_ending refusal).status ≡ 7) → ((refusal_ending refusal).status ≡ 3) ⊎ ((refusal_ending refusal).status ≡ 7) ⊎ ((refusal_ending refusal).status ≡ 6)
    low (inl a) = inl a
    low (inr b) = inr (inl b)
ending_says request old new (Err (Refused refusal)) e runs (inr is) = rw is (says_refused request refusal 6 (inr (inr refl)))
ending_says request old new (Err (Faulted fault)) e runs is = rw is (says_fault request fault)

-- words that aren't taken end by the usage, or for want of memory
unread : (old new : disk.Disk) (result : Result Ending (Halt Refusal)) (e : Ending) → Runs (Room (plan_in None)) old new result → Concludes result e → (e.status ≡ 2) ⊎ (e.status ≡ 6)
unfolding Runs
unread old new (Ok ending) e (inl (same, is)) c = absurd cc
unread old new (Ok ending) e (inr (same, is)) c = let k : ending ≡ usage_ending = cc in inl (ap (λ (x : Ending). x.status) (c ∙ k))
unread old new (Err (Refused refusal)) e (inl (same, is)) c = absurd cc
unread old new (Err (Refused refusal)) e (inr (same, is)) c = absurd cc
unread old new (Err (Faulted fault)) e (inl (same, is)) c = let k : fault ≡ disk.Memory = cc in inr (ap (λ (x : Ending). x.status) (c ∙ ap fault_ending k))
unread old new (Err (Faulted fault)) e (inr (same, is)) c = absurd cc

still_reads : (f : Result (Unit {0}) disk.Fault) (count : ℕ) → f ≢ Err disk.ReadFault → reads_after f count ≡ count
still_reads (Ok x) count ne = refl
still_reads (Err disk.ReadFault) count ne = absurd (ne refl)
still_reads (Err disk.WriteFault) count ne = refl
still_reads (Err disk.Memory) count ne = refl

pub still_writes : (f : Result (Unit {0}) disk.Fault) (count : ℕ) → f ≢ Err disk.WriteFault → writes_after f count ≡ count
still_writes (Ok x) count ne = refl
still_writes (Err disk.ReadFault) count ne = refl
still_writes (Err disk.WriteFault) count ne = absurd (ne refl)
still_writes (Err disk.Memory) count ne = refl

-- ---- what the status says of what the plan gave

value_low : (request : Option Request) (old new : disk.Disk) (ending : Ending) → Runs (Room (plan_in request)) old new (Ok ending) → ending.status ≤ 2
unfolding Runs
value_low None old new ending (inl (same, is)) = absurd cc
value_low None old new ending (inr (same, is)) = let e : ending ≡ usage_ending = cc in rw e (omega arith)
value_low (Some request) old new ending (inl (same, is)) = absurd cc
value_low (Some request) old new ending (inr runs) = let low = ends_low request ending (ends_so (EndOf request) (plan_of request) old new ending (request_ends request) runs) in omega (arith, low)

refusal_high : (refusal : Refusal) → (3 ≤ (refusal_ending refusal).status) × ((refusal_ending refusal).status ≢ 6)
refusal_high refusal = ⊎_elim (λ three. (omega (arith, three), λ six. omega (arith, three, six))) (λ seven. (omega (arith, seven), λ six. omega (arith, seven, six))) (refusal_status refusal)

fault_high : (fault : disk.Fault) → (4 ≤ (fault_ending fault).status) × ((fault_ending fault).status ≤ 6)
fault_high disk.ReadFault = (omega arith, omega arith)
fault_high disk.WriteFault = (omega arith, omega arith)
fault_high disk.Memory = (omega arith, omega arith)

gave_ending : (request : Option Request) (old new : disk.Disk) (result : Result Ending (Halt Refusal)) (e : Ending) (status : ℕ) → Runs (Room (plan_in request)) old new result → Concludes result e → status ≡ e.status → status ≤ 1
    → GaveEnding request result status
unfolding Runs
gave_ending None old new (Ok ending) e status (inl (same, is)) c s low = absurd cc
gave_ending None old new (Ok ending) e status (inr (same, is)) c s low =
    let two : e.status ≡ 2 = ap (λ (x : Ending). x.status) c ∙ ap (λ (x : Ending). x.status) (let k : ending ≡ usage_ending = cc in k) in
    absurd (omega (arith, two, s, low))
gave_ending (Some request) old new (Ok ending) e status (inl (same, is)) c s low = absurd cc
gave_ending (Some request) old new (Ok ending) e status (inr runs) c s low = record {
  asked = request;
  words = refl;
  ending = ending;
  gave = refl;
  of = ends_so (EndOf request) (plan_of request) old new ending (request_ends request) runs;
  answers = s ∙ ap (λ (x : Ending). x.status) c;
}
gave_ending request old new (Err (Refused refusal)) e status runs (inl c) s low = let high = refusal_high refusal in absurd (omega (arith, high.0, ap (λ (x : Ending). x.status) c, s, low))
gave_ending request old new (Err (Refused refusal)) e status runs (inr c) s low = let high = fault_high disk.Memory in absurd (omega (arith, high.0, ap (λ (x : Ending). x.status) c, s, low))
gave_ending request old new (Err (Faulted fault)) e status runs c s low = let high = fault_high fault in absurd (omega (arith, high.0, ap (λ (x : Ending). x.status) c, s, low))

either_low : (status : ℕ) → (status ≡ 0) ⊎ (status ≡ 1) → status ≤ 1
either_low status (inl is) = omega (arith, is)
either_low status (inr is) = omega (arith, is)

-- 3 or 7
is_odd : (status : ℕ) → (status ≡ 3) ⊎ (status ≡ 7) → (3 ≤ status) × ((4 ≤ status → status ≤ 6 → ⊥) × ((status ≢ 5) × (status ≢ 6)))
is_odd status (inl is) = (omega (arith, is), (λ a b. omega (arith, is, a), (λ a. omega (arith, is, a), λ a. omega (arith, is, a))))
is_odd status (inr is) = (omega (arith, is), (λ a b. omega (arith, is, b), (λ a. omega (arith, is, a), λ a. omega (arith, is, a))))

gave_refusal : (request : Option Request) (old new : disk.Disk) (result : Result Ending (Halt Refusal)) (e : Ending) (status : ℕ) → Runs (Room (plan_in request)) old new result → Concludes result e → status ≡ e.status → (status ≡ 3) ⊎ (status ≡ 7)
    → GaveRefusal result status
gave_refusal request old new (Ok ending) e status runs c s by = let low = value_low request old new ending runs in let odd = is_odd status by in absurd (omega (arith, low, ap (λ (x : Ending). x.status) c, s, odd.0))
gave_refusal request old new (Err (Refused refusal)) e status runs (inl c) s by = record { refusal = refusal; gave = refl; answers = s ∙ ap (λ (x : Ending). x.status) c }
gave_refusal request old new (Err (Refused refusal)) e status runs (inr c) s by =
    let six : status ≡ 6 = s ∙ ap (λ (x : Ending). x.status) c in
    absurd ((is_odd status by).1.1.1 six)
gave_refusal request old new (Err (Faulted fault)) e status runs c s by =
    let high = fault_high fault in
    let is : status ≡ (fault_ending fault).status = s ∙ ap (λ (x : Ending). x.status) c in
    absurd ((is_odd status by).1.0 (omega (arith, high.0, is)) (omega (arith, high.1, is)))

ran_out : (request : Option Request) (old new : disk.Disk) (result : Result Ending (Halt Refusal)) (e : Ending) (status : ℕ) (sink : Result (Unit {0}) disk.Fault) → Runs (Room (plan_in request)) old new result → Concludes result e → status ≡ e.status
    → status ≡ 6 → RanOut result e sink
ran_out request old new (Ok ending) e status sink runs c s six = let low = value_low request old new ending runs in absurd (omega (arith, low, ap (λ (x : Ending). x.status) c, s, six))
ran_out request old new (Err (Refused refusal)) e status sink runs (inl c) s six = absurd ((refusal_high refusal).1 (sym (ap (λ (x : Ending). x.status) c) ∙ sym s ∙ six))
ran_out request old new (Err (Refused refusal)) e status sink runs (inr c) s six = inr (inl (refusal, refl, c))
ran_out request old new (Err (Faulted disk.ReadFault)) e status sink runs c s six = let is : status ≡ 4 = s ∙ ap (λ (x : Ending). x.status) c in absurd (omega (arith, is, six))
ran_out request old new (Err (Faulted disk.WriteFault)) e status sink runs c s six = let is : status ≡ 5 = s ∙ ap (λ (x : Ending). x.status) c in absurd (omega (arith, is, six))
ran_out request old new (Err (Faulted disk.Memory)) e status sink runs c s six = inl refl

-- ---- the status that is answered, by the ending's and by what the sink did

caused_by : (request : Option Request) (old new : disk.Disk) (before after : disk.Tape) (status : ℕ) (result : Result Ending (Halt Refusal)) (e : Ending) (got : Result (Unit {0}) disk.Fault)
    → Runs (Room (plan_in request)) old new result → Concludes result e → Says request result e.status → (request ≡ None → (e.status ≡ 2) ⊎ (e.status ≡ 6)) → CountsOne old new result → disk.Offers e.text before after got → Answers e got status
    → Caused request old new before after result e got status
caused_by request old new before after status result e (Ok x) runs concludes says unread counts offers is =
    let sink = ap (λ (t : disk.Tape). t.faults) offers in
    record {
      usage = λ s. says.usage (sym is ∙ s);
      is_usage = λ none. ⊎_elim (λ two. inl (is ∙ two)) (λ six. inr (inr (is ∙ six))) (unread none);
      known = rw is says.known;
      own = λ a b. is;
      ending = λ s. gave_ending request old new result e status runs concludes is (either_low status s);
      refusal = λ s. gave_refusal request old new result e status runs concludes is s;
      memory = λ s. ran_out request old new result e status (Ok x) runs concludes is s;
      read_fault = λ s.
          let f = says.read (sym is ∙ s) in
          record { reads = counts.reads ∙ ap (λ f. reads_after f old.read_faults) f; writes = counts.writes ∙ ap (λ f. writes_after f old.write_faults) f; sink = sink };
      write_fault = λ s.
          let f = says.wrote (sym is ∙ s) in
          inl (record { reads = counts.reads ∙ ap (λ f. reads_after f old.read_faults) f; writes = counts.writes ∙ ap (λ f. writes_after f old.write_faults) f; sink = sink });
      no_fault = λ a b c. record {
        reads = counts.reads ∙ still_reads (fault_in result) old.read_faults (says.no_read (λ s. a (is ∙ s)));
        writes = counts.writes ∙ still_writes (fault_in result) old.write_faults (says.no_write (λ s. b (is ∙ s)));
        sink = sink;
      };
      no_sink = λ a. sink;
      no_memory = λ m. absurd cc;
    }
caused_by request old new before after status result e (Err disk.ReadFault) runs concludes says unread counts offers is = absurd offers
caused_by request old new before after status result e (Err disk.WriteFault) runs concludes says unread counts (some, (n, offers)) is = record {
  usage = λ s. absurd (omega arith);
  is_usage = λ none. inr (inl is);
  known = omega arith;
  own = λ a b. absurd (a is);
  ending = λ s. let low = either_low status s in absurd (omega (arith, low, is));
  refusal = λ s. absurd ((is_odd status s).1.1.0 is);
  memory = λ s. absurd (omega arith);
  read_fault = λ s. absurd (omega arith);
  write_fault = λ s. inr (record { reads = counts.reads; writes = counts.writes; sink = ap (λ (t : disk.Tape). t.faults) offers });
  no_fault = λ a b c. absurd (b is);
  no_sink = λ a. absurd (a is);
  no_memory = λ m. absurd cc;
}
caused_by request old new before after status result e (Err disk.Memory) runs concludes says unread counts offers is = record {
  usage = λ s. absurd (omega arith);
  is_usage = λ none. inr (inr is);
  known = omega arith;
  own = λ a b. absurd (b is);
  ending = λ s. let low = either_low status s in absurd (omega (arith, low, is));
  refusal = λ s. absurd ((is_odd status s).1.1.1 is);
  memory = λ s. inr (inr refl);
  read_fault = λ s. absurd (omega arith);
  write_fault = λ s. absurd (omega arith);
  no_fault = λ a b c. absurd (c refl);
  no_sink = λ a. ap (λ (t : disk.Tape). t.faults) offers.2;
  no_memory = λ m. is;
}

pub run_caused : (words : List (List ℕ)) (old new : disk.Disk) (before after : disk.Tape) (status : ℕ) (run : RunsTo (plan_for words) old new before after status)
    → Caused (request_in words) old new before after run.result run.ending run.delivers.got status
run_caused words old new before after status run =
    caused_by (request_in words) old new before after status run.result run.ending run.delivers.got run.runs run.concludes (ending_says (request_in words) old new run.result run.ending run.runs run.concludes)
    (λ none. unread old new run.result run.ending (subst (λ (r : Option Request). Runs (Room (plan_in r)) old new run.result) none run.runs) run.concludes)
    (counts_one (plan_for words) old new run.result run.runs) run.delivers.offers run.delivers.answers

-- where no fault of a write ended the plan, status 5 is the sink's
pub sink_alone : (request : Option Request) (result : Result Ending (Halt Refusal)) (e : Ending) (got : Result (Unit {0}) disk.Fault) (before after : disk.Tape) (status : ℕ)
    → Says request result e.status → fault_in result ≢ Err disk.WriteFault → disk.Offers e.text before after got → Answers e got status → status ≡ 5 → after.faults ≡ disk.more 1 before.faults
sink_alone request result e (Ok x) before after status says ne offers is five = absurd (ne (says.wrote (sym is ∙ five)))
sink_alone request result e (Err disk.ReadFault) before after status says ne offers is five = absurd offers
sink_alone request result e (Err disk.WriteFault) before after status says ne (some, (n, offers)) is five = ap (λ (t : disk.Tape). t.faults) offers
sink_alone request result e (Err disk.Memory) before after status says ne offers is five = absurd (omega arith)

-- ---- the line of a fault

pub fault_line : (result : Result Ending (Halt Refusal)) (e : Ending) (fault : disk.Fault) → Concludes result e → fault_in result ≡ Err fault → e ≡ fault_ending fault
fault_line (Ok ending) e fault c is = absurd cc
fault_line (Err (Refused refusal)) e fault c is = absurd cc
fault_line (Err (Faulted f)) e fault c is = let k : f ≡ fault = cc in c ∙ ap fault_ending k

-- ---- what was to be answered

pub answered_so : (P : ℕ → Type 0) (e : Ending) (got : Result (Unit {0}) disk.Fault) (status : ℕ) → (P 5 → ⊥) → (P 6 → ⊥) → Answers e got status → Answered P e status → P e.status
answered_so P e got status no_five no_six is (inr ending) = ending
answered_so P e (Ok x) status no_five no_six is (inl answer) = subst P is answer
answered_so P e (Err disk.ReadFault) status no_five no_six is (inl answer) = absurd is
answered_so P e (Err disk.WriteFault) status no_five no_six is (inl answer) = absurd (no_five (subst P is answer))
answered_so P e (Err disk.Memory) status no_five no_six is (inl answer) = absurd (no_six (subst P is answer))

-- where the sink didn't fail, the status is the ending's or that of want of memory
pub own_status : (e : Ending) (got : Result (Unit {0}) disk.Fault) (before after : disk.Tape) (status : ℕ) → after.faults ≢ disk.more 1 before.faults → disk.Offers e.text before after got → Answers e got status
    → (status ≡ e.status) ⊎ (status ≡ 6)
own_status e (Ok x) before after status still offers is = inl is
own_status e (Err disk.ReadFault) before after status still offers is = absurd is
own_status e (Err disk.WriteFault) before after status still (some, (n, offers)) is = absurd (still (ap (λ (t : disk.Tape). t.faults) offers))
own_status e (Err disk.Memory) before after status still offers is = inr is
