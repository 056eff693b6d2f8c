-- What a core hands back, by what it asked of its book.
use Rattle.std.proofs.Common.{◌≡◌, ℕ, ◌+◌, ◌^◌, max, Bool, true, false, cond, List, [], ◌++◌, length, filter, map, Option, Some, Ok, Err, refl, sym, ap, subst, ◌∙◌, ltb, append-nil}
use Rattle.nr_spec_log.specs.Chain.{LogEntry}
use Rattle.nr_spec_entry.specs.Contents.{Content}
use Rattle.nr_spec_counts.specs.Tallies.{Numbers}
use Rattle.nr_spec_steps.specs.Events.{Event, is_close, time_of}
use Rattle.nr_spec_steps.specs.Steps.{Recorder, commits_to, heads_for, is_idle, is_spent, known, moment, told}
use Rattle.nr_spec_steps.specs.Heads.{Committed, numbered}
use Rattle.nr_discipline.specs.Kept as discipline
use Rattle.nr_recorder.specs.declared.outcome.Out.{Out}
use Rattle.nr_recorder.specs.declared.outcome.Refusal.TheVariants.{KeySpent}
use Rattle.nr_recorder.specs.Kept.{Kept, recorder_of, with_entries}
use Rattle.nr_recorder.specs.Speaking.{ending}
use Rattle.nr_recorder.specs.Stepping.{Steps}
use Rattle.nr_recorder.specs.Views.{committed_of}
use Rattle.nr_recorder.proofs.Steps.{idle_commits, idle_step, spent_step, spoken_commits, spoken_step}

none_more : (core : Kept) → core ≡ with_entries core []
none_more core = λ i. record { own = core.own; peers = core.peers; key = core.key; log = sym (append-nil core.log) i }

module _ (acknowledged : List LogEntry → List ℕ → Option Content) (core : Kept) (event : Event) (own : Numbers) (book : List LogEntry) (k : discipline.Kept) (content : Option Content) (idle : Bool)
    (own_is : own ≡ core.own) (book_is : book ≡ core.log) (kept : discipline.IsKeptOf (known book) k)
    (tells : (r : Recorder) (log : List LogEntry) → own ≡ r.own → discipline.IsKeptOf (known log) k → content ≡ told r log event)
    (idle_is : idle ≡ is_idle event content) where
  the_recorder : Recorder
  the_recorder = recorder_of acknowledged core

  told_is : content ≡ told (recorder_of acknowledged core) core.log event
  told_is = tells (recorder_of acknowledged core) core.log own_is (subst (λ (l : List LogEntry). discipline.IsKeptOf (known l) k) book_is kept)

  tested : is_idle event (told (recorder_of acknowledged core) core.log event) ≡ idle
  tested = ap (is_idle event) (sym told_is) ∙ sym idle_is

  pub idles : (out : Out) → out.commits.items ≡ [] → idle ≡ true → Steps acknowledged core event (Ok (core, out))
  idles out none so = (
    [],
    idle_step (recorder_of acknowledged core) core.log event (tested ∙ so),
    none_more core,
    ap (map committed_of) none ∙ idle_commits (recorder_of acknowledged core) core.log event (tested ∙ so),
  )

  module _ (now commits leaves taken most : ℕ) (heads : List ℕ) (spent : Bool) (busy : idle ≡ false)
      (now_is : now ≡ moment book (time_of event)) (commits_is : commits ≡ (known book).commits) (heads_is : heads ≡ heads_for (known book) now event)
      (leaves_is : leaves ≡ 2 ^ core.key.height) (taken_is : taken ≡ length heads + cond (is_close event) 1 0) (spent_is : spent ≡ is_spent leaves commits taken) where
    now_then : now ≡ moment core.log (time_of event)
    now_then = now_is ∙ ap (λ (l : List LogEntry). moment l (time_of event)) book_is

    commits_then : commits ≡ (known core.log).commits
    commits_then = commits_is ∙ ap (λ (l : List LogEntry). (known l).commits) book_is

    heads_then : heads ≡ heads_for (known core.log) now event
    heads_then = heads_is ∙ ap (λ (l : List LogEntry). heads_for (known l) now event) book_is

    spent_then : is_spent (2 ^ core.key.height) commits (length heads + cond (is_close event) 1 0) ≡ spent
    spent_then = (λ i. is_spent (sym leaves_is i) commits (sym taken_is i)) ∙ sym spent_is

    pub spends : most ≡ max commits leaves → spent ≡ true → Steps acknowledged core event (Err (Some core, KeySpent most leaves))
    spends most_is so = (
      spent_step (recorder_of acknowledged core) core.log event now commits heads (tested ∙ busy) now_then commits_then heads_then (spent_then ∙ so)
          ∙ (λ i. Err (record { commits = (sym (most_is ∙ ap (max commits) leaves_is)) i; leaves = sym leaves_is i })),
      refl,
    )

    pub speaks : (done : Kept) (out : Out) → spent ≡ false
        → done ≡ with_entries core (commits_to now commits heads ++ ending (core.log ++ commits_to now commits heads) now (commits + length heads) content)
        → map committed_of out.commits.items ≡ filter (λ (c : Committed). ltb c.neighbour core.own.count) (numbered (length core.log + 1) heads)
        → Steps acknowledged core event (Ok (done, out))
    speaks done out fits done_is listed =
        let r = recorder_of acknowledged core in (
          commits_to now commits heads ++ ending (core.log ++ commits_to now commits heads) now (commits + length heads) (told r core.log event),
          spoken_step r core.log event now commits heads (tested ∙ busy) now_then commits_then heads_then (spent_then ∙ fits),
          done_is ∙ ap (λ (x : Option Content). with_entries core (commits_to now commits heads ++ ending (core.log ++ commits_to now commits heads) now (commits + length heads) x)) told_is,
          listed ∙ spoken_commits r core.log event now commits heads (tested ∙ busy) now_then commits_then heads_then,
        )
