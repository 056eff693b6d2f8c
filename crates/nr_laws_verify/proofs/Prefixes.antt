-- The prefixes at which promises may be bad are prefixes.
use Rattle.std.proofs.Common.{Bool, true, false, cond, List, [], ◌∷◌, ◌++◌}
use Rattle.std.specs.List.{AllByRecursion, flat_map}
use Rattle.std.specs.BTreeSet.{insert_key}
use Rattle.std.specs.Ordering.{match_ordering}
use Rattle.std.specs.declared.cmp.Ordering.{Ordering}
use Rattle.std.specs.declared.cmp.Ordering.TheVariants.{Less, Equal, Greater}
use Rattle.nr_spec_log.specs.Chain.{LogEntry}
use Rattle.nr_spec_bgp.specs.Prefixes.{Cidr, IsCidr}
use Rattle.nr_spec_history.specs.Conflicts.{Period}
use Rattle.nr_spec_routes.specs.Keys.{Row, cidr_cmp, each_once, prefixes_in, standing}
use Rattle.nr_spec_routes.specs.Rows.{rows_after}
use Rattle.nr_spec_bounds.specs.Bounds.{AreRows, AreStated, IsRow, IsStated}
use Rattle.nr_laws_bounds.proofs.RowsFit.{rows_fit}
use Rattle.nr_spec_typing.specs.declared.text.Promise.{Promise}
use Rattle.nr_spec_report.specs.Wrong.{Base, is_within}
use Rattle.nr_spec_promises.specs.Files.{PromiseFile}
use Rattle.nr_spec_promises.specs.Moments.{entries_before}
use Rattle.nr_spec_promises.specs.Counted.{named_by, named_in}
use Rattle.nr_spec_promises.specs.Found.{prefixes_over, standing_within}
use Rattle.nr_laws_verify.proofs.Each.{each_appended, each_filtered, each_flat}
use Rattle.nr_laws_verify.proofs.Named.{NamesPrefixes}

abbrev pub AreCidrs : List Cidr → Type 0
AreCidrs ps = AllByRecursion IsCidr ps

one_more : (ps : List Cidr) (k : Cidr) → AreCidrs ps → IsCidr k → AreCidrs (insert_key cidr_cmp ps k)
one_more [] k h is = (is, tt)
one_more (p ∷ ps) k h is = by (cidr_cmp k p) (one_more ps k h.1 is)
  where
    by : (o : Ordering) → AreCidrs (insert_key cidr_cmp ps k) → AreCidrs (match_ordering o (k ∷ p ∷ ps) (p ∷ ps) (p ∷ insert_key cidr_cmp ps k))
    by Less later = (is, h)
    by Equal later = h
    by Greater later = (h.0, later)

once : (ps : List Cidr) → AreCidrs ps → AreCidrs (each_once ps)
once [] h = tt
once (p ∷ ps) h = one_more (each_once ps) p (once ps h.1) h.0

-- ---- those that stand

in_rows : (rows : List Row) → AllByRecursion IsRow rows → AreCidrs (prefixes_in rows)
in_rows [] h = tt
in_rows (r ∷ rows) h = (h.0.0.prefix, in_rows rows h.1)

stand_after : (base : List Row) (past : List LogEntry) → AreRows base → AreStated past → AreCidrs (standing (rows_after base past))
stand_after base past fit stated = once (prefixes_in (rows_after base past)) (in_rows (rows_after base past) (rows_fit base past fit stated).each)

stand_within : (base : Base) (period : Period) (past later : List LogEntry) → AreRows base.rows → AreStated past → AreStated later → AreCidrs (standing_within base period past later)
stand_within base period past [] fit before after = tt
stand_within base period past (e ∷ later) fit before after =
    let grown : AreStated (past ++ e ∷ []) = each_appended IsStated past (e ∷ []) before (after.0, tt) in
    each_appended IsCidr (cond (is_within period e.time) (standing (rows_after base.rows (past ++ e ∷ []))) []) (standing_within base period (past ++ e ∷ []) later)
    (by (is_within period e.time) (stand_after base.rows (past ++ e ∷ []) fit grown)) (stand_within base period (past ++ e ∷ []) later fit grown after.1)
  where
    by : (b : Bool) → AreCidrs (standing (rows_after base.rows (past ++ e ∷ []))) → AreCidrs (cond b (standing (rows_after base.rows (past ++ e ∷ []))) [])
    by true h = h
    by false h = tt

-- ---- those that promises name

abbrev pub FileNames : PromiseFile → Type 0
FileNames f = AllByRecursion NamesPrefixes f.promises

named : (files : List PromiseFile) → AllByRecursion FileNames files → AreCidrs (flat_map named_in files)
named [] h = tt
named (f ∷ files) h = each_appended IsCidr (named_in f) (flat_map named_in files) (each_flat IsCidr (λ (p : Promise). p.at) f.promises h.0) (named files h.1)

pub all_cidrs : (files : List PromiseFile) (base : Base) (period : Period) (entries : List LogEntry) → AllByRecursion FileNames files → AreRows base.rows → AreStated entries
    → AreCidrs (prefixes_over files base period entries)
all_cidrs files base period entries names fit stated =
    let first = entries_before period entries in
    let begin = standing (rows_after base.rows first) in
    let within = standing_within base period [] entries in
    once (begin ++ (within ++ named_by files))
    (each_appended IsCidr begin (within ++ named_by files) (stand_after base.rows first fit (each_filtered IsStated _ entries stated))
    (each_appended IsCidr within (named_by files) (stand_within base period [] entries fit tt stated) (once (flat_map named_in files) (named files names))))
