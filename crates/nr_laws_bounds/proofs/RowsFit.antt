-- The rows after entries can be stated.
use Rattle.std.proofs.Common.{◌≡◌, ℕ, zero, suc, ◌+◌, ◌-◌, ◌*◌, ◌/◌, ◌^◌, ◌<◌, ◌≤◌, ◌⊎◌, inl, inr, Bool, true, false, cond, eqb, ◌&&◌, T, List, [], ◌∷◌, ◌++◌, length, drop, get_or, replicate, Option, Some, None, Result, Ok, Err, refl, sym, ap, subst, ◌∙◌, arith}
use Rattle.std.specs.Prelude.{◌||◌}
use Rattle.std.specs.List.{list_any, AllByRecursion}
use Rattle.std.specs.BTreeMap.{is_at}
use Rattle.std.specs.List.Sorted.{IsStrictlySortedBy}
use Rattle.std.specs.Map.{keys_of}
use Rattle.std.specs.Option.{unwrap_or}
use Rattle.std.specs.Ordering.{is_eq, is_lt}
use Rattle.std.specs.declared.cmp.Ordering.{Ordering}
use Rattle.std.specs.declared.cmp.Ordering.TheVariants.{Less, Equal, Greater}
use Rattle.std.specs.FinMap.Entries.{put, by_order}
use Rattle.std.proofs.lemmas.Bool.{eqb-true}
use Rattle.byteorder.specs.Endian.{big_number}
use Rattle.byteorder.specs.Numbers.{big_from-lt}
use Rattle.nr_spec_wire.specs.Reading.{Spot, start_of, IsBytes}
use Rattle.nr_spec_log.specs.Chain.{LogEntry}
use Rattle.nr_spec_bgp.specs.Prefixes.{Cidr, IsCidr, masked, address_of}
use Rattle.nr_spec_bgp.specs.Attributes.{Attribute, AttributeBlock, attributes_in, is_complete}
use Rattle.nr_spec_bgp.specs.Messages.{Changes, Meaning, Opens, Updates, Notifies, KeepsAlive, Refreshes, message_of}
use Rattle.nr_laws_bgp.specs.Grammar.{IsCidrIn, AreCidrs, IsMessageOf, IsUpdate, IsMessage}
use Rattle.nr_laws_bgp.proofs.GrammarMessages.{message_found}
use Rattle.nr_laws_bgp.proofs.GrammarWalk.{attributes_again}
use Rattle.nr_laws_bgp.proofs.ValueReading.{complete_again}
use Rattle.std.proofs.Math.Nat.{mul-div_cancel, div-mul-le_self}
use Rattle.std.proofs.lemmas.Nat.{pow_pos}
use Rattle.nr_spec_entry.specs.Contents.{Ack, Checkpoint, Commit, Content, Promise, Recv, Send, State, most_neighbours}
use Rattle.nr_spec_entry.specs.ContentReading.{content_of}
use Rattle.nr_spec_routes.specs.declared.direction.Direction.{Direction}
use Rattle.nr_spec_routes.specs.declared.direction.Direction.TheVariants.{Received, Sent}
use Rattle.nr_spec_routes.specs.LookBack.{later_or, last_of}
use Rattle.nr_spec_routes.specs.Keys.{AreAscending, Key, Row, cidr_cmp, is_named, key_cmp, route_in}
use Rattle.nr_spec_routes.specs.Effects.{Effect, Keeps, Empties, Alters, message_effect, content_effect, established, is_with, update_says, says, effect_of}
use Rattle.nr_spec_routes.specs.Routes.{word_of, route_after}
use Rattle.nr_spec_routes.specs.Rows.{candidates, with_route, in_order, rows_after}
use Rattle.nr_spec_routes.proofs.KeyOrder.{exact_cidrs, exact_keys}
use Rattle.nr_spec_routes.proofs.RowsOnce.{rows_ascend}
use Rattle.nr_spec_bounds.specs.Bounds.{AreRows, AreStated, IsKey, IsRoute, IsRow}
use Rattle.nr_laws_bounds.proofs.ContentFits.{IsFull, IsFullOr, content_full}

is_equal : (o : Ordering) → is_eq o ≡ true → o ≡ Equal
is_equal Less e = absurd cc
is_equal Equal e = refl
is_equal Greater e = absurd cc

masked_is_cidr : (addr len : ℕ) → addr < 2 ^ 32 → len ≤ 32 → IsCidr (masked addr len)
masked_is_cidr addr len a l =
    let step = 2 ^ (32 - len) in
    let some : zero < step = pow_pos (32 - len) in
    record {
      len = l;
      addr = omega (arith, div-mul-le_self addr step);
      clear = ap (λ (n : ℕ). n * step) (mul-div_cancel (addr / step) some);
    }

-- ---- parts of bytes are bytes

bytes_tail : (b : ℕ) (xs : List ℕ) → IsBytes (b ∷ xs) → IsBytes xs
bytes_tail b xs h i = h (suc i)

bytes_right : (xs ys : List ℕ) → IsBytes (xs ++ ys) → IsBytes ys
bytes_right [] ys h = h
bytes_right (x ∷ xs) ys h = bytes_right xs ys (bytes_tail x (xs ++ ys) h)

bytes_left : (xs ys : List ℕ) → IsBytes (xs ++ ys) → IsBytes xs
bytes_left [] ys h i = omega arith
bytes_left (x ∷ xs) ys h zero = h 0
bytes_left (x ∷ xs) ys h (suc i) = bytes_left xs ys (bytes_tail x (xs ++ ys) h) i

bytes_join : (xs ys : List ℕ) → IsBytes xs → IsBytes ys → IsBytes (xs ++ ys)
bytes_join [] ys h k i = k i
bytes_join (x ∷ xs) ys h k zero = h 0
bytes_join (x ∷ xs) ys h k (suc i) = bytes_join xs ys (bytes_tail x xs h) k i

zeros : IsBytes (0 ∷ 0 ∷ 0 ∷ 0 ∷ [])
zeros zero = omega arith
zeros (suc zero) = omega arith
zeros (suc (suc zero)) = omega arith
zeros (suc (suc (suc zero))) = omega arith
zeros (suc (suc (suc (suc i)))) = omega arith

-- ---- prefixes

cidr_fits : (bytes : List ℕ) (p : Cidr) (more : List ℕ) → IsBytes bytes → IsCidrIn bytes p more → IsCidr p × IsBytes more
cidr_fits bytes p more fits h =
    let all = bytes_tail h.len (h.piece ++ more) (subst IsBytes h.spelled fits) in
    let piece = bytes_left h.piece more all in
    let low : address_of h.piece < 256 ^ 4 = big_from-lt 0 4 (h.piece ++ 0 ∷ 0 ∷ 0 ∷ 0 ∷ []) (bytes_join h.piece (0 ∷ 0 ∷ 0 ∷ 0 ∷ []) piece zeros) in
    let addr : address_of h.piece < 2 ^ 32 = omega (arith, low) in
    (subst IsCidr (sym h.value) (masked_is_cidr (address_of h.piece) h.len addr h.short), bytes_right h.piece more all)

cidrs_fit : (bytes : List ℕ) (list : List Cidr) → IsBytes bytes → AreCidrs bytes list → AllByRecursion IsCidr list
cidrs_fit bytes [] fits h = tt
cidrs_fit bytes (p ∷ list) fits h =
    let one = cidr_fits bytes p h.0 fits h.1 in
    (one.0, cidrs_fit h.0 list one.1 h.2)

named_fits : (list : List Cidr) (p : Cidr) → AllByRecursion IsCidr list → is_named list p ≡ true → IsCidr p
named_fits [] p all e = absurd cc
named_fits (c ∷ list) p all e = by (is_eq (cidr_cmp c p)) refl (named_fits list p all.1) e
  where
    by : (b : Bool) → is_eq (cidr_cmp c p) ≡ b → (is_named list p ≡ true → IsCidr p) → (b || is_named list p) ≡ true → IsCidr p
    by true is later e = subst IsCidr (exact_cidrs c p (is_equal _ is)) all.0
    by false is later e = later e

-- where something is named, the part isn't empty
named_some : (bytes : List ℕ) (list : List Cidr) (p : Cidr) → AreCidrs bytes list → is_named list p ≡ true → length bytes ≡ 0 → ⊥
named_some bytes [] p h e none = absurd cc
named_some bytes (c ∷ list) p h e none = let s = ap length h.1.spelled in absurd (omega (arith, s, none))

-- ---- what an UPDATE announces

announces : (as4 : Bool) (raw : List ℕ) (c : Changes) (p : Cidr) → IsBytes raw → message_of as4 raw ≡ Ok (Updates c) → is_named c.announced p ≡ true → IsCidr p × IsRoute c.attributes
announces as4 raw c p fits e named =
    let m = message_found as4 raw (Updates c) e in
    let body = m.0 in
    let of = m.1 in
    let u = m.2 in
    let tail = bytes_right (replicate 16 255) _ (subst IsBytes of.spelled fits) in
    let body_fits : IsBytes body = bytes_tail 2 body (bytes_right of.size (2 ∷ body) tail) in
    let r1 = bytes_right u.withdrawn_size _ (subst IsBytes u.spelled body_fits) in
    let r2 = bytes_right u.withdrawn_part _ r1 in
    let size_fits = bytes_left u.block_size _ r2 in
    let r3 = bytes_right u.block_size _ r2 in
    let r4 = bytes_right c.attributes.block u.announced_part r3 in
    let prefix = named_fits c.announced p (cidrs_fit u.announced_part c.announced r4 u.announced) named in
    let low : big_number 2 u.block_size < 256 ^ 2 = big_from-lt 0 2 u.block_size size_fits in
    let size = u.block_sized.value in
    let same = u.as4_is in
    let reads : attributes_in c.attributes.as4 c.attributes.block ≡ Ok c.attributes.list = ap (λ (b : Bool). attributes_in b c.attributes.block) same ∙ attributes_again as4 c.attributes.block c.attributes.list u.attributes 0 in
    let complete : is_complete c.attributes.list ≡ true = elim u.complete [ inl none ↦ absurd (named_some u.announced_part c.announced p u.announced named none) | inr is ↦ complete_again c.attributes.list is ] in
    (prefix, record { size = omega (arith, low, size); reads = reads; complete = complete })

-- ---- what an entry says

abbrev Word : Type 0
Word = Option (Option AttributeBlock)

some_route : AttributeBlock → Word
some_route b = Some (Some b)

route_is : (a b : AttributeBlock) → (let x : Word = Some (Some a) in x) ≡ Some (Some b) → a ≡ b
route_is a b e = cc

not_none : (b : AttributeBlock) → (let x : Word = None in x) ≡ Some (Some b) → ⊥
not_none b e = absurd cc

not_gone : (b : AttributeBlock) → (let x : Word = Some None in x) ≡ Some (Some b) → ⊥
not_gone b e = absurd cc

emptied : (t : Bool) (b : AttributeBlock) → (let x : Word = cond t (Some None) None in x) ≡ Some (Some b) → ⊥
emptied true b e = not_gone b e
emptied false b e = not_none b e

record IsAltered (d : Direction) (n : ℕ) (c : Changes) (q : Key) (b : AttributeBlock) : Type 0 where
  pub with : is_with d n q ≡ true
  pub named : is_named c.announced q.prefix ≡ true
  pub same : c.attributes ≡ b

altered : (w a x : Bool) (r b : AttributeBlock) → (let y : Word = cond w (cond a (Some (Some r)) (cond x (Some None) None)) None in y) ≡ Some (Some b) → (w ≡ true) × (a ≡ true) × (r ≡ b)
altered true true x r b e = (refl, refl, route_is r b e)
altered true false x r b e = absurd (emptied x b e)
altered false a x r b e = absurd (not_none b e)

both_true : (a b : Bool) → (a && b) ≡ true → (a ≡ true) × (b ≡ true)
both_true true true e = (refl, refl)
both_true true false e = absurd cc
both_true false b e = absurd cc

with_neighbour : (d : Direction) (n : ℕ) (q : Key) → is_with d n q ≡ true → n ≡ q.neighbour
with_neighbour d n q e = eqb-true _ _ (both_true _ _ e).1

message_says : (d : Direction) (n : ℕ) (as4 : Bool) (raw : List ℕ) (q : Key) (b : AttributeBlock) (r : Result Meaning ℕ) → n < most_neighbours → IsBytes raw → message_of as4 raw ≡ r → says (message_effect d n r) q ≡ Some (Some b) → IsRow (q, b)
message_says d n as4 raw q b (Ok Opens) lt fits is e = absurd (emptied (eqb n q.neighbour) b e)
message_says d n as4 raw q b (Ok (Updates c)) lt fits is e =
    let a = altered (is_with d n q) (is_named c.announced q.prefix) (is_named c.withdrawn q.prefix) c.attributes b e in
    let said = announces as4 raw c q.prefix fits is a.1 in
    let who = with_neighbour d n q a.0 in
    let key : IsKey q = record { prefix = said.0; neighbour = subst (λ (m : ℕ). m < most_neighbours) who lt } in
    (key, subst IsRoute a.2 said.1)
message_says d n as4 raw q b (Ok Notifies) lt fits is e = absurd (emptied (eqb n q.neighbour) b e)
message_says d n as4 raw q b (Ok KeepsAlive) lt fits is e = absurd (not_none b e)
message_says d n as4 raw q b (Ok Refreshes) lt fits is e = absurd (not_none b e)
message_says d n as4 raw q b (Err place) lt fits is e = absurd (emptied (eqb n q.neighbour) b e)

state_says : (t : Bool) (n : ℕ) (q : Key) (b : AttributeBlock) → says (cond t Keeps (Empties n)) q ≡ Some (Some b) → ⊥
state_says true n q b e = not_none b e
state_says false n q b e = emptied (eqb n q.neighbour) b e

content_says : (c : Option Content) (q : Key) (b : AttributeBlock) → IsFullOr c → says (content_effect c) q ≡ Some (Some b) → IsRow (q, b)
content_says None q b full e = absurd (not_none b e)
content_says (Some (Send n as4 raw)) q b full e = message_says Sent n as4 raw q b (message_of as4 raw) full.0 full.1 refl e
content_says (Some (Recv n as4 raw)) q b full e = message_says Received n as4 raw q b (message_of as4 raw) full.0 full.1 refl e
content_says (Some (State n old new)) q b full e = absurd (state_says (eqb new established) n q b e)
content_says (Some (Ack n upto seq time hash sig)) q b full e = absurd (not_none b e)
content_says (Some (Commit n leaf)) q b full e = absurd (not_none b e)
content_says (Some (Checkpoint body)) q b full e = absurd (not_none b e)
content_says (Some (Promise file count delay)) q b full e = absurd (not_none b e)

-- ---- the route after a log

last_says : (es : List LogEntry) (q : Key) (b : AttributeBlock) → AreStated es → last_of (word_of q) es ≡ Some (Some b) → IsRow (q, b)
last_says [] q b stated e = absurd (not_none b e)
last_says (x ∷ es) q b stated e = by (last_of (word_of q) es) (last_says es q b stated.1) e
  where
    by : (w : Word) → (w ≡ Some (Some b) → IsRow (q, b)) → later_or w (word_of q x) ≡ Some (Some b) → IsRow (q, b)
    by None later e = content_says (content_of x) q b (content_full x stated.0.content) e
    by (Some r) later e = later e

base_says : (base : List Row) (q : Key) (b : AttributeBlock) → AllByRecursion IsRow base → route_in base q ≡ Some b → IsRow (q, b)
base_says [] q b all e = absurd cc
base_says (r ∷ base) q b all e = by (is_at (key_cmp q) r.0) refl (base_says base q b all.1) e
  where
    some : (x y : AttributeBlock) → (let o : Option AttributeBlock = Some x in o) ≡ Some y → x ≡ y
    some x y e = cc

    by : (t : Bool) → is_at (key_cmp q) r.0 ≡ t → (route_in base q ≡ Some b → IsRow (q, b)) → cond t (Some r.1) (route_in base q) ≡ Some b → IsRow (q, b)
    by true at later e =
        let same : q ≡ r.0 = exact_keys q r.0 (is_equal _ at) in
        (subst IsKey (sym same) all.0.0, subst IsRoute (some r.1 b e) all.0.1)
    by false at later e = later e

route_fits : (base : List Row) (es : List LogEntry) (q : Key) (b : AttributeBlock) → AllByRecursion IsRow base → AreStated es → route_after base es q ≡ Some b → IsRow (q, b)
route_fits base es q b all stated e = by (last_of (word_of q) es) (last_says es q b stated) e
  where
    by : (w : Word) → (w ≡ Some (Some b) → IsRow (q, b)) → unwrap_or w (route_in base q) ≡ Some b → IsRow (q, b)
    by (Some r) said e = said (ap (λ (x : Option AttributeBlock). let y : Word = Some x in y) e)
    by None said e = base_says base q b all e

-- ---- the rows

put_fits : (k : Key) (b : AttributeBlock) (rows : List Row) → IsRow (k, b) → AllByRecursion IsRow rows → AllByRecursion IsRow (put key_cmp k b rows)
put_fits k b [] h all = (h, tt)
put_fits k b (r ∷ rows) h all = by (key_cmp k r.0) (put_fits k b rows h all.1)
  where
    by : (o : Ordering) → AllByRecursion IsRow (put key_cmp k b rows) → AllByRecursion IsRow (by_order o ((k, b) ∷ r ∷ rows) ((r.0, b) ∷ rows) (r ∷ put key_cmp k b rows))
    by Less later = (h, (all.0, all.1))
    by Equal later = ((all.0.0, h.1), all.1)
    by Greater later = (all.0, later)

in_order_fits : (route : Key → Option AttributeBlock) (keys : List Key) → ((q : Key) (b : AttributeBlock) → route q ≡ Some b → IsRow (q, b)) → AllByRecursion IsRow (in_order route keys)
in_order_fits route [] h = tt
in_order_fits route (k ∷ keys) h = by (route k) refl (in_order_fits route keys h)
  where
    by : (r : Option AttributeBlock) → route k ≡ r → AllByRecursion IsRow (in_order route keys) → AllByRecursion IsRow (with_route k r (in_order route keys))
    by None is later = later
    by (Some b) is later = put_fits k b (in_order route keys) (h k b is) later

pub rows_fit : (base : List Row) (es : List LogEntry) → AreRows base → AreStated es → AreRows (rows_after base es)
unfolding rows_after
rows_fit base es fit stated = record {
  each = in_order_fits (route_after base es) (candidates base es) (λ q b e. route_fits base es q b fit.each stated e);
  order = rows_ascend base es;
}

pub no_rows_fit : AreRows []
unfolding IsStrictlySortedBy
no_rows_fit = record { each = tt; order = tt }
