-- The places of numbers, and what is put into them.
use Rattle.std.proofs.Common.{◌≡◌, ℕ, Bool, true, false, cond, ◌||◌, List, [], ◌∷◌, ◌++◌, append_assoc, Option, Some, None, refl, ap, sym, ◌∙◌}
use Rattle.std.specs.BTreeMap.{is_at}
use Rattle.std.specs.Ordering.{nat_cmp}
use Rattle.nr_spec_log.specs.Authenticator.{Authenticator}
use Rattle.nr_spec_log.specs.Chain as chain
use Rattle.nr_spec_routes.specs.LookBack.{last_of, later_or}
use Rattle.nr_spec_routes.proofs.Words.{last_of-push}
use Rattle.nr_audit.specs.declared.slots.Link.{Link}
use Rattle.nr_audit.specs.declared.links.Links as declared
use Rattle.nr_audit.specs.Views.{link_of}
use Rattle.nr_audit.specs.Slots.{AreNoted, is_named, named, noted, numbered, place_after, slot_of, view_of}
use Rattle.nr_audit.specs.Links.{Links}

pub none_named : (b : Bool) → cond b (Some None) None ≡ named b
none_named true = refl
none_named false = refl

pub one_named : (here later : Bool) (slot : Option (Option Link)) → cond later (Some None) (cond here (Some None) slot) ≡ cond (here || later) (Some None) slot
one_named true true slot = refl
one_named true false slot = refl
one_named false true slot = refl
one_named false false slot = refl

-- places that are named have what they have after no links
pub noted_nothing : (auths : List Authenticator) (entries : List (ℕ × Option Link)) → ((k : ℕ) → slot_of entries k ≡ named (is_named k auths)) → AreNoted auths [] entries
noted_nothing auths entries are k = ap view_of (are k) ∙ by (is_named k auths)
  where
    by : (b : Bool) → view_of (named b) ≡ place_after b k []
    by true = refl
    by false = refl

noted_at : (link : Link) (k : ℕ) (b t : Bool) (found : Option (Option Link)) (done : List chain.Link) → is_at (nat_cmp link.seq) k ≡ t → view_of found ≡ place_after b k done
    → view_of (noted link k found) ≡ place_after b k (done ++ link_of link ∷ [])
noted_at link k true t None done is before = absurd cc
noted_at link k false t None done is before = refl
noted_at link k false t (Some x) done is before = absurd cc
noted_at link k true true (Some x) done is before =
    ap (λ b. view_of (cond b (Some (Some link)) (Some x))) is
    ∙ sym (ap Some (last_of-push (numbered k) done (link_of link) ∙ ap (λ b. later_or (cond b (Some (link_of link)) None) (last_of (numbered k) done)) is))
noted_at link k true false (Some x) done is before =
    ap (λ b. view_of (cond b (Some (Some link)) (Some x))) is
    ∙ (before ∙ sym (ap Some (last_of-push (numbered k) done (link_of link) ∙ ap (λ b. later_or (cond b (Some (link_of link)) None) (last_of (numbered k) done)) is)))

-- a link more
pub noted_more : (auths : List Authenticator) (done : List chain.Link) (link : Link) (old new : List (ℕ × Option Link))
    → ((k : ℕ) → slot_of new k ≡ noted link k (slot_of old k)) → AreNoted auths done old → AreNoted auths (done ++ link_of link ∷ []) new
noted_more auths done link old new step before k =
    ap view_of (step k) ∙ noted_at link k (is_named k auths) (is_at (nat_cmp link.seq) k) (slot_of old k) done refl (before k)

-- an entry more
pub linked_more : (auths : List Authenticator) (all : List chain.Link) (value : List ℕ) (e : chain.LogEntry) (rest : List chain.LogEntry) (old new : declared.Links) (link : Link)
    → link_of link ≡ record { seq = old.walk.seq; time = e.time; value = chain.link_value old.walk.value old.walk.seq (chain.shown e) }
    → new.walk ≡ chain.chained old.walk (chain.shown e)
    → ((k : ℕ) → slot_of new.slots.links.entries k ≡ noted link k (slot_of old.slots.links.entries k))
    → Links auths all value (e ∷ rest) old → Links auths all value rest new
linked_more auths all value e rest old new link is walk step so_far = record {
  so_far = so_far.so_far ++ link_of link ∷ [];
  joined =
      append_assoc so_far.so_far (link_of link ∷ []) (chain.links_of new.walk rest)
      ∙ ((λ i. so_far.so_far ++ (is i ∷ chain.links_of (walk i) rest)) ∙ so_far.joined);
  noted = noted_more auths so_far.so_far link old.slots.links.entries new.slots.links.entries step so_far.noted;
  last = ap (λ (c : chain.Chain). chain.value_after c rest) walk ∙ so_far.last;
}

-- before the first entry
pub linked_first : (auths : List Authenticator) (chain_ : chain.Chain) (entries : List chain.LogEntry) (l : declared.Links) → l.walk ≡ chain_
    → ((k : ℕ) → slot_of l.slots.links.entries k ≡ named (is_named k auths)) → Links auths (chain.links_of chain_ entries) (chain.value_after chain_ entries) entries l
linked_first auths chain_ entries l is are = record {
  so_far = [];
  joined = ap (λ (c : chain.Chain). chain.links_of c entries) is;
  noted = noted_nothing auths l.slots.links.entries are;
  last = ap (λ (c : chain.Chain). chain.value_after c entries) is;
}
