-- The keywords are words of letters.
use Rattle.std.proofs.Common.{refl, arith}
use Rattle.std.specs.Prelude.{codes}
use Rattle.nr_spec_rules.specs.declared.kind.Kind.TheVariants as k
use Rattle.nr_spec_rules.specs.Tokens.{word_kind}
use Rattle.nr_laws_print.proofs.Shows.{IsKeyword}

pub network_keyword : IsKeyword k.Network (codes "network")
unfolding word_kind
network_keyword = record { some = omega arith; letter = refl; all = refl; kind_is = refl; goes = refl }

pub commit_keyword : IsKeyword k.Commit (codes "commit")
unfolding word_kind
commit_keyword = record { some = omega arith; letter = refl; all = refl; kind_is = refl; goes = refl }

pub neighbour_keyword : IsKeyword k.Neighbour (codes "neighbour")
unfolding word_kind
neighbour_keyword = record { some = omega arith; letter = refl; all = refl; kind_is = refl; goes = refl }

pub group_keyword : IsKeyword k.Group (codes "group")
unfolding word_kind
group_keyword = record { some = omega arith; letter = refl; all = refl; kind_is = refl; goes = refl }

pub define_keyword : IsKeyword k.Define (codes "define")
unfolding word_kind
define_keyword = record { some = omega arith; letter = refl; all = refl; kind_is = refl; goes = refl }

pub promise_keyword : IsKeyword k.Promise (codes "promise")
unfolding word_kind
promise_keyword = record { some = omega arith; letter = refl; all = refl; kind_is = refl; goes = refl }

pub grace_keyword : IsKeyword k.Grace (codes "grace")
unfolding word_kind
grace_keyword = record { some = omega arith; letter = refl; all = refl; kind_is = refl; goes = refl }

pub as_keyword : IsKeyword k.As (codes "as")
unfolding word_kind
as_keyword = record { some = omega arith; letter = refl; all = refl; kind_is = refl; goes = refl }

pub at_keyword : IsKeyword k.At (codes "at")
unfolding word_kind
at_keyword = record { some = omega arith; letter = refl; all = refl; kind_is = refl; goes = refl }

pub root_keyword : IsKeyword k.RootWord (codes "root")
unfolding word_kind
root_keyword = record { some = omega arith; letter = refl; all = refl; kind_is = refl; goes = refl }

pub number_keyword : IsKeyword k.NumberWord (codes "number")
unfolding word_kind
number_keyword = record { some = omega arith; letter = refl; all = refl; kind_is = refl; goes = refl }

pub le_keyword : IsKeyword k.Le (codes "le")
unfolding word_kind
le_keyword = record { some = omega arith; letter = refl; all = refl; kind_is = refl; goes = refl }

pub implies_keyword : IsKeyword k.Implies (codes "implies")
unfolding word_kind
implies_keyword = record { some = omega arith; letter = refl; all = refl; kind_is = refl; goes = refl }

pub or_keyword : IsKeyword k.Or (codes "or")
unfolding word_kind
or_keyword = record { some = omega arith; letter = refl; all = refl; kind_is = refl; goes = refl }

pub not_keyword : IsKeyword k.Not (codes "not")
unfolding word_kind
not_keyword = record { some = omega arith; letter = refl; all = refl; kind_is = refl; goes = refl }

pub true_keyword : IsKeyword k.True (codes "true")
unfolding word_kind
true_keyword = record { some = omega arith; letter = refl; all = refl; kind_is = refl; goes = refl }

pub false_keyword : IsKeyword k.False (codes "false")
unfolding word_kind
false_keyword = record { some = omega arith; letter = refl; all = refl; kind_is = refl; goes = refl }

pub all_keyword : IsKeyword k.All (codes "all")
unfolding word_kind
all_keyword = record { some = omega arith; letter = refl; all = refl; kind_is = refl; goes = refl }

pub some_keyword : IsKeyword k.Some (codes "some")
unfolding word_kind
some_keyword = record { some = omega arith; letter = refl; all = refl; kind_is = refl; goes = refl }

pub in_keyword : IsKeyword k.In (codes "in")
unfolding word_kind
in_keyword = record { some = omega arith; letter = refl; all = refl; kind_is = refl; goes = refl }

pub if_keyword : IsKeyword k.If (codes "if")
unfolding word_kind
if_keyword = record { some = omega arith; letter = refl; all = refl; kind_is = refl; goes = refl }

pub then_keyword : IsKeyword k.Then (codes "then")
unfolding word_kind
then_keyword = record { some = omega arith; letter = refl; all = refl; kind_is = refl; goes = refl }

pub else_keyword : IsKeyword k.Else (codes "else")
unfolding word_kind
else_keyword = record { some = omega arith; letter = refl; all = refl; kind_is = refl; goes = refl }

pub end_keyword : IsKeyword k.EndWord (codes "end")
unfolding word_kind
end_keyword = record { some = omega arith; letter = refl; all = refl; kind_is = refl; goes = refl }

pub sent_keyword : IsKeyword k.Sent (codes "sent")
unfolding word_kind
sent_keyword = record { some = omega arith; letter = refl; all = refl; kind_is = refl; goes = refl }

pub received_keyword : IsKeyword k.Received (codes "received")
unfolding word_kind
received_keyword = record { some = omega arith; letter = refl; all = refl; kind_is = refl; goes = refl }

pub has_keyword : IsKeyword k.Has (codes "has")
unfolding word_kind
has_keyword = record { some = omega arith; letter = refl; all = refl; kind_is = refl; goes = refl }

pub crosses_keyword : IsKeyword k.Crosses (codes "crosses")
unfolding word_kind
crosses_keyword = record { some = omega arith; letter = refl; all = refl; kind_is = refl; goes = refl }

pub is_keyword : IsKeyword k.Is (codes "is")
unfolding word_kind
is_keyword = record { some = omega arith; letter = refl; all = refl; kind_is = refl; goes = refl }

pub prefix_keyword : IsKeyword k.PrefixWord (codes "prefix")
unfolding word_kind
prefix_keyword = record { some = omega arith; letter = refl; all = refl; kind_is = refl; goes = refl }

pub bits_keyword : IsKeyword k.Bits (codes "bits")
unfolding word_kind
bits_keyword = record { some = omega arith; letter = refl; all = refl; kind_is = refl; goes = refl }

pub length_keyword : IsKeyword k.Length (codes "length")
unfolding word_kind
length_keyword = record { some = omega arith; letter = refl; all = refl; kind_is = refl; goes = refl }

pub med_keyword : IsKeyword k.Med (codes "med")
unfolding word_kind
med_keyword = record { some = omega arith; letter = refl; all = refl; kind_is = refl; goes = refl }

pub pref_keyword : IsKeyword k.Pref (codes "pref")
unfolding word_kind
pref_keyword = record { some = omega arith; letter = refl; all = refl; kind_is = refl; goes = refl }

pub origin_keyword : IsKeyword k.Origin (codes "origin")
unfolding word_kind
origin_keyword = record { some = omega arith; letter = refl; all = refl; kind_is = refl; goes = refl }

pub first_keyword : IsKeyword k.First (codes "first")
unfolding word_kind
first_keyword = record { some = omega arith; letter = refl; all = refl; kind_is = refl; goes = refl }

pub last_keyword : IsKeyword k.Last (codes "last")
unfolding word_kind
last_keyword = record { some = omega arith; letter = refl; all = refl; kind_is = refl; goes = refl }

pub hop_keyword : IsKeyword k.Hop (codes "hop")
unfolding word_kind
hop_keyword = record { some = omega arith; letter = refl; all = refl; kind_is = refl; goes = refl }

pub asn_keyword : IsKeyword k.Asn (codes "asn")
unfolding word_kind
asn_keyword = record { some = omega arith; letter = refl; all = refl; kind_is = refl; goes = refl }

pub and_keyword : IsKeyword k.And (codes "and")
unfolding word_kind
and_keyword = record { some = omega arith; letter = refl; all = refl; kind_is = refl; goes = refl }
