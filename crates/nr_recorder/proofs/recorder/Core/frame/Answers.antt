use Rattle.std.proofs.Common.{◌≡◌, ◌<◌, ◌∙◌, ◌+◌, List, ap, drop, length, map, refl, take, arith}
use Rattle.std.proofs.lemmas.List.{length-map}
use Rattle.nr_exchange.specs.Views.{frame_item_of}
use Rattle.nr_spec_log.specs.Chain.{value_after}
use Rattle.nr_spec_frames.specs.Showing.{seen_by}
use Rattle.nr_spec_deliveries.specs.Sending.{Peer, as_of}
use Rattle.nr_spec_steps.specs.Heads.{head_of, log_chain}
use Rattle.nr_recorder.specs.Views.{peer_of, peers_of}
use Rattle.nr_spec_typing.specs.declared.text.Neighbour.{Neighbour}
use Rattle.std.specs.Prelude.{slice_index_or}
use Rattle.nr_recorder.proofs.recorder.Core.frame.Goals as goal
use Rattle.nr_recorder.proofs.Shown.{as_is, frame_is, written}

pub returns : goal.returns
returns c =
    let key = c.args.self.now.key in
    let log = c.args.self.now.log in
    let log_is : c.log.result.now ≡ log = c.log.ensures.entries ∙ (λ i. (c.self.view_is i).log) in
    let peers : peers_of c.neighbours.result.now ≡ c.args.self.now.peers = ap peers_of c.neighbours.ensures.value ∙ (λ i. (c.self.view_is i).peers) in
    let below : c.args.neighbour < length c.neighbours.result.now =
    omega (arith, c.requires.neighbour, ap length peers, length-map c.neighbours.result.now peer_of) in
    let whose : Neighbour = slice_index_or c.neighbours.result.now c.args.neighbour c.index-neighbours-neighbour.result in
    written (λ out. out.items) c.write_frame.result _ _
    (frame_is c.self.inside.asn whose.asn c.args.neighbour (c.args.after + 1) c.value_at-prev.result.0 (map frame_item_of c.in_ok-items.items) (head_of key (take c.args.commit log))
    key (as_of c.args.self.now.peers c.args.neighbour) log c.args.after c.args.commit
    (λ i. (c.self.view_is i).key.asn)
    (as_is c.neighbours.result.now c.args.neighbour c.index-neighbours-neighbour.result below ∙ ap (λ (l : List Peer). as_of l c.args.neighbour) peers)
    refl
    (c.value_at-prev.ensures ∙ (λ i. value_after (log_chain (c.self.view_is i).key.asn) (take c.args.after (log_is i))))
    (c.in_ok-items.ensures.items ∙ (λ i. map (seen_by c.args.neighbour) (drop c.args.after (take c.args.commit (c.self.view_is i).log))))
    refl)
    (c.write_frame.ensures.frame (head_of key (take c.args.commit log)) (c.deref-2.ensures.value ∙ c.in_ok-head.ensures (take c.args.commit log) c.tip_at.ensures))
