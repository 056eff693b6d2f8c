use Rattle.std.proofs.Common.{◌≡◌, ℕ, ◌^◌, ◌<◌, List, [], ◌++◌, length, drop, Ok, refl, sym, ap, ◌∙◌, zero-add}
use Rattle.std.proofs.lemmas.Result.{on_ok_weaker}
use Rattle.std.proofs.lemmas.List.{append-nil, drop_at}
use Rattle.nr_spec_wire.specs.Reading.{Read, start_of}
use Rattle.nr_spec_log.specs.Authenticator.{Signature, IsSignature, signature, signature_at}
use Rattle.nr_spec_keys.specs.Trees.{KeyTree, tree_of, root_of, signature_by, IsSigned}
use Rattle.nr_spec_keys.proofs.TreeLemmas.{signature_by-leads, signature_by-fits}
use Rattle.nr_spec_keys.proofs.SignatureLemmas.{signature_again}
use Rattle.nr_merkle.proofs.tree.Tree.sign.Goals as goal

signed : (tree : KeyTree) (seed body : List ℕ) (leaf : ℕ) → tree ≡ tree_of seed tree.height → leaf < 2 ^ tree.height → IsSigned (root_of tree) body (signature_by seed tree.height leaf body)
signed tree seed body leaf of_seed in_tree = signature_by-leads seed body tree.height leaf in_tree ∙ ap root_of (sym of_seed)

reads : (s : Signature) (out new : List ℕ) → IsSignature s → new ≡ out ++ signature s
    → signature_at (start_of (drop (length out) new)) ≡ Ok (s, record { at = length (drop (length out) new); rest = [] })
reads s out new fits is =
    let written : drop (length out) new ≡ signature s = ap (drop (length out)) is ∙ drop_at out (signature s) (length out) refl in
    ap (λ (xs : List ℕ). signature_at (start_of xs)) (written ∙ sym (append-nil (signature s)))
    ∙ signature_again s 0 [] fits
    ∙ ap (λ (n : ℕ). at_end n) (zero-add (length (signature s)) ∙ sym (ap length written))
  where
    at_end : ℕ → Read Signature
    at_end n = Ok (s, record { at = n; rest = [] })

pub returns-then-is_err-clause-signed : goal.returns-then-is_err-clause-signed
returns-then-is_err-clause-signed c = signed c.args.self.now c.args.seed.now.0 c.args.body.now c.args.leaf c.requires.of_seed c.requires.in_tree

pub returns-else-is_err-clause-signed : goal.returns-else-is_err-clause-signed
returns-else-is_err-clause-signed c = signed c.args.self.now c.args.seed.now.0 c.args.body.now c.args.leaf c.requires.of_seed c.requires.in_tree

pub returns-else-is_err-clause-reads : goal.returns-else-is_err-clause-reads
returns-else-is_err-clause-reads c =
    let s = signature_by c.args.seed.now.0 c.args.self.now.height c.args.leaf c.args.body.now in
    let fits : IsSignature s = signature_by-fits c.args.seed.now.0 c.args.body.now c.args.self.now.height c.args.leaf c.put_signature-signed.ensures.least c.put_signature-signed.ensures.most c.requires.in_tree in
    on_ok_weaker c.put_signature-signed.result (reads s c.args.out.now.items c.put_signature-signed.new.out.items fits) c.put_signature-signed.ensures.ok
