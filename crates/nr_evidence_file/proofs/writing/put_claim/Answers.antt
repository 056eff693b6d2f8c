use Rattle.std.proofs.Common.{sym}
use Rattle.nr_evidence_file.proofs.Pieces.{six}
use Rattle.nr_evidence_file.proofs.writing.put_claim.Goals as goal

pub returns-in_ok-put_u64-in-Broken-2 : goal.returns-in_ok-put_u64-in-Broken-2
returns-in_ok-put_u64-in-Broken-2 c = let e = six _ _ _ _ _ _ _ _ _ _ _ _ _ c.in_ok-put_u8-in-Broken.ensures.ok c.in_ok-put_u16-in-Broken.ensures.ok c.in_ok-put_u8-in-Broken-2.ensures.ok c.in_ok-put_u32-in-Broken.ensures.ok c.in_ok-put_u64-in-Broken.ensures.ok c.in_ok-put_u64-in-Broken-2.ensures.ok in rw (c.in-Broken.is, sym c.len.ensures.value, sym c.addr.ensures) e
