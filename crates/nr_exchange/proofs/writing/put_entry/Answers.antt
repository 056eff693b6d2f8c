use Rattle.nr_exchange.proofs.Written.{four_pieces}
use Rattle.nr_exchange.proofs.writing.put_entry.Goals as goal

pub returns : goal.returns
returns c = four_pieces _ _ _ _ _ _ _ _ _ c.in_ok-put_u64.ensures.ok c.in_ok-put_u8.ensures.ok c.in_ok-put_u16.ensures.ok c.in_ok-put_bytes.ensures.ok
