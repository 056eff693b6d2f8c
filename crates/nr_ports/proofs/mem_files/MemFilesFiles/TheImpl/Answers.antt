use Rattle.std.proofs.Common.{refl}
use Rattle.nr_ports.proofs.mem_files.MemFilesFiles.TheImpl.Goals as goal

pub write_at-asks : goal.write_at-asks
write_at-asks c = c.requires _ refl
