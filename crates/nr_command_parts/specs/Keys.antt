-- What a key stands for in the definitions.
use Rattle.nr_spec_history.specs.KeyFiles as files
use Rattle.nr_command_parts.specs.declared.key.Key.{Key}

abbrev pub key_view : Key → files.Key
key_view key = record { asn = key.asn; height = key.height; seed = key.seed.0 }
