-- Where there is no file, the read and the place are told as failed.
use Rattle.std.specs.Prelude.{negsuc}
use Rattle.program_files.proofs.files.at_end.Goals as goal

pub returns-in-None : goal.returns-in-None
returns-in-None c = record { got = negsuc 0; place = negsuc 0; end_is_of = c.is_ended.ensures }
