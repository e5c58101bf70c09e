use Rattle.std.proofs.Common.{map}
use Rattle.std.specs.String.{string_bytes}
use Rattle.rz_tools_args.proofs.Once.{every_command, every_position}
use Rattle.rz_tools_args.proofs.read.read_words.Goals as goal

pub returns-clause-every_command : goal.returns-clause-every_command
returns-clause-every_command c =
    every_command (map string_bytes c.args.words.now) c.read_all.result c.read_all.ensures.command c.read_all.ensures.misplaced (c.one_command.ensures.command (map string_bytes c.args.words.now))

pub returns-clause-every_position : goal.returns-clause-every_position
returns-clause-every_position c =
    every_position (map string_bytes c.args.words.now) c.read_all.result c.read_all.ensures.command c.read_all.ensures.misplaced
