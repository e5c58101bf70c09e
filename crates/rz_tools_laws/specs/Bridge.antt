-- What a command of `bridge` says, with nothing put in the place of what isn't there.
use Rattle.std.specs.Prelude.{◌≡◌, List, [], ◌∷◌, Some}
use Rattle.rz_tools_args.specs.Command.{places_of, Item}
use Rattle.rz_tools_args.specs.Items.{forms_of, last, names_of}
use Rattle.rz_tools_args.specs.declared.flag.Flag.TheVariants as flags
use Rattle.rz_tools_output.specs.Bridge.{BridgeAsked}

-- Items say all that is asked for: one file to read, a last file to write and a last form of it, and the form of the
-- file to read if there is one.
pub record SayAll (items : List Item) (asked : BridgeAsked) : Type 0 where
  pub file : places_of items ≡ asked.file ∷ []
  pub output : last (names_of flags.Output items) ≡ Some asked.output
  pub to : last (forms_of flags.Into items) ≡ Some asked.to
  pub from : last (forms_of flags.From items) ≡ asked.from
