-- What holds of the items of words holds of what `rez` and `derez` are asked for.
use Rattle.std.proofs.Common.{ℕ, List, sym, subst}
use Rattle.rz_tools.specs.DeRez.{DeRezAsked, IsDeRez}
use Rattle.rz_tools.specs.Rez.{IsRez, RezAsked}
use Rattle.rz_tools_args.specs.Command.{Asked, IsCommand}
use Rattle.rz_tools_args.specs.Definition.{AreFree}
use Rattle.rz_tools_args.specs.Items.{defs_of}
use Rattle.rz_tools_args.specs.declared.name.CommandName.TheVariants as names

-- no command defines a reserved word
abbrev DefinitionsAreFree : Type 0
DefinitionsAreFree = (words : List (List ℕ)) (asked : Asked) → IsCommand words asked → AreFree (defs_of asked.items)

pub rez_free : DefinitionsAreFree → (words : List (List ℕ)) (asked : RezAsked) → IsRez words asked → AreFree asked.defs
rez_free free words asked (items, is, same) =
    subst (λ (a : RezAsked). AreFree a.defs) (sym same) (free words (record { name = names.Rez; items = items }) is)

pub derez_free : DefinitionsAreFree → (words : List (List ℕ)) (asked : DeRezAsked) → IsDeRez words asked → AreFree asked.types.defs
derez_free free words asked (items, is, same) =
    subst (λ (a : DeRezAsked). AreFree a.types.defs) (sym same) (free words (record { name = names.DeRez; items = items }) is)
