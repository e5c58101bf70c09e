-- What `strings` lists is put back by `restring`, and what `restring` leaves as it is.
use Rattle.std.specs.Prelude.{◌≡◌, ℕ, Bool, List, length, map, Option, Some, None, Ok}
use Rattle.std.specs.FinMap as finite
use Rattle.rz_bridge_files.specs.Contents.{fork_in}
use Rattle.rz_catalog.specs.Apply.{Applied}
use Rattle.rz_catalog.specs.Became.{with_text, BecameEach}
use Rattle.rz_catalog.specs.Catalogue.{IsCatalogue}
use Rattle.rz_catalog.specs.Own.{own_answer}
use Rattle.rz_catalog_text.specs.declared.entry.Entry.{Entry}
use Rattle.rz_catalog_text.specs.Source.{HasEntries}
use Rattle.rz_catalog_text.specs.Text.{entries_text}
use Rattle.rz_core.specs.declared.moment.Moment.{Moment}
use Rattle.rz_core.specs.declared.resource.Resource.{Resource}
use Rattle.rz_folder.specs.Folder.{Files}
use Rattle.rz_folder.specs.Sink.{IsOut, Stream, Told}
use Rattle.rz_fork.specs.Contents.{Fork}
use Rattle.rz_tools.specs.Restring.{target_named, HasCatalogueFile, RestringAsked}
use Rattle.rz_tools.specs.Sources.{Compiled}
use Rattle.rz_tools.specs.Strings.{StringsAsked}
use Rattle.rz_tools.specs.Types.{TypesAre}
use Rattle.rz_tools_output.specs.Base.{base_held, Base}
use Rattle.rz_tools_output.specs.Output.{IsOutput}
use Rattle.rz_types_table.specs.Table.{Declaration}

-- as a catalogue, at whatever position of the list of files, the text is entries that give the list again where they
-- are put into it; or, where protected resources may not be changed, the refusal (219) of the first entry for one
abbrev pub IsPutBack : List Declaration → Moment → List Resource → List ℕ → Type 0
IsPutBack types moment list text =
    (file : ℕ) → (entries : List Entry) × HasEntries file text (Ok entries) × ((over : Bool) → Applied types moment over list entries (own_answer over list entries))

-- where the fork's file holds a fork, the type files mean something, and the text of exactly the catalogue is out that
-- the fork's resources have under them, which gives these resources again
abbrev pub ListsBack : Moment → StringsAsked → Files → Option Stream → Option Stream → Type 0
ListsBack moment asked files before after =
    (bytes : List ℕ) → finite.get files asked.file ≡ Some bytes → (fork : Fork) → fork_in None asked.from bytes ≡ Ok fork
    → (compiled : Compiled) × (entries : List Entry) × TypesAre moment asked.types files (Ok compiled)
    × IsCatalogue compiled.work.types moment fork.list entries × Told (IsOut (entries_text entries)) before after
    × IsPutBack compiled.work.types moment fork.list (entries_text entries)

-- The file that is written is that of the fork's resources with the texts of the catalogue's entries in place: no entry
-- is refused, each resource stays as it is but for these texts and what a type computes of them, and the catalogue of
-- the new resources is that of the old ones with these texts.
pub record IsChangedFile (moment : Moment) (asked : RestringAsked) (files : Files) (bytes : List ℕ) : Type 0 where
  pub compiled : Compiled
  pub types : TypesAre moment asked.types files (Ok compiled)
  pub base : Base
  pub held : base_held asked.from asked.file (finite.get files asked.file) ≡ Ok base
  pub entries : List Entry
  pub listed : HasCatalogueFile (length compiled.files) asked.catalogue (finite.get files asked.catalogue) (Ok entries)
  pub list : List Resource
  pub applied : Applied compiled.work.types moment asked.over base.fork.list entries (Ok list)
  pub became : BecameEach compiled.work.types moment entries base.fork.list list
  pub again : (own : List Entry) → IsCatalogue compiled.work.types moment base.fork.list own
      → IsCatalogue compiled.work.types moment list (map (with_text entries) own)
  pub output : IsOutput (target_named asked.output) moment base list (Ok bytes)

-- the file of the output's name is such a file, and every other name holds what it held
abbrev pub LeavesOthers : Moment → RestringAsked → Files → Option Files → Type 0
LeavesOthers moment asked files after = (bytes : List ℕ) × IsChangedFile moment asked files bytes × (after ≡ Some (finite.insert files asked.output bytes))
