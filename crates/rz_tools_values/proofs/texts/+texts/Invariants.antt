use Rattle.std.proofs.Common.{◌≡◌, ◌∷◌, ◌++◌, Some}
use Rattle.rz_core.proofs.SoFar.{so_far}
use Rattle.rz_types_fields.specs.Text.{argument_and, arguments_of, plain_arguments, plain_parts}
use Rattle.rz_folder.specs.Folder.{Files}
use Rattle.rz_folder.specs.OnlyReads.{OnlyReads}
use Rattle.rz_tools_values.specs.Texts.{arguments_read, texts_read}
use Rattle.rz_tools_values.proofs.texts.+texts.Given as goal

abbrev pub invariant-read_texts-loop-part : goal.invariant-read_texts-loop-part
invariant-read_texts-loop-part g l = record {
  read : (files : Files) → g.F.Folder.files l.fn.folder ≡ Some files
      → texts_read l.paths files l.mark l.known (plain_parts l.fn.texts)
      ≡ so_far (λ part parts. part ∷ parts) (plain_parts l.made) (texts_read l.paths files l.mark l.known (plain_parts l.part-iterator.rest.items));
  rest : l.fn.texts ≡ l.yielded ++ l.part-iterator.rest.items;
  reads : OnlyReads g.F.Folder l.fn.folder l.folder ⊥;
}

abbrev pub invariant-read_arguments-loop-argument : goal.invariant-read_arguments-loop-argument
invariant-read_arguments-loop-argument g l = record {
  read : (files : Files) → g.F.Folder.files l.fn.folder ≡ Some files
      → arguments_read l.paths files l.mark l.known (arguments_of (plain_arguments l.fn.arguments))
      ≡ so_far argument_and (plain_arguments l.made) (arguments_read l.paths files l.mark l.known (arguments_of (plain_arguments l.argument-iterator.rest.items)));
  rest : l.fn.arguments ≡ l.yielded ++ l.argument-iterator.rest.items;
  reads : OnlyReads g.F.Folder l.fn.folder l.folder ⊥;
}
