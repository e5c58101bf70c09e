-- What `sample` answers for a count: the fork of an explicit list, the text of this list, and the same fork again.
use Rattle.std.specs.Prelude.{ℕ, Bool, false, List, [], map, Ok}
use Rattle.std.specs.List.{range_with_len}
use Rattle.rz_core.specs.declared.moment.Moment.{Moment}
use Rattle.rz_fork.specs.Image.{image}
use Rattle.rz_show.specs.Showing.{by_row, showings_text, Showing}
use Rattle.rz_tools.specs.Sample.{CompilesAgain, CompilesSample, ShowsSample}
use Rattle.rz_tools_answer.specs.Answer.{Making}
use Rattle.rz_tools_output.specs.SampleSource.{sample_lines}
use Rattle.rz_tools_laws.specs.Fields.{sample_fields, sample_list, sample_resource, sample_values}

-- the fork: the one of the list, without attributes and reserved bytes
abbrev pub sample_fork : ℕ → List ℕ
sample_fork count = image (sample_list count) 0 []

-- no name is a macro
abbrev pub no_macro : List ℕ → Bool
no_macro name = false

-- each resource is shown by the values of its rows
abbrev pub sample_showing : ℕ → Showing
sample_showing k = by_row (sample_resource k) sample_fields (sample_values k)

-- the text of the list
abbrev pub sample_text : ℕ → List ℕ
sample_text count = showings_text no_macro (map sample_showing (range_with_len 0 count))

-- bytes, and nothing beside them
abbrev pub alone : List ℕ → Making
alone bytes = record { bytes = bytes; said = [] }

-- the source is compiled to the fork, the fork is shown as the text, and the text is compiled to the fork again
pub record IsMadeAgain (count : ℕ) (moment : Moment) : Type 0 where
  pub made : CompilesSample count moment (Ok (alone (sample_fork count)))
  pub shown : ShowsSample moment (sample_fork count) (Ok (alone (sample_text count)))
  pub again : CompilesAgain moment (sample_text count) (Ok (alone (sample_fork count)))

-- the lines: the count, and how many bytes the fork, its text and the fork of the text have, which is the same
abbrev pub sampled_lines : ℕ → Making
sampled_lines count = alone (sample_lines count (sample_fork count) (sample_text count) (sample_fork count))
