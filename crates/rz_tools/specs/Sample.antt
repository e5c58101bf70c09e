-- What `sample` means: a source of its own is compiled, the fork is shown, and the text compiled again; four numbers
-- tell how much each is. All of it happens in memory: no file is read or written.
use Rattle.std.specs.Prelude.{◌≡◌, ◌<◌, ◌^◌, ℕ, false, List, [], ◌∷◌, codes, fold, None, Ok}
use Rattle.std.specs.FinMap as finite
use Rattle.std.specs.declared.result.Result.{Result}
use Rattle.rz_core.specs.Answers.{Then}
use Rattle.rz_core.specs.Decimal.{decimal_of}
use Rattle.rz_core.specs.declared.moment.Moment.{Moment}
use Rattle.rz_folder.specs.Folder.{Files}
use Rattle.rz_tools_answer.specs.Answer.{Answer, Answered, Making, shown}
use Rattle.rz_tools_answer.specs.declared.made.Failing.{Failing}
use Rattle.rz_tools.specs.DeRez.{DeRezAsked, Shows}
use Rattle.rz_tools.specs.Rez.{Compiles, RezAsked}
use Rattle.rz_tools_output.specs.SampleSource.{sample_lines, sample_source, sample_types}

-- files in memory: the later of one name counts
abbrev pub in_memory : List (List ℕ × List ℕ) → Files
in_memory files = fold (λ held file. finite.insert held file.0 file.1) finite.empty files

-- sources, and nothing else that `rez` can be asked for
abbrev pub rez_of : List (List ℕ) → RezAsked
rez_of files = record {
  files = files;
  paths = [];
  searches = [];
  defs = [];
  tmpl = None;
  redeclare = false;
  append = false;
  over = false;
  target = record { name = codes "fork"; form = None; kind = None; creator = None; read_only = false };
}

-- a fork and a type file, and nothing else that `derez` can be asked for
abbrev pub derez_of : List ℕ → List ℕ → DeRezAsked
derez_of fork types = record {
  file = fork;
  from = None;
  only = [];
  skip = [];
  types = record { files = types ∷ []; paths = []; defs = []; tmpl = None; redeclare = false };
}

-- the source is compiled
abbrev pub CompilesSample : ℕ → Moment → Result Making Failing → Type 0
CompilesSample count moment = Compiles moment (rez_of (codes "source" ∷ [])) (in_memory ((codes "source", sample_source count) ∷ []))

-- a fork is shown under the types of the source
abbrev pub ShowsSample : Moment → List ℕ → Result Making Failing → Type 0
ShowsSample moment fork =
    Shows moment (derez_of (codes "fork") (codes "types")) (in_memory ((codes "fork", fork) ∷ (codes "types", sample_types) ∷ []))

-- and its text is compiled after these types
abbrev pub CompilesAgain : Moment → List ℕ → Result Making Failing → Type 0
CompilesAgain moment text =
    Compiles moment (rez_of (codes "types" ∷ codes "text" ∷ [])) (in_memory ((codes "types", sample_types) ∷ (codes "text", text) ∷ []))

-- the lines of a sample, after a fork and its text, and after a fork; warnings, of which none is known to come, aren't
-- said
abbrev pub IsSampledWith : ℕ → Moment → List ℕ → List ℕ → Result Making Failing → Type 0
IsSampledWith count moment fork text =
    Then (CompilesAgain moment text) (λ again answer. answer ≡ Ok (record { bytes = sample_lines count fork text again.bytes; said = [] }))

abbrev pub IsSampledBehind : ℕ → Moment → List ℕ → Result Making Failing → Type 0
IsSampledBehind count moment fork = Then (ShowsSample moment fork) (λ text. IsSampledWith count moment fork text.bytes)

-- the lines of a sample of so many resources, or the first fault of the three steps
abbrev pub IsSampled : ℕ → Moment → Result Making Failing → Type 0
IsSampled count moment = Then (CompilesSample count moment) (λ fork. IsSampledBehind count moment fork.bytes)

-- words are one number, below 2^32, in decimal without a leading zero
abbrev pub IsCount : List (List ℕ) → ℕ → Type 0
IsCount words count = (words ≡ decimal_of count ∷ []) × (count < 2 ^ 32)

-- the lines are text for the output, or the fault ends the run; the words outside options are the number of resources
abbrev pub AnswersSample : List (List ℕ) → Moment → Answer → Type 0
AnswersSample words moment answer = (count : ℕ) × IsCount words count × Answered shown (IsSampled count moment) answer
